-- To be believed. The check of a schedule, worked out: packets of two entries meet exactly where their
-- entries use one link in one slot of the period.
use Rattle.std.specs.Prelude.{◌≡◌, ℕ, ◌+◌, ◌%◌, ◌==◌, ◌&&◌, Bool, not, nat_lt, if◌then◌else◌, List, [], ◌∷◌, ◌++◌, length, slice_get, Option, Some, None, option_map, Result, Ok, Err, false, position}
use Rattle.std.specs.List.{list_any}
use Rattle.argo_grid.specs.declared.grid.Entry.{Entry}
use Rattle.argo_grid.specs.declared.fault.GridFault.{GridFault}
use Rattle.argo_grid.specs.declared.fault.GridFault.TheVariants.{Range, Late, Shared}
use Rattle.argo_grid.specs.declared.route.Router.{Router}
use Rattle.argo_grid.specs.declared.route.Link.{Link}
use Rattle.argo_grid.specs.declared.route.Link.TheVariants.{Inject, Between, Eject}
use Rattle.argo_grid.specs.Grid.{routers}
use Rattle.argo_grid.specs.Route.{links_for}
use Rattle.argo_grid.specs.Schedule.{Schedule}
use Rattle.argo_grid.specs.Packet.{travel_time}

-- a link, and a slot of the period in which it is used
pub record Use : Type 0 where
  pub link : Link
  pub slot : ℕ

-- links that are used one after another, each in one slot, from a slot on
abbrev pub uses_from : ℕ → ℕ → List Link → List Use
uses_from period slot [] = []
uses_from period slot (link ∷ links) =
    record { link = link; slot = slot % period } ∷ uses_from period (slot + 1) links

-- what the packets of an entry use
abbrev pub uses_of : Schedule → Entry → List Use
uses_of s e = uses_from s.length e.slot (links_for s.grid e)

abbrev pub same_router : Router → Router → Bool
same_router a b = (a.column == b.column) && (a.row == b.row)

abbrev pub same_link : Link → Link → Bool
same_link (Inject core) (Inject other) = core == other
same_link (Between from to) (Between from' to') = same_router from from' && same_router to to'
same_link (Eject core) (Eject other) = core == other
same_link _ _ = false

abbrev pub same_use : Use → Use → Bool
same_use a b = same_link a.link b.link && (a.slot == b.slot)

-- whether two entries use one link in one slot of the period
unfoldable pub shares : Schedule → Entry → Entry → Bool
shares s e other = list_any (λ own. list_any (same_use own) (uses_of s other)) (uses_of s e)

-- one of the links, at a place that leaves this remainder in the period
pub record HasLink (period first : ℕ) (links : List Link) (link : Link) : Type 0 where
  pub place : ℕ
  pub here : slice_get links place ≡ Some link
  pub first_is : place % period ≡ first

-- one link of both routes is used in one slot of the period, where they begin in these slots
pub record MeetIn (period slot : ℕ) (links : List Link) (other_slot : ℕ) (other_links : List Link) : Type 0 where
  pub place : ℕ
  pub other_place : ℕ
  pub link : Link
  pub here : slice_get links place ≡ Some link
  pub there : slice_get other_links other_place ≡ Some link
  pub together : (slot + place) % period ≡ (other_slot + other_place) % period

abbrev pub in_range : Schedule → Entry → Bool
in_range s e =
    nat_lt e.slot s.length && nat_lt e.from (routers s.grid) && nat_lt e.to (routers s.grid) && not (e.from == e.to)

-- the first fault of the entry that follows these
abbrev pub fault_of : Schedule → List Entry → Entry → Option GridFault
fault_of s earlier e =
    if not (in_range s e) then Some (Range (length earlier))
    else if not (e.arrive == travel_time s.grid e) then Some (Late (length earlier) (travel_time s.grid e))
    else option_map (Shared (length earlier)) (position (shares s e) earlier)

-- that fault, or else the first one of what follows
abbrev pub or_else : Option GridFault → Result (Unit {0}) GridFault → Result (Unit {0}) GridFault
or_else (Some fault) rest = Err fault
or_else None rest = rest

-- the first fault of the entries that follow the earlier ones
abbrev pub checked_from : Schedule → List Entry → List Entry → Result (Unit {0}) GridFault
checked_from s earlier [] = Ok tt
checked_from s earlier (e ∷ es) = or_else (fault_of s earlier e) (checked_from s (earlier ++ e ∷ []) es)

-- the first fault of the schedule
unfoldable pub checked : Schedule → Result (Unit {0}) GridFault
checked s = checked_from s [] s.entries
