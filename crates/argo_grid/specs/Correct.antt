-- To be believed. What a schedule has to keep, and what is wrong with one that does not.
use Rattle.std.specs.Prelude.{◌≡◌, ◌≢◌, ℕ, ◌<◌, slice_get, Some}
use Rattle.argo_grid.specs.declared.grid.Entry.{Entry}
use Rattle.argo_grid.specs.declared.fault.GridFault.{GridFault}
use Rattle.argo_grid.specs.declared.fault.GridFault.TheVariants.{Range, Late, Shared}
use Rattle.argo_grid.specs.declared.route.Link.{Link}
use Rattle.argo_grid.specs.Grid.{routers}
use Rattle.argo_grid.specs.Schedule.{Schedule}
use Rattle.argo_grid.specs.Packet.{travel_time, Uses, Meet}

-- the entry sends in a slot of the period, from one core of the grid to another
pub record IsInRange (s : Schedule) (e : Entry) : Type 0 where
  pub slot : e.slot < s.length
  pub from : e.from < routers s.grid
  pub to : e.to < routers s.grid
  pub other : e.from ≢ e.to

-- entry number i is this one
abbrev pub IsEntry : Schedule → ℕ → Entry → Type 0
IsEntry s i e = slice_get s.entries i ≡ Some e

-- Each entry is in range, each packet arrives when its entry says, and no two packets, of any entries and
-- with any numbers, ever use one link in one cycle.
pub record IsCorrect (s : Schedule) : Type 0 where
  pub in_range : (i : ℕ) (e : Entry) → IsEntry s i e → IsInRange s e
  pub on_time : (i : ℕ) (e : Entry) → IsEntry s i e → e.arrive ≡ travel_time s.grid e
  pub apart : (i j : ℕ) (e other : Entry) (packet other_packet : ℕ) (link : Link) (cycle : ℕ)
      → IsEntry s i e → IsEntry s j other
      → Uses s e packet link cycle → Uses s other other_packet link cycle
      → (i ≡ j) × (packet ≡ other_packet)

-- entry number i has no fault: it is in range and on time, and its packets meet none of an earlier entry
pub record IsFaultless (s : Schedule) (i : ℕ) (e : Entry) : Type 0 where
  pub in_range : IsInRange s e
  pub on_time : e.arrive ≡ travel_time s.grid e
  pub alone : (j : ℕ) (other : Entry) → j < i → IsEntry s j other → ¬ Meet s e other

-- entry number i is this one, and those before it have no fault
pub record IsNext (s : Schedule) (i : ℕ) (e : Entry) : Type 0 where
  pub here : IsEntry s i e
  pub before : (j : ℕ) (other : Entry) → j < i → IsEntry s j other → IsFaultless s j other

-- the first faulty entry is out of range
pub record IsOutOfRange (s : Schedule) (i : ℕ) : Type 0 where
  pub entry : Entry
  pub next : IsNext s i entry
  pub outside : ¬ IsInRange s entry

-- the first faulty entry is in range, and its packets arrive after another time than it says
pub record IsLate (s : Schedule) (i needs : ℕ) : Type 0 where
  pub entry : Entry
  pub next : IsNext s i entry
  pub in_range : IsInRange s entry
  pub late : entry.arrive ≢ needs
  pub travels : needs ≡ travel_time s.grid entry

-- the first faulty entry is in range and on time, and j is the least of the earlier entries whose packets
-- its own ones meet
pub record IsShared (s : Schedule) (i j : ℕ) : Type 0 where
  pub entry : Entry
  pub next : IsNext s i entry
  pub in_range : IsInRange s entry
  pub on_time : entry.arrive ≡ travel_time s.grid entry
  pub earlier : j < i
  pub other : Entry
  pub there : IsEntry s j other
  pub meet : Meet s entry other
  pub least : (k : ℕ) (o : Entry) → k < j → IsEntry s k o → ¬ Meet s entry o

-- the fault is the first one of the first faulty entry
abbrev pub IsFirstFault : Schedule → GridFault → Type 0
IsFirstFault s (Range entry) = IsOutOfRange s entry
IsFirstFault s (Late entry needs) = IsLate s entry needs
IsFirstFault s (Shared entry other) = IsShared s entry other
