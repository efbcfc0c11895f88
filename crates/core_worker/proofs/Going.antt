-- A worker goes on: its core and its pass later.
use Rattle.std.proofs.Common.{◌≡◌, ℕ, ◌≤◌, Bool, List, ◌++◌, None, Some, IfSome, refl, sym, ap, ◌∙◌, subst, arith}
use Rattle.std.specs.List.{AllByRecursion as Each}
use Rattle.slot_arbiter.specs.declared.event.Event.{Event}
use Rattle.shared_order.specs.declared.operation.Operation.{Operation}
use Rattle.shared_order.specs.Operation.{loads}
use Rattle.shared_order.specs.Event.{asked_by}
use Rattle.clock_board.specs.declared.known.Look.{Look}
use Rattle.clock_board.specs.declared.known.View.{View}
use Rattle.clock_board.specs.Record.{clock_of}
use Rattle.clock_board.specs.View.{own, todo, IsGiven}
use Rattle.patmos_core.specs.declared.cpu.Core.{Core as Cpu}
use Rattle.patmos_model.specs.State.{Core}
use Rattle.patmos_core.specs.Position.{StandsFor, waiting_of, limit_of, place_of, room_of}
use Rattle.core_worker.specs.Runs.{listed, RunsAs, GoesOnAs, IsNextWhole, with_made, with_published, with_looks}
use Rattle.core_worker.specs.Kept.{IsShown, HasEnded, IsKept}
use Rattle.core_worker.proofs.Coming.{comes_first}
use Rattle.shared_order.proofs.Lists.{each_rest}

-- ---- later than later

-- what is later than a later one is later
pub both : (limit limit' : ℕ) (k k' k'' : Cpu) (v v' v'' : View) → limit' ≡ limit → GoesOnAs limit k v k' v'
    → GoesOnAs limit' k' v' k'' v'' → GoesOnAs limit k v k'' v''
both limit limit' k k' k'' v v' v'' same one two =
    let two' : GoesOnAs limit k' v' k'' v'' = subst (λ l. GoesOnAs l k' v' k'' v'') same two in
    record {
      runs = λ x r. two'.runs x (one.runs x r);
      place = two'.place ∙ one.place;
      room = two'.room ∙ one.room;
      cores = two'.cores ∙ one.cores;
      course = two'.course ∙ one.course;
      core = two'.core ∙ one.core;
    }

-- ---- what else changes in a pass where one thing does

-- published stamps change nothing that was made
pub made_kept : (v v' : View) → v' ≡ with_published v (own v').published → (own v').made ≡ (own v).made
made_kept v v' one = ap (λ u. (own u).made) one

-- nor a look
pub looks_kept : (v v' : View) → v' ≡ with_published v (own v').published → (own v').looks ≡ (own v).looks
looks_kept v v' one = ap (λ u. (own u).looks) one

-- ---- looks change nothing that a worker keeps

module _ (limit reached : ℕ) (ended : Bool) (k : Cpu) (v : View) (kept : IsKept limit reached ended k v)
    (looks : List Look) where
  -- the run apart
  looks_run : (x : Core) → RunsAs x limit k v → RunsAs x limit k (with_looks v looks)
  looks_run x r = record { stands = r.stands; makes = r.makes; next = r.next }

  -- being through
  looks_end : HasEnded limit k v → HasEnded limit k (with_looks v looks)
  looks_end h = record { made = h.made; past = h.past; through = h.through; at = h.at; waiting = h.waiting }

  -- and all the rest
  looked_kept : IsKept limit reached ended k (with_looks v looks)
  looked_kept = record {
    given = record { role = refl; among = kept.given.among; whole = kept.given.whole };
    cores = kept.cores;
    core = kept.core;
    most = kept.most;
    within = kept.within;
    asked = kept.asked;
    clock = kept.clock;
    left = kept.left;
    grid = kept.grid;
    ends = kept.ends;
    waits = kept.waits;
    over = λ over. looks_end (kept.over over);
    run = (kept.run.0, looks_run kept.run.0 kept.run.1);
  }

  -- so the worker goes on as the same
  looked_goes_on : GoesOnAs limit k v k (with_looks v looks)
  looked_goes_on = record { runs = looks_run; place = refl; room = refl; cores = refl; course = refl; core = refl }

-- told of a pass that differs in its looks alone
pub kept_looking : (limit reached : ℕ) (ended : Bool) (k : Cpu) (v v' : View) → IsKept limit reached ended k v → v'
    ≡ with_looks v (own v').looks → IsKept limit reached ended k v' × GoesOnAs limit k v k v'
kept_looking limit reached ended k v v' kept same = (
  subst (IsKept limit reached ended k) (sym same) (looked_kept limit reached ended k v kept (own v').looks),
  subst (GoesOnAs limit k v k) (sym same) (looked_goes_on limit reached ended k v kept (own v').looks),
)

-- a core that waits does not wait for nothing
none_some : (e : Event) → None ≡ Some e → ⊥
none_some e same = cc

-- ---- the event that a core waits to be told

module _ (limit reached : ℕ) (ended : Bool) (k : Cpu) (v : View) (kept : IsKept limit reached ended k v) (e : Event)
    (waits : waiting_of k ≡ Some e) where
  -- its stamp is published
  pub shown_event : IsShown (place_of k) limit (own v).published e
  shown_event = let h : IfSome (Some e) (IsShown (place_of k) limit (own v).published) =
      subst (λ w. IfSome w (IsShown (place_of k) limit (own v).published)) waits kept.waits in h

  -- it comes next in the run, and is whole
  pub next_event : (x : Core) → RunsAs x limit k v → IsNextWhole x (own v).made limit e
  next_event x r = let h : IfSome (Some e) (IsNextWhole x (own v).made limit) =
      subst (λ w. IfSome w (IsNextWhole x (own v).made limit)) waits r.next in h

  -- what is left begins with its operations
  pub begins_left : (later : List Operation) × (todo v ≡ asked_by e (loads (todo v)) ++ later)
  begins_left =
      let h = comes_first kept.run.0 (own v).made (todo v) (listed v) limit kept.run.1.makes kept.given.whole e
      (next_event kept.run.0 kept.run.1).next in
      (h.later, h.whole)

  -- it is made and told
  module _ (k' : Cpu) (values : List ℕ) (made : List Operation) (given' : IsGiven (with_made v made))
      (made_is : made ≡ (own v).made ++ asked_by e values)
      (left_is : todo v ≡ asked_by e values ++ todo (with_made v made))
      (stands : IfSome (waiting_of k) (λ f. (x : Core) (made : List Operation) → StandsFor k x made
      → StandsFor k' x (made ++ asked_by f values)))
      (free : waiting_of k' ≡ None) (at : limit_of k' ≡ limit_of k) (place : place_of k' ≡ place_of k)
      (room : room_of k' ≡ room_of k) where
    -- the core stands for the run with its operations
    stands_so : (x : Core) (made : List Operation) → StandsFor k x made → StandsFor k' x (made ++ asked_by e values)
    stands_so =
        let h : IfSome (Some e) (λ f. (x : Core) (made : List Operation) → StandsFor k x made
        → StandsFor k' x (made ++ asked_by f values)) =
        subst (λ w. IfSome w (λ f. (x : Core) (made : List Operation) → StandsFor k x made
        → StandsFor k' x (made ++ asked_by f values))) waits stands in
        h

    -- so the worker goes on as the same
    made_goes_on : GoesOnAs limit k v k' (with_made v made)
    made_goes_on = record {
      runs = λ x r. record {
        stands = subst (StandsFor k' x) (sym made_is) (stands_so x (own v).made r.stands);
        makes = r.makes;
        next = subst (λ w. IfSome w (IsNextWhole x made limit)) (sym free) tt;
      };
      place = place;
      room = room;
      cores = refl;
      course = refl;
      core = refl;
    }

    -- and keeps what a worker keeps
    resumed_kept : IsKept limit reached ended k' (with_made v made)
    resumed_kept = record {
      given = given';
      cores = ap (λ p. p.cores) place ∙ kept.cores;
      core = ap (λ p. p.core) place ∙ kept.core;
      most = kept.most;
      within = kept.within;
      asked = omega (arith, at, kept.asked);
      clock = kept.clock;
      left = each_rest (λ o. clock_of (own v).published ≤ o.stamp) (asked_by e values) (todo (with_made v made))
          (subst (Each (λ o. clock_of (own v).published ≤ o.stamp)) left_is kept.left);
      grid = kept.grid;
      ends = kept.ends;
      waits = subst (λ w. IfSome w (IsShown (place_of k') limit (own v).published)) (sym free) tt;
      over = λ over. absurd (let none : None ≡ Some e = sym (kept.over over).waiting ∙ waits in none_some e none);
      run = (kept.run.0, made_goes_on.runs kept.run.0 kept.run.1);
    }

  -- told of a pass that differs in what it made alone
  pub kept_resumed : (k' : Cpu) (v' : View) (values : List ℕ) → IsGiven v' → v' ≡ with_made v (own v').made
      → (own v').made ≡ (own v).made ++ asked_by e values → todo v ≡ asked_by e values ++ todo v'
      → IfSome (waiting_of k) (λ f. (x : Core) (made : List Operation) → StandsFor k x made
      → StandsFor k' x (made ++ asked_by f values))
      → waiting_of k' ≡ None → limit_of k' ≡ limit_of k → place_of k' ≡ place_of k → room_of k' ≡ room_of k
      → IsKept limit reached ended k' v' × GoesOnAs limit k v k' v'
  kept_resumed k' v' values given' same made_is left_is stands free at place room =
      let given'' : IsGiven (with_made v (own v').made) = subst IsGiven same given' in
      let left'' : todo v ≡ asked_by e values ++ todo (with_made v (own v').made) =
      left_is ∙ ap (λ u. asked_by e values ++ todo u) same in (
        subst (IsKept limit reached ended k') (sym same) (resumed_kept k' values (own v').made given'' made_is left''
            stands free at place room),
        subst (GoesOnAs limit k v k') (sym same) (made_goes_on k' values (own v').made given'' made_is left'' stands
            free at place room),
      )
