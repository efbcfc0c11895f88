-- Actions in which a way on does not stand do not take it.
use Rattle.std.proofs.Common.{◌≡◌, ◌≢◌, ℕ, zero, suc, Bool, true, false, if◌then◌else◌, ◌||◌, refl, ap₂, sym, true≢false}
use Rattle.std.proofs.lemmas.Bool.{or_parts}
use Rattle.c_meaning.specs.Actions.{PlainAction, sets, calls, transfers, chooses, iterations, breaks, continues, returns, PlainActions, no_action, action, PlainBranches, no_branch, branch}
use Rattle.c_meaning.specs.declared.ways.Way.{Way}
use Rattle.c_meaning.specs.declared.ways.Way.TheVariants as way
use Rattle.c_meaning.specs.Meaning.{Done, goes_on, then_done, iteration_done, iterations_done}
use Rattle.c_meaning.specs.Resolved as resolved
use Rattle.c_meaning.specs.Values as values
use Rattle.single_path.specs.declared.exits.Exits.{Exits}
use Rattle.single_path.specs.Made.{ends, any_exit, by_leaving, by_continue, out_of_loop, action_exits, actions_exit, branches_exit}

-- it is none of these
abbrev pub Avoids : Exits → Way → Type 0
Avoids q way.On = Unit {0}
Avoids q way.Broken = q.breaks ≡ false
Avoids q way.Continued = q.continues ≡ false
Avoids q (way.Returned v) = q.returns ≡ false

pub on_only : (w : Way) → Avoids any_exit w → w ≡ way.On
on_only way.On h = refl
on_only _ h = absurd (true≢false h)

pub no_continue : (w : Way) → Avoids by_continue w → w ≢ way.Continued
no_continue way.Continued h e = true≢false h
no_continue _ h e = absurd (cc)

-- after what always goes elsewhere nothing is done
ends_away : (gc : resolved.Serves) (a : PlainAction) (l : values.State) → ends a ≡ true
    → (resolved.action_done gc a l).way ≢ way.On
ends_away gc (sets a) l is e = true≢false (sym is)
ends_away gc (calls k args result) l is e = true≢false (sym is)
ends_away gc (transfers core source target count) l is e = true≢false (sym is)
ends_away gc (chooses branches otherwise) l is e = true≢false (sym is)
ends_away gc (iterations most condition body step) l is e = true≢false (sym is)
ends_away gc breaks l is e = absurd (cc)
ends_away gc continues l is e = absurd (cc)
ends_away gc (returns v) l is e = absurd (cc)

then_avoids : (q : Exits) (next : values.State → Done) (w : Way) (m : values.State) → Avoids q w
    → (w ≡ way.On → Avoids q (next m).way)
    → Avoids q (then_done next (record { way = w; state = m })).way
then_avoids q next way.On m h more = more refl
then_avoids q next _ m h more = h

iteration_avoids : (q : Exits) (more : values.State → Done) (step : values.State → values.State) (w : Way)
    (m : values.State) → Avoids (out_of_loop q) w
    → ((l : values.State) → Avoids q (more l).way)
    → Avoids q (iteration_done more step (record { way = w; state = m })).way
iteration_avoids q more step way.On m h rest = rest (step m)
iteration_avoids q more step way.Broken m h rest = tt
iteration_avoids q more step way.Continued m h rest = rest (step m)
iteration_avoids q more step (way.Returned v) m h rest = h

iterations_avoid : (q : Exits) (holds : values.State → Bool) (body : values.State → Done)
    (step : values.State → values.State)
    → ((l : values.State) → Avoids (out_of_loop q) (body l).way) → (n : ℕ) (l : values.State)
    → Avoids q (iterations_done holds body step n l).way
iterations_avoid q holds body step each zero l = tt
iterations_avoid q holds body step each (suc n) l = by (holds l) (λ m. iterations_avoid q holds body step each n m)
  where
    by : (b : Bool) → ((m : values.State) → Avoids q (iterations_done holds body step n m).way)
        → Avoids q (elim b as (λ _. Done) [
          | true ↦ iteration_done (iterations_done holds body step n) step
              (body l)
          | false ↦ goes_on l
        ]).way
    by true rest = iteration_avoids q (iterations_done holds body step n) step (body l).way (body l).state (each l) rest
    by false rest = tt

mutual
  pub action_avoids : (gc : resolved.Serves) (q : Exits) (a : PlainAction) (l : values.State) → action_exits q a ≡ false
      → Avoids q (resolved.action_done gc a l).way
  action_avoids gc q (sets a) l is = tt
  action_avoids gc q (calls k args result) l is = tt
  action_avoids gc q (transfers core source target count) l is = tt
  action_avoids gc q (chooses branches otherwise) l is =
      let both = or_parts (branches_exit q branches) (actions_exit q otherwise) is in
      branches_avoid gc q branches (resolved.actions_done gc otherwise) (λ m. actions_avoid gc q otherwise m both.1) l
      both.0
  action_avoids gc q (iterations most condition body step) l is =
      iterations_avoid q (resolved.holds condition) (resolved.actions_done gc body) (resolved.step_done step)
      (λ m. actions_avoid gc (out_of_loop q) body m is) most l
  action_avoids gc q breaks l is = is
  action_avoids gc q continues l is = is
  action_avoids gc q (returns e) l is = is

  pub actions_avoid : (gc : resolved.Serves) (q : Exits) (all : PlainActions) (l : values.State) → actions_exit q all
      ≡ false → Avoids q (resolved.actions_done gc all l).way
  actions_avoid gc q no_action l is = tt
  actions_avoid gc q (action a rest) l is =
      let both = or_parts (action_exits q a) (if ends a then false else actions_exit q rest) is in
      let d = resolved.action_done gc a l in
      then_avoids q (resolved.actions_done gc rest) d.way d.state (action_avoids gc q a l both.0)
      (further (ends a) refl both.1 (λ none. actions_avoid gc q rest d.state none))
    where
      further : (ended : Bool) → ends a ≡ ended → (if ended then false else actions_exit q rest) ≡ false
          → (actions_exit q rest ≡ false
          → Avoids q (resolved.actions_done gc rest (resolved.action_done gc a l).state).way)
          → (resolved.action_done gc a l).way ≡ way.On
          → Avoids q (resolved.actions_done gc rest (resolved.action_done gc a l).state).way
      further true ended none rest_so on = absurd (ends_away gc a l ended on)
      further false ended none rest_so on = rest_so none

  branches_avoid : (gc : resolved.Serves) (q : Exits) (bs : PlainBranches) (meant : values.State → Done)
      → ((l : values.State) → Avoids q (meant l).way)
      → (l : values.State) → branches_exit q bs ≡ false → Avoids q (resolved.branches_done gc bs meant l).way
  branches_avoid gc q no_branch meant each l is = each l
  branches_avoid gc q (branch condition body rest) meant each l is =
      let both = or_parts (actions_exit q body) (branches_exit q rest) is in
      by (resolved.holds condition l) (actions_avoid gc q body l both.0) (branches_avoid gc q rest meant each l both.1)
    where
      by : (b : Bool) → Avoids q (resolved.actions_done gc body l).way
          → Avoids q (resolved.branches_done gc rest meant l).way
          → Avoids q (elim b as (λ _. Done) [
            | true ↦ resolved.actions_done gc body l
            | false ↦ resolved.branches_done gc
                rest meant l
          ]).way
      by true one others = one
      by false one others = others

-- ---- what neither leaves its loop nor ends its iteration always goes on

mutual
  action_stays : (a : PlainAction) → action_exits by_leaving a ≡ false → action_exits by_continue a ≡ false
      → action_exits any_exit a ≡ false
  action_stays (sets a) leaves resumes = refl
  action_stays (calls k args result) leaves resumes = refl
  action_stays (transfers core source target count) leaves resumes = refl
  action_stays (chooses branches otherwise) leaves resumes =
      let first = or_parts (branches_exit by_leaving branches) (actions_exit by_leaving otherwise) leaves in
      let second = or_parts (branches_exit by_continue branches) (actions_exit by_continue otherwise) resumes in
      ap₂ (λ a b. a || b) (branches_stay branches first.0 second.0) (actions_stay otherwise first.1 second.1)
  action_stays (iterations most condition body step) leaves resumes = leaves
  action_stays breaks leaves resumes = leaves
  action_stays continues leaves resumes = resumes
  action_stays (returns e) leaves resumes = leaves

  pub actions_stay : (all : PlainActions) → actions_exit by_leaving all ≡ false → actions_exit by_continue all ≡ false
      → actions_exit any_exit all ≡ false
  actions_stay no_action leaves resumes = refl
  actions_stay (action a rest) leaves resumes =
      let first = or_parts (action_exits by_leaving a) (if ends a then false else actions_exit by_leaving rest)
      leaves in
      let second =
      or_parts (action_exits by_continue a) (if ends a then false else actions_exit by_continue rest) resumes in
      ap₂ (λ a b. a || b) (action_stays a first.0 second.0) (by (ends a) first.1 second.1
      (λ h k. actions_stay rest h k))
    where
      by : (ended : Bool) → (if ended then false else actions_exit by_leaving rest) ≡ false
          → (if ended then false else actions_exit by_continue rest) ≡ false
          → (actions_exit by_leaving rest ≡ false → actions_exit by_continue rest ≡ false → actions_exit any_exit rest
          ≡ false)
          → (if ended then false else actions_exit any_exit rest) ≡ false
      by true leaves resumes further = refl
      by false leaves resumes further = further leaves resumes

  branches_stay : (bs : PlainBranches) → branches_exit by_leaving bs ≡ false → branches_exit by_continue bs ≡ false
      → branches_exit any_exit bs ≡ false
  branches_stay no_branch leaves resumes = refl
  branches_stay (branch condition body rest) leaves resumes =
      let first = or_parts (actions_exit by_leaving body) (branches_exit by_leaving rest) leaves in
      let second = or_parts (actions_exit by_continue body) (branches_exit by_continue rest) resumes in
      ap₂ (λ a b. a || b) (actions_stay body first.0 second.0) (branches_stay rest first.1 second.1)
