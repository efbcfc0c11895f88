-- Actions that do not set a variable keep its word, and those that always go on fit wherever they stand.
use Rattle.std.proofs.Common.{◌≡◌, ℕ, zero, suc, Bool, true, false, if◌then◌else◌, Option, Some, None, refl, sym, ◌∙◌, eq-eqb, true≢false}
use Rattle.std.proofs.lemmas.Bool.{or_parts}
use Rattle.c_meaning.specs.Actions.{PlainTarget, to_level, to_cell, to_array, PlainAssignment, PlainAction, sets, calls, transfers, chooses, iterations, breaks, continues, returns, PlainActions, no_action, action, PlainBranches, no_branch, branch}
use Rattle.c_meaning.specs.declared.ways.Way.{Way}
use Rattle.c_meaning.specs.declared.ways.Way.TheVariants as way
use Rattle.c_meaning.specs.Meaning.{Done, goes_on, in_world, then_done, iteration_done, iterations_done}
use Rattle.c_meaning.specs.Resolved as resolved
use Rattle.c_meaning.specs.Values as values
use Rattle.single_path.specs.Counted.{is_level, step_sets, action_sets, actions_set, branches_set}
use Rattle.single_path.specs.Made.{ends, any_exit, action_exits, actions_exit, branches_exit}
use Rattle.single_path.proofs.Acts.{Rules, Does, Do, AnyDo}
use Rattle.single_path.proofs.Frames.{put_there}

-- ---- the word of a variable

target_keeps : (level : ℕ) (target : PlainTarget) (v : ℕ) (l : values.State) → is_level level target ≡ false
    → (resolved.with_target target v l).locals level ≡ l.locals level
target_keeps level (to_level at) v l is =
    put_there at v level l.locals (λ same. true≢false (sym (eq-eqb at level same) ∙ is))
target_keeps level (to_cell cell) v l is = refl
target_keeps level (to_array array index) v l is = refl

step_keeps : (level : ℕ) (step : Option PlainAssignment) (l : values.State) → step_sets level step ≡ false
    → (resolved.step_done step l).locals level ≡ l.locals level
step_keeps level None l is = refl
step_keeps level (Some a) l is = target_keeps level a.target (resolved.worth a.value l) l is

-- a change after which the variable is what it was
abbrev Keeps : ℕ → (values.State → Done) → Type 0
Keeps level change = (l : values.State) → (change l).state.locals level ≡ l.locals level

then_keeps : (level : ℕ) (next : values.State → Done) (w : Way) (m : values.State) → Keeps level next
    → (then_done next (record { way = w; state = m })).state.locals level ≡ m.locals level
then_keeps level next way.On m each = each m
then_keeps level next _ m each = refl

iteration_keeps : (level : ℕ) (more : values.State → Done) (step : values.State → values.State) (w : Way)
    (m : values.State) → Keeps level more
    → ((l : values.State) → (step l).locals level ≡ l.locals level)
    → (iteration_done more step (record { way = w; state = m })).state.locals level ≡ m.locals level
iteration_keeps level more step way.On m each stepped = each (step m) ∙ stepped m
iteration_keeps level more step way.Broken m each stepped = refl
iteration_keeps level more step way.Continued m each stepped = each (step m) ∙ stepped m
iteration_keeps level more step (way.Returned v) m each stepped = refl

iterations_keep : (level : ℕ) (holds : values.State → Bool) (body : values.State → Done)
    (step : values.State → values.State) → Keeps level body
    → ((l : values.State) → (step l).locals level ≡ l.locals level) → (n : ℕ)
    → Keeps level (iterations_done holds body step n)
iterations_keep level holds body step each stepped zero l = refl
iterations_keep level holds body step each stepped (suc n) l =
    by (holds l) (iterations_keep level holds body step each stepped n)
  where
    by : (b : Bool) → Keeps level (iterations_done holds body step n)
        → (elim b as (λ _. Done) [
          | true ↦ iteration_done (iterations_done holds body step n) step (body l)
          | false ↦
              goes_on l
        ]).state.locals level ≡ l.locals level
    by true more = iteration_keeps level (iterations_done holds body step n) step (body l).way (body l).state more
        stepped ∙ each l
    by false more = refl

mutual
  action_keeps : (gc : resolved.Serves) (level : ℕ) (a : PlainAction) → action_sets level a ≡ false
      → Keeps level (resolved.action_done gc a)
  action_keeps gc level (sets a) is l = target_keeps level a.target (resolved.worth a.value l) l is
  action_keeps gc level (calls k args None) is l = refl
  action_keeps gc level (calls k args (Some target)) is l =
      let given = gc k (resolved.args_worth args l) l.world in
      target_keeps level target given.value (in_world l given.world) is
  action_keeps gc level (transfers core source target count) is l = refl
  action_keeps gc level (chooses branches otherwise) is l =
      let both = or_parts (branches_set level branches) (actions_set level otherwise) is in
      branches_keep gc level branches (resolved.actions_done gc otherwise)
      (actions_keep gc level otherwise both.1) both.0 l
  action_keeps gc level (iterations most condition body step) is l =
      let both = or_parts (actions_set level body) (step_sets level step) is in
      iterations_keep level (resolved.holds condition) (resolved.actions_done gc body) (resolved.step_done step)
      (actions_keep gc level body both.0)
      (λ m. step_keeps level step m both.1) most l
  action_keeps gc level breaks is l = refl
  action_keeps gc level continues is l = refl
  action_keeps gc level (returns e) is l = refl

  pub actions_keep : (gc : resolved.Serves) (level : ℕ) (all : PlainActions) → actions_set level all ≡ false
      → Keeps level (resolved.actions_done gc all)
  actions_keep gc level no_action is l = refl
  actions_keep gc level (action a rest) is l =
      let both = or_parts (action_sets level a) (actions_set level rest) is in
      let d = resolved.action_done gc a l in
      then_keeps level (resolved.actions_done gc rest) d.way d.state (actions_keep gc level rest both.1)
      ∙ action_keeps gc level a both.0 l

  branches_keep : (gc : resolved.Serves) (level : ℕ) (bs : PlainBranches) (meant : values.State → Done)
      → Keeps level meant → branches_set level bs ≡ false
      → Keeps level (resolved.branches_done gc bs meant)
  branches_keep gc level no_branch meant each is l = each l
  branches_keep gc level (branch condition body rest) meant each is l =
      let both = or_parts (actions_set level body) (branches_set level rest) is in
      by (resolved.holds condition l) (actions_keep gc level body both.0 l)
      (branches_keep gc level rest meant each both.1 l)
    where
      by : (b : Bool) → (resolved.actions_done gc body l).state.locals level ≡ l.locals level
          → (resolved.branches_done gc rest meant l).state.locals level ≡ l.locals level
          → (elim b as (λ _. Done) [
            | true ↦ resolved.actions_done gc body l
            | false ↦ resolved.branches_done gc rest
                meant l
          ]).state.locals level ≡ l.locals level
      by true one others = one
      by false one others = others

-- ---- what always goes on

ends_exits : (a : PlainAction) → ends a ≡ true → action_exits any_exit a ≡ true
ends_exits breaks is = refl
ends_exits continues is = refl
ends_exits (returns e) is = refl
ends_exits (sets a) is = absurd (true≢false (sym is))
ends_exits (calls k args result) is = absurd (true≢false (sym is))
ends_exits (transfers core source target count) is = absurd (true≢false (sym is))
ends_exits (chooses branches otherwise) is = absurd (true≢false (sym is))
ends_exits (iterations most condition body step) is = absurd (true≢false (sym is))

module _ (r : Rules) (inside : Bool) where
  mutual
    action_stays : (a : PlainAction) → action_exits any_exit a ≡ false → Does r true a → Does r inside a
    action_stays (chooses branches otherwise) none does =
        let both = or_parts (branches_exit any_exit branches) (actions_exit any_exit otherwise) none in
        (branches_stay branches both.0 does.0, actions_stay otherwise both.1 does.1)
    action_stays breaks none does = absurd (true≢false none)
    action_stays continues none does = absurd (true≢false none)
    action_stays (sets a) none does = does
    action_stays (calls k args result) none does = does
    action_stays (transfers core source target count) none does = does
    action_stays (iterations most condition body step) none does = does
    action_stays (returns e) none does = does

    pub actions_stay : (all : PlainActions) → actions_exit any_exit all ≡ false → Do r true all → Do r inside all
    actions_stay no_action none does = tt
    actions_stay (action a rest) none does =
        let both = or_parts (action_exits any_exit a) (if ends a then false else actions_exit any_exit rest) none in (
          action_stays a both.0 does.0,
          by (ends a) refl both.0 both.1 (λ rest_none. actions_stay rest rest_none does.1),
        )
      where
        by : (ended : Bool) → ends a ≡ ended → action_exits any_exit a ≡ false
            → (if ended then false else actions_exit any_exit rest) ≡ false
            → (actions_exit any_exit rest ≡ false → Do r inside rest) → Do r inside rest
        by true is none_here none_after further = absurd (true≢false (sym (ends_exits a is) ∙ none_here))
        by false is none_here none_after further = further none_after

    branches_stay : (bs : PlainBranches) → branches_exit any_exit bs ≡ false → AnyDo r true bs → AnyDo r inside bs
    branches_stay no_branch none does = tt
    branches_stay (branch condition body rest) none does =
        let both = or_parts (actions_exit any_exit body) (branches_exit any_exit rest) none in
        (does.0, actions_stay body both.0 does.1, branches_stay rest both.1 does.2)
