-- The parts of actions are smaller.
use Rattle.std.proofs.Common.{◌≡◌, ℕ, zero, suc, ◌+◌, ◌<◌, List, [], ◌∷◌, length, get_or, ap, ◌∙◌, arith}
use Rattle.std.specs.Prelude.{Option}
use Rattle.sp_tree.specs.declared.expressions.SpExpr.{SpExpr}
use Rattle.c_meaning.specs.declared.actions.Action.{Action}
use Rattle.c_meaning.specs.declared.actions.Action.TheViews.{Choose, Loop}
use Rattle.c_meaning.specs.declared.actions.Assignment.{Assignment}
use Rattle.c_meaning.specs.declared.actions.Branch.{Branch}
use Rattle.c_meaning.specs.Shown.{plain_action, actions_of, branches_of}
use Rattle.c_meaning.specs.Sizes.{action_size, actions_size, branches_size}
use Rattle.c_meaning.proofs.Acted.{plain_choose, plain_loop}

pub choose_size : (a : Action) (branches : List Branch) (otherwise : List Action) → a ≡ Choose branches otherwise
    → action_size (plain_action a) ≡ 2 + branches_size (branches_of branches) + actions_size (actions_of otherwise)
choose_size a branches otherwise is =
    ap (λ x. action_size (plain_action x)) is ∙ ap action_size (plain_choose branches otherwise)

pub loop_size : (a : Action) (most : ℕ) (condition : SpExpr) (body : List Action) (step : Option Assignment) → a
    ≡ Loop most condition body step
    → action_size (plain_action a) ≡ 3 + actions_size (actions_of body)
loop_size a most condition body step is =
    ap (λ x. action_size (plain_action x)) is ∙ ap action_size (plain_loop most condition body step)

pub part_size : (actions : List Action) (i : ℕ) (a : Action) → i < length actions → a ≡ get_or actions i a
    → action_size (plain_action a) < actions_size (actions_of actions)
part_size [] i a within is = absurd (omega arith)
part_size (x ∷ actions) zero a within is = let same = ap (λ y. action_size (plain_action y)) is in omega arith
part_size (x ∷ actions) (suc i) a within is = let rest = part_size actions i a (omega arith) is in omega arith
