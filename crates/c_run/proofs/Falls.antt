-- A call goes to something smaller.
use Rattle.std.proofs.Common.{◌≡◌, ℕ, zero, suc, ◌+◌, ◌<◌, ◌≤◌, List, slice_index_or, ap, arith, subst, inl, inr}
use Rattle.std.proofs.lemmas.Bool.{cases_lt}
use Rattle.std.specs.Prelude.{Option}
use Rattle.c_meaning.specs.declared.actions.Action.{Action, Call}
use Rattle.c_meaning.specs.declared.actions.Arguments.{Arguments}
use Rattle.c_meaning.specs.declared.actions.Target.{Target}
use Rattle.c_meaning.specs.Actions.{PlainActions, no_action}
use Rattle.c_meaning.specs.Shown.{plain_action}
use Rattle.c_meaning.specs.Sizes.{action_size, actions_size}
use Rattle.c_run.specs.Sizes.{total}

-- ---- a call

pub call_size : (a : Action) (k : ℕ) (args : Arguments) (t : Option Target) → a ≡ Call k args t
    → action_size (plain_action a) ≡ 3
unfolding plain_action
call_size a k args t is = ap (λ x. action_size (plain_action x)) is

-- ---- functions

pub total_grows : (fs : List PlainActions) (k n : ℕ) → k < n → total fs k + actions_size (slice_index_or fs k no_action)
    ≤ total fs n
total_grows fs k zero below = absurd (omega arith)
total_grows fs k (suc n) below = elim (cases_lt k n) [
  | inl less ↦ let before = total_grows fs k n less in omega arith
  | inr more ↦ let same : k ≡ n = omega arith in subst (λ m. total fs k + actions_size (slice_index_or fs k no_action)
      ≤ total fs (suc m)) same (omega arith)
]
