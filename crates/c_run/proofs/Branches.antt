-- Branches, from one on.
use Rattle.std.proofs.Common.{◌≡◌, ℕ, zero, suc, ◌+◌, ◌<◌, true, false, List, [], ◌∷◌, length, drop, get_or, ap, ◌∙◌, arith}
use Rattle.tc_word.proofs.Items.{drop_item}
use Rattle.c_meaning.specs.declared.actions.Branch.{Branch}
use Rattle.c_meaning.specs.Meaning.{Done}
use Rattle.sp_tree.specs.Plain.{plain_sp}
use Rattle.c_meaning.specs.Resolved.{Serves, holds, actions_done, branches_done}
use Rattle.c_meaning.specs.Shown.{actions_of, branches_of}
use Rattle.c_meaning.specs.Values.{State}
use Rattle.c_meaning.specs.Sizes.{actions_size, branches_size}

from_here : (g : Serves) (o : State → Done) (branches : List Branch) (i : ℕ) (b : Branch) (s : State)
    → i < length branches → b ≡ get_or branches i b
    → branches_done g (branches_of (drop i branches)) o s
    ≡ branches_done g (branches_of (b ∷ drop (i + 1) branches)) o s
from_here g o branches i b s within is =
    ap (λ bs. branches_done g (branches_of bs) o s) (drop_item branches i b within is)

pub here : (g : Serves) (o : State → Done) (branches : List Branch) (i : ℕ) (b : Branch) (s : State)
    → i < length branches → b ≡ get_or branches i b
    → holds (plain_sp b.condition) s ≡ true → branches_done g (branches_of (drop i branches)) o s
    ≡ actions_done g (actions_of b.body) s
here g o branches i b s within is it_holds =
    from_here g o branches i b s within is
    ∙ ap (λ c. elim c as (λ _. Done) [
      | true ↦ actions_done g (actions_of b.body) s
      | false ↦ branches_done g
          (branches_of (drop (i + 1) branches)) o s
    ]) it_holds

pub smaller : (branches : List Branch) (i : ℕ) (b : Branch) → i < length branches → b ≡ get_or branches i b
    → actions_size (actions_of b.body) < branches_size (branches_of branches)
smaller [] i b within is = absurd (omega arith)
smaller (x ∷ branches) zero b within is =
    let same = ap (λ (y : Branch). actions_size (actions_of y.body)) is in
    omega arith
smaller (x ∷ branches) (suc i) b within is = let rest = smaller branches i b (omega arith) is in omega arith
