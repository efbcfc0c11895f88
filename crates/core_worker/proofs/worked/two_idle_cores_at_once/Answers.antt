use Rattle.std.proofs.Common.{◌<◌, sym, ◌∙◌, subst}
use Rattle.core_worker.proofs.NoWords.{all_zero}
use Rattle.core_worker.proofs.worked.two_idle_cores_at_once.Goals as goal

pub returns : goal.returns
returns g c =
    let b = c.in_ok-board.ensures.board in (
      c.close.ensures.len ∙ b.1,
      λ w below. all_zero c.in_ok-board.board _ c.close.result b.2 c.close.ensures.ended w
          (subst (λ n. w < n) (sym b.1) below),
    )
