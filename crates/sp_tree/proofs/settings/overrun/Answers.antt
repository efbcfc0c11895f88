use Rattle.std.proofs.Common.{ap, sym, ◌∙◌}
use Rattle.c_world.specs.Numbers.{is_true}
use Rattle.c_world.specs.World.{with_overrun}
use Rattle.sp_tree.specs.Plain.{plain_sp}
use Rattle.sp_tree.specs.Ran.{state_of}
use Rattle.sp_tree.specs.Straight.{overrun_done, in_world}
use Rattle.sp_tree.proofs.Runs.{on}
use Rattle.sp_tree.proofs.settings.overrun.Goals as goal

pub returns-then-tested-clause-done : goal.returns-then-tested-clause-done
returns-then-tested-clause-done c = λ sends.
    let s = state_of c.args.frame.now c.args.memory.now sends in
    on c.args.mask (overrun_done (plain_sp c.args.e.now)) s (sym c.is_on-tested.ensures ∙ c.if-tested.true)
    ∙ ap (λ v. in_world s (with_overrun (is_true v) s.world)) (sym (c.value-held.ensures sends))
    ∙ ap (in_world s) (sym (c.overran.ensures.world sends))
