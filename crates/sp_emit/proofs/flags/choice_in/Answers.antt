use Rattle.std.proofs.Common.{◌≡◌, ◌+◌, suc, ap, ◌∙◌, arith}
use Rattle.sp_tree.specs.Shown.{plain_function}
use Rattle.sp_emit.specs.Flags.{next_choice, first_choice}
use Rattle.sp_emit.proofs.flags.choice_in.Goals as goal

pub loop-slot-preserved : goal.loop-slot-preserved
loop-slot-preserved c =
    let f = plain_function c.args.f.now in
    let slot = c.loop-slot.slot in
    c.next_choice-choice.ensures ∙ ap (λ choice. next_choice f choice slot) c.loop-slot.invariant
    ∙ ap (λ n. first_choice f n) (let e : suc slot ≡ slot + 1 = omega arith in e)
