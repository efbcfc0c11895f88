use Rattle.std.proofs.Common.{◌∙◌, sym, arith}
use Rattle.sp_tree.specs.Ran.{state_of}
use Rattle.sp_tree.proofs.Arguments.{worth_at}
use Rattle.sp_tree.proofs.settings.argument.Goals as goal

pub returns-then-number-args : goal.returns-then-number-args
returns-then-number-args c = λ sends.
    c.value.ensures sends
    ∙ sym (worth_at c.args.args.now c.args.number c.index-args-number.result
    (state_of c.args.frame.now c.args.memory.now sends) (omega arith) c.index-args-number.is)
