use Rattle.std.proofs.Common.{map, arith}
use Rattle.sp_tree.specs.Plain.{plain_sp}
use Rattle.sp_tree.specs.Straight.{args_worth}
use Rattle.sp_tree.specs.Ran.{state_of}
use Rattle.sp_tree.proofs.Arguments.{same_words, length_worth}
use Rattle.sp_tree.proofs.settings.pass.Goals as goal

pub returns : goal.returns
returns c = λ sends.
    let s = state_of c.args.frame.now c.args.memory.now sends in
    same_words c.loop-number.own (args_worth (map plain_sp c.args.args.now) s)
    (λ k below. c.loop-number.invariant sends k (omega arith))
    (omega (arith, length_worth c.args.args.now s))
