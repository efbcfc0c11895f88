use Rattle.std.proofs.Common.{◌<◌, length, arith}
use Rattle.c_check.proofs.Sums.{call_sized}
use Rattle.c_check.proofs.expressions.call.Goals as goal

pub returns-clause-at : goal.returns-clause-at
returns-clause-at c =
    let some : 0 < length c.args.args.now = grind (arith, c.if-is_empty.ensures) in
    omega (
      arith,
      call_sized c.args.args.now some,
      c.in_ok-arguments.ensures.at,
      c.in_ok-pass.ensures.at,
      c.callee.ensures.at,
    )
