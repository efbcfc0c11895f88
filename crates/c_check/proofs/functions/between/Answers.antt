use Rattle.std.proofs.Common.{◌<◌, length, ap, arith}
use Rattle.std.specs.Prelude.{sum_by}
use Rattle.c_tree.specs.Sizes.{parameter_size}
use Rattle.c_check.proofs.Signatures.{list_sized}
use Rattle.c_check.proofs.functions.between.Goals as goal

pub returns-clause-at : goal.returns-clause-at
returns-clause-at c =
    let same = ap length c.as_slice-2.ensures in
    let some : 0 < length c.args.f.now.parameters = grind (arith, c.if-is_empty.ensures, same) in
    let passed = ap (sum_by parameter_size) c.as_slice.ensures in
    omega (
      arith,
      list_sized c.args.f.now.void_word c.args.f.now.parameters c.if-f.false some,
      passed,
      c.in_ok-parameters.ensures.at,
    )
