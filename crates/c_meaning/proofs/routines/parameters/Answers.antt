use Rattle.std.proofs.Common.{length, drop, ap, arith}
use Rattle.std.proofs.Math.ListN.{length-append}
use Rattle.std.proofs.lemmas.List.{length-drop}
use Rattle.c_meaning.specs.Meaning.{parameter_variables}
use Rattle.c_meaning.specs.Open.{names_of}
use Rattle.c_meaning.proofs.Few.{parameters_open}
use Rattle.c_meaning.proofs.routines.parameters.Goals as goal

pub declare-requires : goal.declare-requires
declare-requires c =
    let before = (names_of c.args.scope.now).variables in
    let so_far = (names_of c.loop-parameter.scope).variables in
    let list = c.args.parameters.now in
    let rest = drop c.loop-parameter.parameter-index list in
    omega (
      arith,
      c.requires,
      ap length c.loop-parameter.invariant.variables,
      length-append so_far (parameter_variables rest),
      length-append before (parameter_variables list),
      parameters_open rest,
      parameters_open list,
      length-drop c.loop-parameter.parameter-index list,
    )
