use Rattle.std.proofs.Common.{[], length, ap, arith}
use Rattle.std.proofs.Math.ListN.{length-map}
use Rattle.c_tree.specs.Plain.{plain}
use Rattle.c_meaning.specs.Actions.{PlainActions}
use Rattle.c_meaning.specs.Shown.{actions_of}
use Rattle.c_meaning.specs.declared.actions.Routine.{Routine}
use Rattle.c_meaning.proofs.Few.{as_many, few_functions}
use Rattle.c_run.proofs.outcome.mean.Goals as goal

pub main_outcome-requires-clause-number : goal.main_outcome-requires-clause-number
main_outcome-requires-clause-number c =
    let program = c.args.program.now in
    let items = plain program.unit in
    let body : Routine → PlainActions = λ r. actions_of r.body in
    omega (
      arith,
      length-map c.in_ok-resolved.resolved.routines body,
      ap length c.in_ok-resolved.ensures.routines,
      as_many program.layout [] items,
      few_functions program.place.cores program.place.core items program.valid,
    )
