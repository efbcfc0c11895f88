use Rattle.std.proofs.Common.{◌++◌, length, ap, ◌∙◌, arith}
use Rattle.std.specs.Vec.Iter.{into_iter_items}
use Rattle.c_meaning.specs.Shown.{counts_of, bodies_of}
use Rattle.sp_tree.specs.Shown.{functions_of}
use Rattle.single_path.specs.Single.{made_functions}
use Rattle.single_path.proofs.Assembled.{function_next, rest_fit}
use Rattle.single_path.proofs.units.functions.Goals as goal

pub loop-routine-preserved : goal.loop-routine-preserved
loop-routine-preserved c =
    let left = into_iter_items c.loop-routine.routine-iterator in
    let rest = into_iter_items c.next.new.self in
    let is = c.in-Some.ensures.steps.0 in (
      ap (λ fs. functions_of fs ++ made_functions (counts_of rest) (bodies_of rest)) c.in_ok-push.ensures.items
          ∙ function_next c.loop-routine.made.items c.in_ok-function.field-0 left rest c.in-Some.routine
          (made_functions (counts_of c.args.routines) (bodies_of c.args.routines)) is c.in_ok-function.ensures
          c.loop-routine.invariant.0,
      rest_fit left rest c.in-Some.routine is c.loop-routine.invariant.1,
      omega (arith, c.loop-routine.invariant.2, c.in-Some.ensures.steps.1, ap length is),
    )
