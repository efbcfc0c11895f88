use Rattle.std.proofs.Common.{arith, map}
use Rattle.sp_tree.specs.Plain.{plain_sp}
use Rattle.sp_emit.specs.declared.registers.TheConstants.{FIRST}
use Rattle.sp_emit.proofs.Least.{first_least, argument_fits, argument_least, least_done}
use Rattle.sp_emit.proofs.Looping.{others_fit}
use Rattle.sp_emit.proofs.Needs.{few_needs, some_need}
use Rattle.sp_emit.proofs.places.arguments_least.Goals as goal

pub loop-e-init : goal.loop-e-init
loop-e-init c =
    (c.requires, (omega arith, let least = first_least (map plain_sp c.args.args.now) FIRST in omega (arith, least)))

pub need_of-requires : goal.need_of-requires
need_of-requires c = few_needs (plain_sp c.e-item.result) (argument_fits c.args.args.now c.loop-e.e-index c.loop-e.rd
    c.e-item.result (omega arith) c.e-item.is c.loop-e.invariant.0)

pub overflow_add-rd : goal.overflow_add-rd
overflow_add-rd c =
    let fits = argument_fits c.args.args.now c.loop-e.e-index c.loop-e.rd c.e-item.result (omega arith) c.e-item.is
    c.loop-e.invariant.0 in
    omega (arith, fits.registers, c.need_of.ensures)

pub overflow_add-rd-in-loop-e : goal.overflow_add-rd-in-loop-e
overflow_add-rd-in-loop-e c =
    let fits = argument_fits c.args.args.now c.loop-e.e-index c.loop-e.rd c.e-item.result (omega arith) c.e-item.is
    c.loop-e.invariant.0 in
    omega (arith, fits.registers)

pub loop-e-preserved : goal.loop-e-preserved
loop-e-preserved c =
    let fits = others_fit c.args.args.now c.loop-e.e-index c.loop-e.rd c.e-item.result (omega arith) c.e-item.is
    c.loop-e.invariant.0 in
    let some = some_need (plain_sp c.e-item.result) in (
      fits,
      (
        omega (arith, some, c.need_of.ensures, c.max-least.ensures),
        argument_least c.args.args.now c.loop-e.e-index c.loop-e.rd c.e-item.result c.loop-e.least c.need_of.result
            c.max-least.result _ (omega arith) c.e-item.is c.need_of.ensures c.max-least.ensures c.loop-e.invariant.1.1,
      ),
    )

pub returns : goal.returns
returns c = least_done c.args.args.now c.loop-e.e-index c.loop-e.rd c.loop-e.least _
    (omega arith) c.loop-e.invariant.1.0 c.loop-e.invariant.1.1
