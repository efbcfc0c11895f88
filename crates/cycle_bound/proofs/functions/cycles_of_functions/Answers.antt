use Rattle.std.proofs.Common.{◌<◌, length, ap, sym, ◌∙◌, arith}
use Rattle.sp_shape.specs.Shown.{parts_of, functions_of}
use Rattle.sp_shape.proofs.Functions.{function_at}
use Rattle.cycle_bound.specs.Nodes.{parts_nodes}
use Rattle.cycle_bound.proofs.Learning.{functions_next}
use Rattle.cycle_bound.proofs.functions.cycles_of_functions.Goals as goal

pub loop-number-preserved : goal.loop-number-preserved
loop-number-preserved g c =
    let functions = c.args.functions.now in
    let more = c.loop-number-test.true in
    let within : c.loop-number.number < length c.args.functions.now = omega (arith, more) in
    let own = function_at functions c.loop-number.number c.index-functions-number.result within
    c.index-functions-number.is ∙ ap parts_of (sym c.as_slice.ensures) in
    let told = ap (λ ps. parts_nodes (parts_of ps)) c.as_slice.ensures in
    let spent = c.learn.ensures.steps in
    record {
      known = λ fill held. c.learn.ensures.known (functions_of functions) fill (length functions) within own
          (c.loop-number.invariant.known fill held);
      steps = functions_next functions c.loop-number.number c.index-functions-number.result c.learn.new.steps
          c.loop-number.steps _ within c.index-functions-number.is (omega (arith, spent, told))
          c.loop-number.invariant.steps;
      forward = (let before = c.loop-number.invariant.forward in omega (arith, before, spent));
    }
