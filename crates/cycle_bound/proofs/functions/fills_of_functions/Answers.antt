use Rattle.std.proofs.Common.{◌<◌, length, length-set, ap, sym, ◌∙◌, arith}
use Rattle.sp_shape.specs.Shown.{parts_of, functions_of}
use Rattle.sp_shape.proofs.Functions.{function_at}
use Rattle.cycle_bound.specs.Nodes.{parts_nodes}
use Rattle.cycle_bound.proofs.Learning.{fill_next, functions_next}
use Rattle.cycle_bound.proofs.functions.fills_of_functions.Goals as goal

pub loop-number-preserved : goal.loop-number-preserved
loop-number-preserved g c =
    let functions = c.args.functions.now in
    let more = c.loop-number-test.true in
    let most = c.requires.most in
    let long = c.loop-number.invariant.room in
    let within : c.loop-number.number < length c.args.functions.now = omega (arith, more) in
    let room : c.loop-number.number < length c.loop-number.fills = omega (arith, within, most, long) in
    let own = function_at functions c.loop-number.number c.index-functions-number.result within
    c.index-functions-number.is ∙ ap parts_of (sym c.as_slice.ensures) in
    let told = ap (λ ps. parts_nodes (parts_of ps)) c.as_slice.ensures in
    let spent = c.fill_of_function.ensures.steps in
    record {
      room = length-set c.loop-number.fills c.loop-number.number c.fill_of_function.result ∙ long;
      fills = fill_next (functions_of functions) (parts_of c.as_slice.result.now) c.args.each c.loop-number.number
          c.loop-number.fills c.fill_of_function.result own room c.fill_of_function.ensures.fill
          c.loop-number.invariant.fills;
      steps = functions_next functions c.loop-number.number c.index-functions-number.result c.fill_of_function.new.steps
          c.loop-number.steps _ within c.index-functions-number.is (omega (arith, spent, told))
          c.loop-number.invariant.steps;
      forward = (let before = c.loop-number.invariant.forward in omega (arith, before, spent));
    }
