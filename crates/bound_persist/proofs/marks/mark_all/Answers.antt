use Rattle.std.proofs.Common.{◌≡◌, ◌<◌, ◌+◌, ◌-◌, ◌≤◌, ℕ, drop, length, ap, sym, ◌∙◌, subst, arith}
use Rattle.sp_shape.specs.Shown.{parts_of, functions_of}
use Rattle.sp_shape.proofs.Plain.{functions_count}
use Rattle.sp_shape.proofs.Functions.{function_at}
use Rattle.cycle_bound.specs.Nodes.{parts_nodes, functions_nodes}
use Rattle.bound_persist.specs.Marks.{AreMarks}
use Rattle.bound_persist.proofs.Marking.{marks_first, have_below, functions_down}
use Rattle.bound_persist.proofs.marks.mark_all.Goals as goal

pub loop-done-init : goal.loop-done-init
loop-done-init g c =
    let count = functions_count c.args.functions.now in
    let entry = c.requires.entry in
    let within = length (functions_of c.args.functions.now) in
    record {
      marks = subst (λ n. AreMarks (functions_of c.args.functions.now) c.args.entry n c.mark_entry-marks.result.set)
          (let e : length (functions_of c.args.functions.now) ≡ length c.args.functions.now - 0 = omega (
            arith,
            count,
          ) in e)
          (marks_first (functions_of c.args.functions.now) c.args.entry c.mark_entry-marks.result.set
          (omega (arith, entry, count)) c.mark_entry-marks.ensures);
      steps = omega arith;
      forward = omega arith;
    }

pub loop-done-preserved : goal.loop-done-preserved
loop-done-preserved g c =
    let functions = c.args.functions.now in
    let count = functions_count c.args.functions.now in
    let more = c.loop-done-test.true in
    let number : ℕ = length c.args.functions.now - 1 - c.loop-done.done in
    let within : number < length c.args.functions.now = omega (arith, more) in
    let own = function_at c.args.functions.now number c.index-functions-number.result within c.index-functions-number.is
    ∙ ap parts_of (sym c.as_slice.ensures) in
    let before : length c.args.functions.now - c.loop-done.done ≡ number + 1 = omega (arith, more) in
    let after : number ≡ length c.args.functions.now - (c.loop-done.done + 1) = omega (arith, more) in
    let marked = c.mark_called.ensures.marks (functions_of c.args.functions.now) c.args.entry
    (have_below (functions_of c.args.functions.now) (length c.args.functions.now) (sym count) c.requires.formed)
    (omega (arith, within, count)) own
    (subst (λ n. AreMarks (functions_of c.args.functions.now) c.args.entry n c.loop-done.marks.set) before
    c.loop-done.invariant.marks) in
    let called = c.mark_called.ensures.steps in
    let told = ap (λ ps. parts_nodes (parts_of ps)) c.as_slice.ensures in
    record {
      marks = subst (λ n. AreMarks (functions_of c.args.functions.now) c.args.entry n c.mark_called.new.marks.set) after
          marked;
      steps = (let least : c.mark_called.new.steps ≤ c.loop-done.steps + (1
          + parts_nodes (parts_of c.index-functions-number.result)) = omega (arith, called, told) in
          let all : c.loop-done.steps ≤ c.args.steps.now + functions_nodes (functions_of
          (drop (number + 1) c.args.functions.now)) = subst (λ n. c.loop-done.steps ≤ c.args.steps.now
          + functions_nodes (functions_of (drop n c.args.functions.now))) before c.loop-done.invariant.steps in
          subst (λ n. c.mark_called.new.steps ≤ c.args.steps.now + functions_nodes (functions_of
          (drop n c.args.functions.now))) after
          (functions_down c.args.functions.now number c.index-functions-number.result c.mark_called.new.steps
          c.loop-done.steps c.args.steps.now within c.index-functions-number.is least all));
      forward = (let a = c.mark_called.ensures.forward in let b = c.loop-done.invariant.forward in omega (arith, a, b));
    }
