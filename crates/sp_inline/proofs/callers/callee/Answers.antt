use Rattle.std.proofs.Common.{◌∙◌, sym, true, false, arith}
use Rattle.sp_inline.specs.Shown.{args_of}
use Rattle.sp_inline.proofs.Growth.{callee_is, may_found, may_past}
use Rattle.sp_inline.proofs.callers.callee.Goals as goal

pub returns-then-number-caller : goal.returns-then-number-caller
returns-then-number-caller c =
    may_past c.args.caller.now c.args.depth c.args.call.now.function (args_of c.args.call.now) (omega arith)

pub returns-then-is_fitting : goal.returns-then-is_fitting
returns-then-is_fitting c =
    let call = c.args.call.now in
    let m = c.index-caller-number.result in (
      may_found c.args.caller.now c.args.depth call.function call.args.now m true (omega arith)
          (sym c.is_fitting.ensures ∙ c.if-is_fitting.true),
      callee_is c.args.caller.now.functions.now call.function m (omega arith),
    )

pub returns-else-is_fitting : goal.returns-else-is_fitting
returns-else-is_fitting c =
    let call = c.args.call.now in
    may_found c.args.caller.now c.args.depth call.function call.args.now c.index-caller-number.result false
    (omega arith) (sym c.is_fitting.ensures ∙ c.if-is_fitting.false)
