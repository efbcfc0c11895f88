use Rattle.std.proofs.Common.{◌∙◌, arith}
use Rattle.sp_tree.specs.Shown.{plain_function}
use Rattle.sp_inline.specs.Shown.{plain_caller, args_of, statements_for}
use Rattle.sp_inline.proofs.Growth.{room_same}
use Rattle.sp_inline.proofs.callers.room_after.Goals as goal

pub returns : goal.returns
returns c =
    let m = c.args.callee.now in
    let call = c.args.call.now in
    let caller = c.args.caller.now in
    let f = plain_function m.function in
    c.room_left.ensures
    ∙ room_same (plain_caller caller) c.args.depth c.args.room f (statements_for caller.words f call) (args_of call)
    c.growth-grown.result c.max-words.result c.max-levels.result
    (c.growth-grown.ensures caller.words) (omega (
      arith,
      c.max-words.ensures,
      c.from.ensures,
      c.from-2.ensures,
      c.from-3.ensures,
      m.words_are,
    ))
    (omega (arith, c.max-levels.ensures, c.from-4.ensures, c.saturating_add.ensures, c.from-5.ensures, m.levels_are))
    (omega arith) (omega arith)
