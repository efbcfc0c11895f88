use Rattle.std.proofs.Common.{◌∙◌, ap, sym, arith}
use Rattle.sp_tree.specs.Shown.{plain_function, stmts_of}
use Rattle.sp_tree.specs.Statements.{joined}
use Rattle.sp_inline.specs.Moved.{stmts_moved}
use Rattle.sp_inline.specs.Reach.{stmts_reach}
use Rattle.sp_inline.specs.Shown.{args_of}
use Rattle.sp_inline.specs.Taken.{short_body, shortened}
use Rattle.sp_inline.proofs.Steps.{on_done, call_added}
use Rattle.sp_inline.proofs.Shortened.{short_reach, short_slots}
use Rattle.sp_inline.proofs.Entered.{entered_reach}
use Rattle.sp_inline.proofs.calls.add_call.Goals as goal

pub add_moved-requires : goal.add_moved-requires
add_moved-requires c =
    let m = c.args.callee.now in
    let less = short_body m.function.result (stmts_of m.function.body) in
    let statements = ap stmts_reach c.statements.ensures in
    omega (
      arith,
      c.requires.room,
      c.requires.reach,
      statements,
      entered_reach m.tests less,
      short_reach m.function.result (stmts_of m.function.body),
    )

pub returns : goal.returns
returns c =
    let call = c.args.call.now in
    let m = c.args.callee.now in
    let f = plain_function m.function in
    on_done c.add_given.result (λ last. call_added c.args.place call.mask m.words m.tests (shortened f)
    (args_of call) call.result
    (stmts_of c.args.out.now.items) (stmts_of c.add_begun.new.out.items) (stmts_of c.add_moved.new.out.items)
    (stmts_of c.add_given.new.out.items) (m.words_are ∙ sym (short_slots f)) m.tests_are c.in_ok-add_begun.ensures
    (c.in_ok-add_moved.ensures ∙ ap (λ ts. joined (stmts_of c.add_begun.new.out.items) (stmts_moved c.args.place ts))
    c.statements.ensures) last) c.add_given.ensures
