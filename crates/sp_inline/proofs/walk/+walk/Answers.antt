use Rattle.std.proofs.Common.{◌+◌, ◌∙◌, ap, refl, arith}
use Rattle.sp_tree.specs.Formed.{stmt_levels}
use Rattle.sp_tree.specs.Shown.{plain_stmt, stmts_of}
use Rattle.sp_tree.specs.Sizes.{stmt_size}
use Rattle.sp_tree.specs.Statements.{joined, one, iterations}
use Rattle.sp_tree.proofs.Forms.{item_size}
use Rattle.sp_inline.specs.Reach.{stmt_reach}
use Rattle.sp_inline.specs.Shown.{plain_caller}
use Rattle.sp_inline.specs.Taken.{stmts_taken, taken_after}
use Rattle.sp_inline.proofs.Parts.{iterations_is, stmt_part}
use Rattle.sp_inline.proofs.Walks.{call_is, iterations_levels, level_part, level_kept, next_taken, none_taken, iterations_taken}
use Rattle.sp_inline.proofs.walk.+walk.Goals as goal

pub take_statement-keep-requires : goal.take_statement-keep-requires
take_statement-keep-requires t c = omega (arith, c.requires.words, c.requires.word)

pub take_statement-take_call-requires : goal.take_statement-take_call-requires
take_statement-take_call-requires t c = record {
  call = call_is c.args.t.now c.in-Call.mask c.in-Call.function c.in-Call.args c.as_slice.result.now c.in-Call.given
      c.in-Call.is c.as_slice.ensures;
  words = c.requires.words;
  word = c.requires.word;
  frame = c.requires.frame;
}

pub take_statement-overflow_add-depth : goal.take_statement-overflow_add-depth
take_statement-overflow_add-depth t c =
    let level = iterations_levels c.args.t.now c.in-Iterations.count c.in-Iterations.body c.in-Iterations.is in
    omega (arith, c.requires.levels, level)

pub take_statement-take_statements-requires : goal.take_statement-take_statements-requires
take_statement-take_statements-requires t c =
    let same = iterations_is c.args.t.now c.in-Iterations.count c.in-Iterations.body c.as_slice-in-Iterations.result.now
    c.in-Iterations.is c.as_slice-in-Iterations.ensures in
    let size = ap stmt_size same in
    let level = ap stmt_levels same in
    let reach = ap stmt_reach same in (
      omega (arith, c.decreases, size),
      (
        omega (arith, c.requires.levels, level),
        (omega (arith, c.requires.words, reach), (c.requires.word, c.requires.frame)),
      ),
    )

pub take_statement-returns-in_ok-add_iterations-in-Iterations : goal.take_statement-returns-in_ok-add_iterations-in-Iterations
take_statement-returns-in_ok-add_iterations-in-Iterations t c =
    let caller = plain_caller c.args.caller.now in
    let old = stmts_of c.args.out.now.items in
    let body = c.as_slice-in-Iterations.result.now in
    let same = iterations_is c.args.t.now c.in-Iterations.count c.in-Iterations.body body c.in-Iterations.is
    c.as_slice-in-Iterations.ensures in
    iterations_taken caller c.args.depth c.args.room c.in_ok-after-in-Iterations.after c.args.t.now
    c.in-Iterations.count body old (stmts_of c.take_statements.new.out.items)
    (stmts_of c.add_iterations.new.out.items) same
    (c.in_ok-after-in-Iterations.ensures
    ∙ ap (λ xs. taken_after (stmts_of xs) (stmts_taken caller (c.args.depth + 1) c.args.room (stmts_of body)))
    c.new-inside.ensures.items)
    (c.in_ok-add_iterations-in-Iterations.ensures
    ∙ ap (λ xs. joined old (one (iterations c.in-Iterations.count (stmts_of xs)))) c.of.ensures)

pub take_statements-loop-t-init : goal.take_statements-loop-t-init
take_statements-loop-t-init t c = record { so_far = refl; levels = omega arith }

pub take_statements-take_statement-requires : goal.take_statements-take_statement-requires
take_statements-take_statement-requires t c =
    let size = item_size c.args.body.now c.loop-t.t-index c.t-item.result (omega arith) c.t-item.is in
    let level = level_part c.args.body.now c.loop-t.t-index c.t-item.result (omega arith) c.t-item.is in
    let reach = stmt_part c.args.body.now c.loop-t.t-index c.t-item.result (omega arith) c.t-item.is in (
      omega (arith, c.decreases, size),
      (
        omega (arith, c.requires.levels, level, c.loop-t.invariant.levels),
        (
          omega (arith, c.requires.words, reach),
          (c.requires.word, c.requires.frame),
        ),
      ),
    )

pub take_statements-loop-t-preserved : goal.take_statements-loop-t-preserved
take_statements-loop-t-preserved t c =
    let caller = plain_caller c.args.caller.now in
    let old = stmts_of c.loop-t.out.items in
    let new = stmts_of c.take_statement.new.out.items in
    let level = level_part c.args.body.now c.loop-t.t-index c.t-item.result (omega arith) c.t-item.is in
    let grows = level_kept caller c.args.depth c.loop-t.left c.in_ok-left.left (plain_stmt c.t-item.result) old new
    c.in_ok-left.ensures
    (omega (arith, c.requires.levels, level, c.loop-t.invariant.levels)) in
    record {
      so_far = next_taken caller c.args.depth c.loop-t.left c.in_ok-left.left c.args.body.now c.loop-t.t-index
          c.t-item.result old new
          (taken_after (stmts_of c.args.out.now.items) (stmts_taken caller c.args.depth c.args.room
          (stmts_of c.args.body.now))) (omega arith) c.t-item.is
          c.in_ok-left.ensures c.loop-t.invariant.so_far;
      levels = omega (arith, grows, c.loop-t.invariant.levels);
    }

pub take_statements-returns : goal.take_statements-returns
take_statements-returns t c =
    none_taken (plain_caller c.args.caller.now) c.args.depth c.loop-t.left c.args.body.now c.loop-t.t-index
    (stmts_of c.loop-t.out.items)
    (taken_after (stmts_of c.args.out.now.items) (stmts_taken (plain_caller c.args.caller.now) c.args.depth c.args.room
    (stmts_of c.args.body.now))) (omega arith)
    c.loop-t.invariant.so_far
