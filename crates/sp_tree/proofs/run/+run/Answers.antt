use Rattle.std.proofs.Common.{◌≡◌, zero, suc, ◌+◌, ◌-◌, List, drop, map, slice_index, slice_set, length, ap, sym, ◌∙◌, subst, arith}
use Rattle.shared_order.proofs.Words.{words_put}
use Rattle.c_world.specs.Shown.{shown}
use Rattle.sp_tree.specs.Formed.{target_formed, result_formed, stmts_formed}
use Rattle.sp_tree.specs.Plain.{plain_sp}
use Rattle.sp_tree.specs.Ran.{state_of, HasGiven}
use Rattle.sp_tree.specs.Shown.{plain_stmt, plain_sp_target, plain_function, stmts_of, functions_of}
use Rattle.sp_tree.specs.Sizes.{stmts_size}
use Rattle.sp_tree.specs.Straight.{State, worth, args_worth, with_slot, call_done, stmt_done, stmts_done, times, serves}
use Rattle.sp_tree.specs.declared.statements.SpStmt.{SpStmt, Send}
use Rattle.sp_tree.proofs.Forms.{mask_part, write_part, call_part, iterations_part, item_part, plain_iterations, function_at, known_function, few_arguments, earlier_ones, call_size, iterations_size, item_size, total_grows}
use Rattle.sp_tree.proofs.Runs.{has_done, along, reaches_first, reach_item, next_stmt, at_the_end, another_iteration, next_iteration, all_iterated, body_given, sent}
use Rattle.sp_tree.proofs.run.+run.Goals as goal

pub act-bounds-frame-slot : goal.act-bounds-frame-slot
act-bounds-frame-slot t c =
    let below = mask_part (functions_of c.args.functions.now) c.args.known 128 c.args.t.now c.in-Mask.slot c.in-Mask.e
    c.in-Mask.is c.requires.formed in
    omega (arith, below, c.requires.frame)

pub act-write-requires-clause-formed : goal.act-write-requires-clause-formed
act-write-requires-clause-formed t c =
    ap (λ n. target_formed n (plain_sp_target c.in-Write.target)) c.requires.frame
    ∙ write_part (functions_of c.args.functions.now) c.args.known 128 c.args.t.now c.in-Write.mask c.in-Write.target
    c.in-Write.e c.in-Write.is c.requires.formed

pub act-called-given-requires : goal.act-called-given-requires
act-called-given-requires t c =
    let size = call_size c.args.t.now c.in-Call.mask c.in-Call.function c.in-Call.args c.in-Call.result_slot
    c.in-Call.is in
    let it = call_part (functions_of c.args.functions.now) c.args.known 128 c.args.t.now c.in-Call.mask
    c.in-Call.function c.in-Call.args c.in-Call.result_slot c.in-Call.is c.requires.formed in
    let few = few_arguments (functions_of c.args.functions.now) c.in-Call.function c.args.known it.earlier
    c.requires.functions in
    let same = ap (λ as'. length as') c.as_slice.ensures in (
      omega (arith, c.decreases, size),
      (
        c.requires.rest,
        (
          c.requires.rooms,
          (c.requires.known, (c.requires.functions, (it.earlier, omega (arith, it.passed, few, same)))),
        ),
      ),
    )

pub act-set_result-requires : goal.act-set_result-requires
act-set_result-requires t c =
    record {
      formed = ap (λ n. result_formed n c.in-Call.result_slot) c.requires.frame
          ∙ (call_part (functions_of c.args.functions.now) c.args.known 128 c.args.t.now c.in-Call.mask
          c.in-Call.function
          c.in-Call.args c.in-Call.result_slot c.in-Call.is c.requires.formed).set;
    }

pub act-iterations-requires : goal.act-iterations-requires
act-iterations-requires t c =
    let size = iterations_size c.args.t.now c.in-Iterations.count c.in-Iterations.body c.in-Iterations.is in
    let body = ap (λ ts. stmts_size (stmts_of ts)) c.as_slice-in-Iterations.ensures in
    let formed = ap (λ ts. stmts_formed (functions_of c.args.functions.now) c.args.known 128 (stmts_of ts))
    c.as_slice-in-Iterations.ensures
    ∙ iterations_part (functions_of c.args.functions.now) c.args.known 128 c.args.t.now c.in-Iterations.count
    c.in-Iterations.body c.in-Iterations.is c.requires.formed in (
      omega (arith, c.decreases, size, body),
      (c.requires.frame, (c.requires.rest, (c.requires.rooms, (c.requires.known, (c.requires.functions, formed))))),
    )

pub all-act-requires : goal.all-act-requires
all-act-requires t c =
    let part = item_size c.args.stmts.now c.loop-t.t-index c.t-item.result (omega arith) c.t-item.is in
    let formed = item_part (functions_of c.args.functions.now) c.args.known 128 c.args.stmts.now c.loop-t.t-index
    c.t-item.result (omega arith) c.t-item.is c.requires.formed in (
      omega (arith, c.decreases, part),
      (omega arith, (omega arith, (c.loop-t.invariant.rooms, (c.requires.known, (c.requires.functions, formed))))),
    )

pub iterations-all-requires : goal.iterations-all-requires
iterations-all-requires t c = (
  omega (arith, c.decreases),
  (
    omega arith,
    (
      omega arith,
      (
        c.loop-iterated.invariant.rooms,
        (c.requires.known, (c.requires.functions, c.requires.formed)),
      ),
    ),
  ),
)

pub called-begin_frame-requires-clause-mask : goal.called-begin_frame-requires-clause-mask
called-begin_frame-requires-clause-mask t c =
    let it = known_function c.args.functions.now c.args.function c.args.known c.index-functions-function.result
    (omega arith) (omega arith) c.index-functions-function.is c.requires.functions in
    omega (arith, it.mask)

pub called-all-requires : goal.called-all-requires
called-all-requires t c =
    let it = known_function c.args.functions.now c.args.function c.args.known c.index-functions-function.result
    (omega arith) (omega arith) c.index-functions-function.is c.requires.functions in
    let is = function_at c.args.functions.now c.args.function c.index-functions-function.result
    (omega arith) c.index-functions-function.is in
    let grows = total_grows (functions_of c.args.functions.now) c.args.function c.args.known (omega arith) in
    let own = ap (λ f. stmts_size f.body) is in
    let body = ap (λ ts. stmts_size (stmts_of ts)) c.as_slice.ensures in
    let formed = ap (λ ts. stmts_formed (functions_of c.args.functions.now) c.args.function 128 (stmts_of ts))
    c.as_slice.ensures ∙ it.body in (
      omega (arith, c.decreases, grows, own, body),
      (
        omega arith,
        (
          omega arith,
          (
            c.requires.rooms,
            (
              omega arith,
              (
                earlier_ones (functions_of c.args.functions.now) c.args.function c.args.known
                    (omega arith) c.requires.functions,
                formed,
              ),
            ),
          ),
        ),
      ),
    )

pub act-returns-in-Mask-clause-done : goal.act-returns-in-Mask-clause-done
unfolding plain_stmt
act-returns-in-Mask-clause-done t c =
    λ sends.
    let below = mask_part (functions_of c.args.functions.now) c.args.known 128 c.args.t.now c.in-Mask.slot c.in-Mask.e
    c.in-Mask.is c.requires.formed in
    has_done (stmt_done (serves (functions_of c.args.functions.now) c.args.known) (plain_stmt c.args.t.now)
    (state_of c.args.frame.now c.args.memory.now sends)) (slice_set c.args.frame.now c.in-Mask.slot
    c.value-given.result) c.args.memory.now sends
    (ap (λ x. stmt_done (serves (functions_of c.args.functions.now) c.args.known) (plain_stmt x)
    (state_of c.args.frame.now c.args.memory.now sends)) c.in-Mask.is
    ∙ ap (λ v. with_slot c.in-Mask.slot v (state_of c.args.frame.now c.args.memory.now sends)) (sym
    (c.value-given.ensures sends))
    ∙ ap (λ words. let s : State = record { frame = words; world = shown c.args.memory.now sends } in s)
    (sym (words_put c.args.frame.now c.in-Mask.slot c.value-given.result (omega (arith, below, c.requires.frame)))))

pub act-returns-in-Write-clause-done : goal.act-returns-in-Write-clause-done
unfolding plain_stmt
act-returns-in-Write-clause-done t c =
    λ sends. has_done (stmt_done (serves (functions_of c.args.functions.now) c.args.known) (plain_stmt c.args.t.now)
    (state_of c.args.frame.now c.args.memory.now sends)) c.write.new.frame c.write.new.memory sends
    (ap (λ x. stmt_done (serves (functions_of c.args.functions.now) c.args.known) (plain_stmt x)
    (state_of c.args.frame.now c.args.memory.now sends)) c.in-Write.is ∙ c.write.ensures.done sends)

pub act-returns-in-Call-clause-done : goal.act-returns-in-Call-clause-done
unfolding plain_stmt
act-returns-in-Call-clause-done t c =
    λ sends.
    let given = ((serves (functions_of c.args.functions.now) c.args.known) c.in-Call.function
    (slice_index c.args.frame.now c.in-Call.mask) (args_worth (map plain_sp c.in-Call.args)
    (state_of c.args.frame.now c.args.memory.now sends)) (shown c.args.memory.now sends)) in
    let run = c.called-given.ensures.given sends in
    let args = ap (λ as'. (serves (functions_of c.args.functions.now) c.args.known) c.in-Call.function
    (slice_index c.args.frame.now c.in-Call.mask) (args_worth (map plain_sp as')
    (state_of c.args.frame.now c.args.memory.now sends)) (shown c.args.memory.now sends))
    (sym c.as_slice.ensures) in
    let under = ap (λ n. (serves (functions_of c.args.functions.now) c.args.known) c.in-Call.function n
    (args_worth (map plain_sp c.as_slice.result.now) (state_of c.args.frame.now c.args.memory.now sends))
    (shown c.args.memory.now sends)) (sym c.slot_word-under.ensures) in
    let is = args ∙ under ∙ run.gives in
    let after = ((serves (functions_of c.args.functions.now) c.args.known) c.in-Call.function c.slot_word-under.result
    (args_worth (map plain_sp c.as_slice.result.now) (state_of c.args.frame.now c.args.memory.now sends))
    (shown c.args.memory.now sends)).world.sends in
    has_done (stmt_done (serves (functions_of c.args.functions.now) c.args.known) (plain_stmt c.args.t.now)
    (state_of c.args.frame.now c.args.memory.now sends)) c.set_result.new.frame c.called-given.new.memory after
    (ap (λ x. stmt_done (serves (functions_of c.args.functions.now) c.args.known) (plain_stmt x)
    (state_of c.args.frame.now c.args.memory.now sends)) c.in-Call.is
    ∙ ap (call_done c.in-Call.mask c.in-Call.result_slot (state_of c.args.frame.now c.args.memory.now sends)) is
    ∙ c.set_result.ensures (shown c.called-given.new.memory after))

pub act-returns-in-Send-clause-done : goal.act-returns-in-Send-clause-done
unfolding plain_stmt
act-returns-in-Send-clause-done t c =
    λ sends.
    let s : State = (state_of c.args.frame.now c.args.memory.now sends) in
    along (stmt_done (serves (functions_of c.args.functions.now) c.args.known) (plain_stmt c.args.t.now)
    (state_of c.args.frame.now c.args.memory.now sends))
    (stmt_done (serves (functions_of c.args.functions.now) c.args.known)
    (plain_stmt (Send c.in-Send.mask c.in-Send.core c.in-Send.source c.in-Send.target c.in-Send.count))
    (state_of c.args.frame.now c.args.memory.now sends)) c.args.frame.now c.args.memory.now
    (ap (λ x. stmt_done (serves (functions_of c.args.functions.now) c.args.known) (plain_stmt x)
    (state_of c.args.frame.now c.args.memory.now sends)) c.in-Send.is)
    (sent c.in-Send.mask c.in-Send.core (worth (plain_sp c.in-Send.source) s) (worth (plain_sp c.in-Send.target) s)
    (worth (plain_sp c.in-Send.count) s) c.args.frame.now c.args.memory.now sends)

pub act-returns-in-Overrun-clause-done : goal.act-returns-in-Overrun-clause-done
unfolding plain_stmt
act-returns-in-Overrun-clause-done t c =
    λ sends. has_done (stmt_done (serves (functions_of c.args.functions.now) c.args.known) (plain_stmt c.args.t.now)
    (state_of c.args.frame.now c.args.memory.now sends)) c.args.frame.now c.overrun.new.memory sends
    (ap (λ x. stmt_done (serves (functions_of c.args.functions.now) c.args.known) (plain_stmt x)
    (state_of c.args.frame.now c.args.memory.now sends)) c.in-Overrun.is ∙ c.overrun.ensures.done sends)

pub act-returns-in-Iterations-clause-done : goal.act-returns-in-Iterations-clause-done
act-returns-in-Iterations-clause-done t c =
    λ sends.
    let iterated : List SpStmt → State = λ ts. times c.in-Iterations.count (stmts_done
    (serves (functions_of c.args.functions.now) c.args.known) (stmts_of ts))
    (state_of c.args.frame.now c.args.memory.now sends) in
    along (stmt_done (serves (functions_of c.args.functions.now) c.args.known) (plain_stmt c.args.t.now)
    (state_of c.args.frame.now c.args.memory.now sends)) (iterated c.as_slice-in-Iterations.result.now)
    c.iterations.new.frame c.iterations.new.memory
    (ap (λ x. stmt_done (serves (functions_of c.args.functions.now) c.args.known) (plain_stmt x)
    (state_of c.args.frame.now c.args.memory.now sends)) c.in-Iterations.is
    ∙ ap (λ p. stmt_done (serves (functions_of c.args.functions.now) c.args.known) p
    (state_of c.args.frame.now c.args.memory.now sends))
    (plain_iterations c.in-Iterations.count c.in-Iterations.body)
    ∙ ap iterated (sym c.as_slice-in-Iterations.ensures))
    (c.iterations.ensures.done sends)

pub all-loop-t-init : goal.all-loop-t-init
all-loop-t-init t c =
    record {
      reaches = λ sends. reaches_first (stmts_done (serves (functions_of c.args.functions.now) c.args.known)
          (stmts_of c.args.stmts.now)) c.args.frame.now c.args.memory.now sends;
      rooms = c.requires.rooms;
    }

pub all-loop-t-preserved : goal.all-loop-t-preserved
all-loop-t-preserved t c =
    record {
      reaches = λ sends. next_stmt (serves (functions_of c.args.functions.now) c.args.known)
          (stmts_done (serves (functions_of c.args.functions.now) c.args.known) (stmts_of c.args.stmts.now)
          (state_of c.args.frame.now c.args.memory.now sends)) (plain_stmt c.t-item.result)
          (stmts_of (drop (c.loop-t.t-index + 1) c.args.stmts.now)) c.loop-t.frame c.loop-t.memory
          c.act.new.frame c.act.new.memory
          (reach_item (serves (functions_of c.args.functions.now) c.args.known)
          (stmts_done (serves (functions_of c.args.functions.now) c.args.known) (stmts_of c.args.stmts.now)
          (state_of c.args.frame.now c.args.memory.now sends)) c.args.stmts.now c.loop-t.t-index c.t-item.result
          c.loop-t.frame c.loop-t.memory (omega arith) c.t-item.is (c.loop-t.invariant.reaches sends))
          c.act.ensures.done;
      rooms = c.act.ensures.rooms;
    }

pub all-returns-clause-done : goal.all-returns-clause-done
all-returns-clause-done t c =
    λ sends. at_the_end (serves (functions_of c.args.functions.now) c.args.known)
    (stmts_done (serves (functions_of c.args.functions.now) c.args.known) (stmts_of c.args.stmts.now)
    (state_of c.args.frame.now c.args.memory.now sends)) c.args.stmts.now c.loop-t.t-index c.loop-t.frame
    c.loop-t.memory (omega arith) (c.loop-t.invariant.reaches sends)

pub iterations-loop-iterated-init : goal.iterations-loop-iterated-init
iterations-loop-iterated-init t c =
    let none : c.args.count ≡ c.args.count - 0 = omega arith in
    record {
      reaches = λ sends. another_iteration (stmts_done (serves (functions_of c.args.functions.now) c.args.known)
          (stmts_of c.args.body.now))
          (times c.args.count (stmts_done (serves (functions_of c.args.functions.now) c.args.known)
          (stmts_of c.args.body.now)) (state_of c.args.frame.now c.args.memory.now sends)) c.args.count
          (c.args.count - 0) c.args.frame.now c.args.memory.now none
          (reaches_first (times c.args.count (stmts_done (serves (functions_of c.args.functions.now) c.args.known)
          (stmts_of c.args.body.now))) c.args.frame.now c.args.memory.now sends);
      rooms = c.requires.rooms;
    }

pub iterations-loop-iterated-preserved : goal.iterations-loop-iterated-preserved
iterations-loop-iterated-preserved t c =
    let left = c.args.count - (c.loop-iterated.iterated + 1) in
    let more : c.args.count - c.loop-iterated.iterated ≡ suc left = omega arith in
    record {
      reaches = λ sends. next_iteration (stmts_done (serves (functions_of c.args.functions.now) c.args.known)
          (stmts_of c.args.body.now))
          (times c.args.count (stmts_done (serves (functions_of c.args.functions.now) c.args.known)
          (stmts_of c.args.body.now)) (state_of c.args.frame.now c.args.memory.now sends)) left
          c.loop-iterated.frame c.loop-iterated.memory c.all.new.frame c.all.new.memory
          (another_iteration (stmts_done (serves (functions_of c.args.functions.now) c.args.known)
          (stmts_of c.args.body.now))
          (times c.args.count (stmts_done (serves (functions_of c.args.functions.now) c.args.known)
          (stmts_of c.args.body.now)) (state_of c.args.frame.now c.args.memory.now sends))
          (c.args.count - c.loop-iterated.iterated) (suc left) c.loop-iterated.frame
          c.loop-iterated.memory more (c.loop-iterated.invariant.reaches sends))
          c.all.ensures.done;
      rooms = c.all.ensures.rooms;
    }

pub iterations-returns-clause-done : goal.iterations-returns-clause-done
iterations-returns-clause-done t c =
    let none : c.args.count - c.loop-iterated.iterated ≡ zero = omega arith in
    λ sends. all_iterated (stmts_done (serves (functions_of c.args.functions.now) c.args.known)
    (stmts_of c.args.body.now))
    (times c.args.count (stmts_done (serves (functions_of c.args.functions.now) c.args.known)
    (stmts_of c.args.body.now)) (state_of c.args.frame.now c.args.memory.now sends)) c.loop-iterated.frame
    c.loop-iterated.memory
    (another_iteration (stmts_done (serves (functions_of c.args.functions.now) c.args.known) (stmts_of c.args.body.now))
    (times c.args.count (stmts_done (serves (functions_of c.args.functions.now) c.args.known)
    (stmts_of c.args.body.now)) (state_of c.args.frame.now c.args.memory.now sends))
    (c.args.count - c.loop-iterated.iterated) zero c.loop-iterated.frame c.loop-iterated.memory none
    (c.loop-iterated.invariant.reaches sends))

pub called-returns-clause-given : goal.called-returns-clause-given
called-returns-clause-given t c =
    λ sends.
    let is = function_at c.args.functions.now c.args.function c.index-functions-function.result
    (omega arith) c.index-functions-function.is in
    let body = ap (λ ts. stmts_done (serves (functions_of c.args.functions.now) c.args.function) (stmts_of ts)
    (state_of c.begin_frame.new.own c.args.memory.now sends)) (sym c.as_slice.ensures) in
    let done = along (stmts_done (serves (functions_of c.args.functions.now) c.args.function)
    (stmts_of c.index-functions-function.result.body) (state_of c.begin_frame.new.own c.args.memory.now sends))
    (stmts_done (serves (functions_of c.args.functions.now) c.args.function) (stmts_of c.as_slice.result.now)
    (state_of c.begin_frame.new.own c.args.memory.now sends))
    c.all.new.frame c.all.new.memory body (c.all.ensures.done sends) in
    let given = body_given (functions_of c.args.functions.now) c.args.function c.args.known c.args.under
    (args_worth (map plain_sp c.args.args.now) (state_of c.args.frame.now c.args.memory.now sends))
    c.begin_frame.new.own c.args.memory.now sends (plain_function c.index-functions-function.result)
    c.all.new.frame c.all.new.memory (omega arith) is (c.begin_frame.ensures sends) done in
    subst (λ n. HasGiven (serves (functions_of c.args.functions.now) c.args.known c.args.function c.args.under
    (args_worth (map plain_sp c.args.args.now) (state_of c.args.frame.now c.args.memory.now sends))
    (shown c.args.memory.now sends)) n c.all.new.memory) (sym c.slot_word.ensures) given
