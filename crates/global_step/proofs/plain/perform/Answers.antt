use Rattle.std.proofs.Common.{◌≡◌, ℕ, ◌+◌, ◌<◌, subst, sym, ap, ◌∙◌, take, drop, length, slice_index, get_or, false, arith}
use Rattle.std.specs.List.{AllByRecursion as Each}
use Rattle.slot_arbiter.specs.declared.event.WordOp.{WordOp}
use Rattle.shared_order.specs.Event.{filled}
use Rattle.std.proofs.lemmas.List.{length-set}
use Rattle.shared_order.specs.Words.{after}
use Rattle.shared_order.specs.Program.{played}
use Rattle.global_step.specs.PlainEvent.{accesses}
use Rattle.global_step.proofs.PlainPerform.{IsPartlyMade, store_next, load_next, made_whole}
use Rattle.global_step.proofs.plain.perform.Goals as goal
use Rattle.global_step.proofs.plain.perform.Goals.{then-op, else-op}
use Rattle.shared_order.proofs.Lists.{each_at}

abbrev none : WordOp
none = record { word = 0; write = false; value = 0 }

pub loop-op-preserved : goal.loop-op-preserved
loop-op-preserved c =
    let ops = c.split_at.result.0.now in
    elim c.if-op.branch [
      | then-op w ↦ record {
        room = ap length w.values-is ∙ c.loop-op.invariant.room;
        loads = omega arith;
        made =
            let within : (get_or ops c.loop-op.op-index none).word < length c.loop-op.words =
            subst (λ n. (get_or ops c.loop-op.op-index none).word < n) (sym c.loop-op.auto.words)
            (each_at (λ o. o.word < length c.args.words.now) ops c.loop-op.op-index none
            (subst (λ l. Each (λ o. o.word < length c.args.words.now) l) (sym c.split_at.ensures.front)
            c.requires.within) c.loop-op-test.true) in
            subst (λ l. IsPartlyMade c.args.event.now.stamp ops (drop (c.loop-op.op-index + 1) ops)
            (slice_index c.args.words.now) (slice_index c.if-op.words) l)
            (λ k. take (sym w.loads-is k) (sym w.values-is k))
            (store_next c.args.event.now.stamp ops (slice_index c.args.words.now) c.loop-op.op-index none
            c.loop-op.words c.if-op.words (take c.loop-op.loads c.loop-op.values)
            c.loop-op-test.true w.if-op.true within w.words-is c.loop-op.invariant.made);
      }
      | else-op w ↦ record {
        room = ap length w.values-is ∙ length-set c.loop-op.values c.loop-op.loads (slice_index c.loop-op.words
            (get_or ops c.loop-op.op-index none).word) ∙ c.loop-op.invariant.room;
        loads = omega arith;
        made =
            subst (λ j. IsPartlyMade c.args.event.now.stamp ops (drop (c.loop-op.op-index + 1) ops)
            (slice_index c.args.words.now) (slice_index c.if-op.words) (take j c.if-op.values)) (sym w.loads-is)
            (subst (λ l. IsPartlyMade c.args.event.now.stamp ops (drop (c.loop-op.op-index + 1) ops)
            (slice_index c.args.words.now) (slice_index l) (take (c.loop-op.loads + 1) c.if-op.values))
            (sym w.words-is)
            (load_next c.args.event.now.stamp ops (slice_index c.args.words.now) c.loop-op.op-index none c.loop-op.words
            c.loop-op.values c.if-op.values c.loop-op.loads
            c.loop-op-test.true w.if-op.false (omega arith) w.values-is c.loop-op.invariant.made));
      }
    ]

pub returns-clause-asked : goal.returns-clause-asked
returns-clause-asked c =
    let whole = made_whole c.args.event.now.stamp c.split_at.result.0.now c.loop-op.words c.loop-op.values
    (slice_index c.args.words.now) c.loop-op.op-index c.loop-op.loads c.loop-op-test.false
    c.loop-op.invariant.made in
    subst (λ l. filled c.args.event.now.stamp l c.loop-op.values ≡ (played c.args.event.now.stamp (accesses l)
    (slice_index c.args.words.now)).ops) c.split_at.ensures.front whole.0

pub returns-clause-words : goal.returns-clause-words
returns-clause-words c =
    let whole = made_whole c.args.event.now.stamp c.split_at.result.0.now c.loop-op.words c.loop-op.values
    (slice_index c.args.words.now) c.loop-op.op-index c.loop-op.loads c.loop-op-test.false
    c.loop-op.invariant.made in
    subst (λ l. (w : ℕ) → slice_index c.loop-op.words w ≡ after (played c.args.event.now.stamp (accesses l)
    (slice_index c.args.words.now)).ops (slice_index c.args.words.now) w) c.split_at.ensures.front whole.1
