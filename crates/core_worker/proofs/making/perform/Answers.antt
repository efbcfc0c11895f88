use Rattle.std.proofs.Common.{◌≡◌, ℕ, ◌+◌, ◌++◌, false, length, take, drop, sym, ap, subst, ◌∙◌, arith}
use Rattle.std.proofs.lemmas.List.{length-set}
use Rattle.slot_arbiter.specs.declared.event.WordOp.{WordOp}
use Rattle.shared_order.specs.Event.{filled}
use Rattle.clock_board.specs.View.{own, todo, IsGiven}
use Rattle.clock_board.specs.Board.{PassFace, IsPassOf}
use Rattle.core_worker.specs.Runs.{with_made}
use Rattle.core_worker.proofs.Performing.{IsPartlyMade, store_done, load_done, all_done, same_made}
use Rattle.core_worker.proofs.making.perform.Goals as goal
use Rattle.core_worker.proofs.making.perform.Goals.{then-op, else-op}

abbrev none : WordOp
none = record { word = 0; write = false; value = 0 }

pub loop-op-preserved : goal.loop-op-preserved
loop-op-preserved g c =
    let s : ℕ = c.args.event.now.stamp in
    let ops = c.split_at.result.0.now in
    let rest = drop (c.loop-op.op-index + 1) ops in
    let v = c.args.pass.now.view in
    let i : ℕ = c.loop-op.op-index in
    let h = c.loop-op.invariant in
    elim c.if-op.branch [
      | then-op w ↦ record {
        room = ap length w.values-is ∙ h.room;
        loads = omega arith;
        of = subst (λ (p : PassFace). IsPassOf c.args.board.now p) (sym w.pass-is) w.store.ensures.of;
        given = subst (λ (p : PassFace). IsGiven p.view) (sym w.pass-is) w.store.ensures.given;
        same = subst (λ (p : PassFace). p.view ≡ with_made v (own p.view).made) (sym w.pass-is)
            (same_made v c.loop-op.pass.view w.store.new.pass.view _ h.same w.store.ensures.made);
        made = subst (λ (p : PassFace). IsPartlyMade s ops rest (own v).made (todo v) (own p.view).made (todo p.view)
            (take c.if-op.loads c.if-op.values)) (sym w.pass-is)
            (subst (IsPartlyMade s ops rest (own v).made (todo v) (own w.store.new.pass.view).made
            (todo w.store.new.pass.view)) (λ k. take (sym w.loads-is k) (sym w.values-is k))
            (store_done s ops i none (own v).made (todo v) (own c.loop-op.pass.view).made (todo c.loop-op.pass.view)
            (take c.loop-op.loads c.loop-op.values) c.loop-op-test.true h.made
            (own w.store.new.pass.view).made (todo w.store.new.pass.view) w.if-op.true
            (ap (λ u. (own u).made) w.store.ensures.made) w.store.ensures.left));
      }
      | else-op w ↦ record {
        room = ap length w.values-is ∙ length-set c.loop-op.values c.loop-op.loads w.load.result ∙ h.room;
        loads = omega arith;
        of = subst (λ (p : PassFace). IsPassOf c.args.board.now p) (sym w.pass-is) w.load.ensures.of;
        given = subst (λ (p : PassFace). IsGiven p.view) (sym w.pass-is) w.load.ensures.given;
        same = subst (λ (p : PassFace). p.view ≡ with_made v (own p.view).made) (sym w.pass-is)
            (same_made v c.loop-op.pass.view w.load.new.pass.view _ h.same w.load.ensures.made);
        made = subst (λ (p : PassFace). IsPartlyMade s ops rest (own v).made (todo v) (own p.view).made (todo p.view)
            (take c.if-op.loads c.if-op.values)) (sym w.pass-is)
            (subst (λ j. IsPartlyMade s ops rest (own v).made (todo v) (own w.load.new.pass.view).made
            (todo w.load.new.pass.view) (take j c.if-op.values)) (sym w.loads-is)
            (load_done s ops i none (own v).made (todo v) (own c.loop-op.pass.view).made (todo c.loop-op.pass.view)
            c.loop-op.values c.if-op.values c.loop-op.loads w.load.result c.loop-op-test.true h.made
            (own w.load.new.pass.view).made (todo w.load.new.pass.view) w.if-op.false
            (ap (λ u. (own u).made) w.load.ensures.made) w.load.ensures.left (omega arith) w.values-is));
      }
    ]

pub returns-clause-made : goal.returns-clause-made
returns-clause-made g c =
    let all = all_done c.args.event.now.stamp c.split_at.result.0.now (own c.args.pass.now.view).made
    (todo c.args.pass.now.view) (own c.loop-op.pass.view).made (todo c.loop-op.pass.view)
    c.loop-op.values c.loop-op.op-index c.loop-op.loads c.loop-op-test.false c.loop-op.invariant.made in
    all.0 ∙ ap (λ l. (own c.args.pass.now.view).made ++ filled c.args.event.now.stamp l c.loop-op.values)
    c.split_at.ensures.front

pub returns-clause-left : goal.returns-clause-left
returns-clause-left g c =
    let all = all_done c.args.event.now.stamp c.split_at.result.0.now (own c.args.pass.now.view).made
    (todo c.args.pass.now.view) (own c.loop-op.pass.view).made (todo c.loop-op.pass.view)
    c.loop-op.values c.loop-op.op-index c.loop-op.loads c.loop-op-test.false c.loop-op.invariant.made in
    all.1 ∙ ap (λ l. filled c.args.event.now.stamp l c.loop-op.values ++ todo c.loop-op.pass.view)
    c.split_at.ensures.front
