use Rattle.std.proofs.Common.{rules, ◌≡◌, ◌++◌, ◌∷◌, [], length, sym, ap, ◌∙◌, subst, arith, append-nil, All}
use Rattle.std.specs.List.{flat_map}
use Rattle.std.proofs.lemmas.List.{length-append}
use Rattle.std.proofs.lemmas.List.Elements.{All-head}
use Rattle.core_worker.specs.Worker.{IsOn}
use Rattle.tc_run.specs.Carried.{Carries, workers_of}
use Rattle.tc_run.proofs.Lists.{all_prefix, all_back}
use Rattle.tc_run.proofs.Carried.{flat_last, later_carried, carried_on, last_carried}
use Rattle.tc_run.proofs.crew.Crew.joined.Goals as goal

pub loop-handle-preserved : goal.loop-handle-preserved
loop-handle-preserved g c =
    let was = c.loop-handle.invariant in let here =
    c.loop-handle.here.items in let h = c.in-Some.handle in let moved = h.promise.was.value.items in
    let rest = c.pop.new.self.items in let back = c.join.result.items in let all = c.gather.new.all.items in
    let before = flat_map (λ h. h.promise.was.value.items) c.loop-handle.away.items in let left =
    flat_map (λ h. h.promise.was.value.items) rest in
    let is = flat_last (λ h. h.promise.was.value.items) c.loop-handle.away.items rest h c.in-Some.ensures.items in
    record {
      crew = λ board on.
          all_prefix (λ h. h.promise.board.value ≡ board) rest (h ∷ [])
          (subst (All (λ h. h.promise.board.value ≡ board)) c.in-Some.ensures.items (was.crew board on));
      carries = λ board on.
          let same : h.promise.board.value ≡ board =
          All-head (λ h. h.promise.board.value ≡ board) h []
          (all_back (λ h. h.promise.board.value ≡ board) rest (h ∷ [])
          (subst (All (λ h. h.promise.board.value ≡ board)) c.in-Some.ensures.items (was.crew board on))) in
          carried_on board (workers_of c.args.self) (here ++ before) (all ++ left) (was.carries board on)
          (subst (λ ws. Carries board (here ++ ws) (all ++ left)) (sym is)
          (last_carried board here left moved back all c.gather.ensures.items
          (later_carried board moved back c.join.ensures.1 (subst (λ b. All (IsOn b) back) same c.join.ensures.0))));
      room = omega (
        arith,
        was.room,
        length-append here before,
        ap length is ∙ length-append left moved,
        length-append all left,
        ap length c.gather.ensures.items ∙ length-append here back,
        c.join.ensures.1.count,
        c.gather.ensures.room,
      );
    }

pub returns : goal.returns
returns g c =
    let none : c.loop-handle.away.items ≡ [] = search rules in
    record {
      carries = λ board on.
          subst (Carries board (workers_of c.args.self))
          (ap (λ hs. c.loop-handle.here.items ++ flat_map (λ h. h.promise.was.value.items) hs) none
          ∙ append-nil c.loop-handle.here.items)
          (c.loop-handle.invariant.carries board on);
    }
