use Rattle.std.proofs.Common.{◌<◌, Bool, true, false, true≢false, IsTrue, ◌&&◌, length, refl, sym, arith}
use Rattle.std.proofs.lemmas.List.Elements.{All-set, AllWithin-more_set}
use Rattle.core_worker.specs.Worker.{IsOn, IsDone, HasPieces}
use Rattle.core_worker.proofs.Several.{all_set}
use Rattle.core_worker.proofs.rounds.round.Goals as goal

both_true : (a b : Bool) → IsTrue (a && b) → IsTrue a × IsTrue b
both_true true b h = (refl, h)
both_true false b h = absurd (true≢false (sym h))

pub loop-k-preserved : goal.loop-k-preserved
loop-k-preserved g c =
    let ws = c.loop-k.workers in
    let k = c.loop-k.k in
    let w' = c.advance_on-turn.new.self in
    let below : k < length ws = omega arith in
    record {
      of = All-set (IsOn c.args.board.now) ws k w' c.advance_on-turn.ensures.of c.loop-k.invariant.of;
      later = all_set c.args.workers.now ws k c.index-workers-k.result w' c.loop-k.invariant.later below
          c.advance_on-turn.ensures.later;
      pieces = AllWithin-more_set ws k w' below HasPieces c.loop-k.invariant.pieces c.advance_on-turn.ensures.pieces;
      ended = λ t. let e = both_true c.loop-k.ended c.has_ended-ended.result t in AllWithin-more_set ws k w' below
          IsDone (c.loop-k.invariant.ended e.0) (c.advance_on-turn.ensures.ended (c.has_ended-ended.ensures.0 e.1));
    }
