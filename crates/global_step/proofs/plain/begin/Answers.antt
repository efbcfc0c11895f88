use Rattle.std.proofs.Common.{[], ◌∙◌, arith}
use Rattle.std.proofs.Math.Seq.{map-set_same}
use Rattle.patmos_core.specs.Position.{place_of, room_of}
use Rattle.global_step.specs.PlainRun.{IsReady, HasNext}
use Rattle.global_step.proofs.PlainEvery.{every_from, asked_more}
use Rattle.global_step.proofs.plain.begin.Goals as goal

pub loop-k-preserved : goal.loop-k-preserved
loop-k-preserved c = record {
  places = map-set_same place_of c.loop-k.cores c.loop-k.k c.ask.new.core c.index-cores-k.result c.ask.ensures.place
      ∙ c.loop-k.invariant.places;
  rooms = map-set_same room_of c.loop-k.cores c.loop-k.k c.ask.new.core c.index-cores-k.result c.ask.ensures.room
      ∙ c.loop-k.invariant.rooms;
  asked = asked_more c.args.limit c.loop-k.k c.args.cores.now c.loop-k.cores c.index-cores-k.result c.ask.new.core
      (omega arith) c.loop-k.auto.cores c.ask.ensures.ready c.ask.ensures.next c.loop-k.invariant.asked;
}

pub returns-clause-ready : goal.returns-clause-ready
returns-clause-ready c = every_from (λ k. IsReady c.args.limit) c.loop-k.cores
    (λ k d low. c.loop-k.invariant.asked.ready k d (omega (arith, low)))

pub returns-clause-next : goal.returns-clause-next
returns-clause-next c = λ x begins. every_from (λ k. HasNext (x k) [] c.args.limit) c.loop-k.cores
    (λ k d low. c.loop-k.invariant.asked.next x begins k d (omega (arith, low)))
