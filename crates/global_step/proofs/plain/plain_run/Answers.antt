use Rattle.std.proofs.Common.{◌≤◌, length, get_or, slice_index, refl, sym, subst, ◌∙◌, arith}
use Rattle.std.proofs.Math.Seq.{map-set_same}
use Rattle.argo_ni.specs.Packet.{comm_word}
use Rattle.patmos_core.specs.Position.{waiting_of, place_of, room_of}
use Rattle.global_step.specs.PlainRun.{IsSeated, IsReady}
use Rattle.global_step.proofs.PlainEvery.{every_at, every_set}
use Rattle.global_step.proofs.PlainCourse.{followed_first, followed_made, followed_words, followed_cores, seated_still, fewer_left, none_wait, all_through}
use Rattle.global_step.proofs.plain.plain_run.Goals as goal

pub loop-k-init : goal.loop-k-init
loop-k-init c = record {
  ready = c.begin.ensures.ready;
  places = c.begin.ensures.places;
  rooms = c.begin.ensures.rooms;
  followed = λ x begins. followed_first (length c.args.cores.now) c.args.limit x c.begin.new.cores c.args.words.now
      c.requires.zero (c.begin.ensures.next x begins);
}

pub make-requires-clause-ready : goal.make-requires-clause-ready
make-requires-clause-ready c = every_at (λ k. IsReady c.args.limit) c.loop-k.cores c.in-Some.k c.index-cores-k.result
    c.loop-k.invariant.ready c.in-Some.ensures.within

pub make-requires-clause-words : goal.make-requires-clause-words
make-requires-clause-words c =
    let n = length c.args.cores.now in
    let seat : IsSeated n c.in-Some.k (get_or c.loop-k.cores c.in-Some.k c.index-cores-k.result) =
    every_at (IsSeated n) c.loop-k.cores c.in-Some.k c.index-cores-k.result
    (seated_still n c.loop-k.cores c.args.cores.now c.loop-k.invariant.places c.requires.seated)
    c.in-Some.ensures.within in
    subst (λ m. comm_word m 0 ≤ length c.loop-k.words) (sym seat.cores)
    (omega (arith, c.requires.words, c.loop-k.auto.words))

pub loop-k-smaller : goal.loop-k-smaller
loop-k-smaller c =
    let old = get_or c.loop-k.cores c.in-Some.k c.index-cores-k.result in
    let ready : IsReady c.args.limit old = every_at (λ k. IsReady c.args.limit) c.loop-k.cores c.in-Some.k
    c.index-cores-k.result c.loop-k.invariant.ready c.in-Some.ensures.within in
    fewer_left c.args.limit c.loop-k.cores c.in-Some.k c.index-cores-k.result c.make.new.core c.in-Some.ensures.within
    c.make.ensures.parts (ready.before (c.in-Some.ensures.waiting c.index-cores-k.result))

pub loop-k-preserved : goal.loop-k-preserved
loop-k-preserved c =
    let n = length c.args.cores.now in
    let old = get_or c.loop-k.cores c.in-Some.k c.index-cores-k.result in
    let ready : IsReady c.args.limit old = every_at (λ k. IsReady c.args.limit) c.loop-k.cores c.in-Some.k
    c.index-cores-k.result c.loop-k.invariant.ready c.in-Some.ensures.within in
    let seat : IsSeated n c.in-Some.k old =
    every_at (IsSeated n) c.loop-k.cores c.in-Some.k c.index-cores-k.result
    (seated_still n c.loop-k.cores c.args.cores.now c.loop-k.invariant.places c.requires.seated)
    c.in-Some.ensures.within in
    record {
      ready = every_set (λ k. IsReady c.args.limit) (λ k. IsReady c.args.limit) c.loop-k.cores c.in-Some.k
          c.make.new.core c.in-Some.ensures.within c.loop-k.invariant.ready c.make.ensures.ready
          (λ j o low is other h. h);
      places = map-set_same place_of c.loop-k.cores c.in-Some.k c.make.new.core c.index-cores-k.result
          c.make.ensures.place ∙ c.loop-k.invariant.places;
      rooms = map-set_same room_of c.loop-k.cores c.in-Some.k c.make.new.core c.index-cores-k.result c.make.ensures.room
          ∙ c.loop-k.invariant.rooms;
      followed = λ x begins.
          followed_made n c.args.limit x c.loop-k.cores c.in-Some.k c.index-cores-k.result c.make.new.core
          (slice_index c.loop-k.words) (slice_index c.make.new.words)
          (waiting_of old) refl (c.in-Some.ensures.waiting c.index-cores-k.result) c.in-Some.ensures.within seat
          ready.fits c.make.ensures.sized c.make.ensures.next c.make.ensures.words
          c.in-Some.ensures.least (c.loop-k.invariant.followed x begins);
    }

pub returns-clause-stands : goal.returns-clause-stands
returns-clause-stands c = λ x begins.
    let n = length c.args.cores.now in
    followed_cores n c.args.limit x c.loop-k.cores (slice_index c.loop-k.words) c.requires.some (c.loop-k.auto.cores
    ∙ c.begin.auto.cores)
    (seated_still n c.loop-k.cores c.args.cores.now c.loop-k.invariant.places c.requires.seated)
    (none_wait c.loop-k.cores (c.in_default.ensures.none refl)) (c.loop-k.invariant.followed x begins)

pub returns-clause-words : goal.returns-clause-words
returns-clause-words c = λ x begins.
    let n = length c.args.cores.now in
    followed_words n c.args.limit x c.loop-k.cores (slice_index c.loop-k.words) c.requires.some (c.loop-k.auto.cores
    ∙ c.begin.auto.cores)
    (seated_still n c.loop-k.cores c.args.cores.now c.loop-k.invariant.places c.requires.seated)
    (none_wait c.loop-k.cores (c.in_default.ensures.none refl)) (c.loop-k.invariant.followed x begins)

pub returns-clause-through : goal.returns-clause-through
returns-clause-through c =
    all_through c.args.limit c.loop-k.cores c.loop-k.invariant.ready (c.in_default.ensures.none refl)

pub returns-clause-waiting : goal.returns-clause-waiting
returns-clause-waiting c = none_wait c.loop-k.cores (c.in_default.ensures.none refl)
