use Rattle.std.proofs.Common.{◌≡◌, map}
use Rattle.patmos_core.specs.Position.{place_of, room_of}
use Rattle.global_step.proofs.PlainEvery.{Asked}
use Rattle.global_step.proofs.plain.begin.Given as goal

abbrev pub invariant-loop-k : goal.invariant-loop-k
invariant-loop-k l = record {
  places : map place_of l.cores ≡ map place_of l.initial.cores;
  rooms : map room_of l.cores ≡ map room_of l.initial.cores;
  asked : Asked l.limit l.k l.initial.cores l.cores;
}
