use Rattle.std.proofs.Common.{◌≡◌, ℕ, length, map, slice_index}
use Rattle.patmos_model.specs.State.{Core}
use Rattle.patmos_core.specs.Position.{place_of, room_of}
use Rattle.global_step.specs.PlainRun.{Every, Begins, IsReady}
use Rattle.global_step.proofs.PlainCourse.{Followed, parts_left}
use Rattle.global_step.proofs.plain.plain_run.Given as goal

abbrev pub invariant-loop-k : goal.invariant-loop-k
invariant-loop-k l = record {
  ready : Every (λ k. IsReady l.limit) l.cores;
  places : map place_of l.cores ≡ map place_of l.fn.cores;
  rooms : map room_of l.cores ≡ map room_of l.fn.cores;
  followed : (x : ℕ → Core) → Begins x l.fn.cores → Followed (length l.fn.cores) l.limit x l.cores
      (slice_index l.words);
}

abbrev pub decreases-loop-k : goal.decreases-loop-k
decreases-loop-k l = parts_left l.limit l.cores
