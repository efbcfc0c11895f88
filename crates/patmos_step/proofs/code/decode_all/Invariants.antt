use Rattle.std.proofs.Common.{◌≡◌, ℕ, ◌+◌, ◌<◌, ◌≤◌, length}
use Rattle.std.specs.Prelude.{slice_index, slice_index_or, vec_capacity}
use Rattle.patmos_step.specs.declared.code.Decoded.{Decoded}
use Rattle.patmos_step.specs.Code.{decoded}
use Rattle.patmos_step.proofs.code.decode_all.Given as goal

abbrev pub invariant-loop-at : goal.invariant-loop-at
invariant-loop-at l = record {
  count : length l.code.items ≡ l.at;
  each : (k : ℕ) (d : Decoded) → k < l.at → slice_index_or l.code.items k d
      ≡ decoded (slice_index l.words k) (slice_index l.words (k + 1));
  room : length l.words ≤ vec_capacity l.code;
}
