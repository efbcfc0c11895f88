use Rattle.std.proofs.Common.{◌≡◌, ℕ, slice_index}
use Rattle.std.specs.Prelude.{vec_len}
use Rattle.sp_tree.specs.Begun.{laid}
use Rattle.sp_tree.proofs.outcome.lay.Given as goal

abbrev pub invariant-loop-number : goal.invariant-loop-number
invariant-loop-number l = record {
  words : (k : ℕ) → slice_index l.into.items k ≡ laid l.at l.number l.words (slice_index l.initial.into.items) k;
  len : vec_len l.into ≡ vec_len l.initial.into;
}
