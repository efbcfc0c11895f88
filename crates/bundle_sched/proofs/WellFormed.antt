-- A scheduled shape is well formed where the shape was, and its delay slots did nothing.
use Rattle.std.proofs.Common.{◌≡◌, ℕ, ◌<◌, true, [], length, slice_index_or, ap, ◌∙◌, arith}
use Rattle.std.proofs.lemmas.List.{length-map}
use Rattle.sp_shape.specs.Bundles.{parts_idle}
use Rattle.sp_shape.specs.Formed.{functions_formed, is_formed}
use Rattle.sp_shape.proofs.Functions.{each_formed}
use Rattle.sp_tree.specs.declared.limits.TheConstants.{MOST_FUNCTIONS}
use Rattle.std.specs.Prelude.{◌&&◌, nat_lt, nat_le}
use Rattle.std.proofs.lemmas.Bool.{and_parts}
use Rattle.bundle_sched.proofs.Shaped.{function_is_shaped, function_same}
use Rattle.sp_shape.specs.Parts.{no_part, PlainShape}
use Rattle.bundle_sched.specs.Packing.{function_merged, merged}
use Rattle.bundle_sched.specs.Scheduled.{scheduled}
use Rattle.bundle_sched.proofs.Alike.{merged_at}
use Rattle.bundle_sched.proofs.PackedFormed.{merged_prompt, merged_is_formed}
use Rattle.bundle_sched.proofs.SpacedFormed.{parts_prompt, placed_formed}

pub formed_as : (s t : PlainShape) → t ≡ scheduled s → is_formed s ≡ true → ((k : ℕ) → k < length s.functions
    → parts_idle (slice_index_or s.functions k no_part) ≡ true) → is_formed t ≡ true
formed_as s t told h idles =
    let n = length s.functions in
    let count = length-map s.functions function_merged in
    let few = and_parts (nat_le n MOST_FUNCTIONS) (functions_formed s.functions n && nat_lt s.entry n) h in
    let each = (and_parts (functions_formed s.functions n) (nat_lt s.entry n) few.1).0 in
    ap is_formed told ∙ placed_formed (merged s) (merged_is_formed s h)
    (λ k below.
    let within : k < n = omega (arith, below, count) in
    let f = slice_index_or s.functions k no_part in
    let own = each_formed s.functions k n within each in
    ap parts_prompt (merged_at s.functions k ∙ function_same k f own) ∙ merged_prompt [] f (function_is_shaped k f own)
    (idles k within))
