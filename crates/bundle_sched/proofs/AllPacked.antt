-- The scheduled shape is packed.
use Rattle.std.proofs.Common.{◌≡◌, ℕ, zero, suc, ◌<◌, Bool, true, List, [], ◌∷◌, length, slice_index_or, refl, ap, ◌∙◌, arith}
use Rattle.std.specs.Prelude.{◌&&◌, nat_lt, nat_le}
use Rattle.std.specs.List.{list_all}
use Rattle.std.proofs.lemmas.Bool.{and_parts, and_from}
use Rattle.sp_shape.specs.Bundles.{parts_idle}
use Rattle.sp_shape.specs.Formed.{functions_formed, is_formed}
use Rattle.sp_shape.specs.Parts.{PlainParts, no_part, PlainShape}
use Rattle.sp_shape.proofs.Functions.{each_formed}
use Rattle.sp_tree.specs.declared.limits.TheConstants.{MOST_FUNCTIONS}
use Rattle.bundle_sched.specs.Packed.{parts_packed, is_packed}
use Rattle.bundle_sched.specs.Legal.{parts_legal}
use Rattle.bundle_sched.specs.Placed.{parts_placed}
use Rattle.bundle_sched.specs.Scheduled.{scheduled}
use Rattle.bundle_sched.proofs.IsPacked.{merged_packed}
use Rattle.bundle_sched.proofs.Shaped.{function_is_shaped, function_same}
use Rattle.bundle_sched.proofs.Kept.{functions_stay, scheduled_at}

each_holds : (p : PlainParts → Bool) (fs : List PlainParts) → ((k : ℕ) → k < length fs → p (slice_index_or fs k no_part)
    ≡ true) → list_all p fs ≡ true
each_holds p [] each = refl
each_holds p (f ∷ fs) each = and_from (p f) (list_all p fs) (each 0 (omega arith))
    (each_holds p fs (λ k below. each (suc k) (omega (arith, below))))

each_of : (p : PlainParts → Bool) (fs : List PlainParts) → list_all p fs ≡ true → (k : ℕ) → k < length fs
    → p (slice_index_or fs k no_part) ≡ true
each_of p [] all k below = absurd (omega (arith, below))
each_of p (f ∷ fs) all zero below = (and_parts (p f) (list_all p fs) all).0
each_of p (f ∷ fs) all (suc k) below = each_of p fs (and_parts (p f) (list_all p fs) all).1 k (omega (arith, below))

pub packed_as : (s t : PlainShape) → t ≡ scheduled s → is_formed s ≡ true → ((k : ℕ) → k < length s.functions
    → parts_idle (slice_index_or s.functions k no_part) ≡ true)
    → list_all parts_legal s.functions ≡ true → is_packed t ≡ true
packed_as s t told formed idles legal =
    let n = length s.functions in
    let few = and_parts (nat_le n MOST_FUNCTIONS) (functions_formed s.functions n && nat_lt s.entry n) formed in
    let each = (and_parts (functions_formed s.functions n) (nat_lt s.entry n) few.1).0 in
    let count = ap (λ x. length x.functions) told ∙ functions_stay s in
    each_holds parts_packed t.functions (λ k below.
    let within : k < n = omega (arith, below, count) in
    let f = slice_index_or s.functions k no_part in
    let own = each_formed s.functions k n within each in
    ap parts_packed (scheduled_at s t told k ∙ ap parts_placed (function_same k f own))
    ∙ merged_packed [] f refl (function_is_shaped k f own) (idles k within) (each_of parts_legal s.functions
    legal k within))
