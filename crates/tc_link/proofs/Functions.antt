-- The functions of a shape, by their numbers.
use Rattle.std.proofs.Common.{◌≡◌, ℕ, zero, suc, ◌<◌, List, [], ◌∷◌, length, map, get_or, slice_index, slice_index_or, refl, ap, ◌∙◌}
use Rattle.sp_shape.specs.Parts.{PlainParts, no_part}
use Rattle.sp_shape.specs.Shown.{parts_of, functions_of}
use Rattle.sp_shape.specs.Words.{parts_words}
use Rattle.sp_shape.specs.declared.parts.Part.{Part}
use Rattle.sp_shape.proofs.Functions.{function_at}

size_at : (fs : List PlainParts) (k : ℕ) → slice_index (map parts_words fs) k
    ≡ parts_words (slice_index_or fs k no_part)
size_at [] k = refl
size_at (ps ∷ fs) zero = refl
size_at (ps ∷ fs) (suc k) = size_at fs k

-- the sizes of functions, by their numbers
pub sizes_are : (sizes : List ℕ) (fs : List PlainParts) → sizes ≡ map parts_words fs
    → ◌≡◌ {A = ℕ → ℕ} (slice_index sizes) (λ k. parts_words (slice_index_or fs k no_part))
sizes_are sizes fs is = λ i k. (ap (λ xs. slice_index xs k) is ∙ size_at fs k) i

pub function_sized : (sizes : List ℕ) (functions : List (List Part)) (n : ℕ) (f : List Part) → sizes
    ≡ map parts_words (functions_of functions) → n < length functions → f ≡ get_or functions n f
    → slice_index sizes n ≡ parts_words (parts_of f)
function_sized sizes functions n f sized within is =
    ap (λ xs. slice_index xs n) sized ∙ size_at (functions_of functions) n
    ∙ ap parts_words (function_at functions n f within is)
