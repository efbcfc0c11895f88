-- What a core has at the start.
use Rattle.std.proofs.Common.{◌≡◌, ℕ, List, [], ◌∷◌, length, take, min, sym, ap, ◌∙◌, subst, arith}
use Rattle.std.proofs.lemmas.List.{take_min}
use Rattle.std.proofs.Math.Seq.{take-nil}
use Rattle.shared_order.specs.Words.{zeros}
use Rattle.method_cache.specs.declared.cache.Method.{Method}
use Rattle.method_cache.specs.Residents.{StandsFor, touched}
use Rattle.patmos_code.specs.Images.{Parts}
use Rattle.patmos_model.specs.Begin.{entry, overlaid, first_private}
use Rattle.patmos_model.specs.Site.{size_at, method_at}

-- the first function is the first miss
pub first_miss : (image copy : Parts) (base size : ℕ) (cache : List Method) → copy ≡ image → base ≡ entry copy → size
    ≡ size_at copy (entry copy)
    → StandsFor (touched [] (record { function = base; words = size })) cache
    → StandsFor (method_at image (entry image) ∷ []) cache
first_miss image copy base size cache same base_is size_is stands =
    let function_is : base ≡ entry image = base_is ∙ ap entry same in
    let words_are : size ≡ size_at image (entry image) = size_is ∙ ap (λ p. size_at p (entry p)) same in
    subst (λ m. StandsFor (m ∷ []) cache) (λ i. record { function = function_is i; words = words_are i }) stands

-- of no transactions, none stands in the trace
pub none_traced : {X : Type 0} (room : ℕ) (trace : List X) → trace ≡ [] → trace ≡ take room []
none_traced room trace none = none ∙ sym (take-nil room)

-- as much of the input as there is room for
pub taken_input : (room count : ℕ) (input taken : List ℕ) → count ≡ min (length input) room → taken ≡ take count input
    → taken ≡ take room input
taken_input room count input taken count_is taken_is =
    let most : count ≡ min room (length input) = omega (arith, count_is) in
    taken_is ∙ ap (λ n. take n input) most ∙ take_min room input

-- the initial words and the input, laid over zeros one after the other
pub private_at_start : (image : Parts) (input initial taken : List ℕ) (at : ℕ) (first second third : ℕ → ℕ)
    → third ≡ overlaid at taken second → second ≡ overlaid 4 initial first → first ≡ zeros
    → at ≡ image.input_at → initial ≡ image.initial → taken ≡ take image.input_room input → third
    ≡ first_private image input
private_at_start image input initial taken at first second third third_is second_is first_is at_is initial_is taken_is =
    let below : second ≡ overlaid 4 image.initial zeros = second_is ∙ (λ i. overlaid 4 (initial_is i) (first_is i)) in
    third_is ∙ (λ i. overlaid (at_is i) (taken_is i) (below i))
