-- Each bundle that was passed has its fields in their ranges.
use Rattle.std.proofs.Common.{◌≡◌, ℕ, suc, ◌+◌, ◌<◌, ◌≤◌, List, [], ◌∷◌, length, drop, get_or, slice_index_or, sym, ap, ◌∙◌, subst, add-one, drop-cons}
use Rattle.std.specs.List.{All}
use Rattle.std.proofs.lemmas.List.{drop_all}
use Rattle.patmos_instr.specs.Bundles.{PlainBundle, FitsBundle}
use Rattle.sp_shape.specs.Parts.{no_part}
use Rattle.sp_shape.specs.Shown.{parts_of, functions_of}
use Rattle.sp_shape.specs.declared.parts.Part.{Part}
use Rattle.sp_shape.proofs.Functions.{function_at}
use Rattle.tc_link.specs.Flat.{flat_parts}

-- what fits of one item and of those after it fits of those from it on
pub fit_from : {X : Type 0} (made : List X → List PlainBundle) (xs : List X) (i : ℕ) (x : X) → i < length xs → x
    ≡ get_or xs i x
    → All FitsBundle (made (x ∷ drop (i + 1) xs)) → All FitsBundle (made (drop i xs))
fit_from made xs i x within is fits =
    let here : drop i xs ≡ x ∷ drop (i + 1) xs =
    drop-cons xs i x within ∙ ap (λ y. y ∷ drop (suc i) xs) (sym is) ∙ ap (λ n. x ∷ drop n xs) (sym (add-one i)) in
    subst (λ ys. All FitsBundle (made ys)) (sym here) fits

pub fit_past : {X : Type 0} (made : List X → List PlainBundle) (xs : List X) (i : ℕ) → length xs ≤ i
    → All FitsBundle (made []) → All FitsBundle (made (drop i xs))
fit_past made xs i past none = subst (λ ys. All FitsBundle (made ys)) (sym (drop_all i xs past)) none

-- a function of a list of functions
pub fit_at : (start : ℕ → ℕ) (functions : List (List Part)) (n : ℕ) (f own : List Part) → n < length functions → f
    ≡ get_or functions n f → own ≡ f
    → All FitsBundle (flat_parts start (parts_of own))
    → All FitsBundle (flat_parts start (slice_index_or (functions_of functions) n no_part))
fit_at start functions n f own within is same fits =
    subst (λ ps. All FitsBundle (flat_parts start ps)) (ap parts_of same ∙ sym (function_at functions n f within is))
    fits
