-- Parts that are put together are well formed.
use Rattle.std.proofs.Common.{◌≡◌, ℕ, ◌<◌, true, List, [], ◌∷◌, refl, ap, ◌∙◌}
use Rattle.std.proofs.lemmas.Bool.{and_from, lt-ltb}
use Rattle.std.specs.Prelude.{nat_lt, ◌&&◌}
use Rattle.patmos_instr.specs.Bundles.{PlainBundle}
use Rattle.sp_shape.specs.Formed.{is_iteration, part_formed, parts_formed, function_formed}
use Rattle.sp_shape.specs.Parts.{leaves, part, one}
use Rattle.sp_shape.specs.Shown.{plain_part, parts_of}
use Rattle.sp_shape.specs.Small as small
use Rattle.sp_shape.specs.declared.parts.Part.{Part}
use Rattle.sp_shape.specs.declared.parts.Part.TheViews.{Repeat}
use Rattle.sp_shape.proofs.Functions.{function_then}
use Rattle.sp_shape.proofs.Plain.{repeat_said}

-- one part, so many times
pub iterations_formed : (n count : ℕ) (body : List Part) (p : Part) (tail : List PlainBundle) → body ≡ p ∷ [] → tail
    ≡ small.again → 0 < count
    → part_formed n (plain_part p) ≡ true → part_formed n (plain_part (Repeat count body tail)) ≡ true
iterations_formed n count body p tail is back some h =
    ap (part_formed n) (repeat_said (Repeat count body tail) count body tail refl)
    ∙ and_from (nat_lt 0 count) (parts_formed n (parts_of body) && is_iteration tail) (lt-ltb 0 count some)
    (and_from (parts_formed n (parts_of body)) (is_iteration tail)
    (ap (λ xs. parts_formed n (parts_of xs)) is ∙ and_from (part_formed n (plain_part p)) true h refl)
    (ap is_iteration back))

-- a part and the return
pub returning_formed : (n : ℕ) (p last : Part) (function : List Part) → function ≡ p ∷ last ∷ [] → plain_part last
    ≡ leaves small.return
    → part_formed n (plain_part p) ≡ true → function_formed n (parts_of function) ≡ true
returning_formed n p last function is return h =
    ap (λ xs. function_formed n (parts_of xs)) is ∙ ap (λ q. function_formed n (part (plain_part p) (one q))) return
    ∙ function_then n (plain_part p) small.empty h refl
