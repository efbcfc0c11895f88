-- One more function, and the numbers that later ones are told of it: where its window ends, how many predicates it
-- may set.
use Rattle.std.proofs.Common.{◌≡◌, ℕ, ◌+◌, ◌<◌, List, [], ◌∷◌, ◌++◌, length, get_or, slice_index_or, suc, arith, ap, sym, ◌∙◌}
use Rattle.std.proofs.lemmas.List.{map-append}
use Rattle.sp_tree.proofs.Forms.{function_at}
use Rattle.sp_tree.specs.Shown as trees
use Rattle.sp_tree.specs.Statements.{PlainFunction, no_function}
use Rattle.sp_tree.specs.declared.statements.SpFunction.{SpFunction}
use Rattle.sp_shape.specs.declared.parts.Part.{Part}
use Rattle.sp_shape.specs.Shown.{parts_of, functions_of}
use Rattle.sp_emit.specs.Functions.{function_code, functions_code}
use Rattle.sp_emit.specs.Flags.{flags_over, flag_tops}
use Rattle.sp_emit.specs.Places.{homes_over, tops}
use Rattle.sp_emit.specs.declared.stands.Homes.{Homes}

-- where the words of one stand after the earlier ones
abbrev placed : List SpFunction → ℕ → PlainFunction → Homes
placed fs i g = record {
  first = homes_over (tops (trees.functions_of fs) i) g;
  flags = flags_over
      (flag_tops (trees.functions_of fs) i) g;
}

pub function_added : (fs : List SpFunction) (i : ℕ) (f : SpFunction) (made next : List (List Part)) (parts : List Part)
    → i < length fs → f ≡ get_or fs i f → functions_of made ≡ functions_code (trees.functions_of fs) i
    → next ≡ made ++ parts ∷ [] → parts_of parts ≡ function_code (placed fs i (trees.plain_function f))
    (trees.plain_function f)
    → functions_of next ≡ functions_code (trees.functions_of fs) (i + 1)
function_added fs i f made next parts within is before pushed code =
    ap functions_of pushed ∙ map-append parts_of made (parts ∷ []) ∙ ap (λ ps. ps ++ parts_of parts ∷ []) before
    ∙ ap (λ p. functions_code (trees.functions_of fs) i ++ p ∷ []) code
    ∙ ap (λ g. functions_code (trees.functions_of fs) i ++ function_code (placed fs i g) g ∷ []) (sym
    (function_at fs i f within is))
    ∙ ap (functions_code (trees.functions_of fs)) (let e : suc i ≡ i + 1 = omega arith in e)

-- each number is of a function over the numbers of the earlier ones
pub number_added : (all : List PlainFunction → ℕ → List ℕ) (over : List ℕ → PlainFunction → ℕ)
    → ((gs : List PlainFunction) (n : ℕ) → all gs (suc n) ≡ all gs n
    ++ over (all gs n) (slice_index_or gs n no_function) ∷ [])
    → (fs : List SpFunction) (i : ℕ) (f : SpFunction) (numbers next : List ℕ) (number : ℕ) → i < length fs → f
    ≡ get_or fs i f → numbers ≡ all (trees.functions_of fs) i → next ≡ numbers ++ number ∷ []
    → number ≡ over (all (trees.functions_of fs) i) (trees.plain_function f) → next
    ≡ all (trees.functions_of fs) (i + 1)
number_added all over one fs i f numbers next number within is before pushed same =
    let gs = trees.functions_of fs in
    pushed ∙ ap (λ xs. xs ++ number ∷ []) before ∙ ap (λ t. all gs i ++ t ∷ []) same
    ∙ ap (λ g. all gs i ++ over (all gs i) g ∷ []) (sym (function_at fs i f within is)) ∙ sym (one gs i)
    ∙ ap (all gs) (let e : suc i ≡ i + 1 = omega arith in e)
