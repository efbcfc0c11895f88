-- What a text is answered with.
use Rattle.std.proofs.Common.{arith, ◌≡◌, ◌∙◌, ℕ, ◌==◌, true, false, List, [], ◌∷◌, length, refl, sym, ap, Option, Err}
use Rattle.std.proofs.lemmas.Bool.Decides.{nat_tests}
use Rattle.patmos_forms.specs.declared.faults.AsmKind.TheVariants.{NoFunction}
use Rattle.patmos_asm.specs.declared.faults.AsmFault.{AsmFault}
use Rattle.patmos_syntax.specs.declared.items.Item as code
use Rattle.patmos_syntax.specs.Items.{Item, items_of}
use Rattle.patmos_asm.specs.Assembly.{place_of, functions_from, nothing, first_fault, parts_in, code_or, code_in, code_of}
use Rattle.patmos_syntax.specs.Shown.{shown_items}

pub no_statement : (text : List ℕ) (items : List code.Item) → shown_items items ≡ items_of text
    → length items == 0 ≡ true →
    code_of text ≡ Err (record { fault = NoFunction; line = 1 })
unfolding code_of code_in
no_statement text [] is e = rw (← is) refl
no_statement text (i ∷ items) is e = let z : length (i ∷ items) ≡ 0 = grind (arith, nat_tests) in absurd (omega arith)

pub answered : (is : List Item) (fault : Option AsmFault) → length is == 0 ≡ false
    → first_fault (place_of (functions_from 0 is)) (place_of []) nothing is ≡ fault →
    code_in is ≡ code_or fault (parts_in is)
unfolding code_in
answered [] fault some e = cc
answered (i ∷ is) fault some e = rw e refl

as_many : (items : List code.Item) → length (shown_items items) ≡ length items
as_many [] = refl
as_many (i ∷ items) = omega (arith, as_many items)

pub some_answer : (text : List ℕ) (items : List code.Item) (fault : Option AsmFault) → shown_items items ≡ items_of text
    → length items == 0 ≡ false →
    fault ≡ first_fault (place_of (functions_from 0 (shown_items items))) (place_of []) nothing (shown_items items) →
    code_of text ≡ code_or fault (parts_in (shown_items items))
unfolding code_of
some_answer text items fault is some e =
    ap code_in (sym is) ∙ answered (shown_items items) fault (ap (λ n. n == 0) (as_many items) ∙ some) (sym e)
