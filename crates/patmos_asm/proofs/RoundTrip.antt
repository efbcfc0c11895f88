-- The printed text of a code has that code.
use Rattle.std.proofs.Common.{arith, ◌≡◌, ◌∙◌, ℕ, ◌+◌, ◌<◌, ◌==◌, Bool, false, List, [], ◌∷◌, ◌++◌, length, map, refl, sym, ap, subst, None, Ok}
use Rattle.std.proofs.lemmas.Bool.Decides.{nat_tests}
use Rattle.patmos_syntax.specs.Items.{Item, function, label, bundle, faulty, items_of}
use Rattle.patmos_asm.specs.Assembly.{Lookup, nothing, place_of, functions_from, names_from, is_known, no_function, fault_of, first_fault, words_from, CodeParts, parts_in, code_in, code_of}
use Rattle.patmos_syntax.specs.Drafts.{size_of}
use Rattle.patmos_asm.specs.SomeText.{IsCode}
use Rattle.patmos_asm.specs.Printed.{lines_of, name_at, functions_text, targets_of, is_target, printed}
use Rattle.patmos_asm.proofs.Answered.{answered}
use Rattle.patmos_asm.proofs.Images.{no_fault, first_is_function}
use Rattle.patmos_asm.proofs.Faultless.{Faultless, no_fault_first, bundle_small, functions_small}
use Rattle.patmos_asm.proofs.ReadLines.{text_of, numbered, ArePrintable, text_read}
use Rattle.patmos_asm.proofs.ParsedItems.{FitAll, text_fits}
use Rattle.patmos_asm.proofs.Bodies.{bundles_in}
use Rattle.patmos_asm.proofs.Relabeled.{relabeled, starts_with_names, relabeled_text}
use Rattle.patmos_asm.proofs.Counted.{same_names, same_functions, names_back}
use Rattle.patmos_asm.proofs.Stops.{Keeps, AllMarked}
use Rattle.patmos_asm.proofs.Restored.{Back, same_words}
use Rattle.patmos_asm.proofs.Unfaulted.{none_printed}
use Rattle.patmos_asm.proofs.Reprintable.{all_printable}
use Rattle.patmos_asm.proofs.Renumbered.{functions_anywhere, none_anywhere, parts_with, parts_anywhere}

-- no bundle stands before the first function
none_outside : (functions : Lookup) (is : List Item) → first_fault functions (place_of []) nothing is ≡ None
    → bundles_in functions (place_of []) 0 is ≡ []
none_outside functions [] e = refl
none_outside functions (function line n ∷ is) e = refl
none_outside functions (label line n ∷ is) e = cc
none_outside functions (bundle line b ∷ is) e =
    let t = no_fault_first (bundle line b) (fault_of functions (place_of []) nothing (bundle line b)) _ e in
    let s = bundle_small (is_known functions (place_of []) b.first.draft) (0 + size_of b) (0 + size_of b)
    (no_function nothing) t.0 in
    let none = s.3 in cc
none_outside functions (faulty line fault ∷ is) e = cc

-- outside the functions nothing is branched to
abbrev nowhere : ℕ → Bool
nowhere n = false

abbrev no_labels : Lookup
no_labels = place_of []

nothing_kept : (names : ℕ → List ℕ) (functions : Lookup) → Back names functions
    → Keeps names functions no_labels no_labels nowhere
nothing_kept names functions back =
    record { on_label = λ name p e b. cc; on_function = λ name q e. ap functions (back name q e) ∙ e }

nothing_marked : (functions : Lookup) (is : List Item) → bundles_in functions no_labels 0 is ≡ []
    → AllMarked functions no_labels nowhere 0 is
nothing_marked functions is none n e = sym (ap (λ bs. is_target n (targets_of bs)) none) ∙ e

some_item : (is : List Item) → 0 < length (functions_from 0 is) → length is == 0 ≡ false
some_item [] h = absurd (omega arith)
some_item (i ∷ is) h = grind (arith, nat_tests)

-- the statements that are printed of a text
abbrev names_of : List Item → ℕ → List ℕ
names_of is = name_at (starts_with_names 0 is)

abbrev reprinted : List Item → List Item
reprinted is = relabeled (names_of is) (place_of (functions_from 0 is)) no_labels nowhere 0 is

whole_faultless : (is : List Item) → first_fault (place_of (functions_from 0 is)) no_labels nothing is ≡ None
    → Faultless (place_of (functions_from 0 is)) no_labels 0 is
whole_faultless is e = record {
  before = nothing;
  at_is = refl;
  none = e;
  within = record {
    offset = omega arith;
    in_function = λ name place f. cc;
    in_image = functions_small
        (place_of (functions_from 0 is)) no_labels nothing is e;
  };
}

reprinted_text : (is : List Item) → first_fault (place_of (functions_from 0 is)) no_labels nothing is ≡ None → FitAll is
    → 0 < length is → text_of (reprinted is) ≡ printed (parts_in is)
unfolding printed
reprinted_text is e h some =
    let functions : Lookup = place_of (functions_from 0 is) in
    let rest : List ℕ = functions_text (names_of is) (words_from functions no_labels 0 is) (starts_with_names 0 is) in
    relabeled_text (names_of is) functions no_labels nowhere 0 0 [] is refl (whole_faultless is e) h
    ∙ ap (λ bs. lines_of (names_of is) nowhere bs ++ rest) (none_outside functions is e)

reprinted_parts : (is : List Item) → first_fault (place_of (functions_from 0 is)) no_labels nothing is ≡ None
    → FitAll is → parts_in (reprinted is) ≡ parts_in is
reprinted_parts is e h =
    let functions : Lookup = place_of (functions_from 0 is) in
    let back : Back (names_of is) functions = names_back 0 is in
    let r : List Item = reprinted is in
    ap (λ fs. parts_with fs r) (same_functions (names_of is) functions no_labels nowhere 0 0 is)
    ∙ ap (λ ns. record {
      names = ns;
      starts = map (λ f. f.1) (functions_from 0 is);
      words = words_from functions
          no_labels 0 r;
    }) (same_names (names_of is) functions no_labels nowhere 0 is)
    ∙ ap (λ ws. record { names = names_from is; starts = map (λ f. f.1) (functions_from 0 is); words = ws })
    (same_words (names_of is) functions no_labels no_labels nowhere 0 is back
    (nothing_kept (names_of is) functions back) (nothing_marked functions is (none_outside functions is e))
    (whole_faultless is e) h)

reprinted_none : (is : List Item) → first_fault (place_of (functions_from 0 is)) no_labels nothing is
    ≡ None → FitAll is →
    first_fault (place_of (functions_from 0 (numbered 1 (reprinted is)))) no_labels nothing (numbered 1 (reprinted is))
    ≡ None
reprinted_none is e h =
    let functions : Lookup = place_of (functions_from 0 is) in
    let back : Back (names_of is) functions = names_back 0 is in
    let r : List Item = reprinted is in
    ap (λ fs. first_fault (place_of fs) no_labels nothing (numbered 1 r)) (functions_anywhere 1 0 r
    ∙ same_functions (names_of is) functions no_labels nowhere 0 0 is)
    ∙ none_anywhere functions no_labels nothing 1 r
    (none_printed (names_of is) functions no_labels no_labels nowhere 0 nothing [] is refl e
    (whole_faultless is e).within h back (nothing_kept (names_of is) functions back)
    (nothing_marked functions is (none_outside functions is e)) (λ n u. cc) (λ n u v. refl))

reprinted_code : (is : List Item) → first_fault (place_of (functions_from 0 is)) no_labels nothing is ≡ None → FitAll is
    → 0 < length is → code_in (numbered 1 (reprinted is)) ≡ Ok (parts_in is)
reprinted_code is e h some =
    let functions : Lookup = place_of (functions_from 0 is) in
    let r : List Item = reprinted is in
    let fs : functions_from 0 (numbered 1 r) ≡ functions_from 0 is =
    functions_anywhere 1 0 r ∙ same_functions (names_of is) functions no_labels nowhere 0 0 is in
    let first : 0 < length (functions_from 0 is) = (first_is_function functions is e some).0 in
    answered (numbered 1 r) None (some_item (numbered 1 r) (subst (λ ps. 0 < length ps) (sym fs) first))
    (reprinted_none is e h)
    ∙ ap (λ ps. Ok ps) (parts_anywhere 1 r ∙ reprinted_parts is e h)

read_back : (is : List Item) → ArePrintable is → code_of (text_of is) ≡ code_in (numbered 1 is)
unfolding code_of items_of
read_back is p = ap code_in (text_read 1 is p)

printed_back : (is : List Item) → first_fault (place_of (functions_from 0 is)) no_labels nothing is ≡ None → FitAll is
    → 0 < length is → code_of (printed (parts_in is)) ≡ Ok (parts_in is)
printed_back is e h some =
    let functions : Lookup = place_of (functions_from 0 is) in
    ap code_of (sym (reprinted_text is e h some))
    ∙ read_back (reprinted is) (all_printable (names_of is) functions no_labels nowhere 0 is (names_back 0 is)
    (whole_faultless is e) h)
    ∙ reprinted_code is e h some

-- the printed text of a code has that code
pub printed_comes_back : (p : CodeParts) → IsCode p → code_of (printed p) ≡ Ok p
unfolding code_of
printed_comes_back p c =
    let t = no_fault (items_of c.text) p c.is in
    subst (λ (q : CodeParts). code_of (printed q) ≡ Ok q) t.1 (printed_back (items_of c.text) t.0
    (text_fits c.text) t.2)

-- as bytes that are that text
pub text_comes_back : (text : List ℕ) (p : CodeParts) → text ≡ printed p → IsCode p → code_of text ≡ Ok p
text_comes_back text p e c = ap code_of e ∙ printed_comes_back p c
