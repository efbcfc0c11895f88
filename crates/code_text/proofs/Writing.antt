-- What is written part by part.
use Rattle.std.proofs.Common.{arith, ◌≡◌, ◌∙◌, ℕ, ◌+◌, ◌<◌, ◌≤◌, List, [], ◌∷◌, ◌++◌, length, get_or, drop, refl, sym, ap, append_assoc, append-nil, codes, min, inl, inr}
use Rattle.std.proofs.lemmas.Bool.{cases_lt}
use Rattle.std.proofs.lemmas.List.{drop_all}
use Rattle.tc_word.proofs.Items.{drop_item}
use Rattle.patmos_instr.specs.Bundles.{PlainBundle}
use Rattle.sp_shape.specs.Shown.{plain_part, parts_of}
use Rattle.sp_shape.specs.Words.{bundle_words, part_words}
use Rattle.sp_shape.specs.declared.parts.Part.{Part}
use Rattle.code_text.specs.Lines.{Line, line_text, lines_text}
use Rattle.sp_shape.specs.Parts.{PlainShape}
use Rattle.code_text.specs.Listing.{part_loops, part_lines, parts_lines, function_lines, functions_lines}

pub lines_both : (ls ms : List Line) → lines_text (ls ++ ms) ≡ lines_text ls ++ lines_text ms
lines_both [] ms = refl
lines_both (l ∷ ls) ms =
    ap (λ t. line_text l ++ t) (lines_both ls ms) ∙ sym (append_assoc (line_text l) (lines_text ls) (lines_text ms))

pub bundle_some : (b : PlainBundle) → 1 ≤ bundle_words b
bundle_some b = grind arith

five : (a b c d e f : List ℕ) → ((((a ++ b) ++ c) ++ d) ++ e) ++ f ≡ a ++ (b ++ (c ++ (d ++ (e ++ (f ++ [])))))
five a b c d e f = simp (append_assoc, append-nil)

-- a loop: what stands before it, its body, its tail, and what stands after it
pub loop_text : (old one two three four : List ℕ) (begin mark last : Line) (inner way : List Line) → one ≡ old
    ++ line_text begin ++ line_text mark → two ≡ one ++ lines_text inner
    → three ≡ two ++ lines_text way → four ≡ three ++ line_text last → four ≡ old
    ++ lines_text (begin ∷ mark ∷ (inner ++ (way ++ last ∷ [])))
loop_text old one two three four begin mark last inner way e f g h =
    h ∙ ap (λ t. t ++ line_text last) (g ∙ ap (λ t. t ++ lines_text way) (f ∙ ap (λ t. t ++ lines_text inner) e))
    ∙ five old (line_text begin) (line_text mark) (lines_text inner) (lines_text way) (line_text last)
    ∙ ap (λ t. old ++ (line_text begin ++ (line_text mark ++ (lines_text inner ++ t)))) (sym
    (lines_both way (last ∷ [])))
    ∙ ap (λ t. old ++ (line_text begin ++ (line_text mark ++ t))) (sym (lines_both inner (way ++ last ∷ [])))

-- one part more
pub next_text : (names : List (List ℕ)) (words : List ℕ) (old new : List ℕ) (at loop_number next_at next_iteration : ℕ)
    (parts : List Part) (i : ℕ) (p : Part) → i < length parts → p ≡ get_or parts i p
    → new ≡ old ++ lines_text (part_lines names words at loop_number (plain_part p)) → next_at
    ≡ at + part_words (plain_part p) → next_iteration ≡ loop_number + part_loops (plain_part p)
    → new ++ lines_text (parts_lines names words next_at next_iteration (parts_of (drop (i + 1) parts))) ≡ old
    ++ lines_text (parts_lines names words at loop_number (parts_of (drop i parts)))
next_text names words old new at loop_number next_at next_iteration parts i p within is written place number =
    let one = part_lines names words at loop_number (plain_part p) in
    let more = parts_lines names words (at + part_words (plain_part p)) (loop_number + part_loops (plain_part p))
    (parts_of (drop (i + 1) parts)) in
    ap (λ n. new ++ lines_text (parts_lines names words n next_iteration (parts_of (drop (i + 1) parts)))) place
    ∙ ap (λ n. new ++ lines_text (parts_lines names words (at + part_words (plain_part p)) n
    (parts_of (drop (i + 1) parts)))) number
    ∙ ap (λ t. t ++ lines_text more) written ∙ append_assoc old (lines_text one) (lines_text more)
    ∙ ap (λ t. old ++ t) (sym (lines_both one more))
    ∙ ap (λ ps. old ++ lines_text (parts_lines names words at loop_number (parts_of ps))) (sym
    (drop_item parts i p within is))

pub begin_nested : (old sign word label iterations count end colon : List ℕ) → old
    ++ (sign ++ (word ++ label ++ iterations ++ count) ++ end) ++ (label ++ colon ++ end)
    ≡ old ++ (sign ++ (word ++ (label ++ (iterations ++ (count ++ (end ++ (label ++ (colon ++ end))))))))
begin_nested old sign word label iterations count end colon = simp append_assoc

pub tally_nested : (b t : List ℕ) → codes " bundles " ++ b ++ codes " transactions " ++ t ≡ codes " bundles "
    ++ (b ++ (codes " transactions " ++ t))
tally_nested b t = simp append_assoc

drop_min : (xs : List ℕ) (n : ℕ) → drop (min (length xs) n) xs ≡ drop n xs
drop_min xs n = elim (cases_lt n (length xs)) [
  | inl less ↦ let some : min (length xs) n ≡ n = omega arith in ap (λ m. drop m xs) some
  | inr more ↦ let all : min (length xs) n ≡ length xs = omega arith in ap (λ m. drop m xs) all
      ∙ drop_all (length xs) xs (omega arith) ∙ sym (drop_all n xs (omega arith))
]

-- one function more
pub next_function : (names : List (List ℕ)) (each : ℕ) (s : PlainShape) (old new words body rest order : List ℕ)
    (size i k front : ℕ) → i < length order → k ≡ get_or order i k
    → words ≡ size ∷ body → front ≡ min (length body) size → rest ≡ drop front body → new ≡ old
    ++ lines_text (function_lines names each s size body k)
    → new ++ lines_text (functions_lines names each s rest (drop (i + 1) order)) ≡ old
    ++ lines_text (functions_lines names each s words (drop i order))
next_function names each s old new words body rest order size i k front within is whole least left written =
    let one = function_lines names each s size body k in
    let more = functions_lines names each s (drop size body) (drop (i + 1) order) in
    ap (λ ws. new ++ lines_text (functions_lines names each s ws (drop (i + 1) order)))
    (left ∙ ap (λ n. drop n body) least ∙ drop_min body size)
    ∙ ap (λ t. t ++ lines_text more) written ∙ append_assoc old (lines_text one) (lines_text more)
    ∙ ap (λ t. old ++ t) (sym (lines_both one more))
    ∙ ap (λ ks. old ++ lines_text (functions_lines names each s (size ∷ body) ks)) (sym (drop_item order i k within is))
    ∙ ap (λ ws. old ++ lines_text (functions_lines names each s ws (drop i order))) (sym whole)

-- no function is left where no words are
pub no_words : (names : List (List ℕ)) (each : ℕ) (s : PlainShape) (words ks : List ℕ) → length words < 1
    → functions_lines names each s words ks ≡ []
no_words names each s [] [] h = refl
no_words names each s [] (k ∷ ks) h = refl
no_words names each s (w ∷ words) ks h = absurd (omega arith)
