-- Words that go from the stack cache to private memory and back.
use Rattle.std.proofs.Common.{◌≡◌, ℕ, zero, suc, ◌+◌, ◌≤◌, ◌<◌, List, [], ◌∷◌, ◌++◌, length, set, take, drop, get_or, true, arith, refl, sym, ap, ◌∙◌, append_assoc, add-zero, length-set, length-append, length-drop, length-take, append-nil, replicate}
use Rattle.std.proofs.Math.ListN.{length-replicate}
use Rattle.std.specs.Prelude.{slice_index}
use Rattle.std.proofs.lemmas.List.{take-append-drop, drop-set-lt, take_more_set, drop_all, take_all}
use Rattle.std.proofs.lemmas.Bool.Decides.{nat_tests}
use Rattle.std.proofs.Math.Seq.{drop-cons}
use Rattle.local_store.specs.Memory as store
use Rattle.stack_cache.specs.Stack as stack
use Rattle.stack_cache.specs.Stack.{Stack, IsStack, reserved, spilled, with_spilled, missing, filled, grown}
use Rattle.patmos_instr.specs.declared.functions.StackFunc.TheVariants.{Sres, Sens}
use Rattle.patmos_model.specs.Bundle.{words_from, with_words, refilled}
use Rattle.patmos_model.specs.Checks.{has_room}
use Rattle.shared_order.proofs.Words.{words_put}

-- words put in a list from a place on, one after another
with_word_first : (memory : List ℕ) (at word : ℕ) (words : List ℕ) → at < length memory
    → stack.with_words memory at (word ∷ words) ≡ stack.with_words (set memory at word) (at + 1) words
with_word_first memory at word words below =
    sym (append_assoc (take at memory) (word ∷ []) (words ++ drop (at + length (word ∷ words)) memory))
    ∙ ap (λ prefix. prefix ++ (words ++ drop (at + length (word ∷ words)) memory)) (sym
    (take_more_set memory at word below))
    ∙ ap (λ back. take (at + 1) (set memory at word) ++ (words ++ back))
    (ap (λ n. drop n memory) (let e : at + length (word ∷ words) ≡ at + 1 + length words = omega arith in e)
    ∙ sym (drop-set-lt (at + 1 + length words) memory at word (omega arith)))

listed_words : (memory : List ℕ) (at : ℕ) (words : List ℕ) → at + length words ≤ length memory
    → slice_index (stack.with_words memory at words) ≡ with_words at words (slice_index memory)
listed_words memory at [] fits =
    ap slice_index (ap (λ n. take at memory ++ drop n memory) (add-zero at) ∙ take-append-drop at memory)
listed_words memory at (word ∷ words) fits =
    let below : at < length memory = omega arith in
    ap slice_index (with_word_first memory at word words below)
    ∙ listed_words (set memory at word) (at + 1) words (omega (arith, length-set memory at word))
    ∙ ap (with_words (at + 1) words) (words_put memory at word below)

read_words : (memory : List ℕ) (at count : ℕ) → at + count ≤ length memory → take count (drop at memory)
    ≡ words_from (slice_index memory) at count
read_words memory at zero fits = refl
read_words memory at (suc count) fits =
    ap (take (suc count)) (drop-cons memory at 0 (omega arith))
    ∙ ap (λ rest. get_or memory at 0 ∷ rest)
    (ap (λ n. take count (drop n memory)) (let e : suc at ≡ at + 1 = omega arith in e)
    ∙ read_words memory (at + 1) count (omega arith))

spilled_fit : (count : ℕ) (s : Stack) → IsStack s → has_room Sres count s ≡ true → (reserved count s).ss
    + length (spilled count s) ≤ 65536
spilled_fit count s is room =
    let fits : 49152 + count ≤ s.st = grind (arith, nat_tests) in
    omega (
      arith,
      is.between,
      is.high,
      length-drop 128 (grown count s),
      length-append (replicate count 0) s.words,
      length-replicate {A = ℕ} count 0,
    )

length-with_words : (memory : List ℕ) (at : ℕ) (words : List ℕ) → at + length words ≤ length memory
    → length (stack.with_words memory at words) ≡ length memory
length-with_words memory at words fits =
    length-append (take at memory) (words ++ drop (at + length words) memory)
    ∙ omega (
      arith,
      length-take at memory,
      length-append words (drop (at + length words) memory),
      length-drop (at + length words) memory,
    )

refilled_whole : (old words : List ℕ) → length words ≡ length old → store.refilled old words ≡ words
refilled_whole old words same =
    ap (λ rest. take (length old) (words ++ rest)) (drop_all (length words) old (omega arith))
    ∙ ap (λ n. take n (words ++ [])) (sym same) ∙ ap (take (length words)) (append-nil words)
    ∙ take_all (length words) words (omega arith)

spilled_words : (count : ℕ) (s : Stack) (private : List ℕ) → IsStack s → has_room Sres count s ≡ true → length private
    ≡ 65536 → slice_index (with_spilled count s private) ≡ with_words (reserved count s).ss (spilled count s)
    (slice_index private)
spilled_words count s private is room all =
    listed_words private (reserved count s).ss (spilled count s) (omega (arith, spilled_fit count s is room))

-- private memory that was lent for a spill
pub spilled_into : (count : ℕ) (s : Stack) (private lent : List ℕ) → IsStack s → has_room Sres count s ≡ true
    → length private ≡ 65536 → lent ≡ with_spilled count s private → slice_index (store.refilled private lent)
    ≡ with_words (reserved count s).ss (spilled count s) (slice_index private)
spilled_into count s private lent is room all same =
    let long : length lent ≡ length private = ap length same ∙ length-with_words private (reserved count s).ss
    (spilled count s) (omega (arith, spilled_fit count s is room)) in
    ap slice_index (refilled_whole private lent long ∙ same) ∙ spilled_words count s private is room all

-- private memory that was lent and not changed
pub lent_back : (private : List ℕ) → slice_index (store.refilled private private) ≡ slice_index private
lent_back private = ap slice_index (refilled_whole private private refl)

pub filled_words : (count : ℕ) (s : Stack) (private : List ℕ) → IsStack s → has_room Sens count s ≡ true
    → length private ≡ 65536 → filled count private s ≡ refilled count (slice_index private) s
filled_words count s private is room all =
    let fits : s.st + count ≤ 65536 = grind (arith, nat_tests) in
    ap (λ words. record s { ss = s.ss + missing count s; words = s.words ++ words })
    (read_words private s.ss (missing count s) (omega (arith, is.between, is.high)))
