-- The stack's words in the core's memory, which is a function.
use Rattle.std.proofs.Common.{◌≡◌, ℕ, ◌+◌, ◌-◌, ◌<◌, ◌≤◌, max, min, cond, List, [], ◌∷◌, ◌++◌, length, take, drop, replicate, refl, ap, ◌∙◌, arith, length-take, length-drop, length-append}
use Rattle.std.proofs.lemmas.Bool.{eq-eqb, ne_eqb}
use Rattle.std.proofs.lemmas.List.{take-append-drop, length-replicate}
use Rattle.shared_order.specs.Words.{put}
use Rattle.stack_cache.specs.Stack.{Stack, IsStack, grown, reserved, spilled, missing, freed}
use Rattle.stack_cache.proofs.Return.{kept, gone}
use Rattle.patmos_model.specs.Bundle.{words_from, with_words, refilled}

pub put_here : (memory : ℕ → ℕ) (word value : ℕ) → put word value memory word ≡ value
put_here memory word value = ap (λ b. cond b value (memory word)) (eq-eqb word word refl)

pub put_there : (memory : ℕ → ℕ) (word value other : ℕ) → (word ≡ other → ⊥) → put word value memory other
    ≡ memory other
put_there memory word value other away = ap (λ b. cond b value (memory other)) (ne_eqb word other away)

pub kept_below : (memory : ℕ → ℕ) (from : ℕ) (words : List ℕ) (word : ℕ) → word < from
    → with_words from words memory word ≡ memory word
kept_below memory from [] word before = refl
kept_below memory from (w ∷ words) word before =
    kept_below (put from w memory) (from + 1) words word (omega (arith, before))
    ∙ put_there memory from w word (λ e. omega (arith, before, e))

pub kept_past : (memory : ℕ → ℕ) (from : ℕ) (words : List ℕ) (word : ℕ) → from + length words ≤ word
    → with_words from words memory word ≡ memory word
kept_past memory from [] word after = refl
kept_past memory from (w ∷ words) word after =
    kept_past (put from w memory) (from + 1) words word (omega (arith, after))
    ∙ put_there memory from w word (λ e. omega (arith, after, e))

pub read_back : (memory : ℕ → ℕ) (from : ℕ) (words : List ℕ) → words_from (with_words from words memory) from
    (length words) ≡ words
read_back memory from [] = refl
read_back memory from (w ∷ words) =
    let rest : ℕ → ℕ = with_words (from + 1) words (put from w memory) in
    let here : rest from ≡ w =
    kept_below (put from w memory) (from + 1) words from (omega arith) ∙ put_here memory from w in
    λ i. here i ∷ read_back (put from w memory) (from + 1) words i

pub back_is : (n : ℕ) (s : Stack) (memory : ℕ → ℕ) → IsStack s → n ≤ 128 → 49152 + n ≤ s.st
    → refilled (length s.words) (with_words (reserved n s).ss (spilled n s) memory) (freed n (reserved n s)) ≡ s
back_is n s memory h few room =
    let end : ℕ = min s.ss (s.st - n + 128) in
    let stays = length-take (128 - n) s.words in
    let goes = length-drop (128 - n) s.words in
    let lack : ℕ = length s.words - length (take (128 - n) s.words) in
    let same_end : max end (s.st - n + n) ≡ end = omega (arith, h) in
    let prefix = kept n s.words few in
    let lost = gone n s.words few in
    let as_many : lack ≡ length (drop (128 - n) s.words) = omega (arith, stays, goes) in
    let back : words_from (with_words end (drop (128 - n) s.words) memory) end lack ≡ drop (128 - n) s.words =
    ap (words_from (with_words end (drop (128 - n) s.words) memory) end) as_many
    ∙ read_back memory end (drop (128 - n) s.words) in
    let top : s.st - n + n ≡ s.st = omega arith in
    let pointer : max end (s.st - n + n) + (length s.words - length (drop n (take 128 (grown n s)))) ≡ s.ss =
    omega (arith, h, ap length prefix, stays) in
    let words : drop n (take 128 (grown n s)) ++ words_from (with_words end (drop 128 (grown n s)) memory) (max end
    (s.st - n + n)) (length s.words - length (drop n (take 128 (grown n s)))) ≡ s.words =
    (λ i. prefix i ++ words_from (with_words end (lost i) memory) (same_end i) (length s.words - length (prefix i)))
    ∙ ap (λ l. take (128 - n) s.words ++ l) back
    ∙ take-append-drop (128 - n) s.words in
    λ k. record { st = top k; ss = pointer k; words = words k }

pub spills_by_pointers : (n : ℕ) (s : Stack) → IsStack s → length (spilled n s) ≡ n + (s.ss - s.st) - 128
spills_by_pointers n s h =
    length-drop 128 (grown n s)
    ∙ omega (arith, h.between, length-append (replicate n 0) s.words, length-replicate {A = ℕ} n 0)

pub fills_by_pointers : (n : ℕ) (s : Stack) → IsStack s → missing n s ≡ n - (s.ss - s.st)
fills_by_pointers n s h = omega (arith, h.between)
