-- What spilling words leaves in private memory.
use Rattle.std.proofs.Common.{◌≡◌, ℕ, ◌+◌, ◌-◌, ◌%◌, ◌<◌, ◌≤◌, List, [], ◌∷◌, ◌++◌, length, get_or, set, take, drop, refl, arith, ap, ◌∙◌, sym, add-zero, append_assoc, length-take-le}
use Rattle.std.proofs.lemmas.List.{places, take-append-drop, set-append_right, length_push, nil_from_length, drop_more}
use Rattle.stack_cache.specs.Slots.{held, slot}
use Rattle.stack_cache.specs.Stack.{with_words}
use Rattle.stack_cache.proofs.Words.{length_held, held_more}

-- a word below the written ones, among them, or above them
module _ (memory words : List ℕ) (at i d : ℕ) (fits : at + length words ≤ length memory) where
  pub get_below : i < at → get_or (with_words memory at words) i d ≡ get_or memory i d
  get_below below = grind (arith, places)

  pub get_among : at ≤ i → i < at + length words → get_or (with_words memory at words) i d ≡ get_or words (i - at) d
  get_among low high = grind (arith, places)

  pub get_above : at + length words ≤ i → get_or (with_words memory at words) i d ≡ get_or memory i d
  get_above above = grind (arith, places)

-- one word more, written after the others
written_after : (memory words : List ℕ) (at v : ℕ) → at + length words < length memory
    → set (with_words memory at words) (at + length words) v ≡ with_words memory at (words ++ v ∷ [])
written_after memory words at v room =
    let end : ℕ = at + length words in
    let first : set (drop end memory) (end - at - length words) v ≡ v ∷ drop (at + length (words ++ v ∷ [])) memory =
    ap (λ k. set (drop end memory) k v) (omega arith)
    ∙ ap (λ (xs : List ℕ). set xs 0 v) (drop_more memory end 0 room)
    ∙ ap (λ k. v ∷ drop k memory) (omega (arith, length_push words v)) in
    set-append_right (take at memory) (words ++ drop end memory) at end v (length-take-le at memory (omega arith))
    (omega arith)
    ∙ ap (λ xs. take at memory ++ xs) (
    set-append_right words (drop end memory) (length words) (end - at) v refl (omega arith)
    ∙ ap (λ xs. words ++ xs) first
    ∙ sym (append_assoc words (v ∷ []) (drop (at + length (words ++ v ∷ [])) memory)))

pub none_written : (memory slots : List ℕ) (at count : ℕ) → count ≡ 0 → memory
    ≡ with_words memory at (held slots at count)
none_written memory slots at count none =
    sym (ap (with_words memory at) (nil_from_length (held slots at count) (length_held slots at count ∙ none))
    ∙ ap (λ k. take at memory ++ drop k memory) (add-zero at) ∙ take-append-drop at memory)

pub one_more_written : (memory slots : List ℕ) (at word : ℕ) → at ≤ word → word < length memory
    → set (with_words memory at (held slots at (word - at))) word (get_or slots (word % 128) 0)
    ≡ with_words memory at (held slots at (word + 1 - at))
one_more_written memory slots at word low high =
    let before : List ℕ = held slots at (word - at) in
    let end : word ≡ at + length before = omega (arith, length_held slots at (word - at)) in
    ap (λ k. set (with_words memory at before) k (slot slots word)) end
    ∙ written_after memory before at (slot slots word) (omega (arith, end))
    ∙ ap (with_words memory at) (sym (held_more slots at (word - at) word (omega arith))
    ∙ ap (held slots at) (omega arith))
