-- What was reserved and freed again, an ensure of as many words as before makes whole.
use Rattle.std.proofs.Common.{◌≡◌, ℕ, ◌+◌, ◌-◌, ◌≤◌, max, min, List, ◌++◌, length, take, drop, replicate, arith, ap, ◌∙◌, sym, length-take, length-drop, length-take-le}
use Rattle.std.proofs.lemmas.List.{length-replicate, take-append-drop, take_at, drop_at, drop-drop, drop-take}
use Rattle.stack_cache.specs.Stack.{IsStack, Stack, filled, freed, grown, reserved, with_spilled, with_words}

-- of the words after n zeros, those that the cache keeps and those that it spills
module _ (n : ℕ) (words : List ℕ) (few : n ≤ 128) where
  with_rest : 128 ≡ n + (128 - n)
  with_rest = omega arith

  pub kept : drop n (take 128 (replicate n 0 ++ words)) ≡ take (128 - n) words
  kept =
      ap (λ k. drop n (take k (replicate n 0 ++ words))) with_rest ∙ drop-take n (128 - n) (replicate n 0 ++ words)
      ∙ ap (take (128 - n)) (drop_at (replicate n 0) words n (length-replicate n 0))

  pub gone : drop 128 (replicate n 0 ++ words) ≡ drop (128 - n) words
  gone =
      ap (λ k. drop k (replicate n 0 ++ words)) with_rest ∙ sym (drop-drop (128 - n) n (replicate n 0 ++ words))
      ∙ ap (drop (128 - n)) (drop_at (replicate n 0) words n (length-replicate n 0))

-- words written to memory and read from there again
pub read_back : (memory words : List ℕ) (at count : ℕ) → at ≤ length memory → count ≡ length words
    → take count (drop at (with_words memory at words)) ≡ words
read_back memory words at count fits whole =
    let others : List ℕ = drop (at + length words) memory in
    ap (take count) (drop_at (take at memory) (words ++ others) at (length-take-le at memory fits))
    ∙ take_at words others count (sym whole)

pub back_is : (n : ℕ) (s : Stack) (private : List ℕ) → IsStack s → length private ≡ 65536 → n ≤ 128 → 49152 + n ≤ s.st
    → filled (length s.words) (with_spilled n s private) (freed n (reserved n s)) ≡ s
back_is n s private h whole few room =
    let end : ℕ = min s.ss (s.st - n + 128) in
    let stays = length-take (128 - n) s.words in
    let goes = length-drop (128 - n) s.words in
    let lack : ℕ = length s.words - length (take (128 - n) s.words) in
    let same_end : max end (s.st - n + n) ≡ end = omega (arith, h) in
    let prefix = kept n s.words few in
    let lost = gone n s.words few in
    let back : take lack (drop end (with_words private end (drop (128 - n) s.words))) ≡ drop (128 - n) s.words =
    read_back private (drop (128 - n) s.words) end lack (omega (arith, h)) (omega (arith, stays, goes)) in
    let top : s.st - n + n ≡ s.st = omega arith in
    let pointer : max end (s.st - n + n) + (length s.words - length (drop n (take 128 (grown n s)))) ≡ s.ss =
    omega (arith, h, ap length prefix, stays) in
    let words : drop n (take 128 (grown n s)) ++ take (length s.words - length (drop n (take 128 (grown n s)))) (drop
    (max end (s.st - n + n)) (with_words private end (drop 128 (grown n s)))) ≡ s.words =
    rw (prefix, lost, same_end, back) (take-append-drop (128 - n) s.words) in
    λ k. record { st = top k; ss = pointer k; words = words k }
