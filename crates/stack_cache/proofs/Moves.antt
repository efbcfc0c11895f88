-- What each instruction leaves in the cache, over plain lists and numbers.
use Rattle.std.proofs.Common.{◌≡◌, ℕ, ◌+◌, ◌-◌, ◌%◌, ◌<◌, ◌≤◌, ◌⊎◌, max, min, List, ◌++◌, length, get_or, set, take, drop, replicate, inl, inr, arith, ap, ap₂, ◌∙◌, sym, length-append, length-take, length-drop, get_or-take, get_or-drop, length-set, get_or-set_same, get_or-set_other}
use Rattle.std.proofs.lemmas.Bool.{cases_lt, cases_eq}
use Rattle.std.proofs.lemmas.List.{same_lists, get_or_default, get_or_append_left, get_or-append_right}
use Rattle.stack_cache.specs.Slots.{held, slot, shown, AreInRange}
use Rattle.stack_cache.specs.Stack.{IsStack, filled, freed, missing, reserved, spilled, with_spilled, with_words}
use Rattle.stack_cache.proofs.Words.{length_held, get_held, length_grown, get_zero, get_old}
use Rattle.stack_cache.proofs.Memory.{get_below, get_among, get_above}

pub is_stack : (st ss : ℕ) (slots : List ℕ) → AreInRange st ss → IsStack (shown st ss slots)
is_stack st ss slots h = record {
  low = h.low;
  high = h.high;
  between = omega (arith, length_held slots st (ss - st), h.order);
  few = omega (arith, length_held slots st (ss - st), h.few);
}

-- n words are reserved, and ss' is where the words held then end
pub record Reserves (st ss n ss' : ℕ) : Type 0 where
  pub range : AreInRange st ss
  pub few : n ≤ 128
  pub room : 49152 + n ≤ st
  pub pointer : ss' ≡ min ss (st - n + 128)

-- the new words are 0, and those that stay are as they were
module _ (st ss n ss' : ℕ) (r : Reserves st ss n ss') where
  module _ (old new : List ℕ) (zeros : (word : ℕ) → st - n ≤ word → word < st → slot new word ≡ 0)
      (others : (word : ℕ) → st ≤ word → word < st - n + 128 → slot new word ≡ slot old word) where
    get_reserved : (i d : ℕ) → i < ss' - (st - n) → slot new (st - n + i)
        ≡ get_or (replicate n 0 ++ held old st (ss - st)) i d
    get_reserved i d below = elim (cases_lt i n) [
      | inl low ↦ zeros (st - n + i) (omega arith) (omega arith) ∙ sym (get_zero n old st (ss - st) i d low)
      | inr high ↦ others (st - n + i) (omega arith) (omega arith) ∙ ap (slot old) (omega arith)
          ∙ sym (get_old n old st (ss - st) i d high (omega arith))
    ]

    words_reserved : held new (st - n) (ss' - (st - n)) ≡ take 128 (replicate n 0 ++ held old st (ss - st))
    words_reserved =
        let grown : List ℕ = replicate n 0 ++ held old st (ss - st) in
        let long = length_held new (st - n) (ss' - (st - n)) in
        same_lists (held new (st - n) (ss' - (st - n))) (take 128 grown)
        (long ∙ (omega (arith, length_grown n old st (ss - st), length-take 128 grown)))
        (λ i d below.
        let low : i < ss' - (st - n) = omega (arith, long) in
        get_held new (st - n) _ i d low ∙ get_reserved i d low ∙ sym (get_or-take 128 grown i d (omega arith)))

    pub reserved_is : shown (st - n) ss' new ≡ reserved n (shown st ss old)
    reserved_is = λ k. record { st = st - n; ss = r.pointer k; words = words_reserved k }

  pub spilled_is : (slots : List ℕ) → held slots ss' (ss - ss') ≡ spilled n (shown st ss slots)
  spilled_is slots =
      let grown : List ℕ = replicate n 0 ++ held slots st (ss - st) in
      let long = length_held slots ss' (ss - ss') in
      same_lists (held slots ss' (ss - ss')) (drop 128 grown)
      (long ∙ (omega (arith, length_grown n slots st (ss - st), length-drop 128 grown)))
      (λ i d below.
      let low : i < ss - ss' = omega (arith, long) in
      get_held slots ss' (ss - ss') i d low ∙ ap (slot slots) (omega arith)
      ∙ sym (get_or-drop 128 grown i d ∙ get_old n slots st (ss - st) (128 + i) d (omega arith) (omega arith)))

  pub memory_is : (slots private : List ℕ) → with_words private ss' (held slots ss' (ss - ss'))
      ≡ with_spilled n (shown st ss slots) private
  memory_is slots private = ap₂ (with_words private) r.pointer (spilled_is slots)

  pub moved_out : (slots : List ℕ) → ss - ss' ≡ length (spilled n (shown st ss slots))
  moved_out slots = sym (length_held slots ss' (ss - ss')) ∙ ap length (spilled_is slots)

  pub own_are : (slots private : List ℕ) → length private ≡ 65536 → (word : ℕ) → ss' ≤ word → word < ss
      → get_or (with_words private ss' (held slots ss' (ss - ss'))) word 0
      ≡ get_or (shown st ss slots).words (word - st) 0
  own_are slots private whole word low high =
      let written : List ℕ = held slots ss' (ss - ss') in
      let long = length_held slots ss' (ss - ss') in
      get_among private written ss' word 0 (omega (arith, long)) low (omega (arith, long))
      ∙ get_held slots ss' (ss - ss') (word - ss') 0 (omega arith) ∙ ap (slot slots) (omega arith)
      ∙ sym (get_held slots st (ss - st) (word - st) 0 (omega arith))

  pub others_are : (slots private : List ℕ) → length private ≡ 65536 → (word : ℕ) → (word < ss') ⊎ (ss ≤ word)
      → get_or (with_words private ss' (held slots ss' (ss - ss'))) word 0 ≡ get_or private word 0
  others_are slots private whole word out =
      let written : List ℕ = held slots ss' (ss - ss') in
      let long = length_held slots ss' (ss - ss') in
      elim out [
        | inl low ↦ get_below private written ss' word 0 (omega (arith, long)) low
        | inr high ↦ get_above private written ss' word 0 (omega (arith, long)) (omega (arith, long))
      ]

-- the stack is to have n words from st on, and ss' is where they end, or the words held end
pub record Reaches (st ss n ss' : ℕ) : Type 0 where
  pub range : AreInRange st ss
  pub few : n ≤ 128
  pub room : st + n ≤ 65536
  pub pointer : ss' ≡ max ss (st + n)

module _ (st ss n ss' : ℕ) (r : Reaches st ss n ss') where
  pub moved_in : (slots : List ℕ) → ss' - ss ≡ missing n (shown st ss slots)
  moved_in slots = omega (arith, length_held slots st (ss - st))

  module _ (old new private : List ℕ) (whole : length private ≡ 65536)
      (brought : (word : ℕ) → ss ≤ word → word < ss' → slot new word ≡ get_or private word 0)
      (others : (word : ℕ) → word < ss → ss' ≤ word + 128 → slot new word ≡ slot old word) where
    pointer_filled : ss' ≡ ss + (n - length (held old st (ss - st)))
    pointer_filled = omega (arith, length_held old st (ss - st))

    words_filled : held new st (ss' - st) ≡ held old st (ss - st) ++ take (n - length (held old st (ss - st)))
        (drop ss private)
    words_filled =
        let kept : List ℕ = held old st (ss - st) in
        let more : ℕ = n - length kept in
        let long = length_held new st (ss' - st) in
        let short = length_held old st (ss - st) in
        let read = length-take more (drop ss private) in
        same_lists (held new st (ss' - st)) (kept ++ take more (drop ss private))
        (long ∙ (omega (arith, short, read, length-drop ss private, length-append kept (take more (drop ss private)))))
        (λ i d below.
        let low : i < ss' - st = omega (arith, long) in
        get_held new st (ss' - st) i d low ∙ elim (cases_lt i (ss - st)) [
          | inl at_hand ↦ others (st + i) (omega arith) (omega arith)
              ∙ sym (get_or_append_left kept (take more (drop ss private)) d i (omega (arith, short))
              ∙ get_held old st (ss - st) i d at_hand)
          | inr past ↦ brought (st + i) (omega arith) (omega arith)
              ∙ get_or_default private (st + i) 0 d (omega arith)
              ∙ ap (λ k. get_or private k d) (omega arith)
              ∙ sym (get_or-append_right kept (take more (drop ss private)) (ss - st) i d short past
              ∙ get_or-take more (drop ss private) (i - (ss - st)) d (omega (arith, short))
              ∙ get_or-drop ss private (i - (ss - st)) d)
        ])

    pub filled_is : shown st ss' new ≡ filled n private (shown st ss old)
    filled_is = λ k. record { st = st; ss = pointer_filled k; words = words_filled k }

  words_freed : (slots : List ℕ) → held slots (st + n) (ss' - (st + n)) ≡ drop n (held slots st (ss - st))
  words_freed slots =
      let long = length_held slots (st + n) (ss' - (st + n)) in
      let before : List ℕ = held slots st (ss - st) in
      same_lists (held slots (st + n) (ss' - (st + n))) (drop n before)
      (long ∙ (omega (arith, length-drop n before, length_held slots st (ss - st))))
      (λ i d below.
      let low : i < ss' - (st + n) = omega (arith, long) in
      get_held slots (st + n) (ss' - (st + n)) i d low ∙ ap (slot slots) (omega arith)
      ∙ sym (get_or-drop n before i d ∙ get_held slots st (ss - st) (n + i) d (omega arith)))

  pub freed_is : (slots : List ℕ) → shown (st + n) ss' slots ≡ freed n (shown st ss slots)
  freed_is slots = λ k. record { st = st + n; ss = r.pointer k; words = words_freed slots k }

-- get and set
pub get_is : (st ss i : ℕ) (slots : List ℕ) → i < ss - st → slot slots (st + i) ≡ get_or (shown st ss slots).words i 0
get_is st ss i slots within = sym (get_held slots st (ss - st) i 0 within)

pub set_is : (st ss i v : ℕ) (slots : List ℕ) → length slots ≡ 128 → AreInRange st ss → i < ss - st
    → shown st ss (set slots ((st + i) % 128) v) ≡ record (shown st ss slots) {
      words = set (shown st ss slots).words i v;
    }
set_is st ss i v slots whole range within =
    let at : ℕ = (st + i) % 128 in
    let after : List ℕ = set slots at v in
    let before : List ℕ = held slots st (ss - st) in
    let long = length_held after st (ss - st) in
    let short = length_held slots st (ss - st) in
    λ k. record {
      st = st;
      ss = ss;
      words = same_lists (held after st (ss - st)) (set before i v)
          (long ∙ sym (length-set before i v ∙ short))
          (λ j d below.
          let low : j < ss - st = omega (arith, long) in
          get_held after st (ss - st) j d low ∙ elim (cases_eq j i) [
            | inl here ↦ ap (λ m. get_or after ((st + m) % 128) 0) here ∙ get_or-set_same slots at v 0 (omega arith)
                ∙ sym (ap (λ m. get_or (set before i v) m d) here ∙ get_or-set_same before i v d (omega (arith, short)))
            | inr other ↦ get_or-set_other slots at ((st + j) % 128) v 0 (λ same. absurd (omega (arith, same, other)))
                ∙ sym (get_or-set_other before i j v d other ∙ get_held slots st (ss - st) j d low)
          ]) k;
    }
