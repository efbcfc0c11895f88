-- What stack instructions and stores leave of a run's stack in a core.
use Rattle.std.proofs.Common.{◌≡◌, ℕ, zero, suc, ◌+◌, ◌-◌, ◌/◌, ◌<◌, ◌≤◌, ◌&&◌, nat_le, nat_lt, max, min, Bool, true, false, if◌then◌else◌, List, [], ◌∷◌, ◌++◌, length, get_or, set, take, drop, replicate, inl, inr, refl, sym, ap, ◌∙◌, arith, length-take, length-drop, length-append, get_or-take, get_or-drop, length-set, get_or-set_same, get_or-set_other}
use Rattle.std.proofs.lemmas.Bool.{cases_lt, cases_eq, le-leb, lt-ltb, le-ltb}
use Rattle.std.proofs.lemmas.List.{length-replicate, get_or-replicate, get_or_append_left, get_or-append_right}
use Rattle.std.proofs.lemmas.List.FromFn.{length-map-range_with_len, get_or-map-range_with_len}
use Rattle.shared_order.specs.Words.{put}
use Rattle.stack_cache.specs.Stack.{Stack, IsStack, grown, reserved, spilled, missing, freed}
use Rattle.patmos_instr.specs.declared.functions.StackFunc.TheVariants.{Sres, Sens, Sfree}
use Rattle.patmos_instr.specs.declared.memories.Mem.TheVariants as mem
use Rattle.patmos_instr.specs.declared.memories.StoreWidth.{StoreWidth}
use Rattle.patmos_sem.specs.Narrow.{merged}
use Rattle.patmos_model.specs.Bundle.{words_from, with_words, refilled, stack_set}
use Rattle.core_pace.proofs.StackWords.{kept_below, kept_past, put_here, put_there}
use Rattle.sp_shape.specs.Run as run
use Rattle.sp_shape.specs.Run.{Run}
use Rattle.code_core.specs.Held.{HoldsStack}

-- ---- words put

-- words put from a place on are there
pub put_among : (memory : ℕ → ℕ) (from : ℕ) (words : List ℕ) (i a : ℕ) → i < length words → from + i ≡ a
    → with_words from words memory a ≡ get_or words i 0
put_among memory from [] i a below at = absurd (omega (arith, below))
put_among memory from (w ∷ words) zero a below at =
    kept_below (put from w memory) (from + 1) words a (omega (arith, at)) ∙ ap (put from w memory) (sym at
    ∙ omega arith) ∙ put_here memory from w
put_among memory from (w ∷ words) (suc i) a below at =
    put_among (put from w memory) (from + 1) words i a (omega (arith, below)) (omega (arith, at))

-- ---- words reserved

new_word : (st count : ℕ) (stack : ℕ → ℕ) (a : ℕ) → st - count ≤ a → a < st → run.reserved st count stack a ≡ 0
new_word st count stack a low high = ap (λ b. if b then 0 else stack a) (two (nat_le (st - count) a) (nat_lt a st)
    (le-leb (st - count) a low) (lt-ltb a st high))
  where
    two : (x y : Bool) → x ≡ true → y ≡ true → (x && y) ≡ true
    two x y p q = cc

old_word : (st count : ℕ) (stack : ℕ → ℕ) (a : ℕ) → st ≤ a → run.reserved st count stack a ≡ stack a
old_word st count stack a past =
    ap (λ b. if b then 0 else stack a) (no (nat_le (st - count) a) (nat_lt a st) (le-ltb a st past))
  where
    no : (x y : Bool) → y ≡ false → (x && y) ≡ false
    no true y e = e
    no false y e = refl

module _ (n : ℕ) (s : Stack) where
  length_grown : length (grown n s) ≡ n + length s.words
  length_grown = length-append (replicate n 0) s.words ∙ ap (λ k. k + length s.words) (length-replicate {A = ℕ} n 0)

  grown_new : (i : ℕ) → i < n → get_or (grown n s) i 0 ≡ 0
  grown_new i low = get_or_append_left (replicate n 0) s.words 0 i (omega (arith, low, length-replicate {A = ℕ} n 0))
      ∙ get_or-replicate n i 0 0 low

  grown_old : (i : ℕ) → n ≤ i → get_or (grown n s) i 0 ≡ get_or s.words (i - n) 0
  grown_old i past = get_or-append_right (replicate n 0) s.words n i 0 (length-replicate n 0) past

pub reserves : (n : ℕ) (m : Run) (s : Stack) (private : ℕ → ℕ) → HoldsStack m s private → n ≤ 128 → 49152 + n ≤ m.st
    → HoldsStack (run.stacked Sres n m) (reserved n s) (with_words (reserved n s).ss (spilled n s) private)
reserves n m s private h few room = record {
  is_stack = record {
    low = omega (arith, room, h.st);
    high = omega (arith, k.high);
    between = omega (
      arith,
      k,
      long,
      room,
      h.st,
    );
    few = omega (arith, long);
  };
  st = ap (λ x. x - n) h.st;
  ss = λ i. min (h.ss i) (h.st i - n + 128);
  held = held_word;
  spilled = spilled_word;
}
  where
    k : IsStack s
    k = h.is_stack

    long : length (take 128 (grown n s)) ≡ min 128 (n + length s.words)
    long = length-take 128 (grown n s) ∙ ap (min 128) (length_grown n s)

    gone : length (spilled n s) ≡ n + length s.words - 128
    gone = length-drop 128 (grown n s) ∙ ap (λ x. x - 128) (length_grown n s)

    held_word : (i : ℕ) → i < length (take 128 (grown n s)) → get_or (take 128 (grown n s)) i 0
        ≡ run.reserved m.st n m.stack (m.st - n + i)
    held_word i below = get_or-take 128 (grown n s) i 0 (omega (arith, below, long)) ∙ elim (cases_lt i n) [
      | inl low ↦ grown_new n s i low ∙ sym (new_word m.st n m.stack (m.st - n + i) (omega arith)
          (omega (arith, low, room)))
      | inr past ↦ grown_old n s i past ∙ h.held (i - n) (omega (arith, past, below, long))
          ∙ ap m.stack (omega (arith, past, room)) ∙ sym (old_word m.st n m.stack (m.st - n + i)
          (omega (arith, past, room)))
    ]

    spilled_word : (a : ℕ) → min s.ss (s.st - n + 128) ≤ a → a < 65536
        → with_words (min s.ss (s.st - n + 128)) (spilled n s) private a ≡ run.reserved m.st n m.stack a
    spilled_word a past below = elim (cases_lt a s.ss) [
      | inl within ↦
          put_among private (min s.ss (s.st - n + 128)) (spilled n s) (a - min s.ss (s.st - n + 128)) a
          (omega (arith, gone, k, within, past, room, h.st)) (omega (arith, past))
          ∙ get_or-drop 128 (grown n s) (a - min s.ss (s.st - n + 128)) 0
          ∙ grown_old n s (128 + (a - min s.ss (s.st - n + 128))) (omega (arith, few))
          ∙ h.held (128 + (a - min s.ss (s.st - n + 128)) - n) (omega (arith, k, within, past, room, h.st, few))
          ∙ ap m.stack (omega (arith, k, within, past, room, h.st, few))
          ∙ sym (old_word m.st n m.stack a (omega (arith, k, within, past, room, h.st, few)))
      | inr out ↦
          kept_past private (min s.ss (s.st - n + 128)) (spilled n s) a (omega (arith, gone, k, out, past, room, h.st))
          ∙ h.spilled a out below
          ∙ sym (old_word m.st n m.stack a (omega (arith, k, out, h.st)))
    ]

-- ---- words brought back

pub ensures_held : (n : ℕ) (m : Run) (s : Stack) (private : ℕ → ℕ) → HoldsStack m s private → n ≤ 128 → m.st + n ≤ 65536
    → HoldsStack (run.stacked Sens n m) (refilled n private s) private
ensures_held n m s private h few room = record {
  is_stack = record {
    low = k.low;
    high = omega (arith, k, room, h.st);
    between = omega (arith, k, long);
    few = omega (arith, k, long, few);
  };
  st = h.st;
  ss = omega (arith, h.ss, h.st, k);
  held = held_word;
  spilled = λ a past below. h.spilled a (omega (arith, past)) below;
}
  where
    k : IsStack s
    k = h.is_stack

    more : ℕ
    more = missing n s

    came : length (words_from private s.ss more) ≡ more
    came = length-map-range_with_len private s.ss more

    long : length (s.words ++ words_from private s.ss more) ≡ length s.words + more
    long = length-append s.words (words_from private s.ss more) ∙ ap (λ x. length s.words + x) came

    held_word : (i : ℕ) → i < length (s.words ++ words_from private s.ss more)
        → get_or (s.words ++ words_from private s.ss more) i 0 ≡ m.stack (m.st + i)
    held_word i below = elim (cases_lt i (length s.words)) [
      | inl low ↦ get_or_append_left s.words (words_from private s.ss more) 0 i low ∙ h.held i low
      | inr past ↦
          get_or-append_right s.words (words_from private s.ss more) (length s.words) i 0 refl past
          ∙ get_or-map-range_with_len private s.ss more (i - length s.words) (m.st + i) 0 (omega (
            arith,
            past,
            below,
            long,
          )) (omega (arith, past, k, h.st))
          ∙ h.spilled (m.st + i) (omega (arith, past, k, h.st)) (omega (arith, past, below, long, k, room, h.st, few))
    ]

-- ---- words freed

pub frees : (n : ℕ) (m : Run) (s : Stack) (private : ℕ → ℕ) → HoldsStack m s private → m.st + n ≤ 65536
    → HoldsStack (run.stacked Sfree n m) (freed n s) private
frees n m s private h room = record {
  is_stack = record {
    low = omega (arith, k.low);
    high = omega (arith, k, room, h.st);
    between = omega (arith, k, long);
    few = omega (arith, k, long);
  };
  st = ap (λ x. x + n) h.st;
  ss = λ i. max (h.ss i) (h.st i + n);
  held = λ i below. get_or-drop n s.words i 0 ∙ h.held (n + i) (omega (arith, below, long)) ∙ ap m.stack (omega arith);
  spilled = λ a past below. h.spilled a (omega (arith, past)) below;
}
  where
    k : IsStack s
    k = h.is_stack

    long : length (drop n s.words) ≡ length s.words - n
    long = length-drop n s.words

-- ---- words stored

pub sets_held : (width : StoreWidth) (address value : ℕ) (m : Run) (s : Stack) (private : ℕ → ℕ)
    → HoldsStack m s private → m.st + address / 4 < m.ss
    → HoldsStack (run.stored mem.S width address value m) (stack_set width address value s) private
sets_held width address value m s private h within = record {
  is_stack = record { low = k.low; high = k.high; between = omega (arith, k, long); few = omega (arith, k, long) };
  st = h.st;
  ss = h.ss;
  held = held_word;
  spilled = λ a past below. h.spilled a past below ∙ sym (put_there m.stack (m.st + address / 4) _ a
      (λ e. omega (arith, e, past, within, h.ss)));
}
  where
    k : IsStack s
    k = h.is_stack

    at : ℕ
    at = address / 4

    new : ℕ
    new = merged width address (get_or s.words at 0) value

    long : length (set s.words at new) ≡ length s.words
    long = length-set s.words at new

    there : get_or s.words at 0 ≡ m.stack (m.st + at)
    there = h.held at (omega (arith, within, k, h.st, h.ss))

    held_word : (i : ℕ) → i < length (set s.words at new) → get_or (set s.words at new) i 0
        ≡ put (m.st + at) (merged width address (m.stack (m.st + at)) value) m.stack (m.st + i)
    held_word i below = elim (cases_eq i at) [
      | inl same ↦
          ap (λ j. get_or (set s.words at new) j 0) same ∙ get_or-set_same s.words at new 0 (omega (
            arith,
            within,
            k,
            h.st,
            h.ss,
          ))
          ∙ ap (λ w. merged width address w value) there
          ∙ sym (ap (λ j. put (m.st + at) (merged width address (m.stack (m.st + at)) value) m.stack (m.st + j)) same
          ∙ put_here m.stack (m.st + at) _)
      | inr other ↦
          get_or-set_other s.words at i new 0 other ∙ h.held i (omega (arith, below, long))
          ∙ sym (put_there m.stack (m.st + at) _ (m.st + i) (λ e. other (omega (arith, e))))
    ]

-- a word below the stack
pub below_held : (word value : ℕ) (m : Run) (s : Stack) (private : ℕ → ℕ) → HoldsStack m s private → word < 49152
    → HoldsStack m s (put word value private)
below_held word value m s private h low = record {
  is_stack = h.is_stack;
  st = h.st;
  ss = h.ss;
  held = h.held;
  spilled = λ a past below. put_there private word value a (λ e. omega (arith, e, past, low, h.is_stack))
      ∙ h.spilled a past below;
}
