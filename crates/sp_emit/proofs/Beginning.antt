-- What the code leaves with which a function begins: its frame holds the arguments and the mask, and 0 in all other
-- words.
use Rattle.std.proofs.Common.{◌≡◌, ℕ, zero, suc, ◌+◌, ◌-◌, ◌^◌, ◌<◌, ◌≤◌, ◌⊎◌, inl, inr, Bool, true, false, if◌then◌else◌, Option, None, Some, List, [], ◌∷◌, length, slice_index, nat_lt, refl, sym, ap, ◌∙◌, subst, arith}
use Rattle.std.proofs.lemmas.Bool.{cases_lt, cases_eq, ltb-true, lt-ltb, le-ltb, le-leb}
use Rattle.tc_word.proofs.Items.{past_all}
use Rattle.shared_order.specs.Words.{put}
use Rattle.patmos_instr.specs.declared.functions.PredFunc.TheVariants as comb
use Rattle.patmos_instr.specs.declared.functions.StackFunc.TheVariants.{Sres}
use Rattle.patmos_sem.specs.Operations.{pred_value}
use Rattle.sp_shape.proofs.Whole.{run_append}
use Rattle.sp_shape.specs.Run.{Run, Sources, by_words, once, run, reserved, IsWhole}
use Rattle.sp_shape.specs.Trail.{all_done}
use Rattle.sp_shape.proofs.Lists.{done_append}
use Rattle.sp_emit.specs.Functions.{argument_kept, arguments_kept, words_taken}
use Rattle.patmos_sem.specs.declared.writes.Write.TheVariants as write
use Rattle.sp_emit.specs.Holding.{held, KeepsFrom}
use Rattle.sp_emit.specs.Instructions.{always, set_short}
use Rattle.sp_emit.specs.Places.{flag_of, in_register, shown_word, set_word, cleared_in, word_cleared, words_cleared, stack_word}
use Rattle.sp_emit.specs.declared.registers.TheConstants.{FIRST, OVERRUN}
use Rattle.sp_emit.proofs.Arguments.{did_stack}
use Rattle.sp_emit.proofs.Frames.{put_same, put_other}
use Rattle.sp_emit.proofs.FlagWords.{shown_plain, shown_set, shown_beside, flag_own, flag_beside}
use Rattle.sp_emit.proofs.Leaving.{did_set_short, did_combine}
use Rattle.sp_emit.proofs.Once.{with_written, whole_written, kept_by_pred}
use Rattle.sp_emit.proofs.WordPlaces.{with_word, Sets, did_set_word, sets_word, sets_register, in_stack, Outside}
use Rattle.sp_emit.specs.declared.stands.Homes.{Homes}

-- the first so many of some words, and 0 after them
abbrev pub first_words : ℕ → List ℕ → ℕ → ℕ
first_words count words x = if nat_lt x count then slice_index words x else 0

-- a frame was taken, whose first words are these; all memories are as they were, and so are the stack after it, the
-- registers before the window and those after it
pub record Taken (homes : Homes) (frame slots : ℕ) (words : ℕ → ℕ) (m t : Run) : Type 0 where
  pub whole : IsWhole t
  pub memory : t.memory ≡ m.memory
  pub st : t.st ≡ m.st - frame
  pub frame_is : (x : ℕ) → x < slots → shown_word homes x t ≡ words x
  pub behind : (a : ℕ) → m.st ≤ a → t.stack a ≡ m.stack a
  pub low : (r : ℕ) → 1 ≤ r → r < homes.first → r < 32 → held r t ≡ held r m
  pub high : KeepsFrom (homes.first + slots) m t
  pub flag : held OVERRUN t ≡ held OVERRUN m

reserved_word : (st count word : ℕ) (stack : ℕ → ℕ) → st - count ≤ word → word < st → reserved st count stack word ≡ 0
reserved_word st count word stack from below = rw (le-leb (st - count) word from, lt-ltb word st below) refl

pub reserved_after : (st count word : ℕ) (stack : ℕ → ℕ) → st ≤ word → reserved st count stack word ≡ stack word
reserved_after st count word stack above =
    rw (le-leb (st - count) word (omega (arith, above)), le-ltb word st above) refl

-- the first so many words are 0 so far, and so are all of the stack
record Clears (homes : Homes) (frame slots count : ℕ) (m t : Run) : Type 0 where
  whole : IsWhole t
  memory : t.memory ≡ m.memory
  st : t.st ≡ m.st - frame
  cleared : (x : ℕ) → x < count → shown_word homes x t ≡ 0
  zeros : (x : ℕ) → x < frame → t.stack (t.st + x) ≡ 0
  behind : (a : ℕ) → m.st ≤ a → t.stack a ≡ m.stack a
  low : (r : ℕ) → 1 ≤ r → r < homes.first → r < 32 → held r t ≡ held r m
  high : KeepsFrom (homes.first + slots) m t
  flag : held OVERRUN t ≡ held OVERRUN m

takes_frame : (from : Sources) (homes : Homes) (frame slots : ℕ) (m : Run) → IsWhole m → frame ≤ m.st
    → Clears homes frame slots 0 m (run from (all_done (words_taken frame)) m)
takes_frame from homes zero slots m whole enough = record {
  whole = whole;
  memory = refl;
  st = omega arith;
  cleared = λ x lt. absurd (omega (arith, lt));
  zeros = λ x lt. absurd (omega (arith, lt));
  behind = λ a above. refl;
  low = λ r some before few. refl;
  high = λ r from lt. refl;
  flag = refl;
}
takes_frame from homes (suc n) slots m whole enough =
    subst (Clears homes (suc n) slots 0 m) (sym (did_stack from Sres (suc n) m whole)) (record {
      whole = record { fits = whole.fits; pending = whole.pending };
      memory = refl;
      st = refl;
      cleared = λ x lt. absurd (omega (arith, lt));
      zeros = λ x lt. reserved_word m.st (suc n) (m.st - suc n + x) m.stack (omega arith) (omega (arith, lt, enough));
      behind = λ a above. reserved_after m.st (suc n) a m.stack above;
      low = λ r some before few. refl;
      high = λ r from lt. refl;
      flag = refl;
    })

-- a word is cleared in a predicate or in a register, or is left in the stack
word_cleared_is : (P : Run → Type 0) (from : Sources) (homes : Homes) (slot : ℕ) (m : Run) → IsWhole m
    → ((p : ℕ) → flag_of homes.flags slot ≡ Some p → P (with_written (write.Predicate p false) m))
    → (flag_of homes.flags slot ≡ None → homes.first + slot < OVERRUN
    → P (with_written (write.Register (homes.first + slot) 0) m))
    → (flag_of homes.flags slot ≡ None → in_register homes.first slot ≡ false → P m)
    → P (run from (all_done (word_cleared homes slot)) m)
unfolding cleared_in
word_cleared_is P from homes slot m whole flagged here there = by (flag_of homes.flags slot) refl
  where
    in_it : flag_of homes.flags slot ≡ None → (b : Bool) → in_register homes.first slot ≡ b
        → P (run from (all_done (if b then set_short always (homes.first + slot) 0 ∷ [] else [])) m)
    in_it plain true is = subst P (sym (did_set_short from always (homes.first + slot) 0 m whole whole.fits.always))
        (here plain (ltb-true (homes.first + slot) OVERRUN is))
    in_it plain false is = there plain is

    by : (o : Option ℕ) → flag_of homes.flags slot ≡ o → P (run from (all_done (cleared_in o homes.first slot)) m)
    by None plain = in_it plain (in_register homes.first slot) refl
    by (Some p) is =
        subst P (sym (did_combine from comb.Pxor p 0 0 m whole
        ∙ ap (λ b. with_written (write.Predicate p (pred_value comb.Pxor b b)) m) whole.fits.always)) (flagged p is)

next_word : (n v : ℕ) → v < suc n → (n ≡ v → ⊥) → v < n
next_word n v lt other = less (cases_lt v n)
  where
    less : (v < n) ⊎ (n ≤ v) → v < n
    less (inl is) = is
    less (inr more) = absurd (other (omega (arith, more, lt)))

-- one more word is 0 where the earlier ones are, and stay
one_cleared : (homes : Homes) (n : ℕ) (u w : Run) → ((x : ℕ) → x < n → shown_word homes x u ≡ 0) → shown_word homes n w
    ≡ 0 → ((x : ℕ) → (n ≡ x → ⊥) → shown_word homes x w ≡ shown_word homes x u) → (v : ℕ) → v < suc n
    → shown_word homes v w ≡ 0
one_cleared homes n u w earlier own others v lt = by (cases_eq n v)
  where
    by : (n ≡ v) ⊎ (n ≡ v → ⊥) → shown_word homes v w ≡ 0
    by (inl same) = ap (λ i. shown_word homes i w) (sym same) ∙ own
    by (inr other) = others v other ∙ earlier v (next_word n v lt other)

clears_words : (from : Sources) (homes : Homes) (frame slots count : ℕ) (m t : Run) → 1 ≤ homes.first
    → Outside homes.first slots frame → count ≤ slots → Clears homes frame slots 0 m t
    → Clears homes frame slots count m (run from (all_done (words_cleared homes count)) t)
clears_words from homes frame slots zero m t some out few x = x
clears_words from homes frame slots (suc n) m t some out few x =
    let y = clears_words from homes frame slots n m t some out (omega (arith, few)) x in
    let u = run from (all_done (words_cleared homes n)) t in
    subst (Clears homes frame slots (suc n) m)
    (sym (ap (λ steps. run from steps t) (done_append (words_cleared homes n) (word_cleared homes n))
    ∙ run_append from (all_done (words_cleared homes n)) (all_done (word_cleared homes n)) t))
    (word_cleared_is (Clears homes frame slots (suc n) m) from homes n u y.whole
    (λ p is. record {
      whole = whole_written (write.Predicate p false) u y.whole;
      memory = y.memory;
      st = y.st;
      cleared = one_cleared homes n u (with_written (write.Predicate p false) u) y.cleared
          (flag_own homes n p false u y.whole is) (λ v other. flag_beside homes n v p false u y.whole is other);
      zeros = y.zeros;
      behind = y.behind;
      low = λ r least before small. kept_by_pred p false r u y.whole small ∙ y.low r least before small;
      high = λ r past lt. kept_by_pred p false r u y.whole (omega (arith, lt)) ∙ y.high r past lt;
      flag = kept_by_pred p false OVERRUN u y.whole (omega arith) ∙ y.flag;
    })
    (λ plain in_it. let set = sets_register homes.first n 0 u some y.whole in_it in record {
      whole = set.whole;
      memory = set.memory ∙ y.memory;
      st = set.st ∙ y.st;
      cleared = one_cleared homes n u (with_written (write.Register (homes.first + n) 0) u) y.cleared
          (shown_set homes set plain) (λ v other. shown_beside homes v set other);
      zeros = λ v lt. y.zeros v lt;
      behind = λ a above. y.behind a above;
      low = λ r least before small. set.regs r least small (λ same. absurd (omega (arith, same, before)))
          ∙ y.low r least before small;
      high = λ r past lt. set.regs r (omega (arith, past, some)) (omega (arith, lt)) (λ same. absurd
          (omega (arith, same, past, few))) ∙ y.high r past lt;
      flag = set.flag ∙ y.flag;
    })
    (λ plain none. record {
      whole = y.whole;
      memory = y.memory;
      st = y.st;
      cleared = one_cleared homes n u u y.cleared (shown_plain homes n u plain ∙ in_stack homes.first n u none
          ∙ y.zeros (stack_word homes.first n) (out n (omega (arith, few)) none)) (λ v other. refl);
      zeros = y.zeros;
      behind = y.behind;
      low = y.low;
      high = y.high;
      flag = y.flag;
    }))

takes_words : (from : Sources) (homes : Homes) (frame slots : ℕ) (args : List ℕ) (m t : Run) → 1 ≤ homes.first
    → Outside homes.first slots frame → Clears homes frame slots 0 m t → Taken homes frame slots (first_words 0 args) m
    (run from (all_done (words_cleared homes slots)) t)
takes_words from homes frame slots args m t some out first =
    let x = clears_words from homes frame slots slots m t some out (omega arith) first in
    record {
      whole = x.whole;
      memory = x.memory;
      st = x.st;
      frame_is = λ u lt. x.cleared u lt ∙ sym (rw (le-ltb u 0 (omega arith)) refl);
      behind = x.behind;
      low = x.low;
      high = x.high;
      flag = x.flag;
    }

-- one more word
pub one_more : (j u : ℕ) (args : List ℕ) → put j (slice_index args j) (first_words j args) u
    ≡ first_words (suc j) args u
one_more j u args = by (cases_eq j u)
  where
    by : (j ≡ u) ⊎ (j ≡ u → ⊥) → put j (slice_index args j) (first_words j args) u ≡ first_words (suc j) args u
    by (inl same) = ap (put j (slice_index args j) (first_words j args)) (sym same)
        ∙ put_same j (slice_index args j) (first_words j args) ∙ sym (ap (first_words (suc j) args) (sym same)
        ∙ rw (lt-ltb j (suc j) (omega arith)) refl)
    by (inr other) = put_other j u (slice_index args j) (first_words j args) other ∙ at (cases_lt u j)
      where
        at : (u < j) ⊎ (j ≤ u) → first_words j args u ≡ first_words (suc j) args u
        at (inl less) = rw (lt-ltb u j less, lt-ltb u (suc j) (omega (arith, less))) refl
        at (inr more) = rw (le-ltb u j more, le-ltb u (suc j) (past (cases_lt j u))) refl
          where
            past : (j < u) ⊎ (u ≤ j) → suc j ≤ u
            past (inl less) = less
            past (inr same) = absurd (other (omega (arith, more, same)))

-- the words of a frame with one of them set
stores_word : (homes : Homes) (frame slots slot rs v : ℕ) (words more : ℕ → ℕ) (m t : Run) → flag_of homes.flags slot
    ≡ None → 1 ≤ homes.first → slot < slots → Outside homes.first slots frame → slots ≤ 128 → frame ≤ m.st → held rs t
    ≡ v → v < 2 ^ 32 → Taken homes frame slots words m t → ((u : ℕ) → put slot v words u ≡ more u)
    → Taken homes frame slots more m (once by_words (set_word homes.first always slot rs) t)
stores_word homes frame slots slot rs v words more m t plain some named out most enough is word x each =
    let set = sets_word homes.first slot v t some x.whole in
    subst (Taken homes frame slots more m)
    (sym (did_set_word by_words homes.first always slot rs v t x.whole x.whole.fits.always
    (omega (arith, named, most)) is word)) (record {
      whole = set.whole;
      memory = set.memory ∙ x.memory;
      st = set.st ∙ x.st;
      frame_is = λ u lt. at u lt set (cases_eq slot u) ∙ each u;
      behind = λ a above. set.stack a (λ beside same. absurd (omega (
        arith,
        same,
        x.st,
        above,
        out slot named beside,
        enough,
      ))) ∙ x.behind a above;
      low = λ r least before few. set.regs r least few (λ same. absurd (omega (arith, same, before)))
          ∙ x.low r least before few;
      high = λ r past lt. set.regs r (omega (arith, past, some)) (omega (arith, lt)) (λ same. absurd
          (omega (arith, same, past, named))) ∙ x.high r past lt;
      flag = set.flag ∙ x.flag;
    })
  where
    at : (u : ℕ) → u < slots → Sets 32 homes.first slot v t (with_word homes.first slot v t) → (slot ≡ u)
        ⊎ (slot ≡ u → ⊥) → shown_word homes u (with_word homes.first slot v t) ≡ put slot v words u
    at u lt set (inl same) = ap (λ i. shown_word homes i (with_word homes.first slot v t)) (sym same)
        ∙ shown_set homes set plain ∙ sym (put_same slot v words) ∙ ap (put slot v words) same
    at u lt set (inr other) = shown_beside homes u set other ∙ x.frame_is u lt ∙ sym (put_other slot u v words other)

-- so many arguments
stores_arguments : (homes : Homes) (frame slots j : ℕ) (args : List ℕ) (m t : Run) → ((i : ℕ) → i < length args
    → flag_of homes.flags i ≡ None) → FIRST + length args ≤ homes.first → j ≤ length args → length args ≤ slots
    → length args ≤ 6 → Outside homes.first slots frame → slots ≤ 128 → frame ≤ m.st
    → ((i : ℕ) → i < length args → held (FIRST + i) m ≡ slice_index args i) → ((i : ℕ) → slice_index args i < 2 ^ 32)
    → Taken homes frame slots (first_words 0 args) m t
    → Taken homes frame slots (first_words j args) m (run by_words (all_done (arguments_kept homes.first j)) t)
stores_arguments homes frame slots zero args m t plain before few inside small out most enough given words x = x
stores_arguments homes frame slots (suc j) args m t plain before few inside small out most enough given words x =
    let y = stores_arguments homes frame slots j args m t plain before (omega (arith, few)) inside small out most enough
    given words x in
    let n = run by_words (all_done (arguments_kept homes.first j)) t in
    let is : held (FIRST + j) n ≡ slice_index args j =
    y.low (FIRST + j) (omega arith) (omega (arith, few, before)) (omega (arith, few, small)) ∙ given j few in
    subst (Taken homes frame slots (first_words (suc j) args) m)
    (sym (ap (λ steps. run by_words steps t) (done_append (arguments_kept homes.first j) (argument_kept homes.first j))
    ∙ run_append by_words (all_done (arguments_kept homes.first j)) (all_done (argument_kept homes.first j)) t))
    (stores_word homes frame slots j (FIRST + j) (slice_index args j) (first_words j args) (first_words (suc j) args) m
    n (plain j few) (omega (arith, before)) (omega (arith, few, inside)) out most enough is (words j) y
    (λ u. one_more j u args))

all_words : (args : List ℕ) (u : ℕ) → first_words (length args) args u ≡ slice_index args u
all_words args u = by (cases_lt u (length args))
  where
    by : (u < length args) ⊎ (length args ≤ u) → first_words (length args) args u ≡ slice_index args u
    by (inl less) = rw (lt-ltb u (length args) less) refl
    by (inr more) = rw (le-ltb u (length args) more) (sym (past_all args u more))

pub begins_frame : (homes : Homes) (frame slots parameters : ℕ) (args : List ℕ) (m : Run) → ((i : ℕ) → i < length args
    → flag_of homes.flags i ≡ None) → IsWhole m → length args ≡ parameters → FIRST + parameters ≤ homes.first
    → parameters ≤ slots → parameters ≤ 6 → Outside homes.first slots frame → slots ≤ 128 → frame ≤ m.st
    → ((i : ℕ) → i < length args → held (FIRST + i) m ≡ slice_index args i) → ((i : ℕ) → slice_index args i < 2 ^ 32)
    → Taken homes frame slots (slice_index args) m (run by_words (all_done (arguments_kept homes.first parameters))
    (run by_words (all_done (words_cleared homes slots)) (run by_words (all_done (words_taken frame)) m)))
begins_frame homes frame slots parameters args m plain whole count before inside small out most enough given words =
    let t0 = run by_words (all_done (words_taken frame)) m in
    let t = run by_words (all_done (words_cleared homes slots)) t0 in
    subst (λ p. Taken homes frame slots (slice_index args) m (run by_words (all_done (arguments_kept homes.first p)) t))
    count
    (retold (stores_arguments homes frame slots (length args) args m t plain (omega (arith, count, before))
    (omega arith) (omega (arith, count, inside)) (omega (arith, count, small)) out most enough given words
    (takes_words by_words homes frame slots args m t0 (omega (arith, before)) out
    (takes_frame by_words homes frame slots m whole enough))))
  where
    retold : {t : Run} → Taken homes frame slots (first_words (length args) args) m t
        → Taken homes frame slots (slice_index args) m t
    retold x = record {
      whole = x.whole;
      memory = x.memory;
      st = x.st;
      frame_is = λ u lt. x.frame_is u lt
          ∙ all_words args u;
      behind = x.behind;
      low = x.low;
      high = x.high;
      flag = x.flag;
    }
