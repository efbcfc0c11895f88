-- What a function's code leaves before its body: the run is where the tree's state begins.
use Rattle.std.proofs.Common.{◌≡◌, ℕ, ◌+◌, ◌-◌, ◌^◌, ◌<◌, ◌≤◌, ◌==◌, ◌⊎◌, inl, inr, Bool, true, false, if◌then◌else◌, Option, None, Some, List, [], ◌∷◌, ◌++◌, refl, sym, ap, ◌∙◌, subst, arith, ne_eqb}
use Rattle.std.specs.Prelude.{bit_xor}
use Rattle.std.specs.Int.Bits.{xor_assoc, xor_zero_r}
use Rattle.shared_order.specs.Words.{put}
use Rattle.patmos_instr.specs.Bundles.{PlainBundle}
use Rattle.patmos_instr.specs.declared.functions.CmpFunc.TheVariants as cmp
use Rattle.patmos_instr.specs.declared.functions.ImmFunc.TheVariants as imm
use Rattle.patmos_instr.specs.declared.instructions.Op.TheVariants.{FromSpecial}
use Rattle.patmos_instr.specs.declared.specials.Special.{Special}
use Rattle.patmos_instr.specs.declared.specials.Special.TheVariants as special
use Rattle.patmos_sem.specs.Effects.{special_in}
use Rattle.std.proofs.lemmas.Bool.{cases_eq, eqb-true, eqb-false}
use Rattle.patmos_sem.specs.declared.writes.Write.TheVariants as write
use Rattle.c_world.specs.Numbers.{flag}
use Rattle.c_world.specs.World.{World}
use Rattle.sp_shape.specs.Run.{Run, by_words, once, run}
use Rattle.sp_shape.specs.Trail.{all_done}
use Rattle.sp_emit.specs.Holding.{held, KeepsFrom}
use Rattle.sp_emit.specs.Functions.{mask_in}
use Rattle.sp_emit.specs.Places.{flag_of, shown_word, set_word}
use Rattle.sp_emit.specs.Instructions.{always, from_special, store_slot}
use Rattle.sp_emit.specs.Means.{HasWords}
use Rattle.sp_emit.specs.Serving.{Carries}
use Rattle.sp_emit.specs.declared.registers.TheConstants.{MASK, SPARE, OVERRUN}
use Rattle.sp_emit.proofs.Beginning.{Taken}
use Rattle.sp_emit.proofs.Frames.{put_same, put_other}
use Rattle.sp_emit.proofs.FlagWords.{shown_by, shown_still, shown_set, shown_beside, flag_own, flag_beside}
use Rattle.sp_emit.proofs.WordPlaces.{with_word, Sets, did_set_word, sets_word, beside_word, Outside}
use Rattle.sp_emit.proofs.Leaving.{did_with_short, did_compare_short}
use Rattle.sp_emit.proofs.Once.{with_written, did_write, whole_written, kept, got, kept_by_pred, so_by_register}
use Rattle.sp_emit.proofs.Storing.{did_store_slot}
use Rattle.sp_emit.specs.declared.stands.Homes.{Homes}

-- a mask that was handed with its lowest bit inverted
mask_back : (mask : ℕ) → bit_xor (bit_xor mask 1) 1 ≡ mask
mask_back mask = xor_assoc mask 1 1 ∙ xor_zero_r mask

-- a frame below another top, whose first words are these
pub record Enters (homes : Homes) (slots top : ℕ) (words : ℕ → ℕ) (w : World) (m t : Run) : Type 0 where
  pub carries : Carries w t
  pub st : t.st ≡ top
  pub frame_is : (x : ℕ) → x < slots → shown_word homes x t ≡ words x
  pub behind : (a : ℕ) → m.st ≤ a → t.stack a ≡ m.stack a
  pub high : KeepsFrom (homes.first + slots) m t

-- a register is written that is not the flag and none of the window
written_enters : (homes : Homes) (slots top : ℕ) (words : ℕ → ℕ) (w : World) (m t : Run) (r v : ℕ) → (r ≡ OVERRUN → ⊥)
    → ((q : ℕ) → homes.first ≤ q → q < OVERRUN → r ≡ q → ⊥) → Enters homes slots top words w m t
    → Enters homes slots top words w m (with_written (write.Register r v) t)
written_enters homes slots top words w m t r v other apart x = record {
  carries = record {
    whole = whole_written (write.Register r v) t x.carries.whole;
    has = x.carries.has;
    words = x.carries.words;
    flag = kept r v OVERRUN t x.carries.whole (omega arith) other ∙ x.carries.flag;
  };
  st = x.st;
  frame_is = λ u lt. shown_still homes u t (with_written (write.Register r v) t) keeps (λ q from lt. so_by_register r v
      q t x.carries.whole lt) refl refl ∙ x.frame_is u lt;
  behind = x.behind;
  high = λ q past lt. keeps q (omega (arith, past)) lt ∙ x.high q past lt;
}
  where
    keeps : KeepsFrom homes.first t (with_written (write.Register r v) t)
    keeps q from lt = kept r v q t x.carries.whole (omega (arith, lt)) (apart q from lt)

-- a word of the stack is stored after the first of the frame
stored_enters : (homes : Homes) (slots top frame at rs : ℕ) (words : ℕ → ℕ) (w : World) (m t : Run)
    → Outside homes.first slots at → at < frame → frame ≤ 128 → top + frame ≤ m.st → Enters homes slots top words w m t
    → Enters homes slots top words w m (once by_words (store_slot always at rs) t)
stored_enters homes slots top frame at rs words w m t past named most below x =
    subst (Enters homes slots top words w m)
    (sym (did_store_slot by_words always at rs t x.carries.whole x.carries.whole.fits.always
    (omega (arith, named, most)))) (record {
      carries = record {
        whole = record { fits = x.carries.whole.fits; pending = x.carries.whole.pending };
        has = x.carries.has;
        words = x.carries.words;
        flag = x.carries.flag;
      };
      st = x.st;
      frame_is = λ u lt. shown_by homes u t _ (beside_word homes.first at u (held rs t) t
          (λ out same. absurd (omega (arith, same, past u lt out)))) (λ q from lt. refl) ∙ x.frame_is u lt;
      behind = λ a above. put_other (t.st + at) a (held rs t) t.stack (λ same. absurd
          (omega (arith, same, x.st, above, named, below))) ∙ x.behind a above;
      high = x.high;
    })

-- the mask's word is set
set_enters : (homes : Homes) (slots top frame slot rs v : ℕ) (words : ℕ → ℕ) (w : World) (m t : Run)
    → flag_of homes.flags slot ≡ None → 1 ≤ homes.first → slot < slots → Outside homes.first slots frame → slots ≤ 128
    → top + frame ≤ m.st → held rs t ≡ v → v < 2 ^ 32 → Enters homes slots top words w m t
    → Enters homes slots top (put slot v words) w m (once by_words (set_word homes.first always slot rs) t)
set_enters homes slots top frame slot rs v words w m t plain some named out most below is word x =
    let set = sets_word homes.first slot v t some x.carries.whole in
    subst (Enters homes slots top (put slot v words) w m)
    (sym (did_set_word by_words homes.first always slot rs v t x.carries.whole x.carries.whole.fits.always
    (omega (arith, named, most)) is word)) (record {
      carries = record {
        whole = set.whole;
        has = subst (HasWords w) (sym set.memory) x.carries.has;
        words = x.carries.words;
        flag = set.flag ∙ x.carries.flag;
      };
      st = set.st ∙ x.st;
      frame_is = λ u lt. at u lt set (cases_eq slot u);
      behind = λ a above. set.stack a (λ beside same. absurd (omega (
        arith,
        same,
        x.st,
        above,
        out slot named beside,
        below,
      ))) ∙ x.behind a above;
      high = λ q past lt. set.regs q (omega (arith, past, some)) (omega (arith, lt)) (λ same. absurd
          (omega (arith, same, past, named))) ∙ x.high q past lt;
    })
  where
    at : (u : ℕ) → u < slots → Sets 32 homes.first slot v t (with_word homes.first slot v t) → (slot ≡ u)
        ⊎ (slot ≡ u → ⊥) → shown_word homes u (with_word homes.first slot v t) ≡ put slot v words u
    at u lt set (inl same) = ap (λ i. shown_word homes i (with_word homes.first slot v t)) (sym same)
        ∙ shown_set homes set plain ∙ sym (put_same slot v words) ∙ ap (put slot v words) same
    at u lt set (inr other) = shown_beside homes u set other ∙ x.frame_is u lt ∙ sym (put_other slot u v words other)

-- or it is set to a truth in its predicate, whatever it was to hold
flag_enters : (homes : Homes) (slots top slot p : ℕ) (b : Bool) (words more : ℕ → ℕ) (w : World) (m t : Run)
    → flag_of homes.flags slot ≡ Some p → ((u : ℕ) → (slot ≡ u → ⊥) → words u ≡ more u)
    → Enters homes slots top words w m t
    → Enters homes slots top (put slot (flag b) more) w m (with_written (write.Predicate p b) t)
flag_enters homes slots top slot p b words more w m t is same x = record {
  carries = record {
    whole = whole_written (write.Predicate p b) t x.carries.whole;
    has = x.carries.has;
    words = x.carries.words;
    flag = kept_by_pred p b OVERRUN t x.carries.whole (omega arith) ∙ x.carries.flag;
  };
  st = x.st;
  frame_is = λ u lt. at u lt (cases_eq slot u);
  behind = x.behind;
  high = λ q past lt. kept_by_pred p b q t x.carries.whole (omega (arith, lt)) ∙ x.high q past lt;
}
  where
    at : (u : ℕ) → u < slots → (slot ≡ u) ⊎ (slot ≡ u → ⊥) → shown_word homes u (with_written (write.Predicate p b) t)
        ≡ put slot (flag b) more u
    at u lt (inl own) = ap (λ i. shown_word homes i (with_written (write.Predicate p b) t)) (sym own)
        ∙ flag_own homes slot p b t x.carries.whole is ∙ sym (put_same slot (flag b) more)
        ∙ ap (put slot (flag b) more) own
    at u lt (inr other) = flag_beside homes slot u p b t x.carries.whole is other ∙ x.frame_is u lt ∙ same u other
        ∙ sym (put_other slot u (flag b) more other)

-- what was handed is 0 where the mask is 1
handed_is : (mask : ℕ) → (bit_xor mask 1 == 0) ≡ (mask == 1)
handed_is mask = by (mask == 1) refl
  where
    by : (b : Bool) → (mask == 1) ≡ b → (bit_xor mask 1 == 0) ≡ b
    by true is = ap (λ n. bit_xor n 1 == 0) (eqb-true mask 1 is)
    by false is =
        ne_eqb (bit_xor mask 1) 0 (λ none. eqb-false mask 1 is (sym (mask_back mask) ∙ ap (λ n. bit_xor n 1) none))

-- a special register is kept in a word after the first
special_enters : (homes : Homes) (slots top frame at : ℕ) (s : Special) (words : ℕ → ℕ) (w : World) (m t : Run)
    → Outside homes.first slots at → at < frame → frame ≤ 128 → top + frame ≤ m.st → Enters homes slots top words w m t
    → Enters homes slots top words w m (once by_words (store_slot always at SPARE)
    (once by_words (from_special SPARE s) t))
special_enters homes slots top frame at s words w m t past named most below x =
    let v = special_in t.st t.ss t.regs s in
    let n = with_written (write.Register SPARE v) t in
    let y = written_enters homes slots top words w m t SPARE v (λ same. absurd (omega (arith, same)))
    (λ q from lt same. omega (arith, same, lt)) x in
    subst (λ n. Enters homes slots top words w m (once by_words (store_slot always at SPARE) n))
    (sym (did_write by_words always (FromSpecial SPARE s) t x.carries.whole x.carries.whole.fits.always refl refl))
    (stored_enters homes slots top frame at SPARE words w m n past named most below y)

-- the place to which the function returns is kept, where it calls others
abbrev place_of : ℕ → Bool → List PlainBundle
place_of base calls =
    if calls then from_special SPARE special.Srb ∷ store_slot always base SPARE ∷ from_special SPARE special.Sro
    ∷ store_slot always (base + 1) SPARE ∷ [] else []

place_enters : (homes : Homes) (slots top frame base : ℕ) (calls : Bool) (words : ℕ → ℕ) (w : World) (m t : Run)
    → Outside homes.first slots base → (calls ≡ true → base + 2 ≤ frame) → frame ≤ 128 → top + frame ≤ m.st
    → Enters homes slots top words w m t
    → Enters homes slots top words w m (run by_words (all_done (place_of base calls)) t)
place_enters homes slots top frame base true words w m t past room most below x =
    let a = special_enters homes slots top frame base special.Srb words w m t past (omega (arith, room refl))
    most below x in
    special_enters homes slots top frame (base + 1) special.Sro words w m _ (λ u lt out. omega (arith, past u lt out))
    (omega (arith, room refl)) most below a
place_enters homes slots top frame base false words w m t past room most below x = x

-- the words with which the body begins: a mask that stands in a predicate is tested before
abbrev pub begun_words : Option ℕ → ℕ → ℕ → (ℕ → ℕ) → ℕ → ℕ
begun_words None slot mask args = put slot mask args
begun_words (Some p) slot mask args = put slot (flag (mask == 1)) (put slot mask args)

-- the mask comes to its word before
pub enters : (homes : Homes) (slots taken base mask_slot mask : ℕ) (calls : Bool) (args : ℕ → ℕ) (w : World) (m t : Run)
    → MASK < homes.first → slots ≤ 128 → taken ≤ 128 → taken ≤ m.st → (calls ≡ true → base + 2 ≤ taken)
    → Outside homes.first slots taken → Outside homes.first slots base → mask_slot < slots → held MASK m
    ≡ bit_xor mask 1 → mask < 2 ^ 32 → Carries w m → Taken homes taken slots args m t
    → Enters homes slots (m.st - taken) (begun_words (flag_of homes.flags mask_slot) mask_slot mask args) w m
    (run by_words (all_done (mask_in (flag_of homes.flags mask_slot) homes.first mask_slot ++ place_of base calls))
    t)
enters homes slots taken base mask_slot mask calls args w m t before few most enough room out past named masked word
    carries x = by (flag_of homes.flags mask_slot) refl
  where
    top : ℕ
    top = m.st - taken

    below : top + taken ≤ m.st
    below = omega (arith, enough)

    first : Enters homes slots top args w m t
    first = record {
      carries = record {
        whole = x.whole;
        has = subst (HasWords w) (sym x.memory) carries.has;
        words = carries.words;
        flag = x.flag ∙ carries.flag;
      };
      st = x.st;
      frame_is = x.frame_is;
      behind = x.behind;
      high = x.high;
    }

    handed : held MASK t ≡ bit_xor mask 1
    handed = x.low MASK (omega arith) before (omega arith) ∙ masked

    by : (o : Option ℕ) → flag_of homes.flags mask_slot ≡ o → Enters homes slots top (begun_words o mask_slot mask args)
        w m (run by_words (all_done (mask_in o homes.first mask_slot ++ place_of base calls)) t)
    by None plain =
        let v = bit_xor (held MASK t) 1 in
        let n = with_written (write.Register MASK v) t in
        let y = written_enters homes slots top args w m t MASK v (λ same. absurd (omega (arith, same)))
        (λ q from lt same. omega (arith, same, from, before)) first in
        let is : held MASK n ≡ mask =
        got MASK v t x.whole (omega arith) (omega arith) ∙ ap (λ b. bit_xor b 1) handed ∙ mask_back mask in
        let z = set_enters homes slots top taken mask_slot MASK mask args w m n plain (omega (arith, before)) named out
        few below is word y in
        subst (λ n. Enters homes slots top (put mask_slot mask args) w m
        (run by_words (all_done (set_word homes.first always mask_slot MASK ∷ place_of base calls)) n))
        (sym (did_with_short by_words imm.Xor MASK MASK 1 t x.whole)) (place_enters homes slots top taken base calls
        (put mask_slot mask args) w m _ past room most below z)
    by (Some p) is =
        let words = put mask_slot (flag (mask == 1)) (put mask_slot mask args) in
        let y = flag_enters homes slots top mask_slot p (mask == 1) args (put mask_slot mask args) w m t is
        (λ u other. sym (put_other mask_slot u mask args other)) first in
        subst (λ n. Enters homes slots top words w m (run by_words (all_done (place_of base calls)) n))
        (sym (did_compare_short by_words cmp.Eq p MASK 0 t x.whole
        ∙ ap (λ v. with_written (write.Predicate p (v == 0)) t) handed
        ∙ ap (λ b. with_written (write.Predicate p b) t) (handed_is mask)))
        (place_enters homes slots top taken base calls words w m _ past room most below y)
