-- The element of an array, and 0 in its place where the index is at or past the length.
use Rattle.std.proofs.Common.{◌≡◌, ℕ, ◌+◌, ◌^◌, ◌<◌, ◌≤◌, Bool, true, false, not, if◌then◌else◌, [], ◌∷◌, ◌++◌, refl, sym, ap, ◌∙◌, subst, arith, nat_lt}
use Rattle.std.specs.Prelude.{nat_le}
use Rattle.std.proofs.lemmas.Bool.{and_parts, leb-true, ltb-true}
use Rattle.patmos_instr.specs.declared.functions.ImmFunc.TheVariants as imm
use Rattle.patmos_instr.specs.declared.instructions.Op.TheVariants.{AluImm}
use Rattle.patmos_instr.specs.declared.memories.Width.TheVariants as load
use Rattle.patmos_sem.specs.Effects.{address_of as address_by}
use Rattle.patmos_sem.specs.declared.effects.Effect.TheVariants as effect
use Rattle.patmos_sem.specs.declared.writes.Write.TheVariants as write
use Rattle.c_world.specs.Shown.{room_in}
use Rattle.c_world.specs.World.{World}
use Rattle.c_world.specs.World as world
use Rattle.sp_tree.specs.Formed.{all_rooms, first_of, array_formed}
use Rattle.sp_tree.specs.Values.{array_value}
use Rattle.sp_tree.specs.declared.expressions.SpArray.{SpArray}
use Rattle.sp_shape.specs.Run.{Run, Sources, by_words, word_given, once, run, IsWhole}
use Rattle.sp_shape.specs.Trail.{all_done}
use Rattle.sp_emit.specs.Expressions.{address_of, array_space, length_op, below_op, offset_of, base_op, scaled_op, at_word_0, element_code}
use Rattle.sp_emit.specs.Holding.{held, so}
use Rattle.sp_emit.specs.Instructions.{always, where_not, under, set_short, load_from}
use Rattle.sp_emit.specs.Means.{HasWords}
use Rattle.sp_emit.specs.declared.registers.TheConstants.{SPARE, OVERRUN, TEST}
use Rattle.sp_emit.proofs.Cells.{element_given, first_small, few_words}
use Rattle.sp_emit.proofs.Leaving.{did_set_short}
use Rattle.sp_emit.proofs.Offsets.{offset_small}
use Rattle.sp_emit.proofs.Reaching.{compares, scales, before_0, word_0, did_at_word_0, not_at_word_0}
use Rattle.sp_emit.proofs.Once.{with_written, loaded, did_nothing, did_load, whole_written, whole_loaded, got, so_by_register}

-- after the test of the index and the address: what the register and the predicate hold
pub record Reached (a : SpArray) (rd index : ℕ) (m t : Run) : Type 0 where
  pub whole : IsWhole t
  pub test : so TEST t ≡ nat_lt index a.length
  pub address : a.first + index < room_in a.region all_rooms → address_by (held rd t) (offset_of a) 4
      ≡ address_of a.region (a.first + index)
  pub memory : t.memory ≡ m.memory
  pub asked : t.asked ≡ m.asked

-- the load, and 0 in its place where the test fails
abbrev pub looked_up : Sources → SpArray → ℕ → Run → Run
looked_up from a rd t = once from (set_short (where_not TEST) rd 0)
    (once from (load_from (array_space a.region) rd rd (offset_of a)) (once from (at_word_0 TEST rd (offset_of a)) t))

-- the index in the register is tested, and its address made
pub reaches : (from : Sources) (a : SpArray) (rd ra : ℕ) (m : Run) → IsWhole m → 1 ≤ rd → rd < OVERRUN → ra < SPARE
    → a.length < 2 ^ 32 → address_of a.region a.first < 2 ^ 32
    → (t : Run) × (run from (all_done (element_code a rd ra)) m ≡ looked_up from a rd t) × Reached a rd (held ra m) m t
reaches from a rd ra m whole some few low len_small at_small =
    let n = once from (under always (below_op TEST ra a.length)) (once from (under always (length_op a.length)) m) in
    let c = compares from TEST ra a.length m whole (omega arith) (omega arith) low len_small in
    let s = scales from a rd ra n c.whole some (omega (arith, few)) low at_small in (
      once from (under always (scaled_op a rd ra)) (once from (under always (base_op a)) n),
      refl,
      record {
        whole = s.whole;
        test = s.preds TEST (omega arith) ∙ c.test;
        address = λ lies. s.address (subst (λ i. a.first + i < room_in a.region all_rooms) (sym (c.regs ra low)) lies)
            ∙ ap (λ i. address_of a.region (a.first + i)) (c.regs ra low);
        memory = s.memory ∙ c.memory;
        asked = s.asked ∙ c.asked;
      },
    )

-- where the test holds the load is made at the element's address, and the setting of 0 is skipped
pub looks_up : (from : Sources) (a : SpArray) (rd : ℕ) (t : Run) → IsWhole t → so TEST t ≡ true
    → looked_up from a rd t ≡ loaded from (array_space a.region) rd (address_by (held rd t) (offset_of a) 4) t
looks_up from a rd t whole test =
    let words = offset_of a in
    let at = address_by (held rd t) words 4 in
    ap (λ x. once from (set_short (where_not TEST) rd 0) (once from (load_from (array_space a.region) rd rd words) x))
    (not_at_word_0 from TEST rd words t whole test)
    ∙ ap (once from (set_short (where_not TEST) rd 0)) (did_load from always (array_space a.region) rd rd words t whole
    whole.fits.always)
    ∙ did_nothing from (where_not TEST) (AluImm imm.Add rd 0 0) (loaded from (array_space a.region) rd at t)
    (whole_loaded from (array_space a.region) rd at t whole)
    (ap not (so_by_register rd (word_given from (array_space a.region) at t) TEST t whole (omega arith) ∙ test))

-- where it fails the load is made at word 0, and 0 stands in the register in the end
pub record LooksAt0 (from : Sources) (a : SpArray) (rd : ℕ) (t : Run) : Type 0 where
  pub value : held rd (looked_up from a rd t) ≡ 0
  pub asked : (looked_up from a rd t).asked ≡ t.asked ++ effect.Load (array_space a.region) load.Word rd 0 ∷ []

pub looks_at_0 : (from : Sources) (a : SpArray) (rd : ℕ) (t : Run) → IsWhole t → 1 ≤ rd → rd < 32 → so TEST t ≡ false
    → LooksAt0 from a rd t
looks_at_0 from a rd t whole some few test =
    let words = offset_of a in
    let n = with_written (write.Register rd (before_0 words)) t in
    let h = whole_written (write.Register rd (before_0 words)) t whole in
    let at = address_by (held rd n) words 4 in
    let l = loaded from (array_space a.region) rd at n in
    let whole_l = whole_loaded from (array_space a.region) rd at n h in
    let off : so TEST l ≡ false = so_by_register rd (word_given from (array_space a.region) at n) TEST n h (omega arith)
    ∙ so_by_register rd (before_0 words) TEST t whole (omega arith) ∙ test in
    let steps : looked_up from a rd t ≡ with_written (write.Register rd 0) l =
    ap (λ x. once from (set_short (where_not TEST) rd 0) (once from (load_from (array_space a.region) rd rd words) x))
    (did_at_word_0 from TEST rd words t whole test)
    ∙ ap (once from (set_short (where_not TEST) rd 0)) (did_load from always (array_space a.region) rd rd words n
    h h.fits.always)
    ∙ did_set_short from (where_not TEST) rd 0 l whole_l (ap not off) in
    record {
      value = ap (held rd) steps ∙ got rd 0 l whole_l some few;
      asked = ap (λ x. x.asked) steps
          ∙ ap (λ v. t.asked ++ effect.Load (array_space a.region) load.Word rd (address_by v words 4) ∷ []) (got rd
          (before_0 words) t whole some few)
          ∙ ap (λ x. t.asked ++ effect.Load (array_space a.region) load.Word rd x ∷ []) (word_0 words (offset_small a));
    }

pub element_leaves : (a : SpArray) (rd ra : ℕ) (w : World) (m : Run) → IsWhole m → 1 ≤ rd → rd < OVERRUN → ra < SPARE
    → array_formed a ≡ true → HasWords w m.memory
    → held rd (run by_words (all_done (element_code a rd ra)) m) ≡ array_value a (held ra m) w
element_leaves a rd ra w m whole some few low formed shows =
    let parts = and_parts (nat_le (first_of a.region) a.first) (nat_le (a.first + a.length)
    (room_in a.region all_rooms)) formed in
    let from = leb-true (first_of a.region) a.first parts.0 in
    let within = leb-true (a.first + a.length) (room_in a.region all_rooms) parts.1 in
    let all = reaches by_words a rd ra m whole some few low (omega (arith, within, few_words a.region))
    (first_small a.region a.first (omega (arith, within))) in
    ap (held rd) all.1 ∙ by from within all.0 all.2 (nat_lt (held ra m) a.length) refl
  where
    by : first_of a.region ≤ a.first → a.first + a.length ≤ room_in a.region all_rooms → (t : Run)
        → Reached a rd (held ra m) m t → (b : Bool) → nat_lt (held ra m) a.length ≡ b
        → held rd (looked_up by_words a rd t) ≡ (if b then world.word_at a.region (a.first + held ra m) w else 0)
    by from within t r true less =
        let i = held ra m in
        let lies : a.first + i < room_in a.region all_rooms = omega (arith, within, ltb-true i a.length less) in
        ap (held rd) (looks_up by_words a rd t r.whole (r.test ∙ less))
        ∙ got rd (word_given by_words (array_space a.region) (address_by (held rd t) (offset_of a) 4) t) t r.whole some
        (omega (arith, few))
        ∙ ap (λ x. word_given by_words (array_space a.region) x t) (r.address lies)
        ∙ element_given a.region (a.first + i) w t (subst (HasWords w) (sym r.memory) shows) (omega (arith, from)) lies
    by from within t r false more = (looks_at_0 by_words a rd t r.whole some (omega (arith, few)) (r.test ∙ more)).value
