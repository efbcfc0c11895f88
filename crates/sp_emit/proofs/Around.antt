-- A function begins and ends within a footprint in which it may use its frame.
use Rattle.std.proofs.Common.{◌≡◌, ℕ, zero, suc, ◌+◌, ◌<◌, ◌≤◌, true, false, Option, None, Some, List, [], ◌∷◌, ◌++◌, refl, arith}
use Rattle.patmos_instr.specs.Bundles.{PlainBundle}
use Rattle.patmos_instr.specs.declared.functions.StackFunc.TheVariants.{Sres, Sfree}
use Rattle.sp_tree.specs.Formed.{slots_of}
use Rattle.sp_tree.specs.Statements.{PlainFunction}
use Rattle.sp_tree.proofs.Forms.{FunctionParts}
use Rattle.sp_shape.proofs.Lists.{all_append}
use Rattle.sp_emit.specs.Chains.{stmts_call}
use Rattle.sp_emit.specs.Functions.{base_slot, offset_slot, argument_kept, arguments_kept, mask_in, mask_kept, state_kept, place_kept, place_brought, frame_words, frame_taken, function_begin, result_given, function_end}
use Rattle.sp_emit.specs.Instructions.{always, copy}
use Rattle.sp_emit.specs.Places.{flag_of, in_register, stack_word, read_word, set_word, words_cleared}
use Rattle.sp_emit.specs.declared.registers.TheConstants.{RESULT, MASK, FIRST, SPARE, OVERRUN}
use Rattle.sp_emit.specs.declared.stands.Homes.{Homes}
use Rattle.sp_emit.proofs.Codes.{kept_is, brought_is, taken_is, freed_is}
use Rattle.sp_emit.proofs.Effects.{Footprint, is_in, AreIn, IsWide}
use Rattle.sp_emit.proofs.FlagWords.{cleared_within}
use Rattle.sp_emit.proofs.Footprints.{read_in, set_in}

-- the words of its frame may be set, and where it calls others two of them for the place to which it returns
pub record Begins (F : Footprint) (homes : Homes) (f : PlainFunction) : Type 0 where
  pub mask : F.sets MASK ≡ true
  pub named : (slot p : ℕ) → flag_of homes.flags slot ≡ Some p → F.tells p ≡ true
  pub here : (slot : ℕ) → slot < slots_of f → F.sets (homes.first + slot) ≡ true
  pub stores : (slot : ℕ) → slot < slots_of f → in_register homes.first slot ≡ false
      → F.stores (stack_word homes.first slot) ≡ true
  pub base : stmts_call f.body ≡ true → F.stores (base_slot homes.first f) ≡ true
  pub offset : stmts_call f.body ≡ true → F.stores (offset_slot homes.first f) ≡ true

module _ {F : Footprint} {homes : Homes} {f : PlainFunction} (b : Begins F homes f) where
  set_own : (slot rs : ℕ) → slot < slots_of f → is_in F (set_word homes.first always slot rs) ≡ true
  set_own slot rs lt = set_in F homes.first always slot rs (b.here slot lt) (b.stores slot lt)

  pub cleared_in : AreIn F (words_cleared homes (slots_of f))
  cleared_in = cleared_within (is_in F) homes (slots_of f) (λ slot p is. rw (b.named slot p is) refl)
      (λ slot lt. rw (b.here slot lt) refl)

  pub arguments_in : (n : ℕ) → n ≤ slots_of f → AreIn F (arguments_kept homes.first n)
  arguments_in zero le = refl
  arguments_in (suc n) le = all_append (is_in F) (arguments_kept homes.first n) (argument_kept homes.first n)
      (arguments_in n (omega (arith, le))) (rw (set_own n (FIRST + n) le) refl)

  pub masked_in : f.mask < slots_of f → AreIn F (mask_kept homes f)
  masked_in lt = by (flag_of homes.flags f.mask) refl
    where
      by : (o : Option ℕ) → flag_of homes.flags f.mask ≡ o → AreIn F (mask_in o homes.first f.mask)
      by None is = rw (b.mask, set_own f.mask MASK lt) refl
      by (Some p) is = rw (b.named f.mask p is) refl

  pub state_in : f.mask < slots_of f → AreIn F (state_kept homes f)
  state_in lt = all_append (is_in F) (mask_kept homes f) (place_kept homes.first f) (masked_in lt)
      (kept_is (AreIn F) homes.first f (λ has. rw (F.spare SPARE (omega arith), b.base has, b.offset has) refl) refl)

  -- after its frame is taken
  pub kept_in : {fs : List PlainFunction} {number : ℕ} → FunctionParts fs number f
      → AreIn F (words_cleared homes (slots_of f) ++ (arguments_kept homes.first f.parameters ++ state_kept homes f))
  kept_in p = all_append (is_in F) (words_cleared homes (slots_of f))
      (arguments_kept homes.first f.parameters ++ state_kept homes f) cleared_in
      (all_append (is_in F) (arguments_kept homes.first f.parameters) (state_kept homes f)
      (arguments_in f.parameters (omega (arith, p.before_mask, p.mask))) (state_in p.mask))

  pub begins_in : {fs : List PlainFunction} {number : ℕ} → FunctionParts fs number f
      → F.stacks Sres (frame_words homes.first f) ≡ true → AreIn F (function_begin homes f)
  begins_in p takes = all_append (is_in F) (frame_taken homes.first f)
      (words_cleared homes (slots_of f) ++ (arguments_kept homes.first f.parameters ++ state_kept homes f))
      (taken_is (AreIn F) (frame_words homes.first f) refl (rw (takes) refl)) (kept_in p)

-- its result may be read
pub record Gives (F : Footprint) (homes : ℕ) (f : PlainFunction) : Type 0 where
  pub mask : F.sets MASK ≡ true
  pub result : F.sets RESULT ≡ true
  pub reads : in_register homes f.result ≡ false → F.reads (stack_word homes f.result) ≡ true

-- and where it calls others the place to which it returns
pub record Ends (F : Footprint) (homes : ℕ) (f : PlainFunction) : Type 0 where
  pub gives : Gives F homes f
  pub place : stmts_call f.body ≡ true → F.specials ≡ true
  pub base : stmts_call f.body ≡ true → F.reads (base_slot homes f) ≡ true
  pub offset : stmts_call f.body ≡ true → F.reads (offset_slot homes f) ≡ true

-- the end of a function, before its frame is freed
abbrev pub result_read : ℕ → PlainFunction → List PlainBundle
result_read homes f = read_word homes RESULT f.result ∷ copy MASK OVERRUN ∷ []

abbrev pub given_back : ℕ → PlainFunction → List PlainBundle
given_back homes f = place_brought homes f ++ result_read homes f

pub result_in : {F : Footprint} {homes : ℕ} {f : PlainFunction} → Gives F homes f
    → F.stacks Sfree (frame_words homes f) ≡ true → AreIn F (result_given homes f)
result_in {F} {homes} {f} g frees = rw (
  read_in F homes RESULT f.result g.result g.reads,
  g.mask,
  freed_is (AreIn F) (frame_words homes f) refl (rw (frees) refl),
) refl

module _ {F : Footprint} {homes : ℕ} {f : PlainFunction} (e : Ends F homes f) where
  brought_in : AreIn F (place_brought homes f)
  brought_in = brought_is (AreIn F) homes f
      (λ has. rw (F.spare SPARE (omega arith), e.base has, e.place has, e.offset has) refl) refl

  pub back_in : AreIn F (given_back homes f)
  back_in = all_append (is_in F) (place_brought homes f) (result_read homes f) brought_in
      (rw (read_in F homes RESULT f.result e.gives.result e.gives.reads, e.gives.mask) refl)

  pub ends_in : F.stacks Sfree (frame_words homes f) ≡ true → AreIn F (function_end homes f)
  ends_in frees =
      all_append (is_in F) (place_brought homes f) (result_given homes f) brought_in (result_in e.gives frees)

pub wide_begins : {F : Footprint} → IsWide F → (homes : Homes) (f : PlainFunction)
    → ((slot p : ℕ) → flag_of homes.flags slot ≡ Some p → F.tells p ≡ true) → Begins F homes f
wide_begins wide homes f named = record {
  mask = wide.sets MASK;
  named = named;
  here = λ slot lt. wide.sets (homes.first + slot);
  stores = λ slot lt out. wide.stores (stack_word homes.first slot);
  base = λ has. wide.stores (base_slot homes.first f);
  offset = λ has. wide.stores (offset_slot homes.first f);
}

pub wide_gives : {F : Footprint} → IsWide F → (homes : ℕ) (f : PlainFunction) → Gives F homes f
wide_gives wide homes f = record {
  mask = wide.sets MASK;
  result = wide.sets RESULT;
  reads = λ out. wide.reads (stack_word homes f.result);
}

pub wide_ends : {F : Footprint} → IsWide F → F.specials ≡ true → (homes : ℕ) (f : PlainFunction) → Ends F homes f
wide_ends wide specials homes f = record {
  gives = wide_gives wide homes f;
  place = λ has. specials;
  base = λ has. wide.reads (base_slot homes f);
  offset = λ has. wide.reads (offset_slot homes f);
}
