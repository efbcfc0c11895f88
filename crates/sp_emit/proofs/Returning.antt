-- What a function's code leaves after its body: its result, the flag, and the stack without its frame.
use Rattle.std.proofs.Common.{◌≡◌, ℕ, zero, suc, ◌+◌, ◌%◌, ◌^◌, ◌<◌, Bool, true, false, if◌then◌else◌, List, [], ◌∷◌, ◌++◌, refl, sym, ap, ◌∙◌, subst, arith}
use Rattle.patmos_instr.specs.Bundles.{PlainBundle}
use Rattle.patmos_instr.specs.declared.functions.StackFunc.TheVariants.{Sfree}
use Rattle.patmos_instr.specs.declared.instructions.Op.TheVariants.{ToSpecial, Return}
use Rattle.patmos_instr.specs.declared.specials.WritableSpecial.{WritableSpecial}
use Rattle.patmos_instr.specs.declared.specials.WritableSpecial.TheVariants as writable
use Rattle.patmos_sem.specs.Effects.{asked}
use Rattle.patmos_sem.specs.Registers.{holds}
use Rattle.patmos_sem.specs.declared.effects.Effect.TheVariants as effect
use Rattle.patmos_sem.specs.declared.pending.Pending.TheVariants as pending
use Rattle.patmos_sem.specs.declared.writes.Write.TheVariants as write
use Rattle.c_world.specs.Numbers.{flag}
use Rattle.c_world.specs.World.{World}
use Rattle.sp_shape.specs.Run.{Run, Sources, by_words, once, run, effected, with_settled, settled, IsWhole}
use Rattle.sp_shape.specs.Run as runs
use Rattle.sp_shape.specs.Trail.{all_done}
use Rattle.sp_emit.specs.Functions.{words_freed, return_tail}
use Rattle.sp_emit.specs.Holding.{held, Keeps, KeepsFrom}
use Rattle.sp_emit.specs.Places.{word_of, read_word}
use Rattle.sp_emit.specs.Instructions.{always, copy, load_slot, to_special, return}
use Rattle.sp_emit.specs.Means.{HasWords}
use Rattle.sp_emit.specs.Serving.{Carries}
use Rattle.sp_emit.specs.declared.registers.TheConstants.{RESULT, MASK, SPARE, OVERRUN}
use Rattle.sp_emit.proofs.Arguments.{did_stack}
use Rattle.sp_emit.proofs.Calling.{Begins, idle_begins}
use Rattle.sp_emit.proofs.Calm.{calm, calm_done, own_free}
use Rattle.sp_emit.proofs.Effects.{AreIn}
use Rattle.sp_emit.proofs.WordPlaces.{word_still, read_is, read_leaves}
use Rattle.sp_emit.proofs.Quotients.{did_copy}
use Rattle.sp_emit.proofs.Once.{behind_slot, slot_after, unchanged, with_regs, did_write, whole_written, held_written, kept_by_special}

-- the stack, the window and the world as they were
pub record Ends (homes : ℕ) (w : World) (m t : Run) : Type 0 where
  pub carries : Carries w t
  pub stack : t.stack ≡ m.stack
  pub st : t.st ≡ m.st
  pub high : KeepsFrom homes m t

ends_calm : {rd : ℕ} (homes : ℕ) (w : World) (m n : Run) (b : PlainBundle) → Ends homes w m n
    → Keeps rd homes n (once by_words b n) → Ends homes w m (once by_words b n)
ends_calm homes w m n b x k = record {
  carries = record {
    whole = k.whole;
    has = subst (HasWords w) (sym k.memory) x.carries.has;
    words = x.carries.words;
    flag = k.flag ∙ x.carries.flag;
  };
  stack = k.stack ∙ x.stack;
  st = k.st ∙ x.st;
  high = λ q from lt. k.high q from lt ∙ x.high q from lt;
}

-- a word of the stack comes to the spare register and from there to a special one
ends_special : (homes : ℕ) (w : World) (m n : Run) (slot : ℕ) (s : WritableSpecial) → Ends homes w m n
    → Ends homes w m (once by_words (to_special s SPARE) (once by_words (load_slot SPARE slot) n))
ends_special homes w m n slot s x =
    let y = ends_calm homes w m n (load_slot SPARE slot) x (calm_done by_words SPARE homes (load_slot SPARE slot ∷ []) n (omega arith) x.carries.whole refl) in
    let n1 = once by_words (load_slot SPARE slot) n in
    let v = held SPARE n1 in
    subst (Ends homes w m) (sym (did_write by_words always (ToSpecial s SPARE) n1 y.carries.whole
    y.carries.whole.fits.always refl refl)) (record {
      carries = record {
        whole = whole_written (write.Special s v) n1 y.carries.whole;
        has = y.carries.has;
        words = y.carries.words;
        flag =
            kept_by_special s v OVERRUN n1 y.carries.whole (omega arith) ∙ y.carries.flag;
      };
      stack = y.stack;
      st = y.st;
      high = λ q from lt. kept_by_special s v q n1 y.carries.whole (omega (arith, lt)) ∙ y.high q from lt;
    })

-- a function returns
pub did_return : (from : Sources) (m : Run) → IsWhole m → once from return m
    ≡ record m { ways = m.ways ++ runs.returns m.regs.srb m.regs.sro ∷ [] }
unfolding slot_after with_regs
did_return from m whole =
    ap (λ e. with_settled (effected from e (with_regs m (slot_after (holds m.regs always) Return m))))
    (ap (λ h. if h then asked m.regs Return else effect.Nothing) whole.fits.always)
    ∙ ap (λ h. with_regs (record m { ways = m.ways ++ runs.returns m.regs.srb m.regs.sro ∷ [] })
    (settled (slot_after h Return m))) whole.fits.always
    ∙ ap (with_regs (record m { ways = m.ways ++ runs.returns m.regs.srb m.regs.sro ∷ [] }))
    (behind_slot write.Nothing pending.Nothing m.regs whole.pending ∙ unchanged m.regs whole.fits whole.pending)

returns_with : (m : Run) → IsWhole m → Begins m (run by_words (all_done return_tail) m)
returns_with m whole =
    let c : Begins m (once by_words return m) = subst (Begins m) (sym (did_return by_words m whole))
    (record {
      whole = record { fits = whole.fits; pending = whole.pending };
      regs = λ x lt. refl;
      preds = λ p lt.
          refl;
      stack = refl;
      st = refl;
      memory = refl;
    }) in
    idle_begins m _ (idle_begins m _ (idle_begins m _ c))

-- the end of a function whose frame has so many words
pub record Returned (homes : ℕ) (w : World) (frame v : ℕ) (m t : Run) : Type 0 where
  pub carries : Carries w t
  pub value : held RESULT t ≡ v
  pub flagged : held MASK t ≡ flag w.overrun
  pub stack : t.stack ≡ m.stack
  pub st : t.st ≡ m.st + frame
  pub high : KeepsFrom homes m t

flag_copied : (b : Bool) → (flag b + 0) % 2 ^ 32 ≡ flag b
flag_copied true = refl
flag_copied false = refl

abbrev given_of : ℕ → ℕ → ℕ → List PlainBundle
given_of homes frame slot = read_word homes RESULT slot ∷ copy MASK OVERRUN ∷ words_freed frame

-- words of the stack are freed
record Freed (frame : ℕ) (m t : Run) : Type 0 where
  whole : IsWhole t
  regs : (r : ℕ) → held r t ≡ held r m
  stack : t.stack ≡ m.stack
  st : t.st ≡ m.st + frame
  memory : t.memory ≡ m.memory

frees : (frame : ℕ) (m : Run) → IsWhole m → Freed frame m (run by_words (all_done (words_freed frame)) m)
frees zero m whole = record { whole = whole; regs = λ r. refl; stack = refl; st = omega arith; memory = refl }
frees (suc n) m whole = subst (Freed (suc n) m) (sym (did_stack by_words Sfree (suc n) m whole))
    (record {
      whole = record { fits = whole.fits; pending = whole.pending };
      regs = λ r. refl;
      stack = refl;
      st = refl;
      memory = refl;
    })

gives_value : (homes : ℕ) (w : World) (frame slot v : ℕ) (m n : Run) → Ends homes w m n → MASK < homes → slot < 128
    → word_of homes slot m ≡ v → v < 2 ^ 32
    → Returned homes w frame v m (run by_words (all_done return_tail)
    (run by_words (all_done (given_of homes frame slot)) n))
gives_value homes w frame slot v m n b within few value word =
    let own = own_free 1 homes RESULT (omega arith) (omega arith) (omega (arith, within)) in
    let c = ends_calm homes w m n (read_word homes RESULT slot) b
    (calm_done by_words 1 homes (read_word homes RESULT slot ∷ []) n (omega arith) b.carries.whole
    (read_is (λ b. AreIn (calm 1 homes) (b ∷ [])) homes RESULT slot (grind (arith, own))
    (λ out. grind (arith, own)))) in
    let n1 = once by_words (read_word homes RESULT slot) n in
    let same : word_of homes slot n ≡ v = word_still homes slot m n b.high b.stack b.st ∙ value in
    let is : held RESULT n1 ≡ v = read_leaves by_words homes RESULT slot n refl b.carries.whole (omega arith)
    (omega arith) few (subst (λ x. x < 2 ^ 32) (sym same) word) ∙ same in
    let free_mask = own_free 2 homes MASK (omega arith) (omega arith) within in
    let k = calm_done by_words 2 homes (copy MASK OVERRUN ∷ []) n1 (omega arith) c.carries.whole
    (grind (arith, free_mask)) in
    let n2 = once by_words (copy MASK OVERRUN) n1 in
    let free = frees frame n2 k.whole in
    let n3 = run by_words (all_done (words_freed frame)) n2 in
    let r = returns_with n3 free.whole in
    record {
      carries = record {
        whole = r.whole;
        has = subst (HasWords w) (sym (r.memory ∙ free.memory ∙ k.memory)) c.carries.has;
        words = c.carries.words;
        flag = r.regs OVERRUN (omega arith) ∙ free.regs OVERRUN ∙ k.flag ∙ c.carries.flag;
      };
      value = r.regs RESULT (omega arith) ∙ free.regs RESULT ∙ k.low RESULT (omega arith) ∙ is;
      flagged = r.regs MASK (omega arith) ∙ free.regs MASK
          ∙ ap (held MASK) (did_copy by_words MASK OVERRUN n1 c.carries.whole)
          ∙ held_written (write.Register MASK ((held OVERRUN n1 + 0) % 2 ^ 32)) MASK n1 c.carries.whole
          (omega arith)
          ∙ ap (λ z. (z + 0) % 2 ^ 32) c.carries.flag ∙ flag_copied w.overrun;
      stack = r.stack ∙ free.stack ∙ k.stack ∙ c.stack;
      st = r.st ∙ free.st ∙ ap (λ n. n + frame) (k.st ∙ c.st);
      high = λ q from lt. r.regs q (omega (arith, lt)) ∙ free.regs q ∙ k.high q from lt ∙ c.high q from lt;
    }

-- the place to which the function returns is brought back before, where it calls others
abbrev place_of : ℕ → Bool → List PlainBundle
place_of base calls = if calls then load_slot SPARE base ∷ to_special writable.Srb SPARE ∷ load_slot SPARE (base + 1)
    ∷ to_special writable.Sro SPARE ∷ [] else []

pub returns_value : (homes : ℕ) (w : World) (frame base slot v : ℕ) (calls : Bool) (m : Run) → Carries w m
    → MASK < homes → slot < 128 → word_of homes slot m ≡ v → v < 2 ^ 32
    → Returned homes w frame v m (run by_words (all_done return_tail)
    (run by_words (all_done (place_of base calls ++ given_of homes frame slot)) m))
returns_value homes w frame base slot v true m carries within few value word =
    let a = ends_special homes w m m base writable.Srb (record {
      carries = carries;
      stack = refl;
      st = refl;
      high = λ q from lt. refl;
    }) in
    gives_value homes w frame slot v m _ (ends_special homes w m _ (base + 1) writable.Sro a) within few value word
returns_value homes w frame base slot v false m carries within few value word =
    gives_value homes w frame slot v m m (record {
      carries = carries;
      stack = refl;
      st = refl;
      high = λ q from lt.
          refl;
    }) within few value word
