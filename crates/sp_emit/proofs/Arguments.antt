-- What the code of arguments leaves, one after another; and what a stack instruction leaves.
use Rattle.std.proofs.Common.{◌≡◌, ℕ, zero, suc, ◌+◌, ◌<◌, ◌≤◌, true, if◌then◌else◌, List, [], ◌∷◌, ◌++◌, length, slice_index, refl, sym, ap, ◌∙◌, subst, arith}
use Rattle.std.proofs.lemmas.Bool.{and_parts}
use Rattle.patmos_instr.specs.declared.functions.StackFunc.{StackFunc}
use Rattle.patmos_instr.specs.declared.functions.StackFunc.TheVariants.{Sres, Sens, Sfree}
use Rattle.patmos_instr.specs.declared.instructions.Op.TheVariants.{Stack}
use Rattle.patmos_sem.specs.Registers.{Registers, holds}
use Rattle.patmos_sem.specs.declared.effects.Effect.TheVariants as effect
use Rattle.patmos_sem.specs.declared.pending.Pending.TheVariants as pending
use Rattle.patmos_sem.specs.declared.writes.Write.TheVariants as write
use Rattle.sp_tree.specs.Formed.{expr_formed, args_formed}
use Rattle.sp_tree.specs.Plain.{PlainSp}
use Rattle.sp_tree.specs.Straight.{State, worth, args_worth}
use Rattle.sp_shape.specs.Run.{Run, Sources, by_words, once, run, effected, with_settled, settled, stacked, IsWhole}
use Rattle.sp_shape.specs.Trail.{Step, parts_trail}
use Rattle.sp_emit.specs.Expressions.{expr_code}
use Rattle.sp_emit.specs.Holding.{held, Keeps}
use Rattle.sp_emit.specs.Instructions.{always, stack_op}
use Rattle.sp_emit.specs.Means.{HasArgsConstants, Follows}
use Rattle.sp_emit.specs.Statements.{args_code}
use Rattle.sp_emit.specs.Places.{args_least}
use Rattle.sp_emit.proofs.Calm.{keeps_all, keeps_both, keeps_fewer}
use Rattle.sp_emit.proofs.Masks.{ready, follows_still}
use Rattle.sp_emit.proofs.Once.{behind_slot, slot_after, unchanged, with_regs}
use Rattle.sp_emit.proofs.Values.{behind, fits_of, expr_keeps, run_joined, value_left}
use Rattle.sp_emit.specs.declared.stands.Homes.{Homes}

-- ---- stack instructions

abbrev pub with_stack : StackFunc → ℕ → Run → Run
with_stack func count m = record (stacked func count m) { asked = m.asked ++ effect.StackOp func count ∷ [] }

stacked_apart : (func : StackFunc) (count : ℕ) (m : Run) (regs : Registers)
    → with_settled (with_stack func count (with_regs m regs)) ≡ with_regs (with_stack func count m) (settled regs)
unfolding with_regs
stacked_apart Sres count m regs = refl
stacked_apart Sens count m regs = refl
stacked_apart Sfree count m regs = refl

stacked_keeps : (func : StackFunc) (count : ℕ) (m : Run) → with_regs (with_stack func count m) m.regs
    ≡ with_stack func count m
unfolding with_regs
stacked_keeps Sres count m = refl
stacked_keeps Sens count m = refl
stacked_keeps Sfree count m = refl

asks_stack : (func : StackFunc) (count : ℕ) (from : Sources) (m : Run) (regs : Registers)
    → with_settled (effected from (effect.StackOp func count) (with_regs m regs))
    ≡ with_settled (with_stack func count (with_regs m regs))
unfolding with_regs
asks_stack Sres count from m regs = refl
asks_stack Sens count from m regs = refl
asks_stack Sfree count from m regs = refl

pub did_stack : (from : Sources) (func : StackFunc) (count : ℕ) (m : Run) → IsWhole m
    → once from (stack_op func count) m ≡ with_stack func count m
unfolding slot_after with_regs
did_stack from func count m whole =
    ap (λ e. with_settled (effected from e (with_regs m (slot_after (holds m.regs always) (Stack func count) m))))
    (ap (λ h. if h then effect.StackOp func count else effect.Nothing) whole.fits.always)
    ∙ ap (λ h. with_settled (effected from (effect.StackOp func count)
    (with_regs m (slot_after h (Stack func count) m)))) whole.fits.always
    ∙ asks_stack func count from m (slot_after true (Stack func count) m)
    ∙ stacked_apart func count m (slot_after true (Stack func count) m)
    ∙ ap (with_regs (with_stack func count m)) (behind_slot write.Nothing pending.Nothing m.regs whole.pending
    ∙ unchanged m.regs whole.fits whole.pending)
    ∙ stacked_keeps func count m

-- ---- arguments

pub record ArgumentsLeft (homes : Homes) (rd : ℕ) (given : List ℕ) (m t : Run) : Type 0 where
  pub keeps : Keeps rd homes.first m t
  pub values : (i : ℕ) → i < length given → held (rd + i) t ≡ slice_index given i

pub arguments_left : (homes : Homes) (f : ℕ → List Step) (slots : ℕ) (args : List PlainSp) (rd : ℕ) (s : State)
    (m : Run) → 1 ≤ rd → rd + length args ≤ 10 → slots ≤ 128 → args_formed slots args ≡ true → HasArgsConstants args
    → args_least args rd ≤ homes.first → Follows homes slots s m
    → ArgumentsLeft homes rd (args_worth args s) m (run by_words (parts_trail f (args_code homes args rd)) m)
arguments_left homes f slots [] rd s m some few most formed constants free x =
    record { keeps = keeps_all rd homes.first m x.whole; values = λ i lt. absurd (omega (arith, lt)) }
arguments_left homes f slots (e ∷ args) rd s m some few most formed constants free x =
    let parts = and_parts (expr_formed slots e) (args_formed slots args) formed in
    let r = ready homes slots rd e s m some (omega (arith, few)) (omega (arith, free)) most parts.0 constants.0 x in
    let n = behind homes f e rd m in
    let k = expr_keeps homes by_words f e rd m (fits_of r) r.free x.whole in
    let rest = arguments_left homes f slots args (rd + 1) s n (omega arith) (omega (arith, few)) most parts.1
    constants.1 (omega (arith, free)) (follows_still k x) in
    let t = run by_words (parts_trail f (args_code homes args (rd + 1))) n in
    subst (ArgumentsLeft homes rd (args_worth (e ∷ args) s) m)
    (sym (run_joined by_words f (expr_code homes e rd) (args_code homes args (rd + 1)) m)) (record {
      keeps = keeps_both k (keeps_fewer rd (omega arith) rest.keeps);
      values = each t rest (value_left f e r);
    })
  where
    each : (t : Run) → ArgumentsLeft homes (rd + 1) (args_worth args s) (behind homes f e rd m) t
        → held rd (behind homes f e rd m) ≡ worth e s → (i : ℕ) → i < length (worth e s ∷ args_worth args s)
        → held (rd + i) t ≡ slice_index (worth e s ∷ args_worth args s) i
    each t rest value zero lt =
        ap (λ n. held n t) (let e : rd + 0 ≡ rd = omega arith in e) ∙ rest.keeps.low rd (omega arith) ∙ value
    each t rest value (suc i) lt =
        ap (λ n. held n t) (let e : rd + suc i ≡ rd + 1 + i = omega arith in e) ∙ rest.values i (omega (arith, lt))
