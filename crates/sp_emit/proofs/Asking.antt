-- Which flows are asked for: each loop's branch in all iterations but the last.
use Rattle.std.proofs.Common.{◌≡◌, ℕ, suc, ◌+◌, ◌-◌, ◌%◌, ◌^◌, ◌<◌, ◌≤◌, ◌==◌, Bool, true, false, not, if◌then◌else◌, List, [], ◌∷◌, ◌++◌, pos, refl, ap, ◌∙◌, arith, true≢false}
use Rattle.std.proofs.lemmas.Bool.{and_parts, not-true}
use Rattle.patmos_instr.specs.Bundles.{PlainBundle}
use Rattle.patmos_instr.specs.declared.functions.CmpFunc.TheVariants as cmp
use Rattle.patmos_instr.specs.declared.functions.ImmFunc.TheVariants as imm
use Rattle.patmos_instr.specs.declared.functions.StackFunc.TheVariants.{Sres, Sens, Sfree}
use Rattle.patmos_instr.specs.declared.instructions.Op.{Op}
use Rattle.patmos_instr.specs.declared.instructions.Op.TheVariants.{Stack, Store, Branch, Call, BranchFill, Return}
use Rattle.patmos_instr.specs.declared.memories.Mem.TheVariants as mem
use Rattle.patmos_sem.specs.Effects.{asked}
use Rattle.patmos_sem.specs.Registers.{Registers, holds}
use Rattle.patmos_sem.specs.declared.effects.Effect.TheVariants as effect
use Rattle.sp_shape.proofs.Whole.{behind}
use Rattle.sp_shape.specs.Formed.{is_flow, are_calm}
use Rattle.sp_shape.specs.Run.{Run, Sources, branches, once, effected, run, IsWhole}
use Rattle.sp_shape.specs.Trail.{all_done}
use Rattle.sp_emit.specs.Holding.{held, so}
use Rattle.sp_emit.specs.Instructions.{always, where_so, idle, with_short, compare_short, branch}
use Rattle.sp_emit.proofs.Leaving.{did_with_short, did_compare_short}
use Rattle.sp_emit.proofs.Once.{did_nothing, did_branch, got, so_got}

-- ---- bundles that ask for no flow

no_way : (from : Sources) (on : Bool) (op : Op) (regs : Registers) (m : Run) → is_flow op ≡ false
    → (effected from (if on then asked regs op else effect.Nothing) m).ways ≡ m.ways
no_way from false op regs m calm = refl
no_way from true (Store mem.S width ra rs imm) regs m calm = refl
no_way from true (Stack Sres n) regs m calm = refl
no_way from true (Stack Sens n) regs m calm = refl
no_way from true (Stack Sfree n) regs m calm = refl
no_way from true (Branch offset) regs m calm = absurd (true≢false calm)
no_way from true (Call target) regs m calm = absurd (true≢false calm)
no_way from true (BranchFill target) regs m calm = absurd (true≢false calm)
no_way from true Return regs m calm = absurd (true≢false calm)
no_way from true _ regs m calm = refl

pub same_ways : (from : Sources) (bs : List PlainBundle) (m : Run) → are_calm bs ≡ true
    → (run from (all_done bs) m).ways
    ≡ m.ways
same_ways from [] m calm = refl
same_ways from (b ∷ bs) m calm =
    let both = and_parts (not (is_flow b.first.op)) (are_calm bs) calm in
    same_ways from bs (once from b m) both.1 ∙ no_way from (holds m.regs b.first.guard) b.first.op m.regs (behind b m)
    (not-true (is_flow b.first.op) both.0)

-- ---- a branch and its delay slots

abbrev pub back_again : ℕ → List PlainBundle
back_again p = branch p ∷ idle ∷ idle ∷ []

-- where the predicate holds the branch is asked for, else none
pub again : (from : Sources) (p : ℕ) (m : Run) → IsWhole m → so p m ≡ true → (run from (all_done (back_again p)) m).ways
    ≡ m.ways ++ branches ∷ []
again from p m whole on = same_ways from (idle ∷ idle ∷ []) (once from (branch p) m) refl
    ∙ ap (λ t. t.ways) (did_branch from (where_so p) (pos 0) m whole on)

pub no_more : (from : Sources) (p : ℕ) (m : Run) → IsWhole m → so p m ≡ false
    → (run from (all_done (back_again p)) m).ways ≡ m.ways
no_more from p m whole off = same_ways from (idle ∷ idle ∷ []) (once from (branch p) m) refl
    ∙ ap (λ t. t.ways) (did_nothing from (where_so p) (Branch (pos 0)) m whole off)

-- ---- a count in a register goes down by 1, and is tested

pub counts_down : (from : Sources) (r n : ℕ) (m : Run) → IsWhole m → 1 ≤ r → r < 32 → held r m ≡ suc n → suc n < 2 ^ 32
    → held r (once from (with_short always imm.Sub r r 1) m) ≡ n
counts_down from r n m whole some few is word =
    ap (held r) (did_with_short from imm.Sub r r 1 m whole) ∙ got r _ m whole some few
    ∙ ap (λ c. (c + (2 ^ 32 - 1)) % 2 ^ 32) is ∙ omega (arith, word)

pub tests_count : (from : Sources) (p r n : ℕ) (m : Run) → IsWhole m → 1 ≤ p → p < 8 → held r m ≡ n
    → so p (once from (compare_short cmp.Neq p r 0) m) ≡ not (n == 0)
tests_count from p r n m whole some few is =
    ap (so p) (did_compare_short from cmp.Neq p r 0 m whole) ∙ so_got p (not (held r m == 0)) m whole some few
    ∙ ap (λ c. not (c == 0)) is
