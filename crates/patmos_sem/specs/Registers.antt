-- To be believed. The registers of a core (Patmos Reference Handbook, register files), and what is read of them.
use Rattle.std.specs.Prelude.{ℕ, ◌≡◌, ◌+◌, ◌*◌, Bool, true, false, not, if◌then◌else◌, List, length, slice_index, slice_index_or, ◌∷◌, replicate}
use Rattle.patmos_instr.specs.declared.guards.Guard.{Guard}
use Rattle.patmos_sem.specs.declared.pending.Pending.{Pending}
use Rattle.patmos_sem.specs.declared.pending.Pending.TheVariants as pending

-- 32 general registers, eight predicates, the halves of a product, what a return goes to, and what is
-- on its way into a register
pub record Registers : Type 0 where
  pub general : List ℕ
  pub preds : List Bool
  pub sl : ℕ
  pub sh : ℕ
  pub srb : ℕ
  pub sro : ℕ
  pub pending : Pending

-- there are 32 and eight of them, r0 is 0, and p0 is true
pub record FitsRegisters (regs : Registers) : Type 0 where
  pub count : length regs.general ≡ 32
  pub pred_count : length regs.preds ≡ 8
  pub zero : slice_index regs.general 0 ≡ 0
  pub always : slice_index_or regs.preds 0 false ≡ true

-- the word in a general register
abbrev pub word_in : Registers → ℕ → ℕ
word_in regs r = slice_index regs.general r

-- a predicate
abbrev pub pred_in : Registers → ℕ → Bool
pred_in regs p = slice_index_or regs.preds p false

-- a guard: its predicate, or the negation of it
abbrev pub holds : Registers → Guard → Bool
holds regs g = if g.negated then not (pred_in regs g.pred) else pred_in regs g.pred

-- a predicate as a bit
abbrev pub flag : List Bool → ℕ → ℕ
flag preds p = if slice_index_or preds p false then 1 else 0

-- s0: the predicates as eight bits, p0 the lowest
abbrev pub preds_number : List Bool → ℕ
preds_number preds =
    flag preds 0 + flag preds 1 * 2 + flag preds 2 * 4 + flag preds 3 * 8 + flag preds 4 * 16 + flag preds 5 * 32
    + flag preds 6 * 64 + flag preds 7 * 128

-- the registers at the start of a task
abbrev pub at_start : Registers
at_start = record {
  general = replicate 32 0;
  preds = true ∷ replicate 7 false;
  sl = 0;
  sh = 0;
  srb = 0;
  sro = 0;
  pending = pending.Nothing;
}
