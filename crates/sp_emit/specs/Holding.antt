-- To be believed. What the registers of a run hold, and what one state of a run has of an earlier one.
use Rattle.std.specs.Prelude.{ℕ, ◌≡◌, ◌<◌, ◌≤◌, Bool}
use Rattle.patmos_sem.specs.Registers.{word_in, pred_in}
use Rattle.sp_shape.specs.Run.{Run, IsWhole}
use Rattle.sp_emit.specs.declared.registers.TheConstants.{OVERRUN, FLAGS}

-- the word in a register
abbrev pub held : ℕ → Run → ℕ
held r m = word_in m.regs r

-- whether a predicate is true
abbrev pub so : ℕ → Run → Bool
so p m = pred_in m.regs p

-- the predicates in which words of frames stand are as they were
abbrev pub KeepsFlags : Run → Run → Type 0
KeepsFlags m t = (p : ℕ) → FLAGS ≤ p → p < 8 → so p t ≡ so p m

-- the registers from one on, before the flag of loops, hold what they held
abbrev pub KeepsFrom : ℕ → Run → Run → Type 0
KeepsFrom top m t = (r : ℕ) → top ≤ r → r < OVERRUN → held r t ≡ held r m

-- a later state has the registers below one as they were, those and the predicates in which the words of a frame stand,
-- the flag of loops, the stack and all memories
pub record Keeps (rd homes : ℕ) (m t : Run) : Type 0 where
  pub whole : IsWhole t
  pub low : (r : ℕ) → r < rd → held r t ≡ held r m
  pub high : KeepsFrom homes m t
  pub flags : KeepsFlags m t
  pub flag : held OVERRUN t ≡ held OVERRUN m
  pub stack : t.stack ≡ m.stack
  pub st : t.st ≡ m.st
  pub memory : t.memory ≡ m.memory
