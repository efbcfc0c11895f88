-- To be believed. Words of 32 bits: what a run holds, and what the constants of its bundles are.
use Rattle.std.specs.Prelude.{ℕ, ◌^◌, ◌&&◌, Bool, true, nat_lt, List, [], ◌∷◌, Option, None, Some}
use Rattle.std.specs.List.{AllByRecursion as Each}
use Rattle.patmos_instr.specs.Bundles.{PlainBundle}
use Rattle.patmos_instr.specs.declared.instructions.Instr.{Instr}
use Rattle.patmos_model.specs.Range.{IsWord, HasWords, ConstantsFit, constant_of}
use Rattle.sp_shape.specs.Run.{Run, Back}
use Rattle.sp_shape.specs.Trail.{Step, does, begins}

-- ---- runs

pub record BackFits (b : Back) : Type 0 where
  pub base : IsWord b.base
  pub offset : IsWord b.offset

-- registers, stack, and what loads and calls still to come give, are words
pub record AreWords (m : Run) : Type 0 where
  pub regs : HasWords m.regs
  pub stack : (a : ℕ) → IsWord (m.stack a)
  pub loads : Each IsWord m.loads
  pub backs : Each BackFits m.backs

-- ---- constants

abbrev pub second_constant : Option Instr → Bool
second_constant None = true
second_constant (Some i) = nat_lt (constant_of i.op) (2 ^ 32)

abbrev pub has_constants : PlainBundle → Bool
has_constants b = nat_lt (constant_of b.first.op) (2 ^ 32) && second_constant b.second

abbrev pub AllFit : List Step → Type 0
AllFit [] = Unit {0}
AllFit (does b ∷ steps) = ConstantsFit b × AllFit steps
AllFit (begins ∷ steps) = AllFit steps

-- what a task is given are words
abbrev pub AreGiven : List ℕ → List ℕ → Type 0
AreGiven input values = Each IsWord input × Each IsWord values
