-- To be believed. The parts of code, without places in memory: all that they say, and no more.
use Rattle.std.specs.Prelude.{ℕ, List}
use Rattle.patmos_instr.specs.Bundles.{PlainBundle}

-- a part of a function's code, and several one after another
mutual
  pub data PlainPart : Type 0 where
    straight : List PlainBundle → PlainPart
    repeats : ℕ → PlainParts → List PlainBundle → PlainPart
    calls_to : ℕ → List PlainBundle → PlainPart
    leaves : List PlainBundle → PlainPart

  pub data PlainParts : Type 0 where
    no_part : PlainParts
    part : PlainPart → PlainParts → PlainParts

-- parts after others
abbrev pub joined : PlainParts → PlainParts → PlainParts
joined no_part more = more
joined (part p rest) more = part p (joined rest more)

abbrev pub one : PlainPart → PlainParts
one p = part p no_part

-- the parts of each function, the number of the one that is run, the words that private memory begins with, and where
-- the input lies and how long it is at most
pub record PlainShape : Type 0 where
  pub functions : List PlainParts
  pub entry : ℕ
  pub initial : List ℕ
  pub input_at : ℕ
  pub input_room : ℕ
