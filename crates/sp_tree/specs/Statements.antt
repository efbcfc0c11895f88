-- To be believed. Single-path statements, functions and units without the places of their boxes
-- in memory: all that they say, and no more.
use Rattle.std.specs.Prelude.{ℕ, List, Option}
use Rattle.sp_tree.specs.Plain.{PlainSp}
use Rattle.sp_tree.specs.declared.expressions.SpArray.{SpArray}
use Rattle.sp_tree.specs.declared.expressions.SpCell.{SpCell}

-- what is set
pub data PlainSpTarget : Type 0 where
  to_slot : ℕ → PlainSpTarget
  to_cell : SpCell → PlainSpTarget
  to_array : SpArray → PlainSp → PlainSpTarget

-- a statement; the first number of each but `masks` and `iterations` is the word of the frame that is its mask
mutual
  pub data PlainStmt : Type 0 where
    masks : ℕ → PlainSp → PlainStmt
    writes : ℕ → PlainSpTarget → PlainSp → PlainStmt
    calls : ℕ → ℕ → List PlainSp → Option ℕ → PlainStmt
    transfers : ℕ → ℕ → PlainSp → PlainSp → PlainSp → PlainStmt
    overruns : ℕ → PlainSp → PlainStmt
    iterations : ℕ → PlainStmts → PlainStmt

  pub data PlainStmts : Type 0 where
    no_stmt : PlainStmts
    stmt : PlainStmt → PlainStmts → PlainStmts

abbrev pub one : PlainStmt → PlainStmts
one t = stmt t no_stmt

-- statements after others
abbrev pub joined : PlainStmts → PlainStmts → PlainStmts
joined no_stmt more = more
joined (stmt t rest) more = stmt t (joined rest more)

pub record PlainFunction : Type 0 where
  pub frame : ℕ
  pub parameters : ℕ
  pub mask : ℕ
  pub result : ℕ
  pub body : PlainStmts

pub record PlainUnit : Type 0 where
  pub functions : List PlainFunction
  pub entry : ℕ
  pub initial : List ℕ
  pub input_at : ℕ
  pub input_room : ℕ

-- what stands for a function that is not there
abbrev pub no_function : PlainFunction
no_function = record { frame = 0; parameters = 0; mask = 0; result = 0; body = no_stmt }
