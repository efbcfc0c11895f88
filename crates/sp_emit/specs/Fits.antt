-- To be believed. What fits a frame: statements are well formed over its first words, and from after these up to the
-- next counter of iterations there is a word for each level of them.
use Rattle.std.specs.Prelude.{◌≡◌, ℕ, ◌+◌, ◌≤◌, nat_lt, true, List, length}
use Rattle.sp_tree.specs.Formed.{names_words, args_formed, target_formed, stmt_formed, stmts_formed, function_formed, functions_formed, stmt_levels, stmts_levels}
use Rattle.sp_tree.specs.Need.{need}
use Rattle.sp_tree.specs.Plain.{PlainSp}
use Rattle.sp_tree.specs.Statements.{PlainSpTarget, PlainStmt, PlainStmts, PlainFunction}

-- an expression names words that the offset of an access can hold, and has registers from one on
pub record ExprFits (e : PlainSp) (rd : ℕ) : Type 0 where
  pub slots : ℕ
  pub most : slots ≤ 128
  pub names : names_words slots e ≡ true
  pub registers : rd + need e ≤ 21

-- so do arguments one after another, and a target that is set
pub record ArgsFit (args : List PlainSp) (rd : ℕ) : Type 0 where
  pub slots : ℕ
  pub most : slots ≤ 128
  pub formed : args_formed slots args ≡ true
  pub registers : rd + length args + 11 ≤ 21

pub record TargetFits (mask : ℕ) (target : PlainSpTarget) : Type 0 where
  pub slots : ℕ
  pub most : slots ≤ 128
  pub masked : nat_lt mask slots ≡ true
  pub formed : target_formed slots target ≡ true

pub record StmtFits (frame counter : ℕ) (t : PlainStmt) : Type 0 where
  pub functions : List PlainFunction
  pub number : ℕ
  pub earlier : functions_formed functions number ≡ true
  pub slots : ℕ
  pub some : 1 ≤ slots
  pub formed : stmt_formed functions number slots t ≡ true
  pub counters : slots + stmt_levels t ≤ counter + 1
  pub counted : counter + 3 ≤ 128
  pub most : frame ≤ 128

pub record StmtsFit (frame counter : ℕ) (ts : PlainStmts) : Type 0 where
  pub functions : List PlainFunction
  pub number : ℕ
  pub earlier : functions_formed functions number ≡ true
  pub slots : ℕ
  pub some : 1 ≤ slots
  pub formed : stmts_formed functions number slots ts ≡ true
  pub counters : slots + stmts_levels ts ≤ counter + 1
  pub counted : counter + 3 ≤ 128
  pub most : frame ≤ 128

-- a function whose frame has words for all that its code keeps there
pub record FunctionFits (f : PlainFunction) : Type 0 where
  pub functions : List PlainFunction
  pub number : ℕ
  pub earlier : functions_formed functions number ≡ true
  pub formed : function_formed functions number f ≡ true
