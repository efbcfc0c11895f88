-- To be believed. Which tokens are a program, and where tokens that are none go wrong.
use Rattle.std.specs.Prelude.{◌≡◌, ℕ, ◌≤◌, List, ◌++◌, length, take}
use Rattle.c_tree.specs.declared.tokens.Token.{Token}
use Rattle.c_tree.specs.declared.units.Unit.{Unit as Program}
use Rattle.c_tree.specs.Tokens.{tokens_of}
use Rattle.c_tree.specs.Fits.{Fits, GrammarFits, BracketsFit}

-- The tokens are a program: a fitting tree is written so.
pub record IsProgram (ts : List Token) : Type 0 where
  pub tree : Program
  pub fits : Fits tree
  pub written : tokens_of tree ≡ ts

-- The tokens can go on: a tree that fits the grammar begins with them, however many brackets it opens after them,
-- and they themselves open no more at once than may be.
pub record CanGoOn (ts : List Token) : Type 0 where
  pub tree : Program
  pub rest : List Token
  pub grammar : GrammarFits tree
  pub written : tokens_of tree ≡ ts ++ rest
  pub brackets : BracketsFit ts

-- The place of tokens that are no program: the most of their first tokens that can go on.
pub record IsPlace (ts : List Token) (at : ℕ) : Type 0 where
  pub within : at ≤ length ts
  pub reached : CanGoOn (take at ts)
  pub last : (k : ℕ) → k ≤ length ts → CanGoOn (take k ts) → k ≤ at
