-- To be believed. Readings of tokens as trees.
use Rattle.std.specs.Prelude.{◌≡◌, List}
use Rattle.c_tree.specs.declared.tokens.Token.{Token}
use Rattle.c_tree.specs.Places.{IsProgram}
use Rattle.c_tree.specs.Plain.{PlainItem, plain}

-- a tree for each list of tokens
abbrev pub Trees : Type 0
Trees = List Token → List PlainItem

-- A reading gives each program its tree: the one that is written so. Of tokens that are no program it may give any.
pub record IsReading (trees : Trees) : Type 0 where
  pub reads : (ts : List Token) (program : IsProgram ts) → trees ts ≡ plain program.tree
