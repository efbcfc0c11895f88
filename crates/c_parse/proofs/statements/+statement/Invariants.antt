use Rattle.std.proofs.Common.{◌≡◌, ◌≢◌, ◌<◌, ◌≤◌, [], ◌∷◌, ◌++◌, length, ◌+◌, ◌*◌}
use Rattle.std.specs.List.{AllByRecursion as Each}
use Rattle.c_tree.specs.Tokens.{body_tokens, word}
use Rattle.c_tree.specs.Fits.{StmtFits}
use Rattle.c_tree.specs.declared.tokens.Keyword.TheVariants as keyword
use Rattle.c_tree.proofs.Blocks.{tokens_of_arms, ArmFits}
use Rattle.c_parse.specs.Expected.{Statements, Else, Condition, Block}
use Rattle.c_parse.specs.Readers.{Passes}
use Rattle.c_parse.proofs.statements.+statement.Given as goal

abbrev pub decreases-statements : goal.decreases-statements
decreases-statements l = 8 * length l.tokens.now + 4

abbrev pub decreases-statement : goal.decreases-statement
decreases-statement l = 8 * length l.tokens.now + 3

abbrev pub decreases-looped : goal.decreases-looped
decreases-looped l = 8 * length l.tokens.now + 2

abbrev pub decreases-inner : goal.decreases-inner
decreases-inner l = 8 * length l.tokens.now + 5

abbrev pub decreases-conditional : goal.decreases-conditional
decreases-conditional l = 8 * length l.tokens.now + 2

abbrev pub decreases-arm : goal.decreases-arm
decreases-arm l = 8 * length l.tokens.now + 1

abbrev pub decreases-block : goal.decreases-block
decreases-block l = 8 * length l.tokens.now

abbrev pub invariant-statements-loop-behind : goal.invariant-statements-loop-behind
invariant-statements-loop-behind l = record {
  written : l.fn.tokens ≡ body_tokens l.body.items ++ l.rest;
  fits : Each StmtFits l.body.items;
  passes : Passes l.depth (Statements ∷ []) l.fn.tokens (Statements ∷ []) l.rest;
  shorter : length l.rest ≤ length l.fn.tokens;
}

abbrev pub decreases-statements-loop-behind : goal.decreases-statements-loop-behind
decreases-statements-loop-behind l = length l.rest

abbrev pub invariant-conditional-loop-behind : goal.invariant-conditional-loop-behind
invariant-conditional-loop-behind l = record {
  written : word keyword.If ∷ l.fn.tokens ≡ tokens_of_arms l.arms.items ++ l.rest;
  some : l.arms.items ≢ [];
  fits : Each ArmFits l.arms.items;
  passes : Passes l.depth (Condition ∷ Block ∷ Else ∷ []) l.fn.tokens (Else ∷ []) l.rest;
  shorter : length l.rest < length l.fn.tokens;
}

abbrev pub decreases-conditional-loop-behind : goal.decreases-conditional-loop-behind
decreases-conditional-loop-behind l = length l.rest
