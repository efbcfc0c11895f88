use Rattle.std.proofs.Common.{◌≡◌, ◌<◌, ◌≤◌, [], ◌∷◌, ◌++◌, length, ◌+◌, ◌-◌, ◌*◌, map}
use Rattle.c_tree.specs.Tokens.{expr_tokens, one, unary_sign}
use Rattle.c_tree.specs.Fits.{ExprFits, rank}
use Rattle.c_tree.proofs.Chains.{tokens_of_steps, AllStepsFit}
use Rattle.c_parse.specs.Expected.{Operand, Tail}
use Rattle.c_parse.specs.Readers.{Passes, level_ahead}
use Rattle.c_parse.proofs.expressions.+expression.Given as goal

abbrev pub decreases-expression : goal.decreases-expression
decreases-expression l = 16 * length l.tokens.now + 13

abbrev pub decreases-chain : goal.decreases-chain
decreases-chain l = 16 * length l.tokens.now + (13 - l.level)

abbrev pub decreases-operand : goal.decreases-operand
decreases-operand l = 16 * length l.tokens.now + 1

abbrev pub decreases-primary : goal.decreases-primary
decreases-primary l = 16 * length l.tokens.now

abbrev pub decreases-variable : goal.decreases-variable
decreases-variable l = 16 * length l.tokens.now + 15

abbrev pub decreases-index : goal.decreases-index
decreases-index l = 16 * length l.tokens.now + 14

abbrev pub invariant-chain-loop-op : goal.invariant-chain-loop-op
invariant-chain-loop-op l = record {
  written : l.fn.tokens ≡ expr_tokens l.first ++ (tokens_of_steps l.steps.items ++ l.rest);
  fits : ExprFits l.first;
  above : l.level + 1 ≤ rank l.first;
  steps : AllStepsFit l.level l.steps.items;
  ends : level_ahead l.rest < l.level + 1;
  passes : Passes l.depth (Operand ∷ Tail ∷ []) l.fn.tokens (Tail ∷ []) l.rest;
  shorter : length l.rest < length l.fn.tokens;
}

abbrev pub decreases-chain-loop-op : goal.decreases-chain-loop-op
decreases-chain-loop-op l = length l.rest

abbrev pub invariant-operand-loop-op : goal.invariant-operand-loop-op
invariant-operand-loop-op l = record {
  written : l.fn.tokens ≡ map (λ op. one (unary_sign op)) l.ops.items ++ l.rest;
  passes : Passes l.depth (Operand ∷ []) l.fn.tokens (Operand ∷ []) l.rest;
  shorter : length l.rest ≤ length l.fn.tokens;
}

abbrev pub decreases-operand-loop-op : goal.decreases-operand-loop-op
decreases-operand-loop-op l = length l.rest
