use Rattle.std.proofs.Common.{◌≡◌, ◌≢◌, ◌<◌, [], ◌∷◌, ◌++◌, length}
use Rattle.std.specs.List.{AllByRecursion as Each}
use Rattle.c_tree.specs.Tokens.{args_tokens}
use Rattle.c_tree.specs.Fits.{ExprFits}
use Rattle.c_parse.specs.Expected.{Arguments, MoreArguments}
use Rattle.c_parse.specs.Readers.{Passes}
use Rattle.c_parse.proofs.rights.arguments.Given as goal

abbrev pub invariant-loop-behind : goal.invariant-loop-behind
invariant-loop-behind l = record {
  written : l.fn.tokens ≡ args_tokens l.args.items ++ l.rest;
  some : l.args.items ≢ [];
  fits : Each ExprFits l.args.items;
  passes : Passes l.depth (Arguments ∷ []) l.fn.tokens (MoreArguments ∷ []) l.rest;
  shorter : length l.rest < length l.fn.tokens;
}

abbrev pub decreases-loop-behind : goal.decreases-loop-behind
decreases-loop-behind l = length l.rest
