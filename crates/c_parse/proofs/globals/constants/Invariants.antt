use Rattle.std.proofs.Common.{◌≡◌, ◌≢◌, ◌<◌, [], ◌∷◌, ◌++◌, length}
use Rattle.c_tree.specs.Tokens.{consts_tokens}
use Rattle.c_parse.specs.Expected.{Constant, MoreConstants}
use Rattle.c_parse.specs.Readers.{Passes}
use Rattle.c_parse.proofs.globals.constants.Given as goal

abbrev pub invariant-loop-behind : goal.invariant-loop-behind
invariant-loop-behind l = record {
  written : l.fn.tokens ≡ consts_tokens l.constants.items ++ l.rest;
  some : l.constants.items ≢ [];
  passes : Passes l.depth (Constant ∷ MoreConstants ∷ []) l.fn.tokens (MoreConstants ∷ []) l.rest;
  shorter : length l.rest < length l.fn.tokens;
}

abbrev pub decreases-loop-behind : goal.decreases-loop-behind
decreases-loop-behind l = length l.rest
