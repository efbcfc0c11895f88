use Rattle.std.proofs.Common.{◌≡◌, ◌≢◌, ◌<◌, [], ◌∷◌, ◌++◌, length}
use Rattle.c_tree.specs.Tokens.{kind_tokens, parameters_tokens}
use Rattle.c_parse.specs.Expected.{Name, MoreParameters}
use Rattle.c_parse.specs.Readers.{Passes}
use Rattle.c_parse.proofs.functions.some_parameters.Given as goal

abbrev pub invariant-loop-behind : goal.invariant-loop-behind
invariant-loop-behind l = record {
  written : kind_tokens l.fn.kind ++ l.fn.tokens ≡ parameters_tokens l.parameters.items ++ l.rest;
  some : l.parameters.items ≢ [];
  passes : Passes l.depth (Name ∷ MoreParameters ∷ []) l.fn.tokens (MoreParameters ∷ []) l.rest;
  shorter : length l.rest < length l.fn.tokens;
}

abbrev pub decreases-loop-behind : goal.decreases-loop-behind
decreases-loop-behind l = length l.rest
