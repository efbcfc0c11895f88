use Rattle.std.proofs.Common.{◌≡◌, ◌≤◌, ◌-◌, length}
use Rattle.c_lex.specs.Texts.{lexed}
use Rattle.c_lex.proofs.Steps.{joined, rest_of}
use Rattle.c_lex.proofs.texts.lex.Given as goal

abbrev pub invariant-loop-at : goal.invariant-loop-at
invariant-loop-at l = record {
  within : l.at ≤ length l.bytes;
  few : length l.found.items ≤ l.at;
  same : joined l.found.items (rest_of l.bytes l.at) ≡ lexed l.bytes;
}

abbrev pub decreases-loop-at : goal.decreases-loop-at
decreases-loop-at l = length l.bytes - l.at
