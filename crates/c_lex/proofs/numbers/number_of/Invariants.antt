use Rattle.std.proofs.Common.{◌≡◌, ◌≤◌, min, drop}
use Rattle.c_lex.specs.Numbers.{number_of}
use Rattle.c_lex.proofs.numbers.number_of.Given as goal

abbrev pub invariant-loop-digit : goal.invariant-loop-digit
invariant-loop-digit l = record {
  small : l.value ≤ 4294967296;
  same : min 4294967296 (number_of l.radix l.value (drop l.digit-index l.digits))
      ≡ min 4294967296 (number_of l.radix 0 l.digits);
}
