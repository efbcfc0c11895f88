use Rattle.std.proofs.Common.{◌≡◌, ◌^◌, ◌≤◌, min, drop, option_map}
use Rattle.patmos_forms.specs.Readers.{value_after}
use Rattle.patmos_forms.proofs.readers.Radix.sum_of.Given as goal

abbrev pub invariant-loop-byte : goal.invariant-loop-byte
invariant-loop-byte l =
    (option_map (min (2 ^ 32)) (value_after l.self l.value (drop l.byte-index l.digits))
    ≡ option_map (min (2 ^ 32)) (value_after l.self 0 l.digits))
    × (l.value ≤ 2 ^ 32)
