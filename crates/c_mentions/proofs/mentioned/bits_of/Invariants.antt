use Rattle.std.proofs.Common.{◌≡◌, ◌-◌, ◌<◌, ◌^◌, drop}
use Rattle.c_mentions.specs.Bits.{bits}
use Rattle.c_mentions.proofs.mentioned.bits_of.Given as goal

abbrev pub invariant-loop-done : goal.invariant-loop-done
invariant-loop-done l = record {
  same : l.word ≡ bits (drop (16 - l.done) l.flags);
  small : l.word < 2 ^ l.done;
}
