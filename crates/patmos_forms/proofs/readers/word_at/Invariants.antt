use Rattle.std.proofs.Common.{◌≡◌, ◌+◌, drop}
use Rattle.patmos_forms.specs.Readers.{word_len}
use Rattle.patmos_forms.proofs.readers.word_at.Given as goal

abbrev pub invariant-loop-byte : goal.invariant-loop-byte
invariant-loop-byte l = (l.length ≡ l.byte-index) × (l.length + word_len (drop l.length l.text) ≡ word_len l.text)
