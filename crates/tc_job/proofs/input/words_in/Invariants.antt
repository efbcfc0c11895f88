use Rattle.std.proofs.Common.{◌≡◌, drop, length}
use Rattle.tc_job.specs.Input.{word_of}
use Rattle.tc_toml.specs.Values.{each_of}
use Rattle.tc_toml.proofs.Each.{behind}
use Rattle.tc_job.proofs.input.words_in.Given as goal

abbrev pub invariant-loop-integer : goal.invariant-loop-integer
invariant-loop-integer l =
    (behind l.words.items (each_of word_of (drop l.integer-index l.integers)) ≡ each_of word_of l.integers)
    × (length l.words.items ≡ l.integer-index)
