use Rattle.std.proofs.Common.{◌<◌}
use Rattle.tests_processor.proofs.interfaces.core_0_of_2_sends_three_words.Given as goal

abbrev pub invariant-loop-want : goal.invariant-loop-want
invariant-loop-want g l = record {
  cores : 0 < l.ni.interface.cores;
  begun : 0 < l.ni.from;
}
