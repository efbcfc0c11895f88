use Rattle.c_parse.proofs.ReadWhole.{reads_to_the_place}
use Rattle.c_parse.proofs.laws.reading_is_the_grammar.Goals as goal

pub returns-clause-place : goal.returns-clause-place
returns-clause-place c = reads_to_the_place
