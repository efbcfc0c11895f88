use Rattle.c_parse.proofs.Growing.{three_written}
use Rattle.c_parse.proofs.simple.three.Goals as goal

pub returns-clause-written : goal.returns-clause-written
returns-clause-written c = three_written _ _ _ _ _ _ _ c.in_ok-source.ensures.written c.in_ok-target.ensures.written
    c.in_ok-count.ensures.written
