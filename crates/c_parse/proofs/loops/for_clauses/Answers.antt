use Rattle.std.proofs.Common.{refl}
use Rattle.c_parse.proofs.Growing.{for_written}
use Rattle.c_parse.proofs.loops.for_clauses.Goals as goal

pub returns-clause-written : goal.returns-clause-written
returns-clause-written c = for_written _ _ _ _ _ _ _ _ _ _ _ refl c.in_ok-first.ensures.written
    c.in_ok-condition.ensures.written c.in_ok-step.ensures.written refl
