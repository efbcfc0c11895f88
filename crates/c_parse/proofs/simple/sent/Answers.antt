use Rattle.std.proofs.Common.{refl}
use Rattle.c_parse.proofs.Growing.{sent_written}
use Rattle.c_parse.proofs.simple.sent.Goals as goal

pub returns-clause-written : goal.returns-clause-written
returns-clause-written c = sent_written _ _ _ _ _ _ _ _ _ _ _ c.in_ok-behind.ensures.read.0 c.in_ok-core.ensures.read
    c.in_ok-source.ensures.written refl refl
