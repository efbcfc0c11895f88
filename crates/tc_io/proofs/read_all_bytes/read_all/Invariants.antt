use Rattle.std.proofs.Common.{◌-◌, vec_len}
use Rattle.tc_io.proofs.Reading.{Holds}
use Rattle.tc_io.proofs.read_all_bytes.read_all.Given as goal

-- no more than the limit is held, and it is what came so far
abbrev pub invariant-pieces : goal.invariant-pieces
invariant-pieces g l = Holds (g.S.Source.faults l.initial.source) (g.S.Source.faults l.source) l.limit
    (g.S.Source.left l.initial.source) (g.S.Source.left l.source) l.bytes.items

abbrev pub decreases-pieces : goal.decreases-pieces
decreases-pieces g l = l.limit - vec_len l.bytes
