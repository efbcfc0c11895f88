use Rattle.std.proofs.Common.{◌≡◌, ◌-◌, [], length}
use Rattle.tc_io.proofs.Writing.{WentOut}
use Rattle.tc_io.proofs.write_all_bytes.write_all.Given as goal

-- so many first bytes went out; where there are none the sink was not called
abbrev pub invariant-loop-written : goal.invariant-loop-written
invariant-loop-written g l = (l.bytes ≡ [] → l.sink ≡ l.initial.sink) × WentOut (g.K.Sink.faults l.initial.sink)
    (g.K.Sink.faults l.sink) (g.K.Sink.taken l.initial.sink) (g.K.Sink.taken l.sink) l.bytes l.written

abbrev pub decreases-loop-written : goal.decreases-loop-written
decreases-loop-written g l = length l.bytes - l.written
