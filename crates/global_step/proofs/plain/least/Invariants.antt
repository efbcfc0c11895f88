use Rattle.std.proofs.Common.{ℕ, ◌<◌, length, get_or}
use Rattle.patmos_core.specs.declared.cpu.Core.{Core as Cpu}
use Rattle.patmos_core.specs.Position.{stamp_of}
use Rattle.global_step.specs.PlainRun.{Precedes}
use Rattle.global_step.proofs.plain.least.Given as goal

abbrev pub invariant-loop-k : goal.invariant-loop-k
invariant-loop-k l = record {
  within : l.least < length l.cores;
  least : (j : ℕ) (d : Cpu) → j < l.k → Precedes (stamp_of (get_or l.cores l.least d)) (stamp_of (get_or l.cores j d));
}
