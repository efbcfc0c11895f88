use Rattle.std.proofs.Common.{ℕ, ◌+◌, ◌<◌, ◌≤◌, length}
use Rattle.slot_arbiter.specs.Table.{is_owned}
use Rattle.slot_arbiter.specs.Order.{IsNext}
use Rattle.slot_arbiter.proofs.start.longest_wait.Given as goal

abbrev pub invariant-loop-first : goal.invariant-loop-first
invariant-loop-first l = record {
  some : 1 ≤ length l.entries;
  within : l.longest < length l.entries;
  most : (j v : ℕ) → j < l.first → IsNext (is_owned l.entries l.core) j v → v ≤ j + l.longest;
  reached : (j : ℕ) × IsNext (is_owned l.entries l.core) j (j + l.longest);
}
