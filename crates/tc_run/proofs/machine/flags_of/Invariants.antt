use Rattle.std.proofs.Common.{◌≡◌, ◌≤◌, vec_len, vec_capacity}
use Rattle.tc_run.proofs.machine.flags_of.Given as goal

abbrev pub invariant-loop-k : goal.invariant-loop-k
invariant-loop-k l = record {
  count : vec_len l.flags ≡ l._k;
  room : l.count ≤ vec_capacity l.flags;
}
