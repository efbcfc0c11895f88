use Rattle.std.proofs.Common.{◌≡◌, vec_len, []}
use Rattle.std.specs.List.{flat_map}
use Rattle.tc_run.proofs.making.no_workers.Given as goal

abbrev pub invariant-loop-k : goal.invariant-loop-k
invariant-loop-k l = record {
  count : vec_len l.groups ≡ l._k;
  none : flat_map (λ ws. ws.items) l.groups.items ≡ [];
}
