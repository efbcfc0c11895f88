use Rattle.std.proofs.Common.{◌≡◌, ◌≤◌, length, take, drop, slice_index}
use Rattle.global_step.proofs.PlainPerform.{IsPartlyMade}
use Rattle.global_step.proofs.plain.perform.Given as goal

abbrev pub invariant-loop-op : goal.invariant-loop-op
invariant-loop-op l = record {
  room : length l.values ≡ 8;
  loads : l.loads ≤ l.op-index;
  made : IsPartlyMade l.event.stamp l.ops (drop l.op-index l.ops) (slice_index l.initial.words) (slice_index l.words)
      (take l.loads l.values);
}
