use Rattle.std.proofs.Common.{◌≡◌, true, map, take}
use Rattle.std.specs.List.{list_all}
use Rattle.sp_shape.specs.Shown.{functions_of}
use Rattle.bundle_sched.specs.Legal.{parts_legal}
use Rattle.bundle_sched.specs.Packing.{function_merged}
use Rattle.bundle_sched.proofs.shapes.functions_packed.Given as goal

abbrev pub invariant-loop-parts : goal.invariant-loop-parts
invariant-loop-parts l = record {
  same : functions_of l.list.items ≡ map function_merged (functions_of (take l.parts-index l.functions));
  legal : list_all parts_legal (functions_of (take l.parts-index l.functions)) ≡ true;
}
