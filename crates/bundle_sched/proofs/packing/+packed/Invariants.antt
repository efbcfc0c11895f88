use Rattle.std.proofs.Common.{◌≡◌, drop}
use Rattle.sp_shape.specs.Parts.{joined}
use Rattle.sp_shape.specs.Shown.{parts_of}
use Rattle.bundle_sched.specs.Legal.{parts_legal}
use Rattle.bundle_sched.specs.Packing.{left_over, parts_merged}
use Rattle.bundle_sched.proofs.packing.+packed.Given as goal

abbrev pub invariant-parts_packed-loop-part : goal.invariant-parts_packed-loop-part
invariant-parts_packed-loop-part l = record {
  parts : joined (parts_of l.list.items) (parts_merged l.held.items (parts_of (drop l.part-index l.parts)))
      ≡ parts_merged l.initial.held.items (parts_of l.parts);
  legal : parts_legal (parts_of (drop l.part-index l.parts)) ≡ parts_legal (parts_of l.parts);
  left : left_over l.held.items (parts_of (drop l.part-index l.parts))
      ≡ left_over l.initial.held.items (parts_of l.parts);
}
