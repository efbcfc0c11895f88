use Rattle.std.proofs.Common.{◌≡◌}
use Rattle.sp_tree.specs.Shown as trees
use Rattle.sp_shape.specs.Shown.{functions_of}
use Rattle.sp_emit.specs.Flags.{flag_tops}
use Rattle.sp_emit.specs.Functions.{functions_code}
use Rattle.sp_emit.specs.Places.{tops}
use Rattle.sp_emit.proofs.functions.functions.Given as goal

abbrev pub invariant-loop-f : goal.invariant-loop-f
invariant-loop-f l = (functions_of l.made.items ≡ functions_code (trees.functions_of l.fs) l.f-index)
    × ((l.tops.items ≡ tops (trees.functions_of l.fs) l.f-index)
    × (l.spared.items ≡ flag_tops (trees.functions_of l.fs) l.f-index))
