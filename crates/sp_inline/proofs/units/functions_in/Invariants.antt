use Rattle.std.proofs.Common.{◌≡◌}
use Rattle.sp_tree.specs.Shown.{functions_of}
use Rattle.sp_inline.specs.Shown.{measured_functions}
use Rattle.sp_inline.proofs.units.functions_in.Given as goal

abbrev pub invariant-loop-one : goal.invariant-loop-one
invariant-loop-one l = functions_of l.functions.items ≡ measured_functions l.yielded
