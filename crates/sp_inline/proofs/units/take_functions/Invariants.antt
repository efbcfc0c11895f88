use Rattle.std.proofs.Common.{◌≡◌, length}
use Rattle.sp_tree.specs.Shown.{functions_of}
use Rattle.sp_inline.specs.Shown.{measured_functions}
use Rattle.sp_inline.specs.Taken.{first_taken}
use Rattle.sp_inline.proofs.units.take_functions.Given as goal

abbrev pub invariant-loop-function : goal.invariant-loop-function
invariant-loop-function l =
    measured_functions l.made.items ≡ first_taken l.most l.frames (functions_of l.yielded) (length l.yielded)
