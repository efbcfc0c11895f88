use Rattle.std.proofs.Common.{◌≡◌, ◌++◌, length}
use Rattle.std.specs.Vec.Iter.{into_iter_items, into_iter_len}
use Rattle.c_meaning.specs.Shown.{counts_of, bodies_of}
use Rattle.sp_tree.specs.Shown.{functions_of}
use Rattle.single_path.specs.Single.{made_functions}
use Rattle.single_path.proofs.Assembled.{FramesFit}
use Rattle.single_path.proofs.units.functions.Given as goal

-- what is made of the routines that are left stands after what is made so far, and each of their frames fits
abbrev pub invariant-loop-routine : goal.invariant-loop-routine
invariant-loop-routine l =
    let left = into_iter_items l.routine-iterator in
    (functions_of l.made.items ++ made_functions (counts_of left) (bodies_of left)
    ≡ made_functions (counts_of l.fn.routines) (bodies_of l.fn.routines))
    × FramesFit (counts_of left) (bodies_of left) × (into_iter_len l.routine-iterator ≡ length left)
