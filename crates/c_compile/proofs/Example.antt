-- The code of a small task fits an image.
use Rattle.std.proofs.Common.{ℕ, zero, suc, ◌<◌, ◌≤◌, arith}
use Rattle.patmos_code.specs.declared.images.TheConstants.{MOST_IN_FUNCTION}
use Rattle.sp_emit.specs.Instructions.{number_op}
use Rattle.sp_emit.specs.Places.{flag_of, read_op, set_op, cleared_in}
use Rattle.tc_link.specs.Fits.{FitsImage}
use Rattle.tc_link.specs.Placed.{size_of}
use Rattle.task_core.specs.Tasks.{code_of}
use Rattle.c_compile.specs.Examples.{nine}

each_small : (k : ℕ) → k < 1 → size_of (code_of nine) k ≤ MOST_IN_FUNCTION
unfolding flag_of read_op set_op cleared_in number_op
each_small zero within = omega arith
each_small (suc k) within = absurd (omega (arith, within))

pub nine_fits : FitsImage (code_of nine)
unfolding flag_of read_op set_op cleared_in number_op
nine_fits = record {
  small = each_small;
  within = omega arith;
  initial = omega arith;
  input_from = omega arith;
  input_room = omega arith;
}
