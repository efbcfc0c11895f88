-- Rows by constants: the places of highest digits are counted out.
use Rattle.std.proofs.Common.{refl}
use Rattle.std.specs.Int.Count.{count_leading_zeros}
use Rattle.sp_emit.specs.Divisors.{highest, is_power, moved, scale, factor, surplus, is_exact, factor_rest_to}
use Rattle.sp_emit.specs.Instructions.{number_op}
use Rattle.sp_emit.specs.Places.{flag_of, read_op, fetch_op, set_op, cleared_in, seek_op, match_op}
use Rattle.sp_emit.proofs.worked.worked_divisions.Goals as goal

pub returns-clause-quotient : goal.returns-clause-quotient
unfolding count_leading_zeros highest is_power moved scale factor surplus is_exact factor_rest_to number_op read_op
    fetch_op set_op cleared_in flag_of seek_op match_op
returns-clause-quotient c = refl

pub returns-clause-rest : goal.returns-clause-rest
unfolding count_leading_zeros highest is_power moved scale factor surplus is_exact factor_rest_to number_op read_op
    fetch_op set_op cleared_in flag_of seek_op match_op
returns-clause-rest c = refl

pub returns-clause-unsigned : goal.returns-clause-unsigned
unfolding count_leading_zeros highest is_power moved scale factor surplus is_exact factor_rest_to number_op read_op
    fetch_op set_op cleared_in flag_of seek_op match_op
returns-clause-unsigned c = refl

pub returns-clause-factor : goal.returns-clause-factor
unfolding count_leading_zeros highest is_power moved scale factor surplus is_exact factor_rest_to number_op read_op
    fetch_op set_op cleared_in flag_of seek_op match_op
returns-clause-factor c = refl

pub returns-clause-rest_by_factor : goal.returns-clause-rest_by_factor
unfolding count_leading_zeros highest is_power moved scale factor surplus is_exact factor_rest_to number_op read_op
    fetch_op set_op cleared_in flag_of seek_op match_op
returns-clause-rest_by_factor c = refl

pub returns-clause-by_zero : goal.returns-clause-by_zero
unfolding count_leading_zeros highest is_power moved scale factor surplus is_exact factor_rest_to number_op read_op
    fetch_op set_op cleared_in flag_of seek_op match_op
returns-clause-by_zero c = refl

pub returns-clause-rest_by_zero : goal.returns-clause-rest_by_zero
unfolding count_leading_zeros highest is_power moved scale factor surplus is_exact factor_rest_to number_op read_op
    fetch_op set_op cleared_in flag_of seek_op match_op
returns-clause-rest_by_zero c = refl
