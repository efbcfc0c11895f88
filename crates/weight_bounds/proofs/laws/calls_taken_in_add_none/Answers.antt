use Rattle.weight_bounds.proofs.Programs.{program_no_more}
use Rattle.weight_bounds.proofs.laws.calls_taken_in_add_none.Goals as goal

pub returns : goal.returns
returns c = program_no_more
