use Rattle.std.proofs.Common.{refl}
use Rattle.job_gen.specs.Generator.{next}
use Rattle.job_gen.proofs.worked.worked_draws.Goals as goal

pub returns : goal.returns
unfolding next
returns c = record {
  first_of_least = refl;
  second_of_least = refl;
  third_of_least = refl;
  first_of_greatest = refl;
  second_of_greatest = refl;
  third_of_greatest = refl;
}
