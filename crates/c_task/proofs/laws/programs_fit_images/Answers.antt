use Rattle.c_task.proofs.Sizes.{program_formed, program_size, program_fits}
use Rattle.c_task.proofs.laws.programs_fit_images.Goals as goal

pub returns : goal.returns
returns c = record {
  formed = λ items valid. program_formed c.args.place.now items valid;
  size = λ items valid k below. program_size c.args.place.now items valid k below;
  fits = λ items valid. program_fits c.args.place.now items valid;
}
