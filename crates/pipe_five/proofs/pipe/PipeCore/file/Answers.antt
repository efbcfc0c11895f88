use Rattle.std.proofs.Common.{ap, sym, ◌∙◌}
use Rattle.pipe_five.specs.Steps.{done_below}
use Rattle.pipe_five.specs.Stages.{file_of}
use Rattle.pipe_five.specs.Latches.{word_in}
use Rattle.pipe_five.proofs.Lists.{file_held, first_below}
use Rattle.pipe_five.proofs.pipe.PipeCore.file.Goals as goal

pub returns : goal.returns
returns c = λ x k stands.
    c.file.ensures ∙ ap (λ s. word_in s c.args.r) stands.latches
    ∙ file_held x (done_below x c.args.self.now.lone.cycle) c.args.r
    ∙ ap (λ ds. file_of x ds c.args.r) (sym (first_below x c.args.self.now.lone.cycle c.args.self.now.limit k
    c.args.self.now.within stands.count))
