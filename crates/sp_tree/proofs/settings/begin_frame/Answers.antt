use Rattle.std.proofs.Common.{ap, ◌∙◌, arith}
use Rattle.shared_order.specs.Words.{put}
use Rattle.shared_order.proofs.Words.{words_put}
use Rattle.sp_tree.proofs.settings.begin_frame.Goals as goal

pub returns : goal.returns
returns c = λ sends.
    words_put c.pass.new.own c.args.function.now.mask c.args.mask (omega arith)
    ∙ ap (put c.args.function.now.mask c.args.mask) (c.pass.ensures sends)
