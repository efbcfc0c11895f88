use Rattle.std.proofs.Common.{subst}
use Rattle.std.specs.List.{Contains}
use Rattle.patmos_code.proofs.Walks.{function_inside}
use Rattle.patmos_code.proofs.images.Image.has_function.Goals as goal

pub returns-clause-inside : goal.returns-clause-inside
returns-clause-inside c t =
    let k = c.starts.ensures.kept in
    function_inside c.args.self.now.words c.args.self.now.starts c.args.start k.starts k.whole k.small
    (subst (λ xs. Contains xs c.args.start) c.starts.ensures.value (c.is_start.ensures.0 t))
