use Rattle.std.proofs.Common.{arith}
use Rattle.argo_ni.proofs.Windows.{none_used}
use Rattle.argo_ni.proofs.window.next_window.Goals as goal

pub returns-clause-none : goal.returns-clause-none
returns-clause-none c = λ _.
    none_used c.args.cores c.args.core c.args.first c.args.ports.now
    (λ k from below. c.loop-window.invariant.none k from (omega arith))
