use Rattle.patmos_core.proofs.AtLimit.{task_dropped}
use Rattle.patmos_core.proofs.cpu.Core.dropped.Goals as goal

pub returns-in-Tasked : goal.returns-in-Tasked
returns-in-Tasked c = λ through x made stands.
    task_dropped c.args.self.now x made c.in-Tasked.tasked c.dropped.result c.in-Tasked.is
    c.dropped.ensures through stands
