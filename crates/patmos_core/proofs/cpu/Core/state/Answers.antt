use Rattle.patmos_core.proofs.AtLimit.{task_state}
use Rattle.patmos_core.proofs.cpu.Core.state.Goals as goal

pub returns-in-Tasked : goal.returns-in-Tasked
returns-in-Tasked c = λ through x made stands.
    task_state c.args.self.now x made c.in-Tasked.tasked c.outcome.result c.in-Tasked.is
    c.outcome.ensures through stands
