use Rattle.std.proofs.Common.{subst}
use Rattle.stack_cache.specs.Stack.{IsStack}
use Rattle.stack_cache.proofs.Moves.{is_stack}
use Rattle.stack_cache.proofs.stack.StackCache.ss.Goals as goal

pub returns-clause-stack : goal.returns-clause-stack
returns-clause-stack c =
    subst IsStack c.self.view_is (is_stack c.self.inside.st c.self.inside.ss c.self.inside.slots c.self.invariant)
