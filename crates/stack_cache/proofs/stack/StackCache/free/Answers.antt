use Rattle.std.proofs.Common.{◌∙◌, ap, arith}
use Rattle.stack_cache.specs.Stack.{freed}
use Rattle.stack_cache.proofs.Moves.{Reaches, freed_is}
use Rattle.stack_cache.proofs.stack.StackCache.free.Goals as goal

pub returns-clause-stack : goal.returns-clause-stack
returns-clause-stack c =
    let ok = c.in_ok-check.ensures.ok in
    let reaches : Reaches c.self.inside.st c.self.inside.ss c.args.n c.max-self-inside.result =
    record {
      range = c.self.invariant;
      few = ok.0;
      room = omega (arith, ok.1, c.self.invariant);
      pointer = c.max-self-inside.ensures;
    } in
    freed_is _ _ _ _ reaches c.self.inside.slots ∙ ap (freed c.args.n) c.self.view_is
