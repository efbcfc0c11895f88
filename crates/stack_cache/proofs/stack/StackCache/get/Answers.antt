use Rattle.std.proofs.Common.{◌∙◌, ℕ, get_or, ap, arith}
use Rattle.stack_cache.specs.Stack.{Stack}
use Rattle.stack_cache.proofs.Moves.{get_is}
use Rattle.stack_cache.proofs.stack.StackCache.get.Goals as goal

pub returns : goal.returns
returns c =
    let s = c.self.inside in
    let found = rw (← c.self.view_is) at c.in_ok-slot.ensures in (
      c.in_ok-slot.ensures.0,
      ap (λ (k : ℕ). get_or s.slots k 0) found.1 ∙ get_is s.st s.ss c.args.i s.slots (omega (arith, found.0))
          ∙ ap (λ (t : Stack). get_or t.words c.args.i 0) c.self.view_is,
    )
