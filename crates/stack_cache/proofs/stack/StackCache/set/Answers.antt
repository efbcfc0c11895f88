use Rattle.std.proofs.Common.{◌∙◌, ℕ, ap, set, arith}
use Rattle.stack_cache.specs.Slots.{shown}
use Rattle.stack_cache.specs.Stack.{Stack}
use Rattle.stack_cache.proofs.Moves.{set_is}
use Rattle.stack_cache.proofs.stack.StackCache.set.Goals as goal

pub returns-clause-word : goal.returns-clause-word
returns-clause-word c =
    let s = c.self.inside in
    let found = rw (← c.self.view_is) at c.in_ok-slot.ensures in
    ap (λ (k : ℕ). shown s.st s.ss (set s.slots k c.args.value)) found.1
    ∙ set_is s.st s.ss c.args.i c.args.value s.slots c.self.told c.self.invariant (omega (arith, found.0))
    ∙ ap (λ (t : Stack). record t { words = set t.words c.args.i c.args.value }) c.self.view_is
