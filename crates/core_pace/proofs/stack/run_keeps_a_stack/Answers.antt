use Rattle.std.proofs.Common.{subst}
use Rattle.shared_order.specs.Apart.{Alone}
use Rattle.stack_cache.specs.Stack.{IsStack}
use Rattle.patmos_model.specs.State.{Core}
use Rattle.patmos_model.specs.Begin.{begun}
use Rattle.patmos_model.specs.Apart.{site_of}
use Rattle.patmos_model.proofs.Parts.{followed-run}
use Rattle.core_pace.proofs.StackKept.{stack_is_kept, empty_is_stack}
use Rattle.core_pace.proofs.stack.run_keeps_a_stack.Goals as goal

pub returns : goal.returns
returns c = λ place image input values cycles.
    let x : Core = begun (site_of place image) input in
    subst (λ (a : Alone Core). IsStack a.core.plain.stack) (followed-run place.cores place.core x values cycles)
    (stack_is_kept place.cores place.core x values cycles empty_is_stack)
