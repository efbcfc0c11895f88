use Rattle.std.proofs.Common.{◌≡◌, ℕ, [], slice_index, ap, ◌∙◌}
use Rattle.c_world.specs.Shown.{shown}
use Rattle.c_world.specs.World.{World, fresh}
use Rattle.c_run.proofs.begin.begun_memory.Goals as goal

-- fresh memories, and these words in private memory
pub returns-clause-world : goal.returns-clause-world
returns-clause-world c =
    let others : shown c.in_ok-memory.memory [] ≡ fresh [] = c.in_ok-memory.ensures.world [] in
    let with_private : World → (ℕ → ℕ) → World = λ w words. record w { private = words } in
    ap (λ w. with_private w (slice_index c.in_ok-private.private.items)) others
    ∙ ap (with_private (fresh [])) c.in_ok-private.ensures.words
