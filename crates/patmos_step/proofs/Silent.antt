-- Words of a core's own memories ask for nothing, whether or not they move.
use Rattle.std.proofs.Common.{◌≡◌, Bool, true, false, refl, sym}
use Rattle.patmos_step.specs.declared.ask.Ask.{Ask}
use Rattle.patmos_step.specs.declared.ask.Ask.TheVariants.{Nothing}

pub either_silent : (moves : Bool) (asked : Ask) → asked ≡ Nothing → Nothing
    ≡ elim moves as (λ _. Ask) [ true ↦ asked | false ↦ Nothing ]
either_silent true asked h = sym h
either_silent false asked h = refl
