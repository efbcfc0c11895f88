-- A core without a task makes nothing.
use Rattle.std.proofs.Common.{◌≡◌, ℕ, List, [], sym, ap, subst}
use Rattle.slot_arbiter.specs.declared.place.Place.{Place}
use Rattle.shared_order.specs.declared.operation.Operation.{Operation}
use Rattle.shared_order.proofs.ByCycles.{stands_by_cycles}
use Rattle.patmos_model.specs.Begin.{idle, no_code}
use Rattle.patmos_model.specs.Cycle.{turn}
use Rattle.patmos_model.specs.Apart.{site_of}
use Rattle.patmos_model.proofs.Idle.{idle_stands}
use Rattle.core_worker.specs.Runs.{Makes}

pub idle_makes : (place : Place) (list : List Operation) (limit : ℕ) → list ≡ []
    → Makes (idle (site_of place no_code)) list limit
idle_makes place list limit none =
    subst (λ l. Makes (idle (site_of place no_code)) l limit) (sym none)
    (ap (λ a. a.made) (stands_by_cycles turn place.cores place.core (idle (site_of place no_code)) [] limit
    (idle (site_of place no_code)) place.in_range.among
    (idle_stands place.cores place.core (site_of place no_code) limit place.in_range.among) []))
