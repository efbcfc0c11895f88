-- A core that is stepped by itself stands for one of its own place.
use Rattle.std.proofs.Common.{◌≡◌, List, ap}
use Rattle.shared_order.specs.declared.operation.Operation.{Operation}
use Rattle.patmos_core.specs.declared.cpu.Core.{Core as Cpu}
use Rattle.patmos_core.specs.declared.kind.Kind.{Kind}
use Rattle.patmos_core.specs.declared.kind.Kind.TheVariants.{Idle, Tasked as WithTask}
use Rattle.patmos_model.specs.State.{Core}
use Rattle.patmos_core.specs.Position.{StandsAt, StandsFor, place_at, place_of}

sited_at : (kind : Kind) (x : Core) (made : List Operation) → StandsAt kind x made
    → (x.plain.site.cores ≡ (place_at kind).cores) × (x.plain.site.core ≡ (place_at kind).core)
sited_at (Idle place) x made h = (ap (λ y. y.plain.site.cores) h.is, ap (λ y. y.plain.site.core) h.is)
sited_at (WithTask t) x made h = (h.cores, h.core)

pub sited : (c : Cpu) (x : Core) (made : List Operation) → StandsFor c x made
    → (x.plain.site.cores ≡ (place_of c).cores) × (x.plain.site.core ≡ (place_of c).core)
sited c x made h = sited_at c.kind x made h
