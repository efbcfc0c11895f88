-- A core that waits for an event is told of that one.
use Rattle.std.proofs.Common.{ℕ, Option, None, Some, IsSome, IfSome}
use Rattle.slot_arbiter.specs.declared.event.Event.{Event}
use Rattle.patmos_core.specs.declared.kind.Kind.{Kind}
use Rattle.patmos_core.specs.Waiting.{WaitsAt, KeepsLimit}

pub waits_for : (kind : Kind) (waiting : Option Event) → IsSome waiting → WaitsAt kind waiting → (e : Event)
    × WaitsAt kind (Some e)
waits_for kind None some h = cc
waits_for kind (Some e) some h = (e, h)

pub keeps_limit : (kind then_on : Kind) (waiting : Option Event) (limit : ℕ) → IsSome waiting
    → KeepsLimit kind limit waiting
    → ((e : Event) (limit : ℕ) → KeepsLimit kind limit (Some e) → KeepsLimit then_on limit None)
    → KeepsLimit then_on limit None
keeps_limit kind then_on None limit some kept tells = cc
keeps_limit kind then_on (Some e) limit some kept tells = tells e limit kept

pub if_waits : (P : Event → Type 0) (kind : Kind) (waiting : Option Event) → WaitsAt kind waiting
    → ((e : Event) → WaitsAt kind (Some e) → P e) → IfSome waiting P
if_waits P kind None h tells = tt
if_waits P kind (Some e) h tells = tells e h
