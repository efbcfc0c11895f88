-- A flow that takes effect, and where the core then is.
use Rattle.std.proofs.Common.{◌≡◌, ℕ, ◌==◌, nat_lt, Bool, true, false, Option, None, Some, refl}
use Rattle.std.proofs.lemmas.Bool.{and_parts}
use Rattle.patmos_model.specs.declared.flow.Flow.{Flow}
use Rattle.patmos_model.specs.declared.flow.Goal.{Goal}
use Rattle.patmos_model.specs.declared.flow.Goal.TheVariants.{Within, Call, Fill, Return}
use Rattle.patmos_model.specs.declared.trap.Trap.TheVariants as trap
use Rattle.patmos_model.specs.Site.{size_at}
use Rattle.patmos_model.specs.State.{Core, with_plain, stopped, is_running, is_free}
use Rattle.patmos_model.specs.Flows.{flowed, taken, gone, is_placed}
use Rattle.core_pace.specs.Moment.{landed}
use Rattle.pipe_five.specs.Stages.{is_start}

-- a function starts where the core's does
abbrev pub Placed : Core → Type 0
Placed c = is_start c.plain.site.image c.plain.base ≡ true

-- and the core has the interface that another one has
abbrev pub Goes : Core → Core → Type 0
Goes c d = (Placed c → Placed d) × (d.plain.interface ≡ c.plain.interface)

gone_placed : (goal : Goal) (c : Core) → is_placed goal c.plain ≡ true → Goes c (gone goal c)
gone_placed (Within offset) c is = (λ h. h, refl)
gone_placed (Call target) c is =
    (λ h. (and_parts (is_start c.plain.site.image target) (nat_lt 0 (size_at c.plain.site.image target)) is).0, refl)
gone_placed (Fill target) c is =
    (λ h. (and_parts (is_start c.plain.site.image target) (nat_lt 0 (size_at c.plain.site.image target)) is).0, refl)
gone_placed (Return base offset) c is =
    (λ h. (and_parts (is_start c.plain.site.image base) (nat_lt offset (size_at c.plain.site.image base)) is).0, refl)

pub landed_goes : (u : ℕ) (c : Core) → Goes c (landed u c)
unfolding flowed
landed_goes u c = by_running (is_running c.plain)
  where
    by_place : (goal : Goal) (b : Bool) → is_placed goal c.plain ≡ b
        → Goes c (elim b as (λ _. Core) [ true ↦ gone goal c | false ↦ with_plain (stopped trap.Flow u) c ])
    by_place goal true is = gone_placed goal c is
    by_place goal false is = (λ h. h, refl)

    by_slots : (f : Flow) (b : Bool) → Goes c (elim b as (λ _. Core) [ true ↦ taken u f.goal c | false ↦ c ])
    by_slots f true = by_place f.goal (is_placed f.goal c.plain) refl
    by_slots f false = (λ h. h, refl)

    by_flow : (flow : Option Flow)
        → Goes c (elim flow as (λ _. Core) [
          | None ↦ c
          | Some f ↦ elim (f.slots == 0) as (λ _. Core)
              [ true ↦ taken u f.goal c | false ↦ c ]
        ])
    by_flow None = (λ h. h, refl)
    by_flow (Some f) = by_slots f (f.slots == 0)

    by_free : (b : Bool) → Goes c (elim b as (λ _. Core) [
      | true ↦ elim c.plain.flow as (λ _. Core) [
        | None ↦ c
        | Some f ↦ elim (f.slots == 0) as (λ _. Core)
            [ true ↦ taken u f.goal c | false ↦ c ]
      ]
      | false ↦ c
    ])
    by_free true = by_flow c.plain.flow
    by_free false = (λ h. h, refl)

    by_running : (b : Bool) → Goes c (elim b as (λ _. Core) [ true ↦ flowed u c | false ↦ c ])
    by_running true = by_free (is_free u c.plain)
    by_running false = (λ h. h, refl)
