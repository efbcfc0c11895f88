-- What the run apart of a core is at its limit, once the cycles below it are done.
use Rattle.std.proofs.Common.{◌≡◌, ℕ, ◌*◌, ◌<◌, List, [], take, refl, sym, ap, ◌∙◌, subst, append-nil}
use Rattle.slot_arbiter.specs.declared.place.Place.{Place}
use Rattle.local_store.specs.declared.map.Cell.{Cell}
use Rattle.local_store.specs.declared.map.Cell.TheVariants as cell
use Rattle.patmos_code.specs.Images.{Parts}
use Rattle.shared_order.specs.declared.operation.Operation.{Operation}
use Rattle.shared_order.specs.Operation.{loads}
use Rattle.shared_order.specs.Apart.{apart}
use Rattle.shared_order.specs.Stamps.{act_at}
use Rattle.shared_order.specs.Stands.{Stands}
use Rattle.shared_order.proofs.ByCycles.{stands_by_cycles}
use Rattle.patmos_core.specs.declared.tasked.Tasked.{Tasked}
use Rattle.patmos_core.specs.declared.phase.Phase.TheVariants.{Delivery}
use Rattle.patmos_core.specs.declared.cpu.Core.{Core as Cpu}
use Rattle.patmos_core.specs.declared.kind.Kind.{Kind}
use Rattle.patmos_core.specs.declared.kind.Kind.TheVariants.{Idle, Tasked as WithTask}
use Rattle.patmos_model.specs.declared.state.CoreState.{CoreState}
use Rattle.patmos_model.specs.declared.state.CoreState.TheVariants as state
use Rattle.patmos_model.specs.Site.{Site}
use Rattle.patmos_model.specs.State.{Core}
use Rattle.patmos_model.specs.Begin.{idle}
use Rattle.patmos_model.specs.Cycle.{turn}
use Rattle.patmos_model.specs.Apart.{site_of, apart_from}
use Rattle.patmos_step.specs.Shown.{core_of, plain_of}
use Rattle.patmos_core.specs.Position.{IsThere, IsOn, IsResting, StandsFor, IsThrough, limit_of, room_of}
use Rattle.patmos_model.specs.Outcome.{word_in, state_at}
use Rattle.patmos_model.proofs.Idle.{idle_stands}

-- a core that stands before a cycle is its run apart after the cycles below it
stood : (n core : ℕ) (x y : Core) (made : List Operation) (cycle : ℕ) → core < n
    → Stands (act_at turn n) n core x made (2 * cycle * n) y
    → apart turn n core x (loads made) cycle ≡ record { core = y; left = []; made = made }
stood n core x y made cycle among stands =
    ap (λ l. apart turn n core x l cycle) (sym (append-nil (loads made)))
    ∙ stands_by_cycles turn n core x made cycle y among stands []

-- a core with a task
task_at_limit : (t : Tasked) (limit : ℕ) (x : Core) (made : List Operation) → t.cycle ≡ limit → t.phase ≡ Delivery
    → (on : IsOn t x made)
    → (apart_from x (loads made) limit).core ≡ core_of t.body on.seen
task_at_limit t limit x made here whole on =
    ap (λ n. (apart turn n x.plain.site.core x (loads made) limit).core) on.cores
    ∙ ap (λ c. (apart turn t.body.place.cores c x (loads made) limit).core) on.core
    ∙ ap (λ a. a.core) (stood t.body.place.cores t.body.place.core x (core_of t.body on.seen) made limit
    t.body.place.in_range.among
    (subst (λ cycle. IsThere t.body.place.cores t.body.place.core cycle Delivery x made (core_of t.body on.seen)) here
    (subst (λ phase. IsThere t.body.place.cores t.body.place.core t.cycle phase x made (core_of t.body on.seen))
    whole on.there)))

-- a core without one
idle_at_limit : (place : Place) (limit : ℕ) (x : Core) (made : List Operation) → (rests : IsResting place x made)
    → (apart_from x (loads made) limit).core ≡ idle (site_of place rests.image)
idle_at_limit place limit x made rests =
    ap (λ l. (apart_from x (loads l) limit).core) rests.none
    ∙ ap (λ y. (apart_from y [] limit).core) rests.is
    ∙ ap (λ a. a.core) (stood place.cores place.core (idle (site_of place rests.image))
    (idle (site_of place rests.image)) [] limit place.in_range.among
    (idle_stands place.cores place.core (site_of place rests.image) limit place.in_range.among))

-- an idle core's words are all 0
no_words : (c : Cell) (site : Site) → word_in c (idle site).plain ≡ 0
no_words (cell.Scratch word) site = refl
no_words _ site = refl

-- what a core stands for, that it is through, and the room of its trace, by what is at its place
abbrev StandsIn : Core → List Operation → Kind → Type 0
StandsIn x made kind = elim kind [ Idle place ↦ IsResting place x made | WithTask t ↦ IsOn t x made ]

abbrev IsThroughAt : ℕ → Kind → Type 0
IsThroughAt limit kind = elim kind [ Idle place ↦ Unit {0} | WithTask t ↦ (t.cycle ≡ limit) × (t.phase ≡ Delivery) ]

abbrev room_in : Kind → ℕ
room_in kind = elim kind [ Idle place ↦ 0 | WithTask t ↦ t.body.room ]

-- ---- the same, told of the core that stands there

module _ (k : Cpu) (x : Core) (made : List Operation) where
  task_tells : (t : Tasked) → k.kind ≡ WithTask t → IsThrough k → StandsFor k x made
      → (apart_from x (loads made) (limit_of k)).core.plain ≡ plain_of t.body
  task_tells t is through stands = by
      (subst (IsThroughAt k.limit) is through) (subst (StandsIn x made) is stands)
    where
      by : (t.cycle ≡ k.limit) × (t.phase ≡ Delivery) → IsOn t x made → (apart_from x (loads made) k.limit).core.plain
          ≡ plain_of t.body
      by done on = ap (λ c. c.plain) (task_at_limit t k.limit x made done.0 done.1 on)

  pub task_traces : (t : Tasked) → k.kind ≡ WithTask t → IsThrough k → StandsFor k x made
      → t.body.trace.items ≡ take (room_of k) (apart_from x (loads made) (limit_of k)).core.seen.accesses
  task_traces t is through stands = by
      (subst (IsThroughAt k.limit) is through) (subst (StandsIn x made) is stands)
    where
      by : (t.cycle ≡ k.limit) × (t.phase ≡ Delivery) → IsOn t x made → t.body.trace.items
          ≡ take (room_of k) (apart_from x (loads made) k.limit).core.seen.accesses
      by done on =
          on.shows.trace
          ∙ ap (λ c. take t.body.room c.seen.accesses) (sym (task_at_limit t k.limit x made done.0 done.1 on))
          ∙ ap (λ kind. take (room_in kind) (apart_from x (loads made) k.limit).core.seen.accesses) (sym is)

  -- what a core with a task tells
  pub task_state : (t : Tasked) (resumed : CoreState) → k.kind ≡ WithTask t → resumed
      ≡ state_at k.limit (plain_of t.body) → IsThrough k → StandsFor k x made
      → resumed ≡ state_at (limit_of k) (apart_from x (loads made) (limit_of k)).core.plain
  task_state t resumed is is_resumed through stands =
      is_resumed ∙ ap (state_at k.limit) (sym (task_tells t is through stands))

  pub task_dropped : (t : Tasked) (resumed : ℕ) → k.kind ≡ WithTask t → resumed ≡ t.body.ni.interface.dropped
      → IsThrough k → StandsFor k x made
      → resumed ≡ (apart_from x (loads made) (limit_of k)).core.plain.interface.dropped
  task_dropped t resumed is is_resumed through stands =
      is_resumed ∙ ap (λ p. p.interface.dropped) (sym (task_tells t is through stands))

  pub task_word : (t : Tasked) (c : Cell) (resumed : ℕ) → k.kind ≡ WithTask t → resumed ≡ word_in c (plain_of t.body)
      → IsThrough k → StandsFor k x made
      → resumed ≡ word_in c (apart_from x (loads made) (limit_of k)).core.plain
  task_word t c resumed is is_resumed through stands =
      is_resumed ∙ ap (word_in c) (sym (task_tells t is through stands))

  idle_tells : (place : Place) → k.kind ≡ Idle place → StandsFor k x made
      → (image : Parts) × ((apart_from x (loads made) (limit_of k)).core ≡ idle (site_of place image))
  idle_tells place is stands = by (subst (StandsIn x made) is stands)
    where
      by : IsResting place x made → (image : Parts) × ((apart_from x (loads made) k.limit).core
          ≡ idle (site_of place image))
      by rests = (rests.image, idle_at_limit place k.limit x made rests)

  -- what an idle core tells
  pub idle_state : (place : Place) → k.kind ≡ Idle place → StandsFor k x made
      → state.Idle ≡ state_at (limit_of k) (apart_from x (loads made) (limit_of k)).core.plain
  idle_state place is stands = ap (λ c. state_at k.limit c.plain) (sym (idle_tells place is stands).1)

  pub idle_dropped : (place : Place) → k.kind ≡ Idle place → StandsFor k x made
      → 0 ≡ (apart_from x (loads made) (limit_of k)).core.plain.interface.dropped
  idle_dropped place is stands = ap (λ c. c.plain.interface.dropped) (sym (idle_tells place is stands).1)

  pub idle_word : (place : Place) (cell : Cell) → k.kind ≡ Idle place → StandsFor k x made
      → 0 ≡ word_in cell (apart_from x (loads made) (limit_of k)).core.plain
  idle_word place cell is stands =
      let h : (image : Parts) × ((apart_from x (loads made) (limit_of k)).core ≡ idle (site_of place image)) =
      idle_tells place is stands in
      sym (ap (λ c. word_in cell c.plain) h.1 ∙ no_words cell (site_of place h.0))
