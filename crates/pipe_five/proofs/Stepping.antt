-- A step of the pipeline.
use Rattle.std.proofs.Common.{◌≡◌, ℕ, suc, ◌+◌, ◌-◌, ◌≤◌, List, [], ◌∷◌, Option, Some, option_map, length, refl, sym, ap, ◌∙◌, arith}
use Rattle.patmos_model.specs.State.{Plain, Core}
use Rattle.patmos_step.specs.Shown.{plain_of}
use Rattle.core_pace.specs.Moment.{Done}
use Rattle.pipe_five.specs.declared.latches.Latches.{Latches}
use Rattle.pipe_five.specs.declared.lone.Lone.{Lone}
use Rattle.pipe_five.specs.declared.pipe.PipeCore.{PipeCore}
use Rattle.pipe_five.specs.Steps.{core_before, done_below, first_of, latest, place_of, found_by}
use Rattle.pipe_five.specs.Stages.{fetch_place, decode_place, point_of, held, stages_of, left_by}
use Rattle.pipe_five.specs.Latches.{shifted, latched}
use Rattle.pipe_five.specs.Lone.{RunsAs, IsNextBundle}
use Rattle.pipe_five.specs.Pipe.{StandsFor, IsStep}
use Rattle.pipe_five.proofs.Lists.{shifts, first_below, no_fewer, memory_held}

-- the places in the stages, of a core and of what is held
abbrev shown_of : Plain → Latches → List (Option ℕ)
shown_of x s = fetch_place x.site.image (point_of x) ∷ decode_place x.site.image (point_of x)
    ∷ s.execute ∷ option_map (λ latch. latch.place) s.memory ∷ s.write_back ∷ []

shown_held : (x : Core) (d : Done) (before : List Done) → shown_of (left_by x d) (latched x (d ∷ before))
    ≡ stages_of x (d ∷ before)
shown_held x d before = ap (λ m. fetch_place (left_by x d).site.image (point_of (left_by x d))
    ∷ decode_place (left_by x d).site.image (point_of (left_by x d))
    ∷ held 0 (d ∷ before) ∷ m ∷ held 2 (d ∷ before) ∷ []) (memory_held x (d ∷ before))

-- what a step comes to: it brings the core and its stages from the run's first k bundles on, and they are then these
pub record Steps (x : Core) (k : ℕ) (l : Lone) (s : Latches) : Type 0 where
  pub count : length (done_below x l.cycle) ≡ k + 1
  pub latches : s ≡ latched x (done_below x l.cycle)
  pub step : (limit : ℕ) → l.cycle ≤ limit → IsStep x limit k (l.cycle - 1) (shown_of (plain_of l.body) s)

pub stepped : (x : Core) (k : ℕ) (p : PipeCore) (l : Lone) (s : Latches) → StandsFor p x k → RunsAs l x
    → IsNextBundle x p.lone.cycle l.cycle p.latches s → Steps x k l s
stepped x k p l s stands runs told =
    let d : Done = told.bundle in
    let before : List Done = done_below x p.lone.cycle in
    let count : length (done_below x l.cycle) ≡ k + 1 = ap length told.only
    ∙ (let more : length (d ∷ before) ≡ suc (length before) = refl in omega (arith, more, stands.count)) in
    let latches : s ≡ latched x (d ∷ before) =
    told.held ∙ ap (shifted (Some (place_of d)) (found_by x d)) stands.latches ∙ shifts x d before in
    let left : plain_of l.body ≡ left_by x d =
    sym (ap (λ u. (core_before x u).plain) told.at ∙ ap (λ (c : Core). c.plain) runs.core) in
    record {
      count = count;
      latches = latches ∙ ap (latched x) (sym told.only);
      step = λ limit within. let first : first_of (k + 1) (done_below x limit) ≡ d ∷ before =
          first_below x l.cycle limit (k + 1) within count ∙ told.only in record {
            below = omega (arith, told.at, within);
            among = let fewer : length (done_below x l.cycle) ≤ length (done_below x limit) =
                no_fewer x l.cycle limit within in omega (arith, fewer, count);
            bundle = ap (λ ds. option_map (λ (b : Done). b.cycle) (latest ds)) first
                ∙ (let same_cycle : d.cycle ≡ l.cycle - 1 = omega (arith, told.at) in ap Some same_cycle);
            stages = (λ i. shown_of (left i) (latches i)) ∙ shown_held x d before ∙ ap (stages_of x) (sym first);
          };
    }
