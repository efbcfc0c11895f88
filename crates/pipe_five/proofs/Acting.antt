-- The bundle that is done in a cycle, as it is told.
use Rattle.std.proofs.Common.{◌≡◌, ℕ, suc, ◌+◌, ◌<◌, Bool, true, false, [], ◌++◌, Some, refl, sym, ap, ◌∙◌, arith}
use Rattle.patmos_sem.specs.Registers.{Registers}
use Rattle.patmos_model.specs.declared.fetched.Fetched.{Fetched}
use Rattle.patmos_model.specs.declared.state.Status.{Status}
use Rattle.patmos_model.specs.declared.state.Status.TheVariants.{Idle, Running, Trapped}
use Rattle.patmos_model.specs.Site.{size_at}
use Rattle.patmos_model.specs.State.{Plain, Core}
use Rattle.patmos_step.specs.declared.plan.Plan.{Plan}
use Rattle.patmos_step.specs.declared.plan.Plan.TheVariants.{Nothing, Waits, Does}
use Rattle.patmos_step.specs.Plan.{planned}
use Rattle.patmos_step.specs.Shown.{core_of, plain_of}
use Rattle.core_pace.specs.Moment.{Done, done_by, passes}
use Rattle.pipe_five.specs.declared.latches.Latches.{Latches}
use Rattle.pipe_five.specs.declared.lone.Lone.{Lone}
use Rattle.pipe_five.specs.Steps.{done_below}
use Rattle.pipe_five.specs.Latches.{shifted}
use Rattle.pipe_five.specs.Lone.{LandedAs, IsNextBundle, LeavesStatus, was_done}
use Rattle.pipe_five.proofs.Told.{none_planned, none_waiting, none_passed, one_passed, fetched_there, passed_within}

-- none is done
tells_none : (x : Core) (l : Lone) (later : ℕ) (at : LandedAs l x) → later ≡ suc l.cycle
    → done_by l.cycle (core_of l.body at.seen) ≡ [] → done_below x later ≡ done_below x l.cycle
tells_none x l later at far none =
    ap (done_below x) far ∙ ap (λ c. done_by l.cycle c ++ done_below x l.cycle) at.core
    ∙ ap (λ ds. ds ++ done_below x l.cycle) none

-- one is done, and comes into its stage
tells_one : (x : Core) (l : Lone) (plan : Plan) (fetched : Fetched) (place : ℕ) (found : Registers)
    (before after : Latches) (later : ℕ) → LandedAs l x
    → plan ≡ planned l.cycle (plain_of l.body) → plan ≡ Does fetched → passes fetched (plain_of l.body) ≡ true
    → (l.body.offset < size_at l.body.image l.body.base → place ≡ l.body.base + l.body.offset) → found ≡ l.body.regs
    → after ≡ shifted (Some place) found before → later ≡ suc l.cycle → IsNextBundle x l.cycle later before after
tells_one x l plan fetched place found before after later at is does passed there registers held far =
    let z : Core = core_of l.body at.seen in
    let bundle : Done = record { base = l.body.base; offset = l.body.offset; cycle = l.cycle } in
    let inside : l.body.offset < size_at l.body.image l.body.base =
    passed_within (plain_of l.body)
    (ap (λ f. passes f (plain_of l.body)) (sym (fetched_there l.cycle (plain_of l.body) plan fetched is does))
    ∙ passed) in
    let same : found ≡ _ = registers ∙ sym (ap (λ (c : Core). c.plain.regs) at.core) in
    record {
      bundle = bundle;
      only = ap (done_below x) far ∙ ap (λ c. done_by l.cycle c ++ done_below x l.cycle) at.core
          ∙ ap (λ ds. ds ++ done_below x l.cycle) (one_passed l.cycle z plan fetched is does passed);
      at = omega (arith, far);
      held = held ∙ (λ i. shifted (Some (there inside i)) (same i) before);
    }

done_runs : (fetched : Fetched) (status : Status) → was_done (Does fetched) status ≡ true → status ≡ Running
done_runs fetched Idle is = absurd (let bad : false ≡ true = is in cc)
done_runs fetched Running is = refl
done_runs fetched (Trapped trap at) is = absurd (let bad : false ≡ true = is in cc)

-- whether one was done, by the plan and the core's status after the cycle
pub acted_none : (x : Core) (l : Lone) (plan : Plan) (after : Plain) (later : ℕ) → LandedAs l x → plan
    ≡ planned l.cycle (plain_of l.body)
    → LeavesStatus plan (plain_of l.body) after → was_done plan after.status ≡ false → later ≡ suc l.cycle
    → done_below x later ≡ done_below x l.cycle
acted_none x l Nothing after later at is leaves none far =
    tells_none x l later at far (none_planned l.cycle (core_of l.body at.seen) Nothing is refl)
acted_none x l Waits after later at is leaves none far =
    tells_none x l later at far (none_waiting l.cycle (core_of l.body at.seen) Waits is refl)
acted_none x l (Does fetched) after later at is leaves none far = by (passes fetched (plain_of l.body)) refl
  where
    by : (b : Bool) → passes fetched (plain_of l.body) ≡ b → done_below x later ≡ done_below x l.cycle
    by true passed = absurd (let bad : true ≡ false = sym (ap (was_done (Does fetched)) (leaves.0 passed)) ∙ none in cc)
    by false failed = tells_none x l later at far (none_passed l.cycle (core_of l.body at.seen) (Does fetched) fetched
        is refl failed)

pub acted_one : (x : Core) (l : Lone) (plan : Plan) (after : Plain) (place : ℕ) (found : Registers)
    (stages stages' : Latches) (later : ℕ) → LandedAs l x
    → plan ≡ planned l.cycle (plain_of l.body) → LeavesStatus plan (plain_of l.body) after → was_done plan after.status
    ≡ true
    → (l.body.offset < size_at l.body.image l.body.base → place ≡ l.body.base + l.body.offset) → found ≡ l.body.regs
    → stages' ≡ shifted (Some place) found stages → later ≡ suc l.cycle → IsNextBundle x l.cycle later stages stages'
acted_one x l Nothing after place found stages stages' later at is leaves done there registers held far =
    absurd (let bad : false ≡ true = done in cc)
acted_one x l Waits after place found stages stages' later at is leaves done there registers held far =
    absurd (let bad : false ≡ true = done in cc)
acted_one x l (Does fetched) after place found stages stages' later at is leaves done there registers held far =
    by (passes fetched (plain_of l.body)) refl
  where
    by : (b : Bool) → passes fetched (plain_of l.body) ≡ b → IsNextBundle x l.cycle later stages stages'
    by true passed = tells_one x l (Does fetched) fetched place found stages stages' later at is refl passed there
        registers held far
    by false failed = absurd (leaves.1 failed (done_runs fetched after.status done))
