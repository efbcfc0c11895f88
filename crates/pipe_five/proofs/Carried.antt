-- A cycle of the only core of a platform, carried out.
use Rattle.std.proofs.Common.{◌≡◌, ◌≢◌, ℕ, suc, true, List, Option, slice_index, refl, sym, ap, ◌∙◌, subst, arith}
use Rattle.slot_arbiter.specs.Stamp.{stamp}
use Rattle.shared_order.specs.Words.{after}
use Rattle.shared_order.specs.Program.{Prog, done, and_then, played, fed}
use Rattle.argo_ni.specs.Interface.{Interface}
use Rattle.argo_ni.specs.Turn.{delivery, injection}
use Rattle.patmos_model.specs.declared.pending_store.PendingStore.{PendingStore}
use Rattle.patmos_model.specs.declared.state.Status.TheVariants.{Running}
use Rattle.patmos_model.specs.State.{Core, History, is_running}
use Rattle.patmos_model.specs.Cells.{Acted}
use Rattle.patmos_model.specs.Cycle.{turn, own, settled, with_interface}
use Rattle.patmos_step.specs.declared.ask.Ask.{Ask}
use Rattle.patmos_step.specs.declared.body.Body.{Body}
use Rattle.patmos_step.specs.declared.plan.Plan.{Plan}
use Rattle.patmos_step.specs.declared.plan.Plan.TheVariants.{Nothing, Waits, Does}
use Rattle.patmos_step.specs.Asks.{FollowsAsk}
use Rattle.patmos_step.specs.Plan.{planned, carried_out, settled_at, IsSettled}
use Rattle.patmos_step.specs.Ready.{HasRegisters}
use Rattle.patmos_step.specs.Shown.{Shows, IsAt, IsActed, core_of, plain_of}
use Rattle.patmos_step.proofs.Own.{own_is_planned}
use Rattle.core_pace.specs.Moment.{landed}
use Rattle.core_pace.proofs.OwnActs.{landed_first, running_status}
use Rattle.core_pace.proofs.Parts.{fed_leaves}
use Rattle.pipe_five.specs.declared.lone.Lone.{Lone}
use Rattle.pipe_five.specs.Steps.{core_before, words_before}
use Rattle.pipe_five.specs.Stages.{is_start}
use Rattle.pipe_five.specs.Board.{Hears, stored_by, completed}
use Rattle.pipe_five.specs.Lone.{RunsAs, LandedAs, LeavesStatus}
use Rattle.pipe_five.proofs.Cycles.{never_turns, first_quiet, second_quiet, next_core, next_words}
use Rattle.pipe_five.proofs.Answering.{IsAnswered, answered_so}
use Rattle.pipe_five.proofs.Kept.{keeps_start, runs_on, stops_at}
use Rattle.pipe_five.proofs.Landing.{Goes, Placed, landed_goes}
use Rattle.pipe_five.proofs.Told.{does_run}

-- this body with these words is the core of a run before a cycle
pub record IsRun (x : Core) (later : ℕ) (b : Body) (words : List ℕ) : Type 0 where
  pub seen : History
  pub shows : Shows b seen
  pub core : core_before x later ≡ core_of b seen
  pub board : (word : ℕ) → words_before x later word ≡ slice_index words word
  pub placed : is_start b.image b.base ≡ true

-- ---- a flow that is due takes effect

pub landed_as : (x : Core) (l : Lone) (b : Body) (runs : RunsAs l x)
    → IsAt b (settled_at l.cycle (core_of l.body runs.seen))
    → (seen : History) × Shows b seen × (landed l.cycle (core_before x l.cycle) ≡ core_of b seen)
    × (is_start b.image b.base ≡ true)
landed_as x l b runs at =
    let same : landed l.cycle (core_before x l.cycle) ≡ core_of b at.seen = ap (landed l.cycle) runs.core ∙ at.same in
    let there : Placed (landed l.cycle (core_before x l.cycle)) =
    (landed_goes l.cycle (core_before x l.cycle)).0 (subst Placed (sym runs.core) runs.placed) in
    (at.seen, at.shows, same, subst Placed same there)

-- ---- what is planned is carried out

registers_same : (x : Interface) → HasRegisters x x
registers_same x = record { cores = refl; core = refl; source = λ d. refl; target = λ d. refl }

pub carried : (x : Core) (l : Lone) (next : Body) (asked : Ask) (plan : Plan) (values : List ℕ)
    (pending_store : Option PendingStore) (stored : List ℕ) (later : ℕ)
    → LandedAs l x → plan ≡ planned l.cycle (plain_of l.body) → (is_running (plain_of l.body) ≡ true
    → IsSettled l.cycle (plain_of l.body))
    → ((h : History) (i : Interface) → Shows l.body h → HasRegisters i l.body.ni.interface
    → FollowsAsk asked (carried_out plan l.cycle (with_interface (core_of l.body h) i)))
    → Hears asked (slice_index l.words.items) values
    → ((s : ℕ) (h : History) → Shows l.body h
    → IsActed next pending_store (fed s (carried_out plan l.cycle (core_of l.body h)) values).core)
    → ((w : ℕ) → slice_index stored w ≡ completed pending_store (stored_by asked (slice_index l.words.items)) w)
    → later ≡ suc l.cycle → IsRun x later next stored
carried x l next asked plan values pending_store stored later at is settles follows hears acts completes far =
    let t : ℕ = l.cycle in
    let s : ℕ = stamp 1 0 t 1 in
    let y : Core = core_before x t in
    let z : Core = core_of l.body at.seen in
    let p : Prog Acted = carried_out plan t z in
    let words : ℕ → ℕ = slice_index l.words.items in
    let goes : Goes y (landed t y) = landed_goes t y in
    let same : y.plain.interface ≡ z.plain.interface = sym goes.1 ∙ ap (λ (c : Core). c.plain.interface) at.core in
    let first : turn 0 t y ≡ done y = first_quiet t y (subst (λ i. delivery t i ≡ done i) (sym same)
    (never_turns l.body.ni l.can.never t 0 (omega arith))) in
    let owns : own t y ≡ p = sym (landed_first y t).act ∙ ap (own t) at.core ∙ own_is_planned t z settles
    ∙ ap (λ q. carried_out q t z) (sym is) in
    let second : turn 1 t y ≡ and_then p settled = second_quiet t y (subst (λ i. injection t i ≡ done i) (sym same)
    (never_turns l.body.ni l.can.never t 1 (omega arith))) ∙ ap (λ q. and_then q settled) owns in
    let board : words_before x t ≡ words = λ i w. at.words w i in
    let act : IsActed next pending_store (fed s p values).core = acts s at.seen at.shows in
    let answered : IsAnswered s p values words (stored_by asked words) =
    answered_so s asked p values words (follows at.seen z.plain.interface at.shows
    (registers_same z.plain.interface)) hears in
    subst (λ u. IsRun x u next stored) (sym far) (record {
      seen = act.at.seen;
      shows = act.at.shows;
      core = next_core x t y (and_then p settled) first second ∙ ap (λ f. (played s (and_then p settled) f).core) board
          ∙ answered.core ∙ act.at.same;
      board = λ w. (λ i. next_words x t y (and_then p settled) first second i w)
          ∙ ap (λ f. after (played s (and_then p settled) f).ops f w) board
          ∙ (λ i. answered.board i w) ∙ (λ i. completed (act.leaves i) (stored_by asked words) w) ∙ sym (completes w);
      placed = subst Placed act.at.same (fed_leaves (λ (a : Acted). is_start a.core.plain.site.image a.core.plain.base
          ≡ true) s p values (keeps_start plan t z at.placed));
    })

pub status_left : (x : Core) (l : Lone) (next : Body) (plan : Plan) (values : List ℕ)
    (pending_store : Option PendingStore) → LandedAs l x → plan ≡ planned l.cycle (plain_of l.body)
    → ((s : ℕ) (h : History) → Shows l.body h
    → IsActed next pending_store (fed s (carried_out plan l.cycle (core_of l.body h)) values).core)
    → LeavesStatus plan (plain_of l.body) (plain_of next)
status_left x l next Nothing values pending_store at is acts = tt
status_left x l next Waits values pending_store at is acts = tt
status_left x l next (Does fetched) values pending_store at is acts =
    let z : Core = core_of l.body at.seen in
    let p : Prog Acted = carried_out (Does fetched) l.cycle z in
    let act : IsActed next pending_store (fed 0 p values).core = acts 0 at.seen at.shows in
    let runs : z.plain.status ≡ Running =
    running_status z.plain (does_run l.cycle z.plain (Does fetched) fetched is refl) in (
      λ passed. sym (ap (λ (c : Core). c.plain.status) act.at.same) ∙ fed_leaves (λ (a : Acted). a.core.plain.status
          ≡ Running) 0 p values (runs_on fetched l.cycle z runs passed),
      λ failed. subst (λ (c : Core). c.plain.status ≢ Running) act.at.same
          (fed_leaves (λ (a : Acted). a.core.plain.status ≢ Running) 0 p values (stops_at fetched l.cycle z failed)),
    )
