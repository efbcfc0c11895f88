-- What the report of a job tells of its C tasks, from what the machine tells of them.
use Rattle.std.proofs.Common.{◌≡◌, ℕ, zero, suc, ◌+◌, ◌<◌, ◌≤◌, ◌==◌, Bool, true, false, List, [], ◌∷◌, map, take, length, Option, None, Some, IfSome, slice_get, refl, sym, ap, ◌∙◌, subst, arith}
use Rattle.std.specs.Prelude.{not, Result, IfOk, Ok, Err}
use Rattle.std.specs.List.{AllByRecursion as Each}
use Rattle.std.proofs.lemmas.Option.{slice_get_within}
use Rattle.argo_ni.specs.Packet.{comm_word}
use Rattle.slot_arbiter.specs.declared.place.Place.{Place}
use Rattle.slot_arbiter.specs.declared.place.TheConstants.{LATEST_START}
use Rattle.shared_order.specs.Machine.{State, cycled}
use Rattle.c_mentions.specs.Alone as alone
use Rattle.c_mentions.specs.Alone.{Running}
use Rattle.c_tree.specs.Plain.{PlainItem}
use Rattle.c_tree.specs.Valid.{IsValid}
use Rattle.c_world.specs.Numbers.{flag}
use Rattle.patmos_model.specs.Apart.{site_of}
use Rattle.patmos_model.specs.Begin.{begun, no_code}
use Rattle.patmos_model.specs.Cycle.{turn}
use Rattle.patmos_model.specs.Range.{HasCode, InRange, IsWord}
use Rattle.patmos_model.specs.State.{Core}
use Rattle.patmos_model.proofs.CoreRanges.{begun_in_range, idle_in_range}
use Rattle.global_step.proofs.MachineRanges.{room_for}
use Rattle.task_machine.specs.Machines.{BeginsAs}
use Rattle.task_words.specs.Meant.{Leaves}
use Rattle.c_task.specs.Programs.{said, task_of, task_on}
use Rattle.c_task.specs.Telling.{HasProgram, Tells}
use Rattle.c_task.specs.Translation.{translation, times, bound_on, bound, persist_on}
use Rattle.c_task.proofs.Runs.{program_runs}
use Rattle.c_task.proofs.Persisting.{program_sooner, program_tighter}
use Rattle.c_task.proofs.Telling.{program_within, tells}
use Rattle.tc_job.specs.Ranges.{KeepsRanges}
use Rattle.tc_job.specs.Job.{job_of}
use Rattle.tc_job.specs.declared.job.Job.{Job}
use Rattle.tc_report.specs.declared.rows.Row.{Row}
use Rattle.tcrest.specs.declared.command.Command.{Command}
use Rattle.tcrest.specs.declared.command.JobCommand.{JobCommand}
use Rattle.tcrest.specs.declared.command.JobCommand.TheVariants.{Pipe}
use Rattle.tcrest.specs.Answer.{is_taken}
use Rattle.job_tasks.specs.Sites.{site_on}
use Rattle.job_rows.specs.Machine.{core_with, core_in, cores_from, machine_of}
use Rattle.job_rows.specs.Rows.{is_flagged, program_row, row_of, row_state, rows_from, running}
use Rattle.job_tasks.specs.Tasks.{Bounded, Coded, coded_from, runs_by, runs_on}
use Rattle.job_tasks.specs.Making.{IsCompiled, IsMadeFor, IsMadeOn, AreMade}
use Rattle.tcrest.specs.Telling.{IsPlaceOf, TellsMeaning, TellsTask, TellsTasks, TellsAllBounds, TellsOf, TellsJob, TellsTasksOf, end_of}
use Rattle.tcrest.proofs.Outs.{outs_are}

-- ---- one row

flagged : (b : Bool) → not (flag b == 0) ≡ b
flagged true = refl
flagged false = refl

-- what a core that has what a text means tells in its row
row_means : (limit trace : ℕ) (all : List Running) (place : Place) (p : Bounded) (input : List ℕ) (world : ℕ → ℕ)
    (own : List _) (x : Core) → IsValid p.items place.cores place.core
    → Leaves place world limit (times place p.items).end (said p.items place input world).value (said p.items place
    input world).world own x
    → TellsMeaning place p.items (said p.items place input world) (program_row limit trace all place.core p x)
row_means limit trace all place p input world own x valid left = record {
  state = ap row_state left.state;
  overrun = ap is_flagged left.state ∙ flagged (said p.items place input world).world.overrun;
  outs = outs_are x.plain (said p.items place input world).world left.scratch left.private place.cores
      place.core p.items valid;
}

row_tells : (job : Job) (m : State Core) (all : List Running) (place : Place) (p : Bounded) (input : List ℕ)
    → IsValid p.items place.cores place.core
    → p.bound ≡ bound place p.items → Tells p.items place input all m job.cycles
    → TellsTask job m place p.items input (program_row job.cycles job.trace all place.core p (m.cores place.core))
row_tells job m all place p input valid bound_is t = record {
  accesses = ap (take job.trace) t.keeps.accesses;
  done = λ enough. let d = t.keeps.done enough in (d.0, ap row_state d.1.1);
  limit = λ early. ap row_state (t.keeps.running early);
  bound = ap Some bound_is;
  within = t.within;
  own = t.own;
  meaning = λ world words fits enough. row_means job.cycles job.trace all place p input world _ (m.cores place.core)
      valid (t.meaning world words fits enough);
  alone = t.alone;
}

-- ---- lists by cores

some_is : {X : Type 0} (a b : X) → Some a ≡ Some b → a ≡ b
some_is a b same = ap (λ o. elim o as (λ _. _) [ None ↦ a | Some x ↦ x ]) same

core_at : (job : Job) (from : ℕ) (cs : List (Option Coded)) (k : ℕ) (c : Option Coded) → slice_get cs k ≡ Some c
    → core_in (cores_from job from cs) k ≡ core_with job (from + k) c
core_at job from [] k c is = absurd (cc)
core_at job from (b ∷ cs) zero c is = let here : from ≡ from + 0 = omega arith in ap (λ n. core_with job n b) here
    ∙ ap (core_with job (from + 0)) (some_is b c is)
core_at job from (b ∷ cs) (suc k) c is =
    let there : from + 1 + k ≡ from + suc k = omega arith in
    core_at job (from + 1) cs k c is ∙ ap (λ n. core_with job n c) there

no_core : (job : Job) (from : ℕ) (cs : List (Option Coded)) (k : ℕ) → slice_get cs k ≡ None
    → core_in (cores_from job from cs) k ≡ core_in [] k
no_core job from [] k is = refl
no_core job from (b ∷ cs) zero is = absurd (cc)
no_core job from (b ∷ cs) (suc k) is = no_core job (from + 1) cs k is

running_at : (cs : List (Option Coded)) (k : ℕ) (c : Option Coded) → slice_get cs k ≡ Some c
    → task_on (map running (map runs_on cs)) k ≡ running (runs_on c)
running_at [] k c is = absurd (cc)
running_at (b ∷ cs) zero c is = ap (λ x. running (runs_on x)) (some_is b c is)
running_at (b ∷ cs) (suc k) c is = running_at cs k c is

none_running : (cs : List (Option Coded)) (k : ℕ) → slice_get cs k ≡ None → task_on (map running (map runs_on cs)) k
    ≡ alone.idle
none_running [] k is = refl
none_running (b ∷ cs) zero is = absurd (cc)
none_running (b ∷ cs) (suc k) is = none_running cs k is

row_at : (limit trace : ℕ) (all : List Running) (m : State Core) (from : ℕ) (cs : List (Option Coded)) (k : ℕ)
    (c : Option Coded) (row : Row) → slice_get cs k ≡ Some c
    → slice_get (rows_from limit trace all from (map runs_on cs) m) k ≡ Some row
    → row_of limit trace all (from + k) (runs_on c) (m.cores (from + k)) ≡ row
row_at limit trace all m from [] k c row is at = absurd (cc)
row_at limit trace all m from (b ∷ cs) zero c row is at =
    let here : from + 0 ≡ from = omega arith in
    ap (λ n. row_of limit trace all n (runs_on c) (m.cores n)) here ∙ ap (λ x. row_of limit trace all from (runs_on x)
    (m.cores from)) (sym (some_is b c is)) ∙ some_is _ row at
row_at limit trace all m from (b ∷ cs) (suc k) c row is at =
    let there : from + suc k ≡ from + 1 + k = omega arith in
    ap (λ n. row_of limit trace all n (runs_on c) (m.cores n)) there
    ∙ row_at limit trace all m (from + 1) cs k c row is at

-- ---- tasks that are made

pub made_at : (job : Job) (coded : List (Option Coded)) → AreMade job coded → (core : ℕ) (c : Coded)
    → slice_get coded core ≡ Some (Some c) → IsMadeFor job core c
made_at job coded made core c is = subst (λ o. IfSome o (IsMadeOn job core)) is (made core)

compiled_at : (job : Job) (core : ℕ) (c : Coded) (p : Bounded) → IsMadeFor job core c → c.made.program ≡ Some p
    → IsCompiled job core c.made.image p
compiled_at job core c p m some = subst (λ o. IfSome o (IsCompiled job core c.made.image)) some m.compiled

valid_at : (job : Job) (start : ℕ) (place : Place) (items : List PlainItem) → IsPlaceOf job start place
    → IsValid items job.cores place.core → IsValid items place.cores place.core
valid_at job start place items at valid = subst (λ n. IsValid items n place.core) (sym at.cores) valid

-- what depends on the table and the slots of a job is the same at a place of its platform
on_place : (job : Job) (start : ℕ) (place : Place) (f : List ℕ → ℕ → ℕ) → IsPlaceOf job start place
    → f job.table job.slot ≡ f place.table place.slot
on_place job start place f at = ap (λ t. f t job.slot) (sym at.table) ∙ ap (f place.table) (sym at.slot)

pub bounds_tell : (job : Job) (coded : List (Option Coded)) → AreMade job coded → TellsAllBounds job coded
bounds_tell job coded made place c p at is some =
    let m = made_at job coded made place.core c is in
    let k = compiled_at job place.core c p m some in
    let valid = valid_at job c.task.start place p.items at k.valid in
    let bound_is = k.bound ∙ on_place job c.task.start place (λ t s. bound_on t s place.core p.items) at in
    let persist_is = k.persist ∙ on_place job c.task.start place (λ t s. persist_on t s place.core p.items) at in
    record {
      bound = omega (arith, bound_is, program_within place p.items valid k.code);
      persist = omega (arith, persist_is, program_sooner place p.items valid k.code);
      tighter = omega (arith, bound_is, persist_is, program_tighter place p.items valid);
    }

-- ---- the machine of a job

no_code_fits : HasCode no_code
no_code_fits = record { words = λ place. omega arith; starts = tt }

-- what a job's cores begin with is words
pub begin_fits : (job : Job) → KeepsRanges job → (coded : List (Option Coded)) → length coded ≡ job.cores
    → AreMade job coded → (core : ℕ) → InRange (comm_word job.cores 0) (core_in (cores_from job 0 coded) core)
begin_fits job ranges coded count made core = by (slice_get coded core) refl
  where
    words : ℕ
    words = comm_word job.cores 0

    by : (found : Option (Option Coded)) → slice_get coded core ≡ found
        → InRange words (core_in (cores_from job 0 coded) core)
    by None is = subst (InRange words) (sym (no_core job 0 coded core is))
        (idle_in_range words (record { cores = 1; core = 0; slot = 0; table = []; start = 0; image = no_code })
        (record { among = omega arith; room = omega (arith, ranges.platform.cores_least); code = no_code_fits }))
    by (Some None) is = subst (InRange words) (sym (core_at job 0 coded core None is))
        (idle_in_range words (site_on job (0 + core) 0 no_code)
        (record {
          among = omega (arith, slice_get_within coded core None is, count);
          room = omega arith;
          code = no_code_fits;
        }))
    by (Some (Some c)) is = subst (InRange words) (sym (core_at job 0 coded core (Some c) is))
        (let m = made_at job coded made core c is in
        begun_in_range words (site_on job (0 + core) c.task.start c.made.image) c.task.input
        (record {
          among = omega (arith, slice_get_within coded core (Some c) is, count);
          room = omega arith;
          code = m.code;
        }) m.initial m.given)

module _ (job : Job) (ranges : KeepsRanges job) (coded : List (Option Coded)) (made : AreMade job coded) (words : ℕ)
    (fits : (core : ℕ) → InRange words (core_in (cores_from job 0 coded) core)) where
  abbrev cores : ℕ → Core
  cores = core_in (cores_from job 0 coded)

  abbrev tasks : List Running
  tasks = map running (map runs_on coded)

  abbrev place_on : (core start : ℕ) → core < job.cores → start ≤ LATEST_START → Place
  place_on core start among late = record {
    cores = job.cores;
    core = core;
    slot = job.slot;
    start = start;
    table = job.table;
    in_range = record {
      among = among;
      cores_most = ranges.platform.cores_most;
      slot_least = ranges.platform.slot_least;
      slot_most = ranges.platform.slot_most;
      start_most = late;
    };
    owned = ranges.platform.owned;
  }

  -- each core begins with what is said of it
  begins : (core : ℕ) → core < job.cores → BeginsAs job.cores core (cores core) (task_of (task_on tasks core))
  begins core among = by (slice_get coded core) refl
    where
      by : (o : Option (Option Coded)) → slice_get coded core ≡ o → BeginsAs job.cores core (cores core) (task_of
          (task_on tasks core))
      by None is = subst (λ r. BeginsAs job.cores core (cores core) (task_of r)) (sym (none_running coded core is))
          (_, no_core job 0 coded core is)
      by (Some None) is = subst (λ r. BeginsAs job.cores core (cores core) (task_of r))
          (sym (running_at coded core None is)) (_, core_at job 0 coded core None is)
      by (Some (Some c)) is = subst (λ r. BeginsAs job.cores core (cores core) (task_of r))
          (sym (running_at coded core (Some c) is)) (of c (made_at job coded made core c is)
          (core_at job 0 coded core (Some c) is) c.made.program refl)
        where
          of : (c : Coded) → IsMadeFor job core c → cores core ≡ core_with job (0 + core) (Some c)
              → (p : Option Bounded) → c.made.program ≡ p → BeginsAs job.cores core (cores core) (task_of
              (running (runs_by p)))
          of c m begun_is None none = tt
          of c m begun_is (Some p) some =
              let k = compiled_at job core c p m some in
              let place : Place = place_on core c.task.start among m.start in
              let number : 0 + core ≡ core = omega arith in
              record {
                place = place;
                cores = refl;
                core_is = refl;
                input = c.task.input;
                given = m.given;
                begins = begun_is ∙ ap (λ n. begun (site_on job n c.task.start c.made.image) c.task.input) number
                    ∙ ap (λ image. begun (site_on job core c.task.start image) c.task.input) k.image_is;
                runs = program_runs place p.items k.valid;
                code = k.code;
              }

  -- a core with a C task has its program, at whatever place on the platform its task is said to start
  has_program : (place : Place) (c : Coded) (p : Bounded) → IsPlaceOf job c.task.start place
      → slice_get coded place.core ≡ Some (Some c) → c.made.program ≡ Some p
      → IsCompiled job place.core c.made.image p → Each IsWord c.task.input
      → HasProgram p.items place c.task.input words cores tasks job.cycles
  has_program place c p at is some k given =
      let number : 0 + place.core ≡ place.core = omega arith in
      let valid = valid_at job c.task.start place p.items at k.valid in
      let site : site_on job place.core c.task.start (translation p.items).image
      ≡ site_of place (translation p.items).image = λ i. record {
        cores = sym at.cores i;
        core = place.core;
        slot = sym at.slot i;
        table = sym at.table i;
        start = sym at.starts i;
        image = (translation p.items).image;
      } in
      record {
        valid = valid;
        task = record {
          runs = program_runs place p.items valid;
          code = k.code;
          given = given;
          begins = core_at job 0 coded place.core (Some c) is ∙ ap (λ n. begun (site_on job n c.task.start c.made.image)
              c.task.input) number
              ∙ ap (λ image. begun (site_on job place.core c.task.start image) c.task.input) k.image_is
              ∙ ap (λ s. begun s c.task.input) site;
          fits = fits;
          room = room_for job.cycles place.cores ranges.cycles_most place.in_range.cores_most;
        };
        said = running_at coded place.core (Some c) is ∙ ap (λ o. running (runs_by o)) some;
        begin = λ other among.
            let below : other < job.cores = omega (arith, among, at.cores) in
            subst (λ n. BeginsAs n other (cores other) (task_of (task_on tasks other))) (sym at.cores)
            (begins other below);
      }

  pub report_tells : TellsTasks job coded
  unfolding machine_of
  report_tells place c p row at is some told =
      let m = made_at job coded made place.core c is in
      let k = compiled_at job place.core c p m some in
      let h = has_program place c p at is some k m.given in
      let all : Tells p.items place c.task.input tasks (end_of job coded) job.cycles =
      subst (λ n. Tells p.items place c.task.input tasks (cycled turn n cores job.cycles) job.cycles) at.cores
      (tells p.items place c.task.input words cores tasks job.cycles h) in
      let bound_is = k.bound ∙ on_place job c.task.start place (λ t s. bound_on t s place.core p.items) at in
      let number : 0 + place.core ≡ place.core = omega arith in
      let row_is : program_row job.cycles job.trace tasks place.core p ((end_of job coded).cores place.core) ≡ row =
      ap (λ o. row_of job.cycles job.trace tasks place.core (runs_by o) ((end_of job coded).cores place.core))
      (sym some)
      ∙ ap (λ n. row_of job.cycles job.trace tasks n (runs_on (Some c)) ((end_of job coded).cores n)) (sym number)
      ∙ row_at job.cycles job.trace tasks (end_of job coded) 0 coded place.core (Some c) row is told in
      subst (TellsTask job (end_of job coded) place p.items c.task.input) row_is
      (row_tells job (end_of job coded) tasks place p c.task.input h.valid bound_is all)

-- ---- results

pub always : {X E : Type 0} {P : Type 0} (result : Result X E) → P → IfOk result (λ _. P)
always (Ok x) p = p
always (Err e) p = tt

pub ok_is : {X E : Type 0} (a b : X) → (let r : Result X E = Ok a in r) ≡ Ok b → a ≡ b
ok_is a b same = ap (λ r. elim r as (λ _. _) [ Ok x ↦ x | Err e ↦ a ]) same

-- of a job that a command does not take nothing is told
pub untaken : (command : JobCommand) (job : Job) (coded : List (Option Coded)) → is_taken command job ≡ false
    → TellsOf command job coded
untaken Pipe job coded refused = λ lone. absurd (let bad : true ≡ false = sym lone ∙ refused in cc)
untaken _ job coded refused = absurd (let bad : true ≡ false = refused in cc)

-- the tasks that are made are those of the job
pub told_of : {X E : Type 0} (job : Job) (command : JobCommand) (coded : List (Option Coded)) (result : Result X E)
    → coded_from job 0 job.cores ≡ Ok coded
    → IfOk result (λ _. TellsOf command job coded) → IfOk result (λ _. (cs : List (Option Coded))
    → coded_from job 0 job.cores ≡ Ok cs → TellsOf command job cs)
told_of job command coded (Ok x) is told =
    λ cs other. subst (TellsOf command job) (ok_is coded cs (sym is ∙ other)) told
told_of job command coded (Err e) is told = tt

-- the job is that of the bytes
pub told_job : {X E : Type 0} (command : JobCommand) (bytes : List ℕ) (job : Job) (result : Result X E)
    → job_of bytes ≡ Ok job
    → IfOk result (λ _. (cs : List (Option Coded)) → coded_from job 0 job.cores ≡ Ok cs → TellsOf command job cs)
    → IfOk result (λ _. TellsJob command bytes)
told_job command bytes job (Ok x) is told = λ other cs read.
    let same : job ≡ other = ok_is job other (sym is ∙ read) in
    subst (λ j. coded_from j 0 j.cores ≡ Ok cs → TellsOf command j cs) same (told cs)
told_job command bytes job (Err e) is told = tt

pub told_bytes : (command : Command) (left : Option (List ℕ)) (came : List ℕ) (report : Type 0)
    → IfSome left (λ bytes. came ≡ bytes) → TellsTasksOf command came
    → IfSome left (λ bytes. report → TellsTasksOf command bytes)
told_bytes command None came report all told = tt
told_bytes command (Some bytes) came report all told = λ _. subst (TellsTasksOf command) all told
