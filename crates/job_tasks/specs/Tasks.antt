-- To be believed. The tasks of a job by the numbers of their cores, and what each is made to: found in one pass over
-- the cores, which the first refused task ends.
use Rattle.std.specs.Prelude.{ℕ, zero, suc, ◌+◌, ◌==◌, List, [], ◌∷◌, ◌++◌, codes, Option, Some, None, Result, Ok, Err}
use Rattle.std.specs.List.{find}
use Rattle.std.specs.Fmt.{decimal}
use Rattle.c_tree.specs.declared.checks.CheckFault.{CheckFault}
use Rattle.c_tree.specs.declared.checks.CheckFault.TheVariants as check
use Rattle.c_tree.specs.Plain.{PlainItem}
use Rattle.c_compile.specs.Texts as compile
use Rattle.c_compile.specs.Texts.{Refused, no_token_at, too_wide_at, no_program_at, not_valid, too_long}
use Rattle.c_task.specs.Translation.{bound_on, persist_on, translation}
use Rattle.local_store.specs.declared.store.TheConstants.{FIRST_DATA_WORD, INPUT_WORDS}
use Rattle.patmos_code.specs.Images.{Parts, parts}
use Rattle.patmos_forms.specs.declared.faults.AsmKind.{AsmKind}
use Rattle.patmos_forms.specs.declared.faults.AsmKind.TheVariants.{Mnemonic, Operand, Range, Slot, NoLabel, LabelTwice, TooLarge, NoFunction}
use Rattle.patmos_asm.specs.declared.faults.AsmFault.{AsmFault}
use Rattle.patmos_asm.specs.Assembly.{CodeParts, code_of}
use Rattle.tc_job.specs.declared.job.Job.{Job}
use Rattle.tc_job.specs.declared.task.Task.{Task}
use Rattle.tc_job.specs.declared.task.Lang.{Lang}
use Rattle.tc_job.specs.declared.task.Lang.TheVariants.{Asm, C}
use Rattle.job_tasks.specs.declared.refusal.CoreRefusal.{CoreRefusal}
use Rattle.job_tasks.specs.declared.refusal.Refusal.{Refusal}
use Rattle.job_tasks.specs.declared.refusal.Refusal.TheVariants.{Faulty, Char, Wide, Syntax, Invalid, Long}

infixl 10 ◌>>=◌
-- goes on with the value, or stops at the refusal
abbrev pub ◌>>=◌ : {A B E : Type 0} → Result A E → (A → Result B E) → Result B E
(Ok x) >>= f = f x
(Err e) >>= f = Err e

-- the task of a core, if it has one
abbrev pub task_on : List Task → ℕ → Option Task
task_on tasks core = find (λ t. t.core == core) tasks

-- a text's code, or the refusal of its fault
abbrev pub coded : Result CodeParts AsmFault → Result CodeParts Refusal
coded (Ok code) = Ok code
coded (Err fault) = Err (Faulty fault)

-- the image of that: nothing stands in private memory at first but the input, from word 4 on
abbrev pub image_of : CodeParts → Parts
image_of code = parts code.words code.starts [] FIRST_DATA_WORD INPUT_WORDS

-- ---- C texts

-- the refusal of a C text, which is reported with its place
abbrev pub refusal_of : Refused → Refusal
refusal_of (no_token_at at) = Char at
refusal_of (too_wide_at at) = Wide at
refusal_of (no_program_at at) = Syntax at
refusal_of (not_valid fault) = Invalid fault
refusal_of too_long = Long

abbrev pub taken : Result (List PlainItem) Refused → Result (List PlainItem) Refusal
taken (Ok items) = Ok items
taken (Err refused) = Err (refusal_of refused)

-- the program that is the task of a core
abbrev pub program_of : Job → ℕ → List ℕ → Result (List PlainItem) Refusal
program_of job core source = taken (compile.task_on job.cores job.table job.slot core source)

-- ---- what a task is made to

-- a C program, and how many cycles it takes at most on its core, and by what stays in the method cache
pub record Bounded : Type 0 where
  pub items : List PlainItem
  pub bound : ℕ
  pub persist : ℕ

-- an image, and the program of a C task
pub record Made : Type 0 where
  pub image : Parts
  pub program : Option Bounded

abbrev pub of_code : CodeParts → Made
of_code code = record { image = image_of code; program = None }

abbrev pub of_program : Job → ℕ → List PlainItem → Made
of_program job core items = record {
  image = (translation items).image;
  program = Some (record {
    items = items;
    bound = bound_on job.table job.slot core items;
    persist = persist_on job.table job.slot core items;
  });
}

abbrev pub assembled : List ℕ → Result Made Refusal
assembled source = coded (code_of source) >>= λ code. Ok (of_code code)

abbrev pub compiled : Job → ℕ → List ℕ → Result Made Refusal
compiled job core source = program_of job core source >>= λ items. Ok (of_program job core items)

abbrev pub made_in : Job → ℕ → Lang → List ℕ → Result Made Refusal
made_in job core Asm source = assembled source
made_in job core C source = compiled job core source

abbrev pub made_by : Job → Task → Result Made Refusal
made_by job t = made_in job t.core t.lang t.source

-- ---- the tasks of all cores

-- a refusal of a core's task
abbrev pub on_core : {A : Type 0} → ℕ → Result A Refusal → Result A CoreRefusal
on_core core (Ok x) = Ok x
on_core core (Err refusal) = Err (record { core = core; refusal = refusal })

-- a task and what it is made to
pub record Coded : Type 0 where
  pub task : Task
  pub made : Made

-- a core's task, made, if it has one
abbrev pub coded_on : Job → ℕ → Option Task → Result (Option Coded) CoreRefusal
coded_on job core None = Ok None
coded_on job core (Some t) = on_core core (made_by job t) >>= λ made. Ok (Some (record { task = t; made = made }))

-- those of so many cores, the first of which is this one; or the first refusal
abbrev pub coded_from : Job → ℕ → ℕ → Result (List (Option Coded)) CoreRefusal
coded_from job core zero = Ok []
coded_from job core (suc count) =
    coded_on job core (task_on job.tasks core) >>= λ c. coded_from job (core + 1) count >>= λ cs. Ok (c ∷ cs)

-- what is reported of cores, the first of which is this one
abbrev pub told_from : (ℕ → Option Coded → List ℕ) → ℕ → List (Option Coded) → List ℕ
told_from tell core [] = []
told_from tell core (c ∷ cs) = tell core c ++ told_from tell (core + 1) cs

-- what a core runs, as far as its report is concerned
pub data Runs : Type 0 where
  nothing : Runs
  assembly : Runs
  program : Bounded → Runs

abbrev pub runs_by : Option Bounded → Runs
runs_by None = assembly
runs_by (Some p) = program p

abbrev pub runs_made : Made → Runs
runs_made m = runs_by m.program

abbrev pub runs_on : Option Coded → Runs
runs_on None = nothing
runs_on (Some c) = runs_made c.made

-- ---- names

-- the names of faults of assembly text
abbrev pub fault_name : AsmKind → List ℕ
fault_name Mnemonic = codes "Mnemonic"
fault_name Operand = codes "Operand"
fault_name Range = codes "Range"
fault_name Slot = codes "Slot"
fault_name NoLabel = codes "NoLabel"
fault_name LabelTwice = codes "LabelTwice"
fault_name TooLarge = codes "TooLarge"
fault_name NoFunction = codes "NoFunction"

-- the names of faults of C programs
abbrev pub check_name : CheckFault → List ℕ
check_name check.Unknown = codes "Unknown"
check_name check.Twice = codes "Twice"
check_name check.WrongType = codes "WrongType"
check_name check.NoBound = codes "NoBound"
check_name check.BoundRange = codes "BoundRange"
check_name check.Recursion = codes "Recursion"
check_name check.Params = codes "Params"
check_name check.Deep = codes "Deep"
check_name check.Frame = codes "Frame"
check_name check.Heavy = codes "Heavy"
check_name check.Data = codes "Data"
check_name check.Scratch = codes "Scratch"
check_name check.Target = codes "Target"
check_name check.NoMain = codes "NoMain"

-- a fault and its place in the text: in bytes, or for syntax and checks in tokens
abbrev pub at_place : List ℕ → ℕ → List ℕ
at_place name at = name ++ codes " at " ++ decimal at

-- what is written of a refusal, after its core
abbrev pub refusal_text : Refusal → List ℕ
refusal_text Long = codes "Long"
refusal_text (Char at) = at_place (codes "Char") at
refusal_text (Wide at) = at_place (codes "Wide") at
refusal_text (Syntax at) = at_place (codes "Syntax") at
refusal_text (Invalid fault) = at_place (check_name fault.kind) fault.at
refusal_text (Faulty fault) = fault_name fault.fault ++ codes " line " ++ decimal fault.line
