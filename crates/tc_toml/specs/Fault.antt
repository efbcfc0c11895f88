-- To be believed. Why a text is no job, and what is read where it is one.
use Rattle.std.specs.Prelude.{◌≡◌, ℕ, List, [], ◌++◌, codes, pos, Option, Some, None, Result, Ok, Err, IsErrAnd}
use Rattle.std.specs.Fmt.{signed_decimal}
use Rattle.tc_toml.specs.declared.fault.JobFault.{JobFault}
use Rattle.tc_toml.specs.declared.fault.JobFault.TheVariants as faults
use Rattle.tc_toml.specs.declared.fault.JobError.{JobError}
use Rattle.tc_toml.specs.declared.fault.JobError.TheVariants as errors
use Rattle.tc_toml.specs.declared.fault.Refusal.{Refusal}
use Rattle.tc_toml.specs.declared.fault.Refusal.TheVariants as refusals

-- what is wrong, in which task, counted from 0, or at the top level, and at which key
pub record Fault : Type 0 where
  pub kind : JobFault
  pub task : Option ℕ
  pub key : List ℕ

infixl 10 ◌>>=◌
-- goes on with the value, or stops at the first fault
abbrev pub ◌>>=◌ : {A B E : Type 0} → Result A E → (A → Result B E) → Result B E
(Ok x) >>= f = f x
(Err fault) >>= f = Err fault

-- what is read at a key, or the fault of that key
abbrev pub at_key : {A : Type 0} → Option ℕ → List ℕ → Result A JobFault → Result A Fault
at_key task key (Ok x) = Ok x
at_key task key (Err fault) = Err (record { kind = fault; task = task; key = key })

-- a call refused what is at fault, with that fault, unless memory ran out
abbrev pub Fails : {B : Type 0} → JobError → Result B Fault → Type 0
Fails errors.Memory read = Unit {0}
Fails (errors.Fault kind task key) read = read ≡ Err (record { kind = kind; task = task; key = key })

-- what a call answered, seen by a view, is what is read
abbrev pub Gives : {A B : Type 0} → (A → B) → Result A JobError → Result B Fault → Type 0
Gives view (Ok x) read = read ≡ Ok (view x)
Gives view (Err error) read = Fails error read

-- the error tells that fault, task and key, unless memory ran out
abbrev pub IsReported : JobFault → Option ℕ → List ℕ → JobError → Type 0
IsReported fault task key errors.Memory = Unit {0}
IsReported fault task key (errors.Fault kind place name) = (kind ≡ fault) × (place ≡ task) × (name ≡ key)

-- the error tells why a value was refused
abbrev pub IsReportedFor : Refusal → Option ℕ → List ℕ → JobError → Type 0
IsReportedFor refusals.Memory task key error = error ≡ errors.Memory
IsReportedFor (refusals.Fault fault) task key error = IsReported fault task key error

-- what was read is answered, or why it was refused
abbrev pub IsReportedAt : {A : Type 0} → Option ℕ → List ℕ → Result A Refusal → Result A JobError → Type 0
IsReportedAt task key (Ok x) result = result ≡ Ok x
IsReportedAt task key (Err refusal) result = IsErrAnd result (IsReportedFor refusal task key)

-- the fault's name
abbrev pub name_of : JobFault → List ℕ
name_of faults.Toml = codes "Toml"
name_of faults.Key = codes "Key"
name_of faults.Missing = codes "Missing"
name_of faults.Kind = codes "Kind"
name_of faults.Range = codes "Range"
name_of faults.CoreTwice = codes "CoreTwice"
name_of faults.Input = codes "Input"

-- the fault's number, after that of a text that is too long to be read
abbrev pub number_of : JobFault → ℕ
number_of faults.Toml = 2
number_of faults.Key = 3
number_of faults.Missing = 4
number_of faults.Kind = 5
number_of faults.Range = 6
number_of faults.CoreTwice = 7
number_of faults.Input = 8

-- where a key stands: nothing is said of the top level
abbrev pub place_of : Option ℕ → List ℕ
place_of None = []
place_of (Some task) = codes " task " ++ signed_decimal (pos task)

-- The line in which a fault is reported, without its end: a text that is no TOML at all has no key to name,
-- and any other fault is reported with its task and its key.
abbrev pub fault_text : JobFault → Option ℕ → List ℕ → List ℕ
fault_text faults.Toml task key = codes "job: Toml"
fault_text fault task key = codes "job: " ++ name_of fault ++ place_of task ++ codes " " ++ key
