-- To be believed. What a call of the program did, against the answer that it owes: its status, and the bytes that its
-- sink took.
use Rattle.std.specs.Prelude.{◌≡◌, ℕ, ◌<◌, ◌⊎◌, List, [], ◌++◌, length, take, Option, Some, None}
use Rattle.tc_io.specs.Faults.{Rose}
use Rattle.tc_io.specs.Sink.{Took}
use Rattle.job_tasks.specs.declared.answers.Answer.{Answer}
use Rattle.job_tasks.specs.Answer.{read_fault}

-- status 7 says that memory was refused
abbrev pub memory : ℕ
memory = 7

-- the answer was written whole, or memory was refused and nothing was
abbrev pub IsAnswered : Answer → ℕ → Option (List ℕ) → Option (List ℕ) → Type 0
IsAnswered a status taken taken' =
    ((status ≡ a.status) × Took taken taken' a.text) ⊎ ((status ≡ memory) × Took taken taken' [])

-- a prefix of the text, and not all of it
abbrev pub IsCutOff : List ℕ → List ℕ → Type 0
IsCutOff prefix text = (n : ℕ) × (n < length text) × (prefix ≡ take n text)

-- what was appended, whatever failed: with the statuses 0 to 4 the answer, with 5 the line on the read
-- fault, with 6 a proper prefix of that line or of the answer's text, and with 7 nothing. A prefix of the
-- line on the read fault is written only where the source's count of faults rose.
pub record HasWrittenBy (a : Answer) (read_failed : Type 0) (status : ℕ) (appended : List ℕ) : Type 0 where
  pub answered : status < 5 → (status ≡ a.status) × (appended ≡ a.text)
  pub at_read_fault : status ≡ 5 → appended ≡ read_fault.text
  pub at_write_fault : status ≡ 6 → IsCutOff appended a.text ⊎ (IsCutOff appended read_fault.text × read_failed)
  pub at_memory : status ≡ memory → appended ≡ []
  pub known : status < 8

-- a sink that tells its bytes before and after has the answer appended
abbrev pub HasWritten : Answer → Type 0 → ℕ → Option (List ℕ) → Option (List ℕ) → Type 0
HasWritten a read_failed status None taken' = Unit {0}
HasWritten a read_failed status (Some taken) None = Unit {0}
HasWritten a read_failed status (Some taken) (Some taken') =
    (appended : List ℕ) × (taken' ≡ taken ++ appended) × HasWrittenBy a read_failed status appended

-- one text was handed to the sink: all of it went out under its status, or a proper prefix of it and the
-- sink's count of faults rose
abbrev pub IsSent : Answer → ℕ → ℕ → ℕ → Option (List ℕ) → Option (List ℕ) → Type 0
IsSent a status faults faults' taken taken' =
    ((status ≡ a.status) × Took taken taken' a.text)
    ⊎ ((status ≡ 6) × Rose faults faults' × (n : ℕ) × (n < length a.text) × Took taken taken' (take n a.text))

-- memory was refused and nothing was sent, or the answer was, or, where reading failed, the line on that
abbrev pub Ends : Answer → Type 0 → ℕ → ℕ → ℕ → Option (List ℕ) → Option (List ℕ) → Type 0
Ends a read_failed status faults faults' taken taken' =
    ((status ≡ memory) × Took taken taken' [])
    ⊎ (IsSent a status faults faults' taken taken'
    ⊎ (IsSent read_fault status faults faults' taken taken' × read_failed))
