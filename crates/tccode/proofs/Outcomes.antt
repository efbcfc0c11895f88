-- How a call that ended meets the sentences on what was written.
use Rattle.std.proofs.Common.{◌≡◌, inl, inr, ℕ, ◌<◌, ◌≤◌, List, [], ◌∷◌, length, Option, Some, None, IfSome, true, ◌==◌, arith}
use Rattle.std.proofs.lemmas.Bool.{cases_lt}
use Rattle.std.proofs.lemmas.Bool.Decides.{nat_tests}
use Rattle.std.specs.Prelude.{Result, Ok, Err}
use Rattle.job_tasks.specs.Answer.{too_long}
use Rattle.job_tasks.specs.Outcome.{Ends, IsSent, HasWritten}
use Rattle.job_tasks.proofs.Outcomes.{written_if}
use Rattle.job_tasks.specs.Tasks.{Coded, coded_from}
use Rattle.job_tasks.specs.declared.calls.TheConstants.{MOST_BYTES}
use Rattle.job_tasks.specs.declared.refusal.CoreRefusal.{CoreRefusal}
use Rattle.tc_job.specs.Job.{job_of}
use Rattle.tc_job.specs.declared.job.Job.{Job}
use Rattle.tc_toml.specs.Fault.{Fault}
use Rattle.tccode.specs.Answer.{coded_answer, job_answer, bytes_answer, answer}

-- what is owed where too many bytes came, and where all came
bytes_answer-too_long : (bytes : List ℕ) → MOST_BYTES < length bytes → bytes_answer bytes ≡ too_long
unfolding bytes_answer
bytes_answer-too_long bytes long = grind (arith, nat_tests)

bytes_answer-within : (bytes : List ℕ) → length bytes ≤ MOST_BYTES → bytes_answer bytes ≡ job_answer (job_of bytes)
unfolding bytes_answer
bytes_answer-within bytes within = grind (arith, nat_tests)

-- no answer has the status of a fault of the outside
coded_answer-status : (job : Job) (coded : Result (List (Option Coded)) CoreRefusal)
    → (coded_answer job coded).status < 5
coded_answer-status job (Ok coded) = omega arith
coded_answer-status job (Err refusal) = omega arith

job_answer-status : (read : Result Job Fault) → (job_answer read).status < 5
job_answer-status (Err fault) = omega arith
job_answer-status (Ok job) = coded_answer-status job (coded_from job 0 job.cores)

bytes_answer-status : (bytes : List ℕ) → (bytes_answer bytes).status < 5
bytes_answer-status bytes = elim (cases_lt MOST_BYTES (length bytes)) [
  | inl long ↦ rw (bytes_answer-too_long bytes long) (omega arith)
  | inr within ↦ rw (bytes_answer-within bytes within) (job_answer-status (job_of bytes))
]

pub answer-status : (words : List (List ℕ)) (bytes : List ℕ) → (answer words bytes).status < 5
answer-status [] bytes = bytes_answer-status bytes
answer-status (word ∷ words) bytes = omega arith

module _ (failed : Type 0) (status faults faults' : ℕ) (taken taken' : Option (List ℕ)) where
  pub sent_too_long : (left : Option (List ℕ)) → IfSome left (λ bytes. MOST_BYTES < length bytes)
      → IsSent too_long status faults faults' taken taken'
      → IfSome left (λ bytes. Ends (bytes_answer bytes) failed status faults faults' taken taken')
  sent_too_long None long sent = tt
  sent_too_long (Some bytes) long sent = rw (bytes_answer-too_long bytes long) (inr (inl sent))

  pub sent_within : (left : Option (List ℕ)) (came : List ℕ) → IfSome left (λ bytes. came ≡ bytes)
      → length came ≤ MOST_BYTES → IsSent (job_answer (job_of came)) status faults faults' taken taken'
      → IfSome left (λ bytes. Ends (bytes_answer bytes) failed status faults faults' taken taken')
  sent_within None came all within sent = tt
  sent_within (Some bytes) came all within sent = rw (← all, bytes_answer-within came within) (inr (inl sent))

  -- without words, what was written is for the job
  pub written_of_job : (words : List (List ℕ)) (left : Option (List ℕ)) → true ≡ (length words == 0)
      → IfSome left (λ bytes. Ends (bytes_answer bytes) failed status faults faults' taken taken')
      → IfSome left (λ bytes. HasWritten (answer words bytes) failed status taken taken')
  written_of_job [] left none ends =
      written_if (answer []) failed status faults faults' taken taken' left (answer-status []) ends
  written_of_job (word ∷ words) left none ends =
      let no_words : length (word ∷ words) ≡ 0 = grind (arith, nat_tests, none) in absurd (omega (arith, no_words))
