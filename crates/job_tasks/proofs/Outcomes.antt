-- How a call that ended meets the sentences on what was written.
use Rattle.std.proofs.Common.{◌≡◌, inl, inr, ℕ, ◌<◌, List, [], take, refl, sym, subst, IfOk, arith, Option, Some, None, IfSome}
use Rattle.std.specs.Prelude.{Result, Ok, Err}
use Rattle.job_tasks.specs.declared.answers.Answer.{Answer}
use Rattle.job_tasks.specs.Answer.{read_fault}
use Rattle.job_tasks.specs.Outcome.{Ends, HasWritten}

-- an answer that is this one has its status, below those of faults of the outside
pub below_if : {E : Type 0} (result : Result Answer E) (a : Answer) → IfOk result (λ x. x ≡ a) → a.status < 5
    → IfOk result (λ x. x.status < 5)
below_if (Ok x) a is low = subst (λ y. y.status < 5) (sym is) low
below_if (Err e) a is low = tt

-- a sink that tells its bytes was handed a text
HasWritten-Ends : (a : Answer) (failed : Type 0) (status faults faults' : ℕ) (taken taken' : Option (List ℕ))
    → a.status < 5
    → Ends a failed status faults faults' taken taken' → HasWritten a failed status taken taken'
HasWritten-Ends a failed status faults faults' None taken' low ends = tt
HasWritten-Ends a failed status faults faults' (Some t) None low ends = tt
HasWritten-Ends a failed status faults faults' (Some t) (Some t') low (inl nothing) = (
  [],
  nothing.1,
  record {
    answered = λ below. absurd (omega (arith, nothing.0));
    at_read_fault = λ five. absurd (omega (arith, nothing.0));
    at_write_fault = λ six. absurd (omega (arith, nothing.0));
    at_memory = λ _. refl;
    known = omega (arith, nothing.0);
  },
)
HasWritten-Ends a failed status faults faults' (Some t) (Some t') low (inr (inl (inl whole))) = (
  a.text,
  whole.1,
  record {
    answered = λ _. (whole.0, refl);
    at_read_fault = λ five. absurd (omega (arith, whole.0));
    at_write_fault = λ six. absurd (omega (arith, whole.0));
    at_memory = λ seven. absurd (omega (arith, whole.0));
    known = omega (arith, whole.0);
  },
)
HasWritten-Ends a failed status faults faults' (Some t) (Some t') low (inr (inl (inr cut))) = (
  take cut.2 a.text,
  cut.4,
  record {
    answered = λ below. absurd (omega (arith, cut.0));
    at_read_fault = λ five. absurd (omega (arith, cut.0));
    at_write_fault = λ _. inl (cut.2, cut.3, refl);
    at_memory = λ seven. absurd (omega (arith, cut.0));
    known = omega (arith, cut.0);
  },
)
HasWritten-Ends a failed status faults faults' (Some t) (Some t') low (inr (inr (inl line, read))) = (
  read_fault.text,
  line.1,
  record {
    answered = λ below. absurd (omega (arith, line.0));
    at_read_fault = λ _. refl;
    at_write_fault = λ six. absurd (omega (arith, line.0));
    at_memory = λ seven. absurd (omega (arith, line.0));
    known = omega (arith, line.0);
  },
)
HasWritten-Ends a failed status faults faults' (Some t) (Some t') low (inr (inr (inr cut, read))) = (
  take cut.2 read_fault.text,
  cut.4,
  record {
    answered = λ below. absurd (omega (arith, cut.0));
    at_read_fault = λ five. absurd (omega (arith, cut.0));
    at_write_fault = λ _. inr ((cut.2, cut.3, refl), read);
    at_memory = λ seven. absurd (omega (arith, cut.0));
    known = omega (arith, cut.0);
  },
)

pub written_if : (a : List ℕ → Answer) (failed : Type 0) (status faults faults' : ℕ)
    (taken taken' left : Option (List ℕ)) → ((bytes : List ℕ) → (a bytes).status < 5)
    → IfSome left (λ bytes. Ends (a bytes) failed status faults faults' taken taken')
    → IfSome left (λ bytes. HasWritten (a bytes) failed status taken taken')
written_if a failed status faults faults' taken taken' None low ends = tt
written_if a failed status faults faults' taken taken' (Some bytes) low ends =
    HasWritten-Ends (a bytes) failed status faults faults' taken taken' (low bytes) ends
