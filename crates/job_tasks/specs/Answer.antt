-- To be believed. Answers that do not depend on what is asked: a status and a text each.
use Rattle.std.specs.Prelude.{ℕ, List, ◌++◌, codes}
use Rattle.tc_report.specs.Line.{line, core_name}
use Rattle.tc_toml.specs.Fault.{Fault, fault_text}
use Rattle.job_tasks.specs.declared.answers.Answer.{Answer}
use Rattle.job_tasks.specs.declared.calls.TextFault.{TextFault}
use Rattle.job_tasks.specs.declared.calls.TextFault.TheVariants.{TooLong}
use Rattle.job_tasks.specs.declared.refusal.CoreRefusal.{CoreRefusal}
use Rattle.job_tasks.specs.Tasks.{refusal_text}

-- an answer of one line
abbrev pub lone_line : ℕ → List ℕ → Answer
lone_line status text = record { status = status; text = line text }

-- the source failed
abbrev pub read_fault : Answer
read_fault = lone_line 5 (codes "read fault")

-- the number of a fault that is found before a text is read as a job, before those of any job
abbrev pub text_fault_number : TextFault → ℕ
text_fault_number TooLong = 1

abbrev pub too_long : Answer
too_long = lone_line 2 (codes "job: TooLong")

-- the bytes are no job
abbrev pub no_job : Fault → Answer
no_job fault = lone_line 2 (fault_text fault.kind fault.task fault.key)

-- the task of a core is refused
abbrev pub no_task : CoreRefusal → Answer
no_task r = lone_line 4 (core_name r.core ++ codes ": " ++ refusal_text r.refusal)

-- a whole text
abbrev pub whole : List ℕ → Answer
whole text = record { status = 0; text = text }
