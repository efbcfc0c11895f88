-- To be believed. What a call that may run out of memory answered, against what is defined.
use Rattle.std.specs.Prelude.{◌≡◌, Result, Ok, Err}
use Rattle.c_check.specs.declared.checks.CheckError.TheVariants as checks
use Rattle.c_compile.specs.declared.faults.CompileFault.{CompileFault}
use Rattle.c_compile.specs.declared.faults.CompileFault.TheVariants as compile
use Rattle.c_lex.specs.declared.faults.LexFault.TheVariants as lex
use Rattle.c_parse.specs.declared.faults.ParseFault.TheVariants as parse
use Rattle.job_tasks.specs.declared.refusal.Halt.{Halt}
use Rattle.job_tasks.specs.declared.refusal.Halt.TheVariants.{Refused, Memory}
use Rattle.job_tasks.specs.declared.refusal.Refusal.{Refusal}
use Rattle.job_tasks.specs.declared.refusal.Refusal.TheVariants.{Char, Wide, Syntax, Invalid, Long}

-- the value, or the refusal, that is defined; want of memory is free
abbrev pub Refuses : {B E : Type 0} → Halt E → Result B E → Type 0
Refuses (Refused refusal) defined = defined ≡ Err refusal
Refuses Memory defined = Unit {0}

abbrev pub Gives : {A B E : Type 0} → (A → B) → Result A (Halt E) → Result B E → Type 0
Gives view (Ok x) defined = defined ≡ Ok (view x)
Gives view (Err halt) defined = Refuses halt defined

-- what a fault of the compiler is here
abbrev pub of_fault : CompileFault → Halt Refusal
of_fault (compile.Lex (lex.Char at)) = Refused (Char at)
of_fault (compile.Lex (lex.Wide at)) = Refused (Wide at)
of_fault (compile.Lex lex.Memory) = Memory
of_fault (compile.Parse (parse.Syntax at)) = Refused (Syntax at)
of_fault (compile.Parse parse.Memory) = Memory
of_fault (compile.Check (checks.Fault kind at)) = Refused (Invalid (record { at = at; kind = kind }))
of_fault (compile.Check checks.Memory) = Memory
of_fault compile.Long = Refused Long
of_fault compile.Memory = Memory
