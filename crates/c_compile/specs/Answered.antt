-- To be believed. What is answered of a text: the program or the refusal that is
-- defined. Want of memory is the one free answer.
use Rattle.std.specs.Prelude.{◌≡◌, List, Result, Ok, Err}
use Rattle.c_check.specs.declared.checks.CheckError.{CheckError}
use Rattle.c_check.specs.declared.checks.CheckError.TheVariants as checks
use Rattle.c_lex.specs.declared.faults.LexFault.{LexFault}
use Rattle.c_lex.specs.declared.faults.LexFault.TheVariants as lex
use Rattle.c_parse.specs.declared.faults.ParseFault.{ParseFault}
use Rattle.c_parse.specs.declared.faults.ParseFault.TheVariants as parse
use Rattle.c_tree.specs.Plain.{PlainItem}
use Rattle.c_compile.specs.Texts.{Refused, no_token_at, too_wide_at, no_program_at, not_valid, too_long}
use Rattle.c_compile.specs.declared.faults.CompileFault.{CompileFault}
use Rattle.c_compile.specs.declared.faults.CompileFault.TheVariants.{Lex, Parse, Check, Long, Memory}

-- what a step's fault is to the whole: want of memory is reported as such
abbrev pub of_lex : LexFault → CompileFault
of_lex (lex.Char at) = Lex (lex.Char at)
of_lex (lex.Wide at) = Lex (lex.Wide at)
of_lex lex.Memory = Memory

abbrev pub of_parse : ParseFault → CompileFault
of_parse (parse.Syntax at) = Parse (parse.Syntax at)
of_parse parse.Memory = Memory

abbrev pub of_check : CheckError → CompileFault
of_check (checks.Fault kind at) = Check (checks.Fault kind at)
of_check checks.Memory = Memory

-- the fault is the refusal that is defined; inside a fault of a step there is never want of memory
abbrev pub Refuses : CompileFault → Result (List PlainItem) Refused → Type 0
Refuses (Lex (lex.Char at)) defined = defined ≡ Err (no_token_at at)
Refuses (Lex (lex.Wide at)) defined = defined ≡ Err (too_wide_at at)
Refuses (Lex lex.Memory) defined = ⊥
Refuses (Parse (parse.Syntax at)) defined = defined ≡ Err (no_program_at at)
Refuses (Parse parse.Memory) defined = ⊥
Refuses (Check (checks.Fault kind at)) defined = defined ≡ Err (not_valid (record { at = at; kind = kind }))
Refuses (Check checks.Memory) defined = ⊥
Refuses Long defined = defined ≡ Err too_long
Refuses Memory defined = Unit {0}

abbrev pub Gives : {A : Type 0} → (A → List PlainItem) → Result A CompileFault → Result (List PlainItem) Refused
    → Type 0
Gives view (Ok x) defined = defined ≡ Ok (view x)
Gives view (Err fault) defined = Refuses fault defined
