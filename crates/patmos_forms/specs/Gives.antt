-- For proofs. What a function gives that may run out of memory, which is its one free answer.
use Rattle.std.specs.Prelude.{◌≡◌, Result, Ok, Err}
use Rattle.patmos_forms.specs.declared.faults.AsmKind.{AsmKind}
use Rattle.patmos_forms.specs.declared.faults.Refused.{Refused}
use Rattle.patmos_forms.specs.declared.faults.Refused.TheVariants.{Fault, Memory}

abbrev pub Fails : {B : Type 0} → Refused → Result B AsmKind → Type 0
Fails Memory read = Unit {0}
Fails (Fault fault) read = read ≡ Err fault

-- the value, seen so, or the fault is what reading gives
abbrev pub Gives : {A B : Type 0} → (A → B) → Result A Refused → Result B AsmKind → Type 0
Gives view (Ok x) read = read ≡ Ok (view x)
Gives view (Err e) read = Fails e read
