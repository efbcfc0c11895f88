-- To be believed. What a refused text was refused for.
use Rattle.std.specs.Prelude.{◌≡◌, Result, Err}
use Rattle.patmos_asm.specs.declared.faults.AsmFault.{AsmFault}
use Rattle.patmos_asm.specs.declared.faults.AsmError.{AsmError}
use Rattle.patmos_asm.specs.declared.faults.AsmError.TheVariants.{Fault, Memory}

-- the error is the fault that reading gives, or want of memory, which is the one free answer
abbrev pub Refuses : {A : Type 0} → AsmError → Result A AsmFault → Type 0
Refuses Memory read = Unit {0}
Refuses (Fault fault) read = read ≡ Err fault
