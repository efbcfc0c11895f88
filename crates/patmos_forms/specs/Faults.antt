-- To be believed. The faults of a statement, and which of several is reported.
use Rattle.std.specs.Prelude.{ℕ, nat_lt, if◌then◌else◌, Result, Ok, Err}
use Rattle.patmos_forms.specs.declared.faults.AsmKind.{AsmKind}
use Rattle.patmos_forms.specs.declared.faults.AsmKind.TheVariants.{Mnemonic, Operand, Range, Slot, NoLabel, LabelTwice, TooLarge, NoFunction}

-- the order in which they are reported
abbrev pub fault_number : AsmKind → ℕ
fault_number Mnemonic = 1
fault_number Operand = 2
fault_number Range = 3
fault_number Slot = 4
fault_number NoLabel = 5
fault_number LabelTwice = 6
fault_number TooLarge = 7
fault_number NoFunction = 8

abbrev pub least : AsmKind → AsmKind → AsmKind
least a b = if nat_lt (fault_number b) (fault_number a) then b else a

infixl 10 ◌>>=◌
-- goes on with the value, or stops at the fault
abbrev pub ◌>>=◌ : {A B : Type 0} → Result A AsmKind → (A → Result B AsmKind) → Result B AsmKind
(Ok x) >>= f = f x
(Err fault) >>= f = Err fault
