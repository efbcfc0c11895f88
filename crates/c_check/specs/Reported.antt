-- To be believed. What an error of the check tells.
use Rattle.std.specs.Prelude.{◌≡◌, Some, ⊤}
use Rattle.slot_arbiter.specs.declared.place.Place.{Place}
use Rattle.c_tree.specs.declared.units.Unit.{Unit as Program}
use Rattle.c_tree.specs.Plain.{plain}
use Rattle.c_tree.specs.Valid.{fault_of}
use Rattle.c_check.specs.declared.checks.CheckError.{CheckError}
use Rattle.c_check.specs.declared.checks.CheckError.TheVariants.{Fault, Memory}

-- exactly the program's least fault; want of memory tells nothing
abbrev pub TellsFault : CheckError → Program → Place → Type 0
TellsFault (Fault kind at) u place = fault_of (plain u) place.cores place.core ≡ Some (record { at = at; kind = kind })
TellsFault Memory u place = ⊤
