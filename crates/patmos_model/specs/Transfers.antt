-- To be believed. What is to be moved between a core and main memory.
use Rattle.std.specs.Prelude.{ℕ, true, false}
use Rattle.patmos_model.specs.declared.transfer.Transfer.{Transfer}
use Rattle.patmos_model.specs.declared.transfer.Then.{Then}
use Rattle.patmos_model.specs.declared.transfer.Then.TheVariants as then_on

-- nothing
abbrev pub nothing : Transfer
nothing = record { write = false; words = 0; then = then_on.Nothing }

-- so many words are to be read, or written
abbrev pub reads : ℕ → Then → Transfer
reads words then_on = record { write = false; words = words; then = then_on }

abbrev pub writes : ℕ → Then → Transfer
writes words then_on = record { write = true; words = words; then = then_on }
