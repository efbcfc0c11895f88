-- For proofs. What a contract sees of what stands before a statement.
use Rattle.patmos_asm.specs.declared.checks.Before as code
use Rattle.patmos_asm.specs.Assembly.{Before}
use Rattle.patmos_asm.specs.Names.{names_in}

abbrev pub shown_before : code.Before → Before
shown_before b = record { functions = names_in b.functions; labels = names_in b.labels; size = b.size; image = b.image }
