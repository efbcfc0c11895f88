use Rattle.std.proofs.Common.{◌≡◌, ◌++◌, length, string_bytes}
use Rattle.std.specs.List.{zip}
use Rattle.patmos_asm.specs.Printed.{functions_text}
use Rattle.patmos_asm.specs.Targets.{name_in}
use Rattle.patmos_asm.proofs.printing.write_functions.Given as goal

abbrev pub invariant-functions : goal.invariant-functions
invariant-functions l =
    string_bytes l.text ++ functions_text (name_in l.functions) l.words (zip l.starts l.names)
    ≡ functions_text (name_in l.functions) l.words (zip l.initial.starts l.initial.names)

abbrev pub decreases-functions : goal.decreases-functions
decreases-functions l = length l.starts
