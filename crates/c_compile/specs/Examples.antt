-- For worked rows. A task for worked examples.
use Rattle.std.specs.Prelude.{[], ◌∷◌}
use Rattle.sp_tree.specs.Plain.{constant}
use Rattle.sp_tree.specs.Statements.{one, masks, PlainFunction, PlainUnit}

-- `int main() { return 9; }`, of one statement that sets word 1 of the frame
abbrev pub main : PlainFunction
main = record { frame = 4; parameters = 0; mask = 0; result = 1; body = one (masks 1 (constant 9)) }

abbrev pub nine : PlainUnit
nine = record { functions = main ∷ []; entry = 0; initial = []; input_at = 4; input_room = 0 }
