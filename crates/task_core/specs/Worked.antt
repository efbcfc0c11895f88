-- For worked rows. A small task: it sends the first word of its communication memory to core 1.
use Rattle.std.specs.Prelude.{[], ◌∷◌}
use Rattle.sp_tree.specs.Plain.{constant}
use Rattle.sp_tree.specs.Statements.{transfers, no_stmt, stmt, PlainUnit}

abbrev pub sender : PlainUnit
sender = record {
  functions =
      record {
        frame = 4;
        parameters = 0;
        mask = 0;
        result = 1;
        body = stmt
            (transfers 0 1 (constant 0) (constant 0) (constant 1)) no_stmt;
      } ∷ [];
  entry = 0;
  initial = [];
  input_at = 4;
  input_room = 0;
}
