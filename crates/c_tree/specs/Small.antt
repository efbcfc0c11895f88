-- For worked rows. Small programs to show the definitions on.
use Rattle.std.specs.Prelude.{ℕ, Bool, false, List, [], None, Some}
use Rattle.c_tree.specs.declared.statements.Kind.TheVariants as kind
use Rattle.c_tree.specs.declared.units.Const.{Const}
use Rattle.c_tree.specs.declared.units.Parameter.{Parameter}
use Rattle.c_tree.specs.Plain.{PlainStmt, PlainItem, global, function}

-- `int NAME(PARAMETERS) { BODY }`, and `void NAME() { BODY }`
abbrev pub function_of : List ℕ → List Parameter → List PlainStmt → PlainItem
function_of name parameters body = function (Some kind.Int) name false parameters body

abbrev pub void_of : List ℕ → List PlainStmt → PlainItem
void_of name body = function None name false [] body

abbrev pub parameter_of : List ℕ → Parameter
parameter_of name = record { kind = kind.Int; name = name }

-- `int NAME;`, `int NAME[LENGTH];`, and the same in the scratchpad, each with these first values
abbrev pub variable_of : Bool → List ℕ → List Const → PlainItem
variable_of scratch name initial =
    global (record { scratch = scratch; kind = kind.Int; name = name; length = None; initial = initial })

abbrev pub array_of : Bool → List ℕ → ℕ → List Const → PlainItem
array_of scratch name length initial =
    global (record {
      scratch = scratch;
      kind = kind.Int;
      name = name;
      length = Some
          (record { value = length; unsigned = false });
      initial = initial;
    })

abbrev pub const_of : ℕ → Const
const_of value = record { negative = false; value = value; unsigned = false }
