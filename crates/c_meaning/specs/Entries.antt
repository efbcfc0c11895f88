-- For proofs. Variables that are open, as they are kept, and what a name was found to stand for.
use Rattle.std.specs.Prelude.{Bool}
use Rattle.c_tree.specs.Names.{Called}
use Rattle.c_meaning.specs.declared.scopes.Found.{Found}
use Rattle.c_meaning.specs.declared.scopes.Found.TheVariants as found
use Rattle.c_meaning.specs.Scope.{Variable, Stands, level, outside, nothing}

-- of a variable it is known whether it is unsigned
abbrev pub shown_open : Called Bool → Variable
shown_open o = record { name = o.name; unsigned = o.means }

abbrev pub found_shown : Found → Stands
found_shown (found.Variable at unsigned) = level at unsigned
found_shown (found.Outside slot) = outside slot.now
found_shown found.Nothing = nothing
