-- For proofs. Where a word is set.
use Rattle.std.specs.Prelude.{ℕ}
use Rattle.c_world.specs.World.{with_word}
use Rattle.c_meaning.specs.Meaning.{with_level}
use Rattle.c_meaning.specs.Values.{State}
use Rattle.c_run.specs.declared.locations.Location.{Location}
use Rattle.c_run.specs.declared.locations.Location.TheVariants as location

-- what is set at a location that was found
abbrev pub with_location : Location → ℕ → State → State
with_location (location.Variable level) given s = with_level level.number given s
with_location (location.Scalar word) given s = record s { world = with_word word.cell.region word.cell.word given s.world }
with_location location.Nowhere given s = s
