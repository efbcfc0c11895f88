-- For worked rows. Functions for worked examples.
use Rattle.std.specs.Prelude.{ℕ, zero, suc, List, [], ◌∷◌, ◌++◌}
use Rattle.sp_shape.specs.Parts.{repeats, calls_to, PlainParts, part, one}
use Rattle.sp_shape.specs.Small as small

-- one that calls the first function in each of three iterations
abbrev pub thrice : PlainParts
thrice = part (repeats 3 (one (calls_to 0 small.call)) small.again) small.empty

-- one that calls the one of a number, and returns
abbrev pub passing : ℕ → PlainParts
passing k = part (calls_to k small.call) small.empty

-- one that returns at once, and so many of which each calls the one before
abbrev pub chain : ℕ → List PlainParts
chain zero = small.empty ∷ []
chain (suc n) = chain n ++ passing n ∷ []
