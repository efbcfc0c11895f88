-- Sound actions: their expressions and targets name outside of frames what is there, registers suffice for their
-- expressions, their calls fit, and their sends go to cores that can be named.
use Rattle.std.proofs.Common.{◌≡◌, ℕ, ◌<◌, Bool, true, List, slice_index}
use Rattle.std.specs.Prelude.{⊤}
use Rattle.sp_tree.specs.Formed.{cell_formed, array_formed}
use Rattle.c_meaning.specs.Actions.{PlainTarget, to_level, to_cell, to_array, PlainAction, PlainActions, PlainBranches}
use Rattle.single_path.proofs.Acts.{Rules, Does, Do, AnyDo}
use Rattle.single_path.proofs.Needs.{Sound}

-- an earlier function, with as many arguments as it has parameters
abbrev pub Callable : List ℕ → ℕ → ℕ → ℕ → Type 0
Callable counts n k args = (k < n) × (args ≡ slice_index counts k)

abbrev pub SoundTarget : PlainTarget → Type 0
SoundTarget (to_level at) = ⊤
SoundTarget (to_cell cell) = cell_formed cell ≡ true
SoundTarget (to_array array index) = (array_formed array ≡ true) × Sound index

-- over what may be called
abbrev pub sound : (ℕ → ℕ → Type 0) → Rules
sound Fit = record { Expr = Sound; Target = SoundTarget; Call = Fit; Send = λ core. core < 16 }

abbrev pub SoundAction : (ℕ → ℕ → Type 0) → Bool → PlainAction → Type 0
SoundAction Fit = Does (sound Fit)

abbrev pub AllSound : (ℕ → ℕ → Type 0) → Bool → PlainActions → Type 0
AllSound Fit = Do (sound Fit)

abbrev pub SoundBranches : (ℕ → ℕ → Type 0) → Bool → PlainBranches → Type 0
SoundBranches Fit = AnyDo (sound Fit)
