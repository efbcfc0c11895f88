-- For proofs. How large functions are: a run goes from larger to smaller ones.
use Rattle.std.specs.Prelude.{ℕ, zero, suc, ◌+◌, List, slice_index_or}
use Rattle.c_meaning.specs.Actions.{PlainActions, no_action}
use Rattle.c_meaning.specs.Sizes.{actions_size}

-- the first so many functions
abbrev pub total : List PlainActions → ℕ → ℕ
total fs zero = 0
total fs (suc n) = total fs n + actions_size (slice_index_or fs n no_action)
