-- Where functions start.
use Rattle.std.proofs.Common.{◌≡◌, ℕ, true, ◌==◌, ◌<◌, List, length, slice_index}
use Rattle.std.proofs.lemmas.List.Elements.{Contains-get_or}
use Rattle.std.specs.List.{list_any}
use Rattle.patmos_step.proofs.Places.{found_start}

-- a task begins where a function starts
pub entry_starts : (starts : List ℕ) → 0 < length starts → list_any (λ start. slice_index starts 0 == start) starts
    ≡ true
entry_starts starts some = found_start starts (slice_index starts 0) (Contains-get_or starts 0 0 some)
