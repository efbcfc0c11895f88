-- Cells of main memory.
use Rattle.std.proofs.Common.{ℕ, Bool, true, false, cond, Some, None, IfSome, ◌≡◌, ◌+◌, ◌*◌, ◌/◌, ◌<◌, refl, arith}
use Rattle.std.proofs.lemmas.Bool.Decides.{nat_tests}
use Rattle.slot_arbiter.specs.declared.place.Place.{Place}
use Rattle.local_store.specs.declared.map.Space.TheVariants.{Main}
use Rattle.local_store.specs.declared.map.Cell.TheVariants.{Private, Shared}
use Rattle.local_store.specs.Map.{IsInRange, cell_at}
use Rattle.patmos_step.specs.Ready.{IsReadable, IsLine}

in_main : (place : Place) (private shared : Bool) (p s : ℕ)
    → IfSome (cond private (Some (Private p)) (cond shared (Some (Shared s)) None)) IsInRange
    → IfSome (cond private (Some (Private p)) (cond shared (Some (Shared s)) None)) (IsReadable place)
in_main place true shared p s h = (h, tt)
in_main place false true p s h = (h, tt)
in_main place false false p s h = tt

-- what stands in main memory is a word
pub main_readable : (place : Place) (address : ℕ) → IfSome (cell_at Main address) IsInRange
    → IfSome (cell_at Main address) (IsReadable place)
main_readable place address h = in_main place _ _ _ _ h

line_in_main : (private shared : Bool) (p s : ℕ) → (private ≡ true → p + 3 < 65536)
    → IfSome (cond private (Some (Private p)) (cond shared (Some (Shared s)) None)) IsLine
line_in_main true shared p s h = h refl
line_in_main false true p s h = tt
line_in_main false false p s h = tt

-- the cell at the beginning of a line is the line's first
pub main_line : (line : ℕ) → IfSome (cell_at Main (line * 16 / 4 * 4)) IsLine
main_line line = line_in_main _ _ _ _ (λ inside.
    let below : line * 16 / 4 * 4 < 262144 = grind (arith, nat_tests) in omega arith)
