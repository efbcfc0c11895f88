-- A slot that is found among slots that fit fits.
use Rattle.std.proofs.Common.{◌≡◌, ℕ, ◌<◌, ◌≤◌, List, length, get_or, Option, None, Some, IfSome, sym, subst}
use Rattle.std.specs.Prelude.{MatchOption}
use Rattle.c_tree.specs.declared.layout.Slot.{Slot}
use Rattle.c_meaning.specs.Fits.{SlotFits, SlotsFit}

pub fits_at : {R : Type 0} (now : R → Slot) (P : R → Type 0) (slots : List Slot) (n : ℕ) (found : Option R)
    → SlotsFit slots → IfSome found (λ s. now s ≡ get_or slots n (now s))
    → MatchOption found (length slots ≤ n) (λ s. (n < length slots) × P s) → IfSome found (λ s. SlotFits (now s))
fits_at now P slots n None all is within = tt
fits_at now P slots n (Some s) all is within = subst SlotFits (sym is) (all n (now s) within.0)
