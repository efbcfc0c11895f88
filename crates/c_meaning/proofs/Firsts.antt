-- The first slot of a name, where one slot more is noted.
use Rattle.std.proofs.Common.{◌≡◌, Bool, true, false, cond, Option, None, Some, is_some, refl, ap, ◌∙◌}
use Rattle.std.specs.Prelude.{if◌then◌else◌}
use Rattle.std.specs.Option.{option_copied, option_or}
use denote.Ref.{Bor}
use Rattle.c_tree.specs.declared.layout.Slot.{Slot}
use Rattle.c_meaning.specs.Globals.{slot_shown, slot_before}
use Rattle.c_meaning.specs.Scope.{Stands, outside, nothing}

-- a name that has none yet
pub first_noted : (same : Bool) (its own : Option (Bor Slot)) (slot : Bor Slot) → (same ≡ true → its ≡ own)
    → is_some own ≡ false
    → option_copied (cond same (Some slot) its) ≡ option_or (option_copied its) (if same then Some slot.now else None)
first_noted true None own slot is none = refl
first_noted true (Some x) own slot is none = cc (ap is_some (is refl) ∙ none)
first_noted false None own slot is none = refl
first_noted false (Some x) own slot is none = refl

pub first_next : (before now : Option Slot) (s : Slot) (same : Bool) (rest all : Stands) → now
    ≡ option_or before (if same then Some s else None)
    → slot_before before (if same then outside s else rest) ≡ all → slot_before now rest ≡ all
first_next None now s true rest all is was = ap (λ o. slot_before o rest) is ∙ was
first_next None now s false rest all is was = ap (λ o. slot_before o rest) is ∙ was
first_next (Some x) now s same rest all is was = ap (λ o. slot_before o rest) is ∙ was

pub first_all : (first : Option Slot) (all : Stands) → slot_before first nothing ≡ all → slot_shown first ≡ all
first_all None all is = is
first_all (Some s) all is = is
