-- For proofs. What is noted of a program's uses, one after another.
use Rattle.std.specs.Prelude.{◌≡◌, true, false, ◌||◌, List, [], ◌∷◌, replicate, slice_set}
use Rattle.c_meaning.specs.Values.{Names}
use Rattle.c_mentions.specs.declared.arrays.Arrays.{Arrays}
use Rattle.c_mentions.specs.declared.noted.Flags.{Flags}
use Rattle.c_mentions.specs.Hidden.{Hides}
use Rattle.c_mentions.specs.Mentions.{comm_array, shared_array, stands_for}
use Rattle.c_mentions.specs.Uses.{Use, reads, sets, sends}

abbrev pub none_noted : Flags
none_noted = record { comm = false; shared = false; assigns_shared = false; sends = replicate 16 false }

abbrev pub with_use : Flags → Use → Flags
with_use m (reads s) =
    record m { comm = m.comm || stands_for comm_array s; shared = m.shared || stands_for shared_array s }
with_use m (sets s) = record m {
  comm = m.comm || stands_for comm_array s;
  shared = m.shared || stands_for shared_array s;
  assigns_shared = m.assigns_shared || stands_for shared_array s;
}
with_use m (sends core) = record m { sends = slice_set m.sends core true }

abbrev pub with_uses : Flags → List Use → Flags
with_uses m [] = m
with_uses m (u ∷ us) = with_uses (with_use m u) us

-- wherever names hide the arrays as these flags tell, just these uses are noted
pub record Notes (hidden : Arrays) (before after : Flags) (uses : Names → List Use) : Type 0 where
  pub noted : (names : Names) → Hides hidden names → after ≡ with_uses before (uses names)
