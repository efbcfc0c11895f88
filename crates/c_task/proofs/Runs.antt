-- The tree of a valid program can be run on its core, and means what the text means.
use Rattle.std.proofs.Common.{◌≡◌, ℕ, Bool, true, List, refl, ap, ◌∙◌, eq-eqb}
use Rattle.std.specs.List.{Contains, list_any}
use Rattle.std.proofs.lemmas.List.Folds.{list_any_at}
use Rattle.slot_arbiter.specs.declared.place.Place.{Place}
use Rattle.c_tree.specs.Plain.{PlainItem}
use Rattle.c_tree.specs.Valid.{IsValid}
use Rattle.sp_tree.specs.Uses.{sends_to, uses_of}
use Rattle.c_mentions.specs.Mentions as source
use Rattle.single_path.specs.Single.{single}
use Rattle.single_path.specs.Used.{is_send_to}
use Rattle.single_path.proofs.TakenIn.{taken_is_formed, taken_sends}
use Rattle.task_core.specs.Tasks.{IsRunnable}
use Rattle.c_task.proofs.Frames.{chains_fit}
use Rattle.c_task.proofs.Targets.{sends_away}

-- one of all passes the test
pub any_of : {X : Type 0} (p : X → Bool) (xs : List X) (x : X) → Contains xs x → p x ≡ true → list_any p xs ≡ true
any_of p xs x at is = list_any_at p xs at.0 x at.1 (ap p at.2 ∙ is)

pub sent_in_text : (items : List PlainItem) (core : ℕ) → Contains (uses_of (single items)) (sends_to core)
    → source.sends_to core items ≡ true
sent_in_text items core at = taken_sends core items (any_of (is_send_to core) (uses_of (single items)) (sends_to core)
    at (eq-eqb core core refl))

pub program_runs : (place : Place) (items : List PlainItem) → IsValid items place.cores place.core
    → IsRunnable (single items) place
program_runs place items valid = record {
  formed = taken_is_formed place.cores place.core items place.in_range.cores_most valid;
  stack = chains_fit place.cores place.core items place.in_range.cores_most valid;
  few = place.in_range.cores_most;
  targets = λ core named. sends_away place.cores place.core items valid core (sent_in_text items core named);
}
