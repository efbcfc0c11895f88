-- A core of a machine is its run apart on what its own loads gave, and these are words.
use Rattle.std.proofs.Common.{◌≡◌, ℕ, ◌*◌, ◌^◌, ◌<◌, ◌≤◌, ◌%◌, ◌==◌, List, [], sym, ap, ◌∙◌, append-nil}
use Rattle.slot_arbiter.specs.declared.place.Place.{Place}
use Rattle.shared_order.specs.Operation.{operations_of}
use Rattle.shared_order.specs.Fit.{AreWords, Fits}
use Rattle.shared_order.specs.Machine.{State, cycled}
use Rattle.shared_order.specs.Apart.{apart}
use Rattle.shared_order.proofs.ByCycles.{core_is_apart}
use Rattle.shared_order.proofs.Fits.{operations_fit}
use Rattle.shared_order.proofs.Lists.{each_filter}
use Rattle.patmos_code.specs.Images.{Parts}
use Rattle.patmos_model.specs.Apart.{site_of, apart_at}
use Rattle.patmos_model.specs.Begin.{begun}
use Rattle.patmos_model.specs.Cycle.{turn}
use Rattle.patmos_model.specs.Range.{InRange}
use Rattle.patmos_model.specs.State.{Core}
use Rattle.patmos_model.proofs.CoreRanges.{core_keeps}
use Rattle.task_machine.specs.Reported.{read_by}
use Rattle.shared_order.proofs.RangesApart.{loads_fit}

-- the core is its run apart on what its own loads gave
pub is_apart : (n : ℕ) (cores : ℕ → Core) (limit core : ℕ) → core < n
    → apart turn n core (cores core) (read_by n core (cycled turn n cores limit)) limit
    ≡ record {
      core = (cycled turn n cores limit).cores core;
      left = [];
      made = operations_of n core
          (cycled turn n cores limit).made;
    }
is_apart n cores limit core among =
    ap (λ l. apart turn n core (cores core) l limit) (sym (append-nil (read_by n core (cycled turn n cores limit))))
    ∙ core_is_apart turn n cores limit core among []

module _ (place : Place) (cores : ℕ → Core) (limit : ℕ) (among : place.core < place.cores) where
  abbrev m : State Core
  m = cycled turn place.cores cores limit

  abbrev values : List ℕ
  values = read_by place.cores place.core m

  pub with_image : (image : Parts) (input : List ℕ) → cores place.core ≡ begun (site_of place image) input
      → apart_at place image input values limit ≡ record {
        core = m.cores place.core;
        left = [];
        made = operations_of place.cores place.core m.made;
      }
  with_image image input begins = ap (λ x. apart turn place.cores place.core x values limit) (sym begins)
      ∙ is_apart place.cores cores limit place.core among

  -- what its loads give are words
  pub values_fit : (words : ℕ) → ((core : ℕ) → InRange words (cores core)) → 2 * limit * place.cores ≤ 2 ^ 64
      → AreWords values
  values_fit words fits room =
      loads_fit words (operations_of place.cores place.core m.made)
      (each_filter (Fits words) (λ o. o.stamp % place.cores == place.core) m.made (operations_fit turn place.cores
      (InRange words) words cores limit (core_keeps words) fits room))
