-- What holds of the machine by stamps, told of the machine by cycles.
use Rattle.std.proofs.Common.{◌≡◌, ℕ, ◌*◌, ◌<◌, List, [], ◌++◌, sym, ap, ◌∙◌, subst, append-nil}
use Rattle.std.specs.List.{AllByRecursion as Each}
use Rattle.shared_order.specs.declared.operation.Operation.{Operation}
use Rattle.shared_order.specs.Operation.{loads, operations_of}
use Rattle.shared_order.specs.Order.{Rising}
use Rattle.shared_order.specs.Words.{after, zeros, stored_last, Reads}
use Rattle.shared_order.specs.Program.{Prog}
use Rattle.shared_order.specs.Machine.{cycled}
use Rattle.shared_order.specs.Apart.{apart}
use Rattle.shared_order.specs.Stamps.{act_at, machine, run_apart}
use Rattle.shared_order.specs.Stands.{Stands}
use Rattle.shared_order.specs.Merge.{IsMerge}
use Rattle.shared_order.specs.Course.{SameWhileRead}
use Rattle.shared_order.proofs.Words.{reads_from, sees_from, after_is_stored}
use Rattle.shared_order.proofs.Runs.{core_stands, alone_stands, low, rising, sees, words_stored}
use Rattle.shared_order.proofs.ByStamps.{by_stamps, apart_by_stamps}
use Rattle.shared_order.proofs.Determined.{same_run}
use Rattle.shared_order.proofs.Merged.{merge_is_made}

module _ {X : Type 0} (turn : ℕ → ℕ → X → Prog X) (n : ℕ) where
  pub stands_by_cycles : (core : ℕ) (x : X) (made : List Operation) (t : ℕ) (y : X) → core < n
      → Stands (act_at turn n) n core x made (2 * t * n) y → (more : List ℕ) → apart turn n core x (loads made
      ++ more) t ≡ record { core = y; left = more; made = made }
  stands_by_cycles core x made t y among stands more =
      apart_by_stamps turn n core x (loads made ++ more) t among ∙ stands more

  pub machine_stands : (cores : ℕ → X) (t core : ℕ) → Stands (act_at turn n) n core (cores core) (operations_of n core
      (cycled turn n cores t).made) (2 * t * n) ((cycled turn n cores t).cores core)
  machine_stands cores t core =
      subst (λ m. Stands (act_at turn n) n core (cores core) (operations_of n core m.made) (2 * t * n) (m.cores core))
      (sym (by_stamps turn n cores t)) (core_stands (act_at turn n) n cores core (2 * t * n))

  pub apart_stands : (core : ℕ) (x : X) (values : List ℕ) (t : ℕ) → core < n
      → Stands (act_at turn n) n core x (apart turn n core x values t).made (2 * t * n) (apart turn n core
      x values t).core
  apart_stands core x values t among =
      subst (λ a. Stands (act_at turn n) n core x a.made (2 * t * n) a.core)
      (sym (apart_by_stamps turn n core x values t among))
      (alone_stands (act_at turn n) n core x values (2 * t * n))

  pub core_is_apart : (cores : ℕ → X) (t core : ℕ) → core < n → (more : List ℕ)
      → apart turn n core (cores core) (loads (operations_of n core (cycled turn n cores t).made) ++ more) t ≡ record {
        core = (cycled turn n cores t).cores core;
        left = more;
        made = operations_of n core (cycled turn n cores t).made;
      }
  core_is_apart cores t core among =
      stands_by_cycles core (cores core) (operations_of n core (cycled turn n cores t).made) t
      ((cycled turn n cores t).cores core) among (machine_stands cores t core)

  pub all_low : (cores : ℕ → X) (t : ℕ) → Each (λ o. o.stamp < 2 * t * n) (cycled turn n cores t).made
  all_low cores t = subst (λ m. Each (λ o. o.stamp < 2 * t * n) m.made) (sym (by_stamps turn n cores t))
      (low (act_at turn n) n cores (2 * t * n))

  pub all_rising : (cores : ℕ → X) (t : ℕ) → Rising (cycled turn n cores t).made
  all_rising cores t =
      subst (λ m. Rising m.made) (sym (by_stamps turn n cores t)) (rising (act_at turn n) n cores (2 * t * n))

  pub all_reads : (cores : ℕ → X) (t : ℕ) → Reads [] (cycled turn n cores t).made
  all_reads cores t = subst (λ m. Reads [] m.made) (sym (by_stamps turn n cores t))
      (reads_from [] (machine (act_at turn n) n cores (2 * t * n)).made (sees (act_at turn n) n cores (2 * t * n)))

  pub words_are_stored : (cores : ℕ → X) (t : ℕ) → (cycled turn n cores t).words
      ≡ after (cycled turn n cores t).made zeros
  words_are_stored cores t = subst (λ m. m.words ≡ after m.made zeros) (sym (by_stamps turn n cores t))
      (words_stored (act_at turn n) n cores (2 * t * n))

  pub word_is_stored : (cores : ℕ → X) (t word : ℕ) → (cycled turn n cores t).words word
      ≡ stored_last word (cycled turn n cores t).made 0
  word_is_stored cores t word =
      ap (λ f. f word) (words_are_stored cores t) ∙ after_is_stored (cycled turn n cores t).made zeros word

  pub operations_are_apart : (cores : ℕ → X) (t core : ℕ) → core < n
      → (apart turn n core (cores core) (loads (operations_of n core (cycled turn n cores t).made)) t).made
      ≡ operations_of n core (cycled turn n cores t).made
  operations_are_apart cores t core among =
      ap (λ l. (apart turn n core (cores core) l t).made)
      (sym (append-nil (loads (operations_of n core (cycled turn n cores t).made))))
      ∙ ap (λ a. a.made) (core_is_apart cores t core among [])

  pub machine_is_merge : (cores : ℕ → X) (t : ℕ) → IsMerge turn n cores t (cycled turn n cores t).made
  machine_is_merge cores t = record {
    rising = all_rising cores t;
    reads = all_reads cores t;
    parts = λ core among.
        operations_are_apart cores t core among;
  }

  pub merge_is_all : (cores : ℕ → X) (t : ℕ) (all : List Operation) → 0 < n → IsMerge turn n cores t all → all
      ≡ (cycled turn n cores t).made
  merge_is_all cores t all some h =
      merge_is_made (act_at turn n) n cores (2 * t * n) all some h.rising (sees_from [] all h.reads)
      (λ core among. ap (λ a. a.made) (sym (apart_by_stamps turn n core (cores core) (loads (operations_of n core all))
      t among)) ∙ h.parts core among)
      ∙ ap (λ m. m.made) (sym (by_stamps turn n cores t))

  pub merge_words : (cores : ℕ → X) (t : ℕ) (all : List Operation) → 0 < n → IsMerge turn n cores t all
      → (cycled turn n cores t).words ≡ after all zeros
  merge_words cores t all some h =
      words_are_stored cores t ∙ ap (λ l. after l zeros) (sym (merge_is_all cores t all some h))

  pub merge_core : (cores : ℕ → X) (t : ℕ) (all : List Operation) → 0 < n → IsMerge turn n cores t all → (core : ℕ)
      → core < n → (cycled turn n cores t).cores core
      ≡ (apart turn n core (cores core) (loads (operations_of n core all)) t).core
  merge_core cores t all some h core among =
      ap (λ a. a.core) (sym (core_is_apart cores t core among []))
      ∙ ap (λ l. (apart turn n core (cores core) l t).core) (append-nil
      (loads (operations_of n core (cycled turn n cores t).made)))
      ∙ ap (λ l. (apart turn n core (cores core) (loads (operations_of n core l)) t).core) (sym
      (merge_is_all cores t all some h))

  pub asks_the_same : (core : ℕ) (x : X) (values values' : List ℕ) (t : ℕ) → core < n
      → SameWhileRead (apart turn n core x values t).made (apart turn n core x values' t).made
  asks_the_same core x values values' t among =
      subst (λ a. SameWhileRead a.made (apart turn n core x values' t).made)
      (sym (apart_by_stamps turn n core x values t among))
      (subst (λ a. SameWhileRead (run_apart (act_at turn n) n core x values (2 * t * n)).made a.made)
      (sym (apart_by_stamps turn n core x values' t among))
      (same_run (act_at turn n) n core x values values' (2 * t * n)))
