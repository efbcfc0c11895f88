-- The machine's list is a course.
use Rattle.std.proofs.Common.{ℕ, ◌*◌, ◌^◌, ◌<◌, ◌≤◌}
use Rattle.shared_order.specs.Program.{Prog}
use Rattle.shared_order.specs.Machine.{cycled}
use Rattle.shared_order.specs.Apart.{apart}
use Rattle.shared_order.specs.Fit.{KeepsRanges}
use Rattle.shared_order.specs.Course.{IsCourse}
use Rattle.shared_order.proofs.ByCycles.{all_rising, all_reads, operations_are_apart, asks_the_same}
use Rattle.shared_order.proofs.Fits.{operations_fit}

pub is_course : {X : Type 0} (turn : ℕ → ℕ → X → Prog X) (n words : ℕ) (Good : X → Type 0) (cores : ℕ → X) (t : ℕ)
    → 0 < n → 2 * t * n ≤ 2 ^ 64 → KeepsRanges turn Good words → ((core : ℕ) → Good (cores core))
    → IsCourse n words (cycled turn n cores t).made (λ core values. (apart turn n core (cores core) values t).made)
is_course turn n words Good cores t some room keep begun = record {
  some_core = some;
  rising = all_rising turn n cores t;
  fits = operations_fit turn n Good words cores t keep begun room;
  reads = all_reads turn n cores t;
  parts = λ core among. operations_are_apart turn n cores t core among;
  determined = λ core values values' among. asks_the_same turn n core (cores core) values values' t among;
}
