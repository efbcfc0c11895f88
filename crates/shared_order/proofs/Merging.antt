-- How the machine's list comes about, one act after another in the order of their stamps.
use Rattle.std.proofs.Common.{◌≡◌, ◌≢◌, ℕ, ◌*◌, ◌%◌, ◌<◌, ◌≤◌, List, [], ◌++◌, sym, ap, ◌∙◌, append-nil, eq-eqb, ne_eqb, refl, arith}
use Rattle.std.specs.List.{AllByRecursion as Each}
use Rattle.shared_order.specs.declared.operation.Operation.{Operation}
use Rattle.shared_order.specs.Operation.{loads, operations_of}
use Rattle.shared_order.specs.Words.{after, zeros, Reads}
use Rattle.shared_order.specs.Program.{Prog, played}
use Rattle.shared_order.specs.Machine.{cycled}
use Rattle.shared_order.specs.Apart.{apart}
use Rattle.shared_order.specs.Stamps.{act_at}
use Rattle.shared_order.specs.Stands.{Stands}
use Rattle.shared_order.specs.Merge.{IsMerging, IsMerge}
use Rattle.shared_order.proofs.Lists.{each_map, each-append, operations_of-append, own_operations, other_operations, rising_of_one, rising-append}
use Rattle.shared_order.proofs.Words.{sees-append, sees_from, reads_from, played_sees}
use Rattle.shared_order.proofs.Runs.{stamps_played}
use Rattle.shared_order.proofs.ByCycles.{stands_by_cycles, merge_is_all, merge_core}

pub begins : IsMerging [] 0
begins = record { rising = tt; reads = tt; low = tt }

pub next : (made ops : List Operation) (s s' : ℕ) → IsMerging made s → s ≤ s' → Each (λ o. o.stamp ≡ s') ops
    → Reads made ops → IsMerging (made ++ ops) s'
next made ops s s' so_far later at right =
    let low : Each (λ o. o.stamp ≤ s') made =
    each_map (λ o. o.stamp ≤ s) (λ o. o.stamp ≤ s') (λ o h. omega (arith, h, later)) made so_far.low in
    record {
      rising = rising-append s' made ops so_far.rising low (rising_of_one s' ops at) (each_map (λ o. o.stamp ≡ s')
          (λ o. s' ≤ o.stamp) (λ o e. omega (arith, e)) ops at);
      reads = reads_from [] (made ++ ops) (sees-append zeros made ops (sees_from [] made so_far.reads)
          (sees_from made ops right));
      low = each-append (λ o. o.stamp ≤ s') made ops low (each_map (λ o. o.stamp ≡ s') (λ o. o.stamp ≤ s')
          (λ o e. omega (arith, e)) ops at);
    }

pub played_reads : {X : Type 0} (made : List Operation) (s : ℕ) (p : Prog X)
    → Reads made (played s p (after made zeros)).ops × Each (λ o. o.stamp ≡ s) (played s p (after made zeros)).ops
played_reads made s p = (reads_from made _ (played_sees s p (after made zeros)), stamps_played s p (after made zeros))

pub operations_grow : (n : ℕ) (made ops : List Operation) (s : ℕ) → Each (λ o. o.stamp ≡ s) ops
    → operations_of n (s % n) (made ++ ops) ≡ operations_of n (s % n) made ++ ops
operations_grow n made ops s at = operations_of-append n (s % n) made ops ∙ ap (λ l. operations_of n (s % n) made
    ++ l) (own_operations n (s % n) s ops (eq-eqb (s % n) (s % n) refl) at)

pub operations_stay : (n core : ℕ) (made ops : List Operation) (s : ℕ) → s % n ≢ core → Each (λ o. o.stamp ≡ s) ops
    → operations_of n core (made ++ ops) ≡ operations_of n core made
operations_stay n core made ops s other at =
    operations_of-append n core made ops ∙ ap (λ l. operations_of n core made ++ l) (other_operations n core s ops
    (ne_eqb (s % n) core other) at) ∙ append-nil (operations_of n core made)

module _ {X : Type 0} (turn : ℕ → ℕ → X → Prog X) (n : ℕ) where
  -- a core that stands at the limit has made its run apart
  through : (core : ℕ) (x y : X) (made : List Operation) (t : ℕ) → core < n
      → Stands (act_at turn n) n core x made (2 * t * n) y → apart turn n core x (loads made) t
      ≡ record { core = y; left = []; made = made }
  through core x y made t among stands =
      ap (λ l. apart turn n core x l t) (sym (append-nil (loads made)))
      ∙ stands_by_cycles turn n core x made t y among stands []

  pub ends : (cores left : ℕ → X) (t s : ℕ) (all : List Operation) → 0 < n → IsMerging all s
      → ((core : ℕ) → core < n → Stands (act_at turn n) n core (cores core) (operations_of n core all) (2 * t * n)
      (left core)) → (all ≡ (cycled turn n cores t).made)
      × ((core : ℕ) → core < n → (cycled turn n cores t).cores core ≡ left core)
  ends cores left t s all some merging stands =
      let through_of : (core : ℕ) → core < n → apart turn n core (cores core) (loads (operations_of n core all)) t
      ≡ record { core = left core; left = []; made = operations_of n core all } =
      λ core among. through core (cores core) (left core) (operations_of n core all) t among (stands core among) in
      let merge : IsMerge turn n cores t all = record {
        rising = merging.rising;
        reads = merging.reads;
        parts = λ core among. ap (λ a. a.made) (through_of core among);
      } in (
        merge_is_all turn n cores t all some merge,
        λ core among. merge_core turn n cores t all some merge core among ∙ ap (λ a. a.core) (through_of core among),
      )
