-- Where each turn of a good core keeps the ranges, the machine does.
use Rattle.std.proofs.Common.{ℕ, zero, suc, ◌*◌, ◌%◌, ◌/◌, ◌<◌, ◌≤◌, ◌^◌, true, false, cond, List, [], ◌∷◌, ◌==◌, sym, subst, arith}
use Rattle.std.specs.List.{AllByRecursion as Each}
use Rattle.shared_order.specs.declared.operation.Operation.{Operation}
use Rattle.shared_order.specs.Words.{put, after}
use Rattle.shared_order.specs.Program.{Prog, done, get, set, Played, played, and_then}
use Rattle.shared_order.specs.Fit.{IsFit, Fits, KeepsRanges}
use Rattle.shared_order.specs.Machine.{State, cycled}
use Rattle.shared_order.specs.Stamps.{act_at, machine}
use Rattle.std.proofs.lemmas.Nat.{mod_below}
use Rattle.shared_order.proofs.ByStamps.{by_stamps}
use Rattle.shared_order.proofs.ByCycles.{all_low}
use Rattle.shared_order.proofs.Lists.{each-append}

-- the operation has a word below `words` and a value of 32 bits
record InRange (words : ℕ) (o : Operation) : Type 0 where
  word : o.act.word < words
  value : o.act.value < 2 ^ 32

put_small : (x v : ℕ) (f : ℕ → ℕ) → v < 2 ^ 32 → ((u : ℕ) → f u < 2 ^ 32) → (u : ℕ) → put x v f u < 2 ^ 32
put_small x v f small before u = elim (x == u) as (λ b. cond b v (f u) < 2 ^ 32) [ true ↦ small | false ↦ before u ]

record Keeps {X : Type 0} (Good : X → Type 0) (words : ℕ) (t : Played X) (f : ℕ → ℕ) : Type 0 where
  good : Good t.core
  ops : Each (InRange words) t.ops
  small : (u : ℕ) → after t.ops f u < 2 ^ 32

played_keeps : {X : Type 0} (Good : X → Type 0) (words s : ℕ) (p : Prog X) (f : ℕ → ℕ) → IsFit Good words p
    → ((u : ℕ) → f u < 2 ^ 32) → Keeps Good words (played s p f) f
played_keeps Good words s (done x) f fit small = record { good = fit; ops = tt; small = small }
played_keeps Good words s (get word go_on) f fit small =
    let rest = played_keeps Good words s (go_on (f word)) f (fit.1 (f word) (small word)) small in
    record { good = rest.good; ops = (record { word = fit.0; value = small word }, rest.ops); small = rest.small }
played_keeps Good words s (set word value p) f fit small =
    let rest = played_keeps Good words s p (put word value f) fit.2 (put_small word value f fit.1 small) in
    record { good = rest.good; ops = (record { word = fit.0; value = fit.1 }, rest.ops); small = rest.small }

-- one program and then another
pub fit-then : {X Y : Type 0} (Good : X → Type 0) (Fine : Y → Type 0) (words : ℕ) (p : Prog X) (next : X → Prog Y)
    → IsFit Good words p → ((x : X) → Good x → IsFit Fine words (next x)) → IsFit Fine words (and_then p next)
fit-then Good Fine words (done x) next fit then_fit = then_fit x fit
fit-then Good Fine words (get word go_on) next fit then_fit =
    (fit.0, λ value small. fit-then Good Fine words (go_on value) next (fit.1 value small) then_fit)
fit-then Good Fine words (set word value p) next fit then_fit =
    (fit.0, fit.1, fit-then Good Fine words p next fit.2 then_fit)

module _ {X : Type 0} (act : ℕ → X → Prog X) (n : ℕ) where
  record Kept (Good : X → Type 0) (words : ℕ) (m : State X) : Type 0 where
    good : (core : ℕ) → Good (m.cores core)
    small : (u : ℕ) → m.words u < 2 ^ 32
    ops : Each (InRange words) m.made

  kept : (Good : X → Type 0) (words : ℕ) (cores : ℕ → X) (s : ℕ) → ((core : ℕ) → Good (cores core))
      → ((u : ℕ) (x : X) → Good x → IsFit Good words (act u x)) → Kept Good words (machine act n cores s)
  kept Good words cores zero begun keep = record { good = begun; small = λ u. omega arith; ops = tt }
  kept Good words cores (suc s) begun keep =
      let m : State X = machine act n cores s in
      let before : Kept Good words m = kept Good words cores s begun keep in
      let t : Played X = played s (act s (m.cores (s % n))) m.words in
      let now : Keeps Good words t m.words = played_keeps Good words s (act s (m.cores (s % n))) m.words
      (keep s (m.cores (s % n)) (before.good (s % n))) before.small in
      record {
        good = λ core. elim (s % n == core) as (λ b. Good (cond b t.core (m.cores core))) [
          | true ↦ now.good
          | false ↦
              before.good core
        ];
        small = now.small;
        ops = each-append (InRange words) m.made t.ops before.ops now.ops;
      }

fits_of : (words limit : ℕ) (os : List Operation) → limit ≤ 2 ^ 64 → Each (InRange words) os
    → Each (λ o. o.stamp < limit) os → Each (Fits words) os
fits_of words limit [] room a b = tt
fits_of words limit (o ∷ os) room a b = (
  record { word = a.0.word; value = a.0.value; stamp = omega (arith, b.0, room) },
  fits_of words limit os room a.1 b.1,
)

module _ {X : Type 0} (turn : ℕ → ℕ → X → Prog X) (n : ℕ) where
  kept_by_cycles : (Good : X → Type 0) (words : ℕ) (cores : ℕ → X) (t : ℕ) → KeepsRanges turn Good words
      → ((core : ℕ) → Good (cores core)) → Kept (act_at turn n) n Good words (cycled turn n cores t)
  kept_by_cycles Good words cores t keep begun =
      subst (Kept (act_at turn n) n Good words) (sym (by_stamps turn n cores t))
      (kept (act_at turn n) n Good words cores (2 * t * n) begun (λ u x good. keep (u / n % 2) (u / n / 2) x
      (omega (arith, mod_below (u / n) 2 (omega arith))) good))

  pub good_kept : (Good : X → Type 0) (words : ℕ) (cores : ℕ → X) (t : ℕ) → KeepsRanges turn Good words
      → ((core : ℕ) → Good (cores core)) → (core : ℕ) → Good ((cycled turn n cores t).cores core)
  good_kept Good words cores t keep begun = (kept_by_cycles Good words cores t keep begun).good

  pub words_kept : (Good : X → Type 0) (words : ℕ) (cores : ℕ → X) (t : ℕ) → KeepsRanges turn Good words
      → ((core : ℕ) → Good (cores core)) → (word : ℕ) → (cycled turn n cores t).words word < 2 ^ 32
  words_kept Good words cores t keep begun = (kept_by_cycles Good words cores t keep begun).small

  pub operations_fit : (Good : X → Type 0) (words : ℕ) (cores : ℕ → X) (t : ℕ) → KeepsRanges turn Good words
      → ((core : ℕ) → Good (cores core)) → 2 * t * n ≤ 2 ^ 64 → Each (Fits words) (cycled turn n cores t).made
  operations_fit Good words cores t keep begun room =
      fits_of words (2 * t * n) (cycled turn n cores t).made room (kept_by_cycles Good words cores t keep begun).ops
      (all_low turn n cores t)
