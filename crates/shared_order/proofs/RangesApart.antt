-- A run apart on values that are words keeps its ranges.
use Rattle.std.proofs.Common.{ℕ, zero, suc, ◌<◌, ◌^◌, true, false, List, [], ◌∷◌, arith}
use Rattle.std.specs.List.{AllByRecursion as Each}
use Rattle.slot_arbiter.specs.Stamp.{stamp}
use Rattle.shared_order.specs.declared.operation.Operation.{Operation}
use Rattle.shared_order.specs.Operation.{loads}
use Rattle.shared_order.specs.Program.{Prog, done, get, set, fed, first, others}
use Rattle.shared_order.specs.Fit.{AreWords, IsFit, Fits, KeepsRanges}
use Rattle.shared_order.specs.Apart.{Alone, apart, turn_apart}

first_word : (values : List ℕ) → AreWords values → first values < 2 ^ 32
first_word [] h = omega arith
first_word (v ∷ vs) h = h.0

other_words : (values : List ℕ) → AreWords values → AreWords (others values)
other_words [] h = tt
other_words (v ∷ vs) h = h.1

pub record Kept {X : Type 0} (Good : X → Type 0) (x : X) (left : List ℕ) : Type 0 where
  pub good : Good x
  pub words : AreWords left

fed_keeps : {X : Type 0} (Good : X → Type 0) (words s : ℕ) (p : Prog X) (values : List ℕ) → IsFit Good words p
    → AreWords values → Kept Good (fed s p values).core (fed s p values).left
fed_keeps Good words s (done x) values fit h = record { good = fit; words = h }
fed_keeps Good words s (get word go_on) values fit h = fed_keeps Good words s (go_on (first values)) (others values)
    (fit.1 (first values) (first_word values h)) (other_words values h)
fed_keeps Good words s (set word value rest) values fit h = fed_keeps Good words s rest values fit.2 h

pub apart_keeps : {X : Type 0} (turn : ℕ → ℕ → X → Prog X) (n core words : ℕ) (Good : X → Type 0) (x : X)
    (values : List ℕ) (t : ℕ) → KeepsRanges turn Good words → Good x → AreWords values
    → Kept Good (apart turn n core x values t).core (apart turn n core x values t).left
apart_keeps turn n core words Good x values zero keep good h = record { good = good; words = h }
apart_keeps {X} turn n core words Good x values (suc t) keep good h =
    let a : Alone X = apart turn n core x values t in
    let b : Alone X = turn_apart turn n t 0 core a in
    let was : Kept Good a.core a.left = apart_keeps turn n core words Good x values t keep good h in
    let half : Kept Good b.core b.left = fed_keeps Good words (stamp n core t 0) (turn 0 t a.core) a.left
    (keep 0 t a.core (omega arith) was.good) was.words in
    fed_keeps Good words (stamp n core t 1) (turn 1 t b.core) b.left
    (keep 1 t b.core (omega arith) half.good) half.words

pub loads_fit : (words : ℕ) (os : List Operation) → Each (Fits words) os → AreWords (loads os)
loads_fit words [] h = tt
loads_fit words (o ∷ os) h =
    elim o.act.write as (λ b. AreWords (elim b [ true ↦ loads os | false ↦ o.act.value ∷ loads os ])) [
      | true ↦ loads_fit words os h.1
      | false ↦ (h.0.value, loads_fit words os h.1)
    ]
