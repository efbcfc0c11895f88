-- The event that a core asks for comes next, told of the run apart by cycles.
use Rattle.std.proofs.Common.{◌≡◌, ℕ, suc, ◌*◌, ◌<◌, ◌≤◌, Bool, true, false, true≢false, drop, List, [], ◌∷◌, ◌++◌, map, length, refl, sym, ap, ◌∙◌, subst, arith}
use Rattle.slot_arbiter.specs.declared.event.WordOp.{WordOp}
use Rattle.slot_arbiter.specs.declared.event.Event.{Event}
use Rattle.shared_order.specs.declared.operation.Operation.{Operation}
use Rattle.shared_order.specs.Operation.{load, store, loads, asking}
use Rattle.shared_order.specs.Order.{GoesOn}
use Rattle.shared_order.specs.Program.{Prog, and_then, first, others}
use Rattle.shared_order.specs.Event.{filled, asks_of, asked_by, IsAskedBy}
use Rattle.shared_order.specs.Apart.{apart}
use Rattle.shared_order.specs.Stamps.{act_at, run_apart}
use Rattle.shared_order.specs.Stands.{Stands, Midway}
use Rattle.shared_order.proofs.ByStamps.{apart_by_stamps}
use Rattle.shared_order.proofs.Determined.{operation}
use Rattle.shared_order.proofs.Standing.{next_midway, next_part, left_begins, left_part, none_left}
use Rattle.std.specs.List.{AllByRecursion as Each}

-- a store of an event says nothing to what its loads give
pub filled_store : (s : ℕ) (a : WordOp) (rest : List WordOp) (more : List ℕ) → a.write ≡ true → filled s (a ∷ rest) more
    ≡ store s a.word a.value ∷ filled s rest more
filled_store s a rest more e = rw e refl

-- ---- what an event asks for

pub asks_filled : (s : ℕ) (acts : List WordOp) (values : List ℕ) → map asking (filled s acts values) ≡ asks_of s acts
asks_filled s [] values = refl
asks_filled s (a ∷ acts) values =
    elim a.write as (λ b. map asking (elim b as (λ _. List Operation) [
      | true ↦ store s a.word a.value
          ∷ filled s acts values
      | false ↦ load s a.word (first values) ∷ filled s acts (others values)
    ])
    ≡ asking (operation s a.word b a.value) ∷ asks_of s acts) [
      | true ↦ ap (λ l. store s a.word a.value ∷ l) (asks_filled s acts values)
      | false ↦ ap (λ l. load s a.word 0 ∷ l) (asks_filled s acts (others values))
    ]

-- an event's operations have its stamp
pub stamps_filled : (s : ℕ) (acts : List WordOp) (values : List ℕ) → Each (λ o. o.stamp ≡ s) (filled s acts values)
stamps_filled s [] values = tt
stamps_filled s (a ∷ acts) values =
    elim a.write as (λ b. Each (λ o. o.stamp ≡ s) (elim b as (λ _. List Operation) [
      | true ↦ store s a.word a.value
          ∷ filled s acts values
      | false ↦ load s a.word (first values) ∷ filled s acts (others values)
    ])) [
      | true ↦ (refl, stamps_filled s acts values)
      | false ↦ (refl, stamps_filled s acts (others values))
    ]

-- so no stamp that they are at or past is past it
pub first_at : (s t : ℕ) (acts : List WordOp) (values : List ℕ) (later : List Operation) → 0 < length acts
    → Each (λ o. s ≤ o.stamp) (filled t acts values ++ later) → s ≤ t
first_at s t [] values later some h = absurd (omega (arith, some))
first_at s t (a ∷ acts) values later some h =
    elim a.write as (λ b. Each (λ o. s ≤ o.stamp) (elim b as (λ _. List Operation) [
      | true ↦ store t a.word a.value
          ∷ filled t acts values
      | false ↦ load t a.word (first values) ∷ filled t acts (others values)
    ] ++ later)
    → s ≤ t) [
      | true ↦ λ k. k.0
      | false ↦ λ k. k.0
    ] h

filled_first : (s word value s' word' value' : ℕ) (write write' : Bool) (acts : List WordOp) (os : List Operation)
    (more : List ℕ) → asking (operation s word write value) ≡ asking (operation s' word' write' value')
    → filled s' acts (loads os ++ more) ≡ os → filled s' (record { word = word'; write = write'; value = value' }
    ∷ acts) (loads (operation s word write value ∷ os) ++ more) ≡ operation s word write value ∷ os
filled_first s word value s' word' value' true true acts os more e rest = λ i. sym e i ∷ rest i
filled_first s word value s' word' value' true false acts os more e rest = absurd (true≢false (ap (λ o. o.act.write) e))
filled_first s word value s' word' value' false true acts os more e rest =
    absurd (true≢false (sym (ap (λ o. o.act.write) e)))
filled_first s word value s' word' value' false false acts os more e rest =
    λ i. load (sym e i).stamp (sym e i).act.word value ∷ rest i

abbrev head_or : Operation → List Operation → Operation
head_or o [] = o
head_or o (x ∷ xs) = x

pub filled_again : (s : ℕ) (acts : List WordOp) (os : List Operation) (more : List ℕ) → map asking os ≡ asks_of s acts
    → filled s acts (loads os ++ more) ≡ os
filled_again s [] [] more e = refl
filled_again s [] (o ∷ os) more e = cc
filled_again s (a ∷ acts) [] more e = cc
filled_again s (a ∷ acts) (o ∷ os) more e =
    filled_first o.stamp o.act.word o.act.value s a.word a.value o.act.write a.write acts os more (ap (head_or o) e)
    (filled_again s acts os more (ap (drop 1) e))

module _ {X : Type 0} (turn : ℕ → ℕ → X → Prog X) (n : ℕ) where
  by_cycles : (core : ℕ) (x : X) (values : List ℕ) (limit : ℕ) → core < n → (run_apart (act_at turn n) n core x values
      (2 * limit * n)).made ≡ (apart turn n core x values limit).made
  by_cycles core x values limit among = ap (λ a. a.made) (sym (apart_by_stamps turn n core x values limit among))

  pub event_next : (core : ℕ) (x : X) (made : List Operation) (e : Event) (rest : Prog X) (limit : ℕ) → core < n
      → e.stamp < 2 * limit * n → Midway (act_at turn n) n core x made e.stamp rest → IsAskedBy e rest → (more : List ℕ)
      → GoesOn (suc e.stamp) (made ++ asked_by e more) (apart turn n core x (loads made ++ more) limit).made
  event_next core x made e rest limit among below midway asks more =
      subst (λ all. GoesOn (suc e.stamp) (made ++ asked_by e more) all)
      (by_cycles core x (loads made ++ more) limit among)
      (subst (λ ops. GoesOn (suc e.stamp) (made ++ ops) (run_apart (act_at turn n) n core x (loads made ++ more)
      (2 * limit * n)).made) (asks more)
      (next_midway (act_at turn n) n core x made e.stamp (2 * limit * n) rest below midway more))

  pub next_operation : {Y : Type 0} (core : ℕ) (x : X) (made : List Operation) (e : Event) (prefix : Prog Y)
      (back : Y → Prog X) (limit : ℕ) → core < n → e.stamp < 2 * limit * n
      → Midway (act_at turn n) n core x made e.stamp (and_then prefix back) → IsAskedBy e prefix → (more : List ℕ)
      → GoesOn e.stamp (made ++ asked_by e more) (apart turn n core x (loads made ++ more) limit).made
  next_operation core x made e prefix back limit among below midway asks more =
      subst (λ all. GoesOn e.stamp (made ++ asked_by e more) all) (by_cycles core x (loads made ++ more) limit among)
      (subst (λ ops. GoesOn e.stamp (made ++ ops) (run_apart (act_at turn n) n core x (loads made ++ more)
      (2 * limit * n)).made) (asks more)
      (next_part (act_at turn n) n core x made e.stamp (2 * limit * n) prefix back below midway more))

  pub part_left : {Y : Type 0} (core : ℕ) (x : X) (made left : List Operation) (e : Event) (prefix : Prog Y)
      (back : Y → Prog X) (limit : ℕ) → core < n → e.stamp < 2 * limit * n
      → Midway (act_at turn n) n core x made e.stamp (and_then prefix back) → IsAskedBy e prefix
      → (apart turn n core x (loads (made ++ left)) limit).made ≡ made ++ left
      → GoesOn e.stamp (asked_by e (loads left)) left
  part_left core x made left e prefix back limit among below midway asks all =
      subst (λ ops. GoesOn e.stamp ops left) (asks (loads left))
      (left_part (act_at turn n) n core x made left e.stamp (2 * limit * n) prefix back below midway
      (by_cycles core x (loads (made ++ left)) limit among ∙ all))

  pub event_left : (core : ℕ) (x : X) (made left : List Operation) (e : Event) (rest : Prog X) (limit : ℕ) → core < n
      → e.stamp < 2 * limit * n → Midway (act_at turn n) n core x made e.stamp rest → IsAskedBy e rest
      → (apart turn n core x (loads (made ++ left)) limit).made ≡ made ++ left
      → GoesOn (suc e.stamp) (asked_by e (loads left)) left
  event_left core x made left e rest limit among below midway asks all =
      subst (λ ops. GoesOn (suc e.stamp) ops left) (asks (loads left))
      (left_begins (act_at turn n) n core x made left e.stamp (2 * limit * n) rest below midway
      (by_cycles core x (loads (made ++ left)) limit among ∙ all))

  pub none_after : (core : ℕ) (x : X) (made left : List Operation) (y : X) (limit : ℕ) → core < n
      → Stands (act_at turn n) n core x made (2 * limit * n) y → (apart turn n core x (loads (made ++ left)) limit).made
      ≡ made ++ left → left ≡ []
  none_after core x made left y limit among stands all =
      none_left (act_at turn n) n core x made left (2 * limit * n) y stands
      (by_cycles core x (loads (made ++ left)) limit among ∙ all)
