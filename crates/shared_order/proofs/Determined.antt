-- What a core asks for next depends on what its loads gave before alone.
use Rattle.std.proofs.Common.{◌≡◌, ℕ, zero, suc, ◌%◌, Bool, true, false, Some, take, List, [], ◌∷◌, ◌++◌, ◌==◌, refl, sym, ap, ◌∙◌, subst, true≢false}
use Rattle.shared_order.specs.declared.operation.Operation.{Operation}
use Rattle.shared_order.specs.Operation.{load, loads, asking}
use Rattle.shared_order.specs.Program.{Prog, done, get, set, fed, first, others}
use Rattle.shared_order.specs.Apart.{Alone}
use Rattle.shared_order.specs.Stamps.{stepped_apart, run_apart}
use Rattle.shared_order.specs.Course.{SameWhileRead, asked_next}
use Rattle.shared_order.proofs.Runs.{stepped_own, stepped_other, alone_stands}

same-append : (os os' more more' : List Operation) → SameWhileRead os os' → (os ≡ os' → SameWhileRead more more')
    → SameWhileRead (os ++ more) (os' ++ more')
same-append [] [] more more' h f = f refl
same-append [] (o' ∷ os') more more' h f = absurd h
same-append (o ∷ os) [] more more' h f = absurd h
same-append (o ∷ os) (o' ∷ os') more more' h f =
    (h.0, λ e. same-append os os' more more' (h.1 e) (λ e'. f (λ i. e i ∷ e' i)))

same_fed : {X : Type 0} (s : ℕ) (p : Prog X) (values values' : List ℕ)
    → SameWhileRead (fed s p values).ops (fed s p values').ops
same_fed s (done x) values values' = tt
same_fed s (get word go_on) values values' = (
  refl,
  λ e. subst (λ v. SameWhileRead (fed s (go_on (first values)) (others values)).ops
      (fed s (go_on v) (others values')).ops) (ap (λ o. o.act.value) e)
      (same_fed s (go_on (first values)) (others values) (others values')),
)
same_fed s (set word value rest) values values' = (refl, λ e. same_fed s rest values values')

abbrev pub operation : ℕ → ℕ → Bool → ℕ → Operation
operation s word write value = record { stamp = s; act = record { word = word; write = write; value = value } }

-- two operations that ask for the same and, where they are loads, gave the same are one
same_first : (s word value s' word' value' : ℕ) (write write' : Bool) (os os' : List Operation)
    → asking (operation s word write value) ≡ asking (operation s' word' write' value')
    → loads (operation s word write value ∷ os) ≡ loads (operation s' word' write' value' ∷ os')
    → (operation s word write value ≡ operation s' word' write' value') × (loads os ≡ loads os')
same_first s word value s' word' value' true true os os' e l = (e, l)
same_first s word value s' word' value' true false os os' e l = absurd (true≢false (ap (λ o. o.act.write) e))
same_first s word value s' word' value' false true os os' e l = absurd (true≢false (sym (ap (λ o. o.act.write) e)))
same_first s word value s' word' value' false false os os' e l =
    ((λ i. load (e i).stamp (e i).act.word (first (l i))), ap others l)

-- where as many operations gave the same values, they are the same, and the same is asked for next
pub next_same : (k : ℕ) (os os' : List Operation) → SameWhileRead os os' → loads (take k os) ≡ loads (take k os')
    → (take k os ≡ take k os') × (asked_next k os ≡ asked_next k os')
next_same zero [] [] h e = (refl, refl)
next_same zero [] (o' ∷ os') h e = absurd h
next_same zero (o ∷ os) [] h e = absurd h
next_same zero (o ∷ os) (o' ∷ os') h e = (refl, ap (λ z. Some z) h.0)
next_same (suc k) [] [] h e = (refl, refl)
next_same (suc k) [] (o' ∷ os') h e = absurd h
next_same (suc k) (o ∷ os) [] h e = absurd h
next_same (suc k) (o ∷ os) (o' ∷ os') h e =
    let same = same_first o.stamp o.act.word o.act.value o'.stamp o'.act.word o'.act.value o.act.write o'.act.write
    (take k os) (take k os') h.0 e in
    let rest = next_same k os os' (h.1 same.0) same.1 in
    ((λ i. same.0 i ∷ rest.0 i), rest.1)

module _ {X : Type 0} (act : ℕ → X → Prog X) (n : ℕ) where
  -- where a core made the same, it is the same
  same_core : (core : ℕ) (x : X) (values values' : List ℕ) (s : ℕ) → (run_apart act n core x values s).made
      ≡ (run_apart act n core x values' s).made → (run_apart act n core x values s).core
      ≡ (run_apart act n core x values' s).core
  same_core core x values values' s e =
      ap (λ z. z.core) (sym (alone_stands act n core x values s []))
      ∙ ap (λ l. (run_apart act n core x (loads l ++ []) s).core) e
      ∙ ap (λ z. z.core) (alone_stands act n core x values' s [])

  pub same_run : (core : ℕ) (x : X) (values values' : List ℕ) (s : ℕ)
      → SameWhileRead (run_apart act n core x values s).made (run_apart act n core x values' s).made
  same_run core x values values' zero = tt
  same_run core x values values' (suc s) = by (s % n == core) refl (same_run core x values values' s)
    where
      a : Alone X
      a = run_apart act n core x values s

      a' : Alone X
      a' = run_apart act n core x values' s

      by : (b : Bool) → (s % n == core) ≡ b → SameWhileRead a.made a'.made
          → SameWhileRead (stepped_apart act n core s a).made (stepped_apart act n core s a').made
      by true own h =
          subst (λ z. SameWhileRead z.made (stepped_apart act n core s a').made) (sym (stepped_own act n core s a own))
          (subst (λ z. SameWhileRead (a.made ++ (fed s (act s a.core) a.left).ops) z.made)
          (sym (stepped_own act n core s a' own))
          (same-append a.made a'.made (fed s (act s a.core) a.left).ops (fed s (act s a'.core) a'.left).ops h
          (λ e. subst (λ y. SameWhileRead (fed s (act s a.core) a.left).ops (fed s (act s y) a'.left).ops)
          (same_core core x values values' s e) (same_fed s (act s a.core) a.left a'.left))))
      by false other h =
          subst (λ z. SameWhileRead z.made (stepped_apart act n core s a').made)
          (sym (stepped_other act n core s a other))
          (subst (λ z. SameWhileRead a.made z.made) (sym (stepped_other act n core s a' other)) h)
