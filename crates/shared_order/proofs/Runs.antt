-- A core within the machine is its run apart on what its own loads gave there.
use Rattle.std.proofs.Common.{◌≡◌, ℕ, zero, suc, ◌%◌, ◌<◌, ◌≤◌, Bool, true, false, cond, List, ◌++◌, ◌==◌, refl, sym, ap, ◌∙◌, subst, subst₂, append_assoc, append-nil, eqb-true, arith}
use Rattle.std.specs.List.{AllByRecursion as Each}
use Rattle.shared_order.specs.declared.operation.Operation.{Operation}
use Rattle.shared_order.specs.Operation.{load, store, loads, operations_of}
use Rattle.shared_order.specs.Words.{put, after, zeros, Sees}
use Rattle.shared_order.specs.Program.{Prog, done, get, set, Played, played, fed, first, others, first_asked}
use Rattle.shared_order.specs.Machine.{State}
use Rattle.shared_order.specs.Apart.{Alone, gone_on}
use Rattle.shared_order.specs.Stamps.{machine, stepped_apart, run_apart}
use Rattle.shared_order.specs.Stands.{Stands}
use Rattle.shared_order.proofs.Lists.{loads-append, operations_of-append, own_operations, other_operations, each_map, each-append, rising-append, rising_of_one}
use Rattle.shared_order.proofs.Words.{sees-append, played_sees, after-append}
use Rattle.shared_order.specs.Order.{Rising}

-- ---- one program

pub stamps_played : {X : Type 0} (s : ℕ) (p : Prog X) (words : ℕ → ℕ) → Each (λ o. o.stamp ≡ s) (played s p words).ops
stamps_played s (done x) words = tt
stamps_played s (get word go_on) words = (refl, stamps_played s (go_on (words word)) words)
stamps_played s (set word value rest) words = (refl, stamps_played s rest (put word value words))

pub stamps_fed : {X : Type 0} (s : ℕ) (p : Prog X) (values : List ℕ) → Each (λ o. o.stamp ≡ s) (fed s p values).ops
stamps_fed s (done x) values = tt
stamps_fed s (get word go_on) values = (refl, stamps_fed s (go_on (first values)) (others values))
stamps_fed s (set word value rest) values = (refl, stamps_fed s rest values)

-- the heart: fed with what its loads gave when it was played, a program does the same
pub fed_played : {X : Type 0} (s : ℕ) (p : Prog X) (words : ℕ → ℕ) (more : List ℕ)
    → fed s p (loads (played s p words).ops ++ more) ≡ record {
      core = (played s p words).core;
      left = more;
      ops = (played s p words).ops;
    }
fed_played s (done x) words more = refl
fed_played s (get word go_on) words more =
    ap (first_asked (load s word (words word))) (fed_played s (go_on (words word)) words more)
fed_played s (set word value rest) words more =
    ap (first_asked (store s word value)) (fed_played s rest (put word value words) more)

-- and fed with what its loads gave when it was fed
pub fed_fed : {X : Type 0} (s : ℕ) (p : Prog X) (values more : List ℕ) → fed s p (loads (fed s p values).ops ++ more)
    ≡ record { core = (fed s p values).core; left = more; ops = (fed s p values).ops }
fed_fed s (done x) values more = refl
fed_fed s (get word go_on) values more =
    ap (first_asked (load s word (first values))) (fed_fed s (go_on (first values)) (others values) more)
fed_fed s (set word value rest) values more = ap (first_asked (store s word value)) (fed_fed s rest values more)

-- ---- from stamp to stamp

module _ {X : Type 0} (act : ℕ → X → Prog X) (n : ℕ) where
  pub stepped_own : (core s : ℕ) (a : Alone X) → (s % n == core) ≡ true → stepped_apart act n core s a
      ≡ gone_on (fed s (act s a.core) a.left) a.made
  stepped_own core s a own = rw (own, stepped_apart)

  pub stepped_other : (core s : ℕ) (a : Alone X) → (s % n == core) ≡ false → stepped_apart act n core s a ≡ a
  stepped_other core s a other = rw (other, stepped_apart)

  -- at its own stamp a core goes on by its program
  pub stands_turn : (core : ℕ) (x : X) (made : List Operation) (s : ℕ) (y y' : X) (ops : List Operation)
      → Stands act n core x made s y → (s % n == core) ≡ true → ((more : List ℕ) → fed s (act s y) (loads ops ++ more)
      ≡ record { core = y'; left = more; ops = ops }) → Stands act n core x (made ++ ops) (suc s) y'
  stands_turn core x made s y y' ops stands own resumed = λ more.
      ap (λ l. run_apart act n core x (l ++ more) (suc s)) (loads-append made ops)
      ∙ ap (λ l. run_apart act n core x l (suc s)) (append_assoc (loads made) (loads ops) more)
      ∙ ap (stepped_apart act n core s) (stands (loads ops ++ more))
      ∙ stepped_own core s (record { core = y; left = loads ops ++ more; made = made }) own
      ∙ ap (λ p. gone_on p made) (resumed more)

  -- at the stamps of others it stands still
  pub stands_still : (core : ℕ) (x : X) (made : List Operation) (s : ℕ) (y : X) → Stands act n core x made s y
      → (s % n == core) ≡ false → Stands act n core x made (suc s) y
  stands_still core x made s y stands other = λ more. ap (stepped_apart act n core s) (stands more)
      ∙ stepped_other core s (record { core = y; left = more; made = made }) other

  -- each core of the machine stands where its part of the operations brings it
  pub core_stands : (cores : ℕ → X) (core s : ℕ) → Stands act n core (cores core) (operations_of n core
      (machine act n cores s).made) s ((machine act n cores s).cores core)
  core_stands cores core zero = λ more. refl
  core_stands cores core (suc s) = by (s % n == core) refl (core_stands cores core s)
    where
      m : State X
      m = machine act n cores s

      t : Played X
      t = played s (act s (m.cores (s % n))) m.words

      by : (b : Bool) → (s % n == core) ≡ b → Stands act n core (cores core) (operations_of n core m.made) s
          (m.cores core) → Stands act n core (cores core) (operations_of n core (m.made ++ t.ops)) (suc s) (cond
          (s % n == core) t.core (m.cores core))
      by true own stands =
          let t' : Played X = played s (act s (m.cores core)) m.words in
          let same : t ≡ t' = ap (λ u. played s (act s (m.cores u)) m.words) (eqb-true (s % n) core own) in
          let ops : operations_of n core (m.made ++ t.ops) ≡ operations_of n core m.made ++ t'.ops =
          operations_of-append n core m.made t.ops
          ∙ ap (λ l. operations_of n core m.made ++ l) (own_operations n core s t.ops own
          (stamps_played s (act s (m.cores (s % n))) m.words))
          ∙ ap (λ u. operations_of n core m.made ++ u.ops) same in
          let left : cond (s % n == core) t.core (m.cores core) ≡ t'.core = rw own (ap (λ u. u.core) same) in
          subst₂ (λ l y. Stands act n core (cores core) l (suc s) y) (sym ops) (sym left)
          (stands_turn core (cores core) (operations_of n core m.made) s (m.cores core) t'.core t'.ops stands own
          (fed_played s (act s (m.cores core)) m.words))
      by false other stands =
          let ops : operations_of n core (m.made ++ t.ops) ≡ operations_of n core m.made =
          operations_of-append n core m.made t.ops
          ∙ ap (λ l. operations_of n core m.made ++ l) (other_operations n core s t.ops other
          (stamps_played s (act s (m.cores (s % n))) m.words))
          ∙ append-nil (operations_of n core m.made) in
          let left : cond (s % n == core) t.core (m.cores core) ≡ m.cores core = rw other in
          subst₂ (λ l y. Stands act n core (cores core) l (suc s) y) (sym ops) (sym left)
          (stands_still core (cores core) (operations_of n core m.made) s (m.cores core) stands other)

  -- whatever values a core was fed, it stands where the operations that it made bring it
  pub alone_stands : (core : ℕ) (x : X) (values : List ℕ) (s : ℕ)
      → Stands act n core x (run_apart act n core x values s).made s (run_apart act n core x values s).core
  alone_stands core x values zero = λ more. refl
  alone_stands core x values (suc s) = by (s % n == core) refl (alone_stands core x values s)
    where
      a : Alone X
      a = run_apart act n core x values s

      by : (b : Bool) → (s % n == core) ≡ b → Stands act n core x a.made s a.core
          → Stands act n core x (stepped_apart act n core s a).made (suc s) (stepped_apart act n core s a).core
      by true own stands =
          subst (λ z. Stands act n core x z.made (suc s) z.core) (sym (stepped_own core s a own))
          (stands_turn core x a.made s a.core (fed s (act s a.core) a.left).core (fed s (act s a.core) a.left).ops
          stands own (fed_fed s (act s a.core) a.left))
      by false other stands =
          subst (λ z. Stands act n core x z.made (suc s) z.core) (sym (stepped_other core s a other))
          (stands_still core x a.made s a.core stands other)

  -- ---- the operations of a run

  -- a run apart makes operations of lesser stamps alone, all of its own
  pub low_apart : (core : ℕ) (x : X) (values : List ℕ) (s : ℕ)
      → Each (λ o. o.stamp < s) (run_apart act n core x values s).made
  low_apart core x values zero = tt
  low_apart core x values (suc s) = by (s % n == core) refl (each_map (λ o. o.stamp < s) (λ o. o.stamp < suc s)
      (λ o h. omega (arith, h)) a.made (low_apart core x values s))
    where
      a : Alone X
      a = run_apart act n core x values s

      by : (b : Bool) → (s % n == core) ≡ b → Each (λ o. o.stamp < suc s) a.made
          → Each (λ o. o.stamp < suc s) (stepped_apart act n core s a).made
      by true own low = subst (λ z. Each (λ o. o.stamp < suc s) z.made) (sym (stepped_own core s a own))
          (each-append (λ o. o.stamp < suc s) a.made _ low (each_map (λ o. o.stamp ≡ s) (λ o. o.stamp < suc s)
          (λ o h. omega (arith, h)) _ (stamps_fed s (act s a.core) a.left)))
      by false other low = subst (λ z. Each (λ o. o.stamp < suc s) z.made) (sym (stepped_other core s a other)) low

  pub low : (cores : ℕ → X) (s : ℕ) → Each (λ o. o.stamp < s) (machine act n cores s).made
  low cores zero = tt
  low cores (suc s) = each-append (λ o. o.stamp < suc s) (machine act n cores s).made _
      (each_map (λ o. o.stamp < s) (λ o. o.stamp < suc s) (λ o h. omega (arith, h)) (machine act n cores s).made
      (low cores s))
      (each_map (λ o. o.stamp ≡ s) (λ o. o.stamp < suc s) (λ o h. omega (arith, h)) _
      (stamps_played s (act s ((machine act n cores s).cores (s % n))) (machine act n cores s).words))

  pub rising : (cores : ℕ → X) (s : ℕ) → Rising (machine act n cores s).made
  rising cores zero = tt
  rising cores (suc s) =
      let m : State X = machine act n cores s in
      let at = stamps_played s (act s (m.cores (s % n))) m.words in
      rising-append s m.made _ (rising cores s) (each_map (λ o. o.stamp < s) (λ o. o.stamp ≤ s)
      (λ o h. omega (arith, h)) m.made (low cores s))
      (rising_of_one s _ at) (each_map (λ o. o.stamp ≡ s) (λ o. s ≤ o.stamp) (λ o h. omega (arith, h)) _ at)

  pub words_stored : (cores : ℕ → X) (s : ℕ) → (machine act n cores s).words ≡ after (machine act n cores s).made zeros
  words_stored cores zero = refl
  words_stored cores (suc s) =
      let m : State X = machine act n cores s in
      let t : Played X = played s (act s (m.cores (s % n))) m.words in
      ap (after t.ops) (words_stored cores s) ∙ sym (after-append m.made t.ops zeros)

  pub sees : (cores : ℕ → X) (s : ℕ) → Sees zeros (machine act n cores s).made
  sees cores zero = tt
  sees cores (suc s) =
      let m : State X = machine act n cores s in
      sees-append zeros m.made _ (sees cores s)
      (subst (λ words. Sees words (played s (act s (m.cores (s % n))) m.words).ops) (words_stored cores s)
      (played_sees s (act s (m.cores (s % n))) m.words))
