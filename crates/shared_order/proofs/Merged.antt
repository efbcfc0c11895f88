-- A list of operations that could be the machine's is the machine's.
use Rattle.std.proofs.Common.{◌≡◌, ℕ, zero, suc, ◌%◌, ◌<◌, ◌≤◌, Bool, true, false, List, [], ◌∷◌, ◌++◌, ◌==◌, refl, sym, ap, ◌∙◌, subst, append-nil, eq-eqb, ne_eqb, arith, nat_lt, nat_le}
use Rattle.std.specs.List.{AllByRecursion as Each}
use Rattle.std.proofs.lemmas.Nat.{mod_below}
use Rattle.std.proofs.lemmas.List.Elements.{filter-append}
use Rattle.shared_order.specs.declared.operation.Operation.{Operation}
use Rattle.shared_order.specs.Operation.{load, store, loads, operations_of}
use Rattle.shared_order.specs.Order.{Rising}
use Rattle.shared_order.specs.Words.{put, after, zeros, Sees}
use Rattle.shared_order.specs.Program.{Prog, done, get, set, played, fed, first, others}
use Rattle.shared_order.specs.Machine.{State}
use Rattle.shared_order.specs.Apart.{Alone}
use Rattle.shared_order.specs.Stamps.{machine, stepped_apart, run_apart}
use Rattle.shared_order.proofs.Lists.{loads-append, operations_of-append, filter-filter, each_map, no_operations, one_core_has_all, early, late, early_all, early_none, late_all, late_none, early-late, rising_first}
use Rattle.shared_order.proofs.Words.{sees_first, sees_rest}
use Rattle.shared_order.proofs.Runs.{stamps_fed, stepped_own, stepped_other, core_stands, alone_stands, low_apart, words_stored}

-- where the loads of a fed program see the words, it does what it does when played on them
pub fed_right : {X : Type 0} (s : ℕ) (p : Prog X) (values : List ℕ) (words : ℕ → ℕ) → Sees words (fed s p values).ops
    → (fed s p values).ops ≡ (played s p words).ops
fed_right s (done x) values words h = refl
fed_right s (get word go_on) values words h =
    let right : first values ≡ words word = h.0 refl in
    ap (λ l. load s word (first values) ∷ l) (fed_right s (go_on (first values)) (others values) words h.1)
    ∙ ap (λ v. load s word v ∷ (played s (go_on v) words).ops) right
fed_right s (set word value rest) values words h =
    ap (λ l. store s word value ∷ l) (fed_right s rest values (put word value words) h.1)

module _ {X : Type 0} (act : ℕ → X → Prog X) (n : ℕ) where
  -- each core's operations of the list is its run apart on what its own loads gave there
  abbrev pub Parts : (ℕ → X) → ℕ → List Operation → Type 0
  Parts cores s all = (core : ℕ) → core < n → (run_apart act n core (cores core) (loads (operations_of n core all))
      s).made ≡ operations_of n core all

  -- what a core made before stamp s, and what it makes there
  early_made : (core s : ℕ) (a : Alone X) → Each (λ o. o.stamp < s) a.made → early s (stepped_apart act n core s a).made
      ≡ a.made
  early_made core s a lesser = by (s % n == core) refl
    where
      by : (b : Bool) → (s % n == core) ≡ b → early s (stepped_apart act n core s a).made ≡ a.made
      by true own = ap (λ z. early s z.made) (stepped_own act n core s a own)
          ∙ (filter-append (λ o. nat_lt o.stamp s) a.made _
          ∙ ap (λ l. l ++ early s (fed s (act s a.core) a.left).ops) (early_all s a.made lesser)
          ∙ ap (λ l. a.made ++ l) (early_none s _ (each_map (λ o. o.stamp ≡ s) (λ o. s ≤ o.stamp)
          (λ o h. omega (arith, h)) _ (stamps_fed s (act s a.core) a.left)))
          ∙ append-nil a.made)
      by false other = ap (λ z. early s z.made) (stepped_other act n core s a other) ∙ early_all s a.made lesser

  late_made : (core s : ℕ) (a : Alone X) → Each (λ o. o.stamp < s) a.made → (s % n == core) ≡ true
      → late s (stepped_apart act n core s a).made ≡ (fed s (act s a.core) a.left).ops
  late_made core s a lesser own = ap (λ z. late s z.made) (stepped_own act n core s a own)
      ∙ (filter-append (λ o. nat_le s o.stamp) a.made _
      ∙ ap (λ l. l ++ late s (fed s (act s a.core) a.left).ops) (late_none s a.made lesser)
      ∙ late_all s _ (each_map (λ o. o.stamp ≡ s) (λ o. s ≤ o.stamp) (λ o h. omega (arith, h)) _
      (stamps_fed s (act s a.core) a.left)))

  late_other : (core s : ℕ) (a : Alone X) → Each (λ o. o.stamp < s) a.made → (s % n == core) ≡ false
      → late s (stepped_apart act n core s a).made ≡ []
  late_other core s a lesser other =
      ap (λ z. late s z.made) (stepped_other act n core s a other) ∙ late_none s a.made lesser

  pub merge_is_made : (cores : ℕ → X) (s : ℕ) (all : List Operation) → 0 < n → Rising all → Sees zeros all
      → Parts cores s all → all ≡ (machine act n cores s).made
  merge_is_made cores zero all some r h parts = no_operations n all some (λ core among. sym (parts core among))
  merge_is_made cores (suc s) all some r h parts =
      let m : State X = machine act n cores s in
      let c0 : ℕ = s % n in
      let prefix : List Operation = early s all in
      let back : List Operation = late s all in
      let whole : prefix ++ back ≡ all = early-late s all r in
      let seen : Sees zeros (prefix ++ back) = subst (Sees zeros) (sym whole) h in
      let a : ℕ → Alone X = λ core. run_apart act n core (cores core) (loads (operations_of n core all)) s in
      let lesser : (core : ℕ) → Each (λ o. o.stamp < s) (a core).made =
      λ core. low_apart act n core (cores core) (loads (operations_of n core all)) s in
      let operations_of-prefix : (core : ℕ) → core < n → operations_of n core prefix ≡ (a core).made = λ core among.
      filter-filter (λ o. o.stamp % n == core) (λ o. nat_lt o.stamp s) all ∙ ap (early s) (sym (parts core among))
      ∙ early_made core s (a core) (lesser core) in
      let part_back : (core : ℕ) → core < n → operations_of n core back
      ≡ late s (stepped_apart act n core s (a core)).made = λ core among.
      filter-filter (λ o. o.stamp % n == core) (λ o. nat_le s o.stamp) all ∙ ap (late s) (sym (parts core among)) in
      let parts_prefix : Parts cores s prefix = λ core among.
      ap (λ l. (run_apart act n core (cores core) (loads l) s).made) (operations_of-prefix core among)
      ∙ ap (λ l. (run_apart act n core (cores core) l s).made) (sym (append-nil (loads (a core).made)))
      ∙ ap (λ z. z.made) (alone_stands act n core (cores core) (loads (operations_of n core all)) s [])
      ∙ sym (operations_of-prefix core among) in
      let prefix_made : prefix ≡ m.made =
      merge_is_made cores s prefix some (rising_first prefix back (subst Rising (sym whole) r))
      (sees_first zeros prefix back seen) parts_prefix in
      let back_part : operations_of n c0 back ≡ back = one_core_has_all n c0 back some (λ other among away.
      part_back other among ∙ late_other other s (a other) (lesser other) (ne_eqb c0 other (λ e. away (sym e)))) in
      let values : loads (operations_of n c0 all) ≡ loads (operations_of n c0 m.made)
      ++ loads (operations_of n c0 back) =
      ap (λ l. loads (operations_of n c0 l)) (sym whole) ∙ ap loads (operations_of-append n c0 prefix back)
      ∙ loads-append (operations_of n c0 prefix) (operations_of n c0 back)
      ∙ ap (λ l. loads (operations_of n c0 l) ++ loads (operations_of n c0 back)) prefix_made in
      let core_same : (a c0).core ≡ m.cores c0 =
      ap (λ z. z.core) (ap (λ l. run_apart act n c0 (cores c0) l s) values
      ∙ core_stands act n cores c0 s (loads (operations_of n c0 back))) in
      let back_fed : back ≡ (fed s (act s (m.cores c0)) (a c0).left).ops =
      sym back_part ∙ part_back c0 (mod_below s n some) ∙ late_made c0 s (a c0) (lesser c0) (eq-eqb c0 c0 refl)
      ∙ ap (λ y. (fed s (act s y) (a c0).left).ops) core_same in
      let words : after prefix zeros ≡ m.words =
      ap (λ l. after l zeros) prefix_made ∙ sym (words_stored act n cores s) in
      let back_seen : Sees m.words (fed s (act s (m.cores c0)) (a c0).left).ops =
      subst (Sees m.words) back_fed (subst (λ w. Sees w back) words (sees_rest zeros prefix back seen)) in
      sym whole ∙ ap (λ l. l ++ back) prefix_made
      ∙ ap (λ l. m.made ++ l) (back_fed ∙ fed_right s (act s (m.cores c0)) (a c0).left m.words back_seen)
