-- A worker looks around: the clocks below one were looked at where they had to be.
use Rattle.std.proofs.Common.{◌≡◌, ◌≢◌, ℕ, ◌+◌, ◌<◌, ◌≤◌, ◌==◌, max, cond, List, [], ◌∷◌, ◌++◌, refl, sym, ap, ◌∙◌, subst, append_assoc, eq-eqb, ne_eqb, inl, inr, arith}
use Rattle.std.specs.List.{AllByRecursion as Each, count_by}
use Rattle.std.proofs.lemmas.Bool.{cases_eq}
use Rattle.std.proofs.lemmas.List.Sums.{sum_by-append}
use Rattle.shared_order.proofs.Lists.{each_map, each-append}
use Rattle.clock_board.specs.declared.known.Look.{Look}
use Rattle.clock_board.specs.declared.known.View.{View}
use Rattle.clock_board.specs.Record.{greatest, with_look}
use Rattle.clock_board.specs.View.{own, given}
use Rattle.core_worker.specs.Runs.{with_looks}
use Rattle.core_worker.specs.Looked.{look, HasLooked, SawOne}

-- how far it has come
pub record IsLooking (wanted core d : ℕ) (before after : List Look) : Type 0 where
  pub new : List Look
  pub looked : HasLooked wanted before after new
  pub high : Each (λ l. wanted ≤ l.seen) new
  pub below : Each (λ l. l.core < d) new
  pub seen : (e : ℕ) → e < d → e ≢ core → wanted ≤ greatest e after

-- more looks show no less
greatest_more : (d : ℕ) (xs ys : List Look) → greatest d xs ≤ greatest d (xs ++ ys)
greatest_more d [] ys = omega arith
greatest_more d (l ∷ ls) ys = let y : ℕ = cond (l.core == d) l.seen 0 in let h : greatest d ls ≤ greatest d (ls ++ ys) =
    greatest_more d ls ys in let k : max y (greatest d ls) ≤ max y (greatest d (ls ++ ys)) = omega (arith, h) in k

-- among looks at lesser cores there is none at a core
count_none : (d : ℕ) (ls : List Look) → Each (λ l. l.core < d) ls → count_by (λ l. l.core == d) ls ≡ 0
count_none d [] h = refl
count_none d (l ∷ ls) h =
    let other : l.core ≢ d = omega (arith, h.0) in rw (ne_eqb l.core d other) (count_none d ls h.1)

module _ (wanted core d : ℕ) (before after : List Look) (h : IsLooking wanted core d before after) where
  -- no look was needed at the next clock
  pub looks_skip : (d ≢ core → wanted ≤ greatest d after) → IsLooking wanted core (d + 1) before after
  looks_skip known = record {
    new = h.new;
    looked = h.looked;
    high = h.high;
    below = each_map (λ l. l.core < d) (λ l. l.core < d + 1) (λ l k. omega (arith, k)) h.new h.below;
    seen = λ e low other. elim (cases_eq e d) [
      | inl same ↦ subst (λ c. c ≢ core → wanted ≤ greatest c after) (sym same) known other
      | inr earlier ↦ h.seen e (omega (arith, low, earlier)) other
    ];
  }

  -- one was made
  module _ (s : ℕ) (after' : List Look) (whole : after' ≡ after ++ look d s ∷ [])
      (unseen : greatest d after < wanted) where
    -- it is the only one there, and was needed
    has_looked : HasLooked wanted before after' (h.new ++ look d s ∷ [])
    has_looked = record {
      whole = whole ∙ ap (λ l. l ++ look d s ∷ []) h.looked.whole ∙ append_assoc before h.new (look d s ∷ []);
      once = λ e. elim (cases_eq d e) [
        | inl same ↦
            let none : count_by (λ (l : Look). l.core == e) h.new ≡ 0 =
            count_none e h.new (subst (λ c. Each (λ l. l.core < c) h.new) same h.below) in
            let one : count_by (λ (l : Look). l.core == e) (look d s ∷ []) ≡ 1 = rw (eq-eqb d e same) refl in
            omega (arith, sum_by-append (λ (l : Look). cond (l.core == e) 1 0) h.new (look d s ∷ []), none, one)
        | inr other ↦
            let none : count_by (λ (l : Look). l.core == e) (look d s ∷ []) ≡ 0 = rw (ne_eqb d e other) refl in
            omega (
              arith,
              sum_by-append (λ (l : Look). cond (l.core == e) 1 0) h.new (look d s ∷ []),
              none,
              h.looked.once e,
            )
      ];
      needed = each-append (λ l. greatest l.core before < wanted) h.new (look d s ∷ []) h.looked.needed (
        omega (
          arith,
          unseen,
          subst (λ l. greatest d before ≤ greatest d l) (sym h.looked.whole)
              (greatest_more d before h.new),
        ),
        tt,
      );
    }

    -- it showed less than the stamp
    pub looks_low : s < wanted → SawOne wanted d s before after'
    looks_low low = record { prefix = h.new; looked = has_looked; high = h.high; low = low }

    -- it did not, and the worker looks on
    pub looks_more : wanted ≤ s → greatest d after' ≡ max (greatest d after) s → ((e : ℕ) → e ≢ d → greatest e after'
        ≡ greatest e after) → IsLooking wanted core (d + 1) before after'
    looks_more enough here others = record {
      new = h.new ++ look d s ∷ [];
      looked = has_looked;
      high = each-append (λ l. wanted ≤ l.seen) h.new (look d s ∷ []) h.high (enough, tt);
      below = each-append (λ l. l.core < d + 1) h.new (look d s ∷ []) (each_map (λ l. l.core < d) (λ l. l.core < d + 1)
          (λ l k. omega (arith, k)) h.new h.below) (omega arith, tt);
      seen = λ e low other. elim (cases_eq e d) [
        | inl same ↦ subst (λ c. wanted ≤ greatest c after') (sym same) (omega (arith, here, enough))
        | inr earlier ↦ omega (arith, others e earlier, h.seen e (omega (arith, low, earlier)) other)
      ];
    }

-- but for the looks the pass knows what it knew
pub same_look : (v0 v v' : View) (d s : ℕ) → v ≡ with_looks v0 (own v).looks → v' ≡ given v (with_look (own v) d s) → v'
    ≡ with_looks v0 (own v').looks
same_look v0 v v' d s was resumed = resumed ∙ ap (λ u. given u (with_look (own u) d s)) was
    ∙ ap (with_looks v0) (sym (ap (λ u. (own u).looks) resumed))
