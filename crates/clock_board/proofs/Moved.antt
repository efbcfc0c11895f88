-- A step of a core's pass keeps the rule where what it changes fits.
use Rattle.std.proofs.Common.{◌≡◌, ◌≢◌, ℕ, ◌%◌, ◌<◌, ◌≤◌, List, [], ◌++◌, length, set, sum_by, sym, refl, ap, ◌∙◌, subst, arith, inl, inr, ⊎_elim, add-zero, eq-eqb, ne_eqb}
use Rattle.std.specs.List.{AllByRecursion as Each}
use Rattle.std.proofs.lemmas.Bool.{cases_eq}
use Rattle.std.proofs.lemmas.List.Sums.{sum_by-cons}
use mathlib.Core.Option.{some}
use lib.ListN.{get_elem?}
use Rattle.atomic_table.proofs.Lists.{at_set}
use Rattle.shared_order.specs.declared.operation.Operation.{Operation}
use Rattle.shared_order.specs.Operation.{operations_of}
use Rattle.shared_order.specs.Words.{stored_last}
use Rattle.clock_board.specs.declared.known.Look.{Look}
use Rattle.clock_board.specs.declared.known.Record.{Record}
use Rattle.clock_board.specs.declared.known.Holding.{Holding}
use Rattle.clock_board.specs.declared.known.Holding.TheVariants.{Given, Spent}
use Rattle.clock_board.specs.declared.known.View.{View}
use Rattle.clock_board.specs.View.{records_of, given}
use Rattle.clock_board.specs.Rule.{clock, claim, cell, is_of, in_view, IsTrueRecord, IsTrueView, IsClaimedOnce, Kept}
use Rattle.clock_board.proofs.Lists.{sum-set, terms_le, term_le, none_counts}
use Rattle.shared_order.proofs.Lists.{each_map, each_zip}

-- a record counts for its core
pub counts_own : (core : ℕ) (r : Record) → r.core ≡ core → is_of core r ≡ 1
counts_own core r own = rw (eq-eqb r.core core own) refl

-- and for no other
pub counts_other : (core : ℕ) (r : Record) → r.core ≢ core → is_of core r ≡ 0
counts_other core r other = rw (ne_eqb r.core core other) refl

-- what does not count is of another core
pub not_counted : (core : ℕ) (r : Record) → is_of core r ≡ 0 → r.core ≢ core
not_counted core r none own = let one : is_of core r ≡ 1 = counts_own core r own in omega (arith, none, one)

-- a core's pass has one record
pub in_given : (core : ℕ) (v : View) (r : Record) → v.holding ≡ Given r → in_view core v ≡ is_of core r
in_given core v r e =
    ap (λ h. sum_by (is_of core) (records_of h)) e ∙ sum_by-cons (is_of core) r [] ∙ add-zero (is_of core r)

-- a core's pass is not spent
pub given_is_live : (h : Holding) (r : Record) → h ≡ Given r → h ≢ Spent
given_is_live h r e f = cc

-- what a step of the pass of core `core` has to show, which makes the words `words'` of `words`, the
-- operations made `done'` of `done` and the record r'
pub record Moves (n : ℕ) (all : List Operation) (shared core : ℕ) (words words' : List ℕ)
    (done done' rest' : List Operation) (r' : Record) : Type 0 where
  pub wide : length words' ≡ length words
  pub order : all ≡ done' ++ rest'
  pub claims : (c : ℕ) → c < n → claim n words' c ≡ claim n words c
  pub rises : (c : ℕ) → c < n → clock words c ≤ clock words' c
  pub others : (c : ℕ) → c < n → c ≢ core → clock words' c ≡ clock words c
  pub parts : (c : ℕ) → c < n → c ≢ core → operations_of n c done' ≡ operations_of n c done
  pub own : r'.core ≡ core
  pub mine : IsTrueRecord n words' done' r'
  pub clocks : Each (λ (o : Operation). clock words' (o.stamp % n) ≤ o.stamp) rest'
  pub passed : Each (λ (o : Operation). (d : ℕ) → d < n → d ≢ o.stamp % n → o.stamp ≤ clock words' d) done'
  pub cells : (w : ℕ) → w < shared → cell n words' w ≡ stored_last w done' 0

module _ (n : ℕ) (all : List Operation) (asked : ℕ → List ℕ → List Operation) (words : List ℕ) (views : List View)
    (k : Kept n all asked words views) (id : ℕ) (v : View) (r : Record) (at : get_elem? views id ≡ some v)
    (is : v.holding ≡ Given r) where
  -- the pass's record is true
  pub mine_is_true : IsTrueRecord n words k.done r
  mine_is_true = (subst (λ h. Each (IsTrueRecord n words k.done) (records_of h)) is (k.views id v at).records).0

  -- its core is claimed
  pub is_claimed : claim n words r.core ≡ 1
  is_claimed =
      let c = k.claims r.core mine_is_true.among in
      omega (
        arith,
        c.bit,
        c.one,
        term_le (in_view r.core) views id v at,
        in_given r.core v r is,
        counts_own r.core r refl,
      )

  -- no other view has a record of its core
  pub alone : (j : ℕ) (w : View) → j ≢ id → get_elem? views j ≡ some w
      → Each (λ r'. r'.core ≢ r.core) (records_of w.holding)
  alone j w away there =
      let c = k.claims r.core mine_is_true.among in
      let none : in_view r.core w ≡ 0 = omega (
        arith,
        c.bit,
        c.one,
        terms_le (in_view r.core) views id j v w away at
            there,
        in_given r.core v r is,
        counts_own r.core r refl,
      ) in
      each_map (λ r'. is_of r.core r' ≡ 0) (λ r'. r'.core ≢ r.core) (λ r' z. not_counted r.core r' z)
      (records_of w.holding) (none_counts (is_of r.core) (records_of w.holding) none)

  module _ (words' : List ℕ) (done' rest' : List Operation) (r' : Record)
      (m : Moves n all k.shared r.core words words' k.done done' rest' r') where
    -- another core's record stays true
    stays_true : (q : Record) → IsTrueRecord n words k.done q → q.core ≢ r.core → IsTrueRecord n words' done' q
    stays_true q t other = record {
      among = t.among;
      made = t.made ∙ sym (m.parts q.core t.among other);
      shows = m.others q.core t.among other ∙ t.shows;
      climbs = t.climbs;
      looks = each_map (λ (l : Look). (l.core < n) × (l.seen ≤ clock words l.core)) (λ (l : Look). (l.core < n)
          × (l.seen ≤ clock words' l.core)) (λ l h. (h.0, omega (arith, h.1, m.rises l.core h.0))) q.looks t.looks;
    }

    -- all views stay true
    views_moved : (j : ℕ) (w : View) → get_elem? (set views id (given v r')) j ≡ some w
        → IsTrueView n all words' done' w
    views_moved j w there = ⊎_elim
        (λ t. let mine : IsTrueView n all words' done' (given v r') = record {
          cores = λ _. (k.views id v at).cores (given_is_live v.holding r is);
          course = λ _. (k.views id v at).course (given_is_live v.holding r is);
          records = (m.mine, tt);
        } in subst (IsTrueView n all words' done') t.1 mine)
        (λ t. let before : IsTrueView n all words k.done w = k.views j w t.1 in record {
          cores = before.cores;
          course = before.course;
          records = each_zip (IsTrueRecord n words k.done) (λ q. q.core ≢ r.core) (IsTrueRecord n words' done')
              stays_true (records_of w.holding) before.records (alone j w t.0 t.1);
        })
        (at_set views id j (given v r') w there)

    -- each core is still claimed once or not
    claims_moved : (core : ℕ) → core < n → IsClaimedOnce n words' done' (set views id (given v r')) core
    claims_moved core among =
        let c = k.claims core among in
        let same : is_of core r' ≡ is_of core r = ap (λ d. is_of core (record r { core = d })) m.own in
        record {
          bit = omega (arith, c.bit, m.claims core among);
          one = omega (
            arith,
            c.one,
            m.claims core among,
            sum-set (in_view core) views id v (given v r') at,
            in_given core v r is,
            in_given core (given v r') r' refl,
            same,
          );
          idle_clock = λ none. elim (cases_eq core r.core) [
            | inl own ↦ absurd (let one : claim n words core ≡ 1 = ap (claim n words) own ∙ is_claimed in omega (
              arith,
              one,
              none,
              m.claims core among,
            ))
            | inr other ↦ m.others core among other ∙ c.idle_clock (sym (m.claims core among) ∙ none)
          ];
          idle_made = λ none. elim (cases_eq core r.core) [
            | inl own ↦ absurd (let one : claim n words core ≡ 1 = ap (claim n words) own ∙ is_claimed in omega (
              arith,
              one,
              none,
              m.claims core among,
            ))
            | inr other ↦ m.parts core among other ∙ c.idle_made (sym (m.claims core among) ∙ none)
          ];
        }

    -- the rule after the step
    pub moved : Kept n all asked words' (set views id (given v r'))
    moved = record {
      done = done';
      rest = rest';
      order = m.order;
      shared = k.shared;
      wide = m.wide ∙ k.wide;
      course = k.course;
      claims = claims_moved;
      views = views_moved;
      clocks = m.clocks;
      passed = m.passed;
      cells = m.cells;
    }
