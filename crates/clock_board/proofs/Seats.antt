-- What the table asks of a split, a claim and a join, and of a new table: each keeps the rule.
use Rattle.std.proofs.Common.{◌≡◌, ◌≢◌, ℕ, zero, suc, ◌+◌, ◌*◌, ◌%◌, ◌<◌, ◌≤◌, List, [], ◌∷◌, ◌++◌, length, get_or, set, replicate, sum_by, sym, refl, ap, ◌∙◌, subst, arith, inl, inr, ⊎_elim, eq-eqb, ne_eqb}
use Rattle.std.specs.List.{AllByRecursion as Each}
use Rattle.std.proofs.lemmas.Bool.{cases_eq, cases_lt}
use Rattle.std.proofs.lemmas.Nat.{mod_below}
use Rattle.std.proofs.lemmas.List.{get_or-set_same, get_or-set_other, set-get_or, get_or-replicate, length-replicate}
use Rattle.std.proofs.lemmas.List.Sums.{sum_by_push, sum_by-append, sum_by-cons}
use Rattle.std.proofs.lemmas.List.Sorted.{IsNonDecreasingBy-short}
use Rattle.std.proofs.Math.ListN.{length-set, get_or-eq_default}
use mathlib.Core.Option.{some, some-injective, some-ne-none}
use lib.ListN.{get_elem?}
use Rattle.atomic_table.specs.Table.{State, keeps, Allows, Splits, Joins}
use Rattle.atomic_table.proofs.Lists.{at_set, at_snoc, set_again}
use Rattle.shared_order.specs.declared.operation.Operation.{Operation}
use Rattle.shared_order.specs.Course.{IsCourse}
use Rattle.shared_order.proofs.Lists.{each_map, each-append, each_all}
use Rattle.clock_board.specs.declared.known.Look.{Look}
use Rattle.clock_board.specs.declared.known.Record.{Record}
use Rattle.clock_board.specs.declared.known.Holding.{Holding}
use Rattle.clock_board.specs.declared.known.Holding.TheVariants.{Maker, Claiming, Spent}
use Rattle.clock_board.specs.declared.known.View.{View}
use Rattle.clock_board.specs.Record.{empty}
use Rattle.clock_board.specs.View.{records_of, back_of, back, maker, claiming, given, joined, spent, IsMaker}
use Rattle.clock_board.specs.Rule.{clock, claim, is_of, in_view, holders, IsTrueRecord, IsTrueView, IsClaimedOnce, Kept}
use Rattle.clock_board.specs.Plays.{Place, claims}
use Rattle.clock_board.proofs.Lists.{sum-set}
use Rattle.clock_board.proofs.Moved.{counts_own, counts_other}
use Rattle.clock_board.proofs.Asked.{holds}

-- the maker's view is not spent
maker_is_live : (h : Holding) → h ≡ Maker (back_of h) → h ≢ Spent
maker_is_live h e f = cc

-- nor is one that has no core yet
claiming_is_live : (h : Holding) → h ≡ Claiming → h ≢ Spent
claiming_is_live h e f = cc

-- the maker's records are those that came back
records_of_maker : (h : Holding) → h ≡ Maker (back_of h) → records_of h ≡ back_of h
records_of_maker h e = ap records_of e

module _ (n : ℕ) (all : List Operation) (asked : ℕ → List ℕ → List Operation) where
  -- where words stay, so does the rule, if the views are true and each core has as many records
  reseated : (words : List ℕ) (views views' : List View) (k : Kept n all asked words views)
      → ((core : ℕ) → core < n → holders core views' ≡ holders core views)
      → ((j : ℕ) (w : View) → get_elem? views' j ≡ some w → IsTrueView n all words k.done w)
      → Kept n all asked words views'
  reseated words views views' k same true_views = record {
    done = k.done;
    rest = k.rest;
    order = k.order;
    shared = k.shared;
    wide = k.wide;
    course = k.course;
    claims = λ core among. let c = k.claims core among in record {
      bit = c.bit;
      one = same core among ∙ c.one;
      idle_clock = c.idle_clock;
      idle_made = c.idle_made;
    };
    views = true_views;
    clocks = k.clocks;
    passed = k.passed;
    cells = k.cells;
  }

  -- ---- split

  -- splitting a pass off keeps the rule
  pub may_split : (id : ℕ) (me v : View) → me ≡ v → IsMaker v → Splits (holds n all asked) id me me (claiming me)
  may_split id me v e is s k at =
      let live = maker_is_live me.holding (subst IsMaker (sym e) is) in
      let t = k.views id me at in
      subst (λ vs. Kept n all asked s.words (vs ++ claiming me ∷ [])) (sym (set_again s.views id me at))
      (reseated s.words s.views (s.views ++ claiming me ∷ []) k
      (λ core among. omega (arith, sum_by_push (in_view core) s.views (claiming me)))
      (λ j w there. ⊎_elim (λ old. k.views j w old)
      (λ new. let fresh : IsTrueView n all s.words k.done (claiming me) = record {
        cores = λ _. t.cores live;
        course = λ _. t.course live;
        records = tt;
      } in
      subst (IsTrueView n all s.words k.done) new fresh)
      (at_snoc s.views (claiming me) w j there)))

  -- ---- join

  -- the joined view has the records of both
  in_joined : (core : ℕ) (v w : View) → IsMaker v → in_view core (joined v w) ≡ in_view core v + in_view core w
  in_joined core v w is =
      sum_by-append (is_of core) (back v) (records_of w.holding)
      ∙ ap (λ l. sum_by (is_of core) l + in_view core w) (sym (records_of_maker v.holding is))

  -- taking a pass back keeps the rule
  pub may_join : (id : ℕ) (me v : View) (other : ℕ) (w : View) → me ≡ v → IsMaker v
      → Joins (holds n all asked) id me other w (joined me w) spent
  may_join id me v other w e is s k at away there =
      let maker_is : IsMaker me = subst IsMaker (sym e) is in
      let live = maker_is_live me.holding maker_is in
      let first : List View = set s.views id (joined me w) in
      let mine = k.views id me at in
      let theirs : IsTrueView n all s.words k.done w =
      ⊎_elim (λ t. absurd (away t.0)) (λ t. k.views other w t.1) (at_set s.views id other (joined me w) w there) in
      let both : IsTrueView n all s.words k.done (joined me w) = record {
        cores = λ _. mine.cores live;
        course = λ _. mine.course live;
        records = each-append (IsTrueRecord n s.words k.done) (back me) (records_of w.holding)
            (subst (Each (IsTrueRecord n s.words k.done)) (records_of_maker me.holding maker_is) mine.records)
            theirs.records;
      } in
      let over : IsTrueView n all s.words k.done spent =
      record { cores = λ h. absurd (h refl); course = λ h. absurd (h refl); records = tt } in
      reseated s.words s.views (set first other spent) k
      (λ core among. omega (
        arith,
        sum-set (in_view core) s.views id me (joined me w) at,
        sum-set (in_view core) first
            other w spent there,
        in_joined core me w maker_is,
      ))
      (λ j u found. ⊎_elim (λ t. subst (IsTrueView n all s.words k.done) t.1 over)
      (λ t. ⊎_elim (λ b. subst (IsTrueView n all s.words k.done) b.1 both) (λ b. k.views j u b.1)
      (at_set s.views id j (joined me w) u t.1))
      (at_set first other j spent u found))

  -- ---- claim

  -- of a state in which the claim word of the core is 0
  module _ (s : State Unit View) (k : holds n all asked s) (id : ℕ) (me : View) (at : get_elem? s.views id ≡ some me)
      (is : me.holding ≡ Claiming) (core : ℕ) (among : core < n) (free : claim n s.words core ≡ 0) where
    -- another word stays
    same_word : (j : ℕ) → j ≢ n + core → get_or (set s.words (n + core) 1) j 0 ≡ get_or s.words j 0
    same_word j other = get_or-set_other s.words (n + core) j 1 0 other

    -- a clock stays
    level : (c : ℕ) → c < n → clock (set s.words (n + core) 1) c ≡ clock s.words c
    level c h = same_word c (omega (arith, h))

    -- a record stays true
    still_true : (q : Record) → IsTrueRecord n s.words k.done q → IsTrueRecord n (set s.words (n + core) 1) k.done q
    still_true q t = record {
      among = t.among;
      made = t.made;
      shows = level q.core t.among ∙ t.shows;
      climbs = t.climbs;
      looks = each_map (λ (l : Look). (l.core < n) × (l.seen ≤ clock s.words l.core)) (λ (l : Look). (l.core < n)
          × (l.seen ≤ clock (set s.words (n + core) 1) l.core)) (λ l h. (h.0, omega (arith, h.1, level l.core h.0)))
          q.looks t.looks;
    }

    -- the empty record is true
    fresh : IsTrueRecord n (set s.words (n + core) 1) k.done (empty core)
    fresh = record {
      among = among;
      made = sym ((k.claims core among).idle_made free);
      shows = level core among ∙ (k.claims core among).idle_clock free;
      climbs = IsNonDecreasingBy-short (λ x. x) [] (omega arith);
      looks = tt;
    }

    -- each core is claimed once or not
    claims_claimed : (c : ℕ) → c < n → IsClaimedOnce n (set s.words (n + core) 1) k.done (set s.views id
        (given me (empty core))) c
    claims_claimed c h =
        let old = k.claims c h in
        let before : in_view c me ≡ 0 = ap (λ x. sum_by (is_of c) (records_of x)) is in
        let after : in_view c (given me (empty core)) ≡ is_of c (empty core) + 0 =
        sum_by-cons (is_of c) (empty core) [] in
        let total = sum-set (in_view c) s.views id me (given me (empty core)) at in
        elim (cases_eq c core) [
          | inl same ↦
              let word : claim n (set s.words (n + core) 1) c ≡ 1 = ap (claim n (set s.words (n + core) 1)) same
              ∙ get_or-set_same s.words (n + core) 1 0 (omega (arith, among, k.wide)) in
              let was : claim n s.words c ≡ 0 = ap (claim n s.words) same ∙ free in
              record {
                bit = omega (arith, word);
                one = omega (arith, word, was, before, after, total, old.one, counts_own c (empty core) (sym same));
                idle_clock = λ none. absurd (omega (arith, word, none));
                idle_made = λ none. absurd (omega (arith, word, none));
              }
          | inr other ↦
              let word : claim n (set s.words (n + core) 1) c ≡ claim n s.words c =
              same_word (n + c) (λ j. other (omega arith)) in
              record {
                bit = omega (arith, word, old.bit);
                one = omega (
                  arith,
                  word,
                  before,
                  after,
                  total,
                  old.one,
                  counts_other c (empty core)
                      (λ j. other (sym j)),
                );
                idle_clock = λ none. level c h ∙ old.idle_clock (sym word ∙ none);
                idle_made = λ none. old.idle_made (sym word ∙ none);
              }
        ]

    -- the rule after the claim
    claimed : Kept n all asked (set s.words (n + core) 1) (set s.views id (given me (empty core)))
    claimed =
        let live = claiming_is_live me.holding is in
        let mine = k.views id me at in
        record {
          done = k.done;
          rest = k.rest;
          order = k.order;
          shared = k.shared;
          wide = length-set s.words (n + core) 1 ∙ k.wide;
          course = k.course;
          claims = claims_claimed;
          views = λ j w there. ⊎_elim
              (λ t. let new : IsTrueView n all (set s.words (n + core) 1) k.done (given me (empty core)) = record {
                cores = λ _. mine.cores live;
                course = λ _. mine.course live;
                records = (fresh, tt);
              } in
              subst (IsTrueView n all (set s.words (n + core) 1) k.done) t.1 new)
              (λ t. let old = k.views j w t.1 in record {
                cores = old.cores;
                course = old.course;
                records = each_map
                    (IsTrueRecord n s.words k.done) (IsTrueRecord n (set s.words (n + core) 1) k.done) still_true
                    (records_of w.holding) old.records;
              })
              (at_set s.views id j (given me (empty core)) w there);
          clocks = each_map (λ (q : Operation). clock s.words (q.stamp % n) ≤ q.stamp)
              (λ (q : Operation). clock (set s.words (n + core) 1) (q.stamp % n) ≤ q.stamp)
              (λ q h. omega (arith, h, level (q.stamp % n) (mod_below q.stamp n k.course.some_core))) k.rest k.clocks;
          passed = each_map (λ (q : Operation). (d : ℕ) → d < n → d ≢ q.stamp % n → q.stamp ≤ clock s.words d)
              (λ (q : Operation). (d : ℕ) → d < n → d ≢ q.stamp % n → q.stamp ≤ clock (set s.words (n + core) 1) d)
              (λ q h d a other. omega (arith, h d a other, level d a)) k.done k.passed;
          cells = λ w h. same_word (n + n + w) (omega (arith, among)) ∙ k.cells w h;
        }

  -- a claim keeps the rule, and tells whether it found 0
  pub may_claim : (slots id : ℕ) (me : Place) (v : View) (core i : ℕ) → me.0 ≡ v → v.holding ≡ Claiming → core < n → i
      ≡ v.cores + core → Allows (holds n all asked) slots id me i (λ _. 1) (claims i me)
  may_claim slots id me v core i e is_claiming among at_word s k homes at wide =
      let is : me.0.holding ≡ Claiming = ap (λ u. u.holding) e ∙ is_claiming in
      let cores : me.0.cores ≡ n = (k.views id me.0 at).cores (claiming_is_live me.0.holding is) in
      let word : i ≡ n + core = at_word ∙ ap (λ u. u.cores + core) (sym e) ∙ ap (λ c. c + core) cores in
      elim (cases_eq (get_or s.words i 0) 0) [
        | inl free ↦ (
          given me.0 (empty core),
          keeps,
          tt,
          subst (λ j. Kept n all asked (set s.words j 1) (set s.views id (given me.0 (empty core)))) (sym word)
              (claimed s k id me.0 at is core among (ap (λ j. get_or s.words j 0) (sym word) ∙ free)),
          λ c there.
              let same : core ≡ c = omega (arith, there, word, cores) in
              rw (eq-eqb (get_or s.words i 0) 0 free) (λ h. (given me.0 (empty (same h)), me.1)),
        )
        | inr taken ↦
            let bit : get_or s.words i 0 ≤ 1 =
            subst (λ j. get_or s.words j 0 ≤ 1) (sym word) (k.claims core among).bit in
            let one : get_or s.words i 0 ≡ 1 = omega arith in (
              me.0,
              keeps,
              tt,
              subst (λ ws. Kept n all asked ws (set s.views id me.0))
                  (sym (ap (set s.words i) (sym one) ∙ set-get_or s.words i 0)) (subst (Kept n all asked s.words)
                  (sym (set_again s.views id me.0 at)) k),
              λ c there. rw (ne_eqb (get_or s.words i 0) 0 taken) refl,
            )
      ]

  -- ---- a new table

  -- the rule of a table of zeros
  pub starts : (shared : ℕ) (words : List ℕ) → IsCourse n shared all asked → words ≡ replicate (n + n + shared) 0
      → Kept n all asked words (maker n all ∷ [])
  starts shared words course zeros = record {
    done = [];
    rest = all;
    order = refl;
    shared = shared;
    wide = ap length zeros ∙ length-replicate {A = ℕ} (n + n + shared) 0;
    course = course;
    claims = λ core among. record {
      bit = omega (arith, zero_word (n + core));
      one = sym (zero_word (n + core));
      idle_clock = λ _. zero_word core;
      idle_made = λ _. refl;
    };
    views = first_view;
    clocks = each_all (λ (q : Operation). clock words (q.stamp % n) ≤ q.stamp)
        (λ q. omega (arith, zero_word (q.stamp % n))) all;
    passed = tt;
    cells = λ w h. zero_word (n + n + w);
  }
    where
      -- each word is 0
      zero_word : (j : ℕ) → get_or words j 0 ≡ 0
      zero_word j = ap (λ l. get_or l j 0) zeros ∙ elim (cases_lt j (n + n + shared)) [
        | inl inside ↦ get_or-replicate (n + n + shared) j 0 0 inside
        | inr past ↦ get_or-eq_default (replicate (n + n + shared) 0) 0
            (omega (arith, past, length-replicate {A = ℕ} (n + n + shared) 0))
      ]

      -- the one view is the maker's
      first_view : (j : ℕ) (w : View) → get_elem? (maker n all ∷ []) j ≡ some w → IsTrueView n all words [] w
      first_view zero w there =
          let here : IsTrueView n all words [] (maker n all) =
          record { cores = λ _. refl; course = λ _. refl; records = tt } in
          subst (IsTrueView n all words []) (some-injective (maker n all) w there) here
      first_view (suc j) w there = absurd (some-ne-none w (sym there))

  -- the same, by the numbers that the board was asked for
  pub starts_board : (cores shared : ℕ) (words : List ℕ) → n ≡ cores → IsCourse cores shared all asked → words
      ≡ replicate (2 * cores + shared) 0 → Kept n all asked words (maker n all ∷ [])
  starts_board cores shared words same course zeros =
      let count : 2 * cores + shared ≡ n + n + shared = omega (arith, same) in
      starts shared words (subst (λ c. IsCourse c shared all asked) (sym same) course)
      (zeros ∙ ap (λ c. replicate c 0) count)
