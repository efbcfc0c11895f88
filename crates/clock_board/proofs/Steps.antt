-- What a look, a publishing, a load and a store change: each fits the rule.
use Rattle.std.proofs.Common.{◌≡◌, ◌≢◌, ℕ, ◌+◌, ◌-◌, ◌%◌, ◌<◌, ◌≤◌, false, List, [], ◌∷◌, ◌++◌, length, get_or, set, drop, sym, refl, ap, ◌∙◌, subst, arith, inl, inr, append_assoc}
use Rattle.std.specs.List.{AllByRecursion as Each}
use Rattle.std.specs.List.Sorted.{IsNonDecreasing}
use Rattle.std.proofs.lemmas.Bool.{cases_eq}
use Rattle.std.proofs.lemmas.Nat.{mod_below}
use Rattle.std.proofs.lemmas.List.{get_or-set_same, get_or-set_other, get_or_push, get_or_default, length_push}
use Rattle.std.proofs.lemmas.List.Sorted.{IsNonDecreasingBy-push}
use Rattle.std.proofs.Math.ListN.{length-set}
use mathlib.Core.Option.{some}
use lib.ListN.{get_elem?}
use Rattle.shared_order.specs.declared.operation.Operation.{Operation}
use Rattle.shared_order.specs.Operation.{operations_of}
use Rattle.shared_order.specs.Order.{Rising}
use Rattle.shared_order.specs.Words.{stored_last, Reads}
use Rattle.shared_order.specs.Fit.{Fits}
use Rattle.shared_order.proofs.Lists.{each_map, each-append, each_zip, each_rest}
use Rattle.clock_board.specs.declared.known.Look.{Look}
use Rattle.clock_board.specs.declared.known.Record.{Record}
use Rattle.clock_board.specs.declared.known.Holding.TheVariants.{Given}
use Rattle.clock_board.specs.declared.known.View.{View}
use Rattle.clock_board.specs.Record.{clock_of, greatest, with_look, with_stamp, with_operation}
use Rattle.clock_board.specs.View.{own, given, todo}
use Rattle.clock_board.specs.Rule.{clock, cell, IsTrueRecord, Kept}
use Rattle.clock_board.proofs.Looked.{greatest_le}
use Rattle.clock_board.proofs.Order.{IsFirstOf, is_next, left_is_rest, reads_at, rising_rest, operations_of-push, operations_of-push_other, each_of_core}
use Rattle.clock_board.proofs.Moved.{Moves, mine_is_true, given_is_live}

-- the clock shows the stamp that was published last
pub clock-push : (published : List ℕ) (stamp : ℕ) → clock_of (published ++ stamp ∷ []) ≡ stamp
clock-push published stamp =
    get_or_push published stamp 0 (length (published ++ stamp ∷ []) - 1) (omega (arith, length_push published stamp))

-- a stamp at or past the clock goes on from what was published
pub climbs_on : (published : List ℕ) (stamp : ℕ) → IsNonDecreasing published → clock_of published ≤ stamp
    → IsNonDecreasing (published ++ stamp ∷ [])
climbs_on published stamp climbs late = IsNonDecreasingBy-push (λ x. x) published stamp climbs (λ d some.
    let e : get_or published (length published - 1) d ≡ clock_of published =
    get_or_default published (length published - 1) d 0 (omega arith) in
    omega (arith, e, late))

module _ (n : ℕ) (all : List Operation) (asked : ℕ → List ℕ → List Operation) where
  -- ---- of the words and the views, where the view of number id is a core's with the record r

  module _ (words : List ℕ) (views : List View) (k : Kept n all asked words views) (id : ℕ) (v : View) (r : Record)
      (at : get_elem? views id ≡ some v) (is : v.holding ≡ Given r) where
    -- the pass's record is true
    mine : IsTrueRecord n words k.done r
    mine = mine_is_true n all asked words views k id v r at is

    -- a look changes no word
    pub look_moves : (d : ℕ) → d < n → Moves n all k.shared r.core words words k.done k.done k.rest (with_look r d
        (clock words d))
    look_moves d among = record {
      wide = refl;
      order = k.order;
      claims = λ c h. refl;
      rises = λ c h. omega arith;
      others = λ c h other. refl;
      parts = λ c h other. refl;
      own = refl;
      mine = record {
        among = mine.among;
        made = mine.made;
        shows = mine.shows;
        climbs = mine.climbs;
        looks = each-append (λ (l : Look). (l.core < n) × (l.seen ≤ clock words l.core)) r.looks
            (record { core = d; seen = clock words d } ∷ []) mine.looks ((among, omega arith), tt);
      };
      clocks = k.clocks;
      passed = k.passed;
      cells = k.cells;
    }

    -- a published stamp is at or past the clock, and not past what is left
    module _ (stamp : ℕ) (late : clock_of r.published ≤ stamp)
        (left : Each (λ (o : Operation). stamp ≤ o.stamp) (operations_of n r.core k.rest)) where
      -- its clock shows the stamp
      shows_stamp : clock (set words r.core stamp) r.core ≡ stamp
      shows_stamp = get_or-set_same words r.core stamp 0 (omega (arith, mine.among, k.wide))

      -- another clock stays
      shows_others : (c : ℕ) → c ≢ r.core → clock (set words r.core stamp) c ≡ clock words c
      shows_others c other = get_or-set_other words r.core c stamp 0 other

      -- no clock falls
      rises_to : (c : ℕ) → clock words c ≤ clock (set words r.core stamp) c
      rises_to c = elim (cases_eq c r.core) [
        | inl own ↦ let e : clock words c ≡ clock_of r.published = ap (clock words) own ∙ mine.shows in
            let f : clock (set words r.core stamp) c ≡ stamp = ap (clock (set words r.core stamp)) own ∙ shows_stamp in
            omega (arith, e, f, late)
        | inr other ↦ omega (arith, shows_others c other)
      ]

      -- no clock is past what is left
      not_past : (o : Operation) → clock words (o.stamp % n) ≤ o.stamp → (o.stamp % n ≡ r.core → stamp ≤ o.stamp)
          → clock (set words r.core stamp) (o.stamp % n) ≤ o.stamp
      not_past o before own = elim (cases_eq (o.stamp % n) r.core) [
        | inl e ↦ let f : clock (set words r.core stamp) (o.stamp % n) ≡ stamp =
            ap (clock (set words r.core stamp)) e ∙ shows_stamp in omega (arith, f, own e)
        | inr e ↦ omega (arith, before, shows_others (o.stamp % n) e)
      ]

      -- publishing fits the rule
      pub publish_moves : Moves n all k.shared r.core words (set words r.core stamp) k.done k.done k.rest
          (with_stamp r stamp)
      publish_moves = record {
        wide = length-set words r.core stamp;
        order = k.order;
        claims = λ c h. get_or-set_other words r.core (n + c) stamp 0 (omega (arith, mine.among));
        rises = λ c h. rises_to c;
        others = λ c h other. shows_others c other;
        parts = λ c h other. refl;
        own = refl;
        mine = record {
          among = mine.among;
          made = mine.made;
          shows = shows_stamp ∙ sym (clock-push r.published stamp);
          climbs = climbs_on r.published stamp mine.climbs late;
          looks = each_map (λ (l : Look). (l.core < n) × (l.seen ≤ clock words l.core)) (λ (l : Look). (l.core < n)
              × (l.seen ≤ clock (set words r.core stamp) l.core)) (λ l h. (h.0, omega (arith, h.1, rises_to l.core)))
              r.looks mine.looks;
        };
        clocks = each_zip (λ (o : Operation). clock words (o.stamp % n) ≤ o.stamp) (λ (o : Operation). o.stamp % n
            ≡ r.core → stamp ≤ o.stamp) (λ (o : Operation). clock (set words r.core stamp) (o.stamp % n) ≤ o.stamp)
            not_past k.rest k.clocks (each_of_core n r.core (λ o. stamp ≤ o.stamp) k.rest left);
        passed = each_map (λ (o : Operation). (d : ℕ) → d < n → d ≢ o.stamp % n → o.stamp ≤ clock words d)
            (λ (o : Operation). (d : ℕ) → d < n → d ≢ o.stamp % n → o.stamp ≤ clock (set words r.core stamp) d)
            (λ o h d among other. omega (arith, h d among other, rises_to d)) k.done k.passed;
        cells = λ w h. get_or-set_other words r.core (n + n + w) stamp 0 (omega (arith, mine.among)) ∙ k.cells w h;
      }

    -- what is left of the core's list is its part of the rest
    pub left_here : todo (given v r) ≡ operations_of n r.core k.rest
    left_here =
        let live = given_is_live v.holding r is in
        let seen = k.views id v at in
        (λ i. drop (length r.made) (operations_of (seen.cores live i) r.core (seen.course live i)))
        ∙ left_is_rest n r.core all k.done k.rest r.made k.order mine.made

    -- the operation that the core has to make next is the next of all
    module _ (o : Operation) (left : List Operation) (next : todo (given v r) ≡ o ∷ left)
        (seen : (d : ℕ) → d < n → d ≢ r.core → o.stamp ≤ greatest d r.looks) where
      -- the other clocks are at or past its stamp
      pub behind : (d : ℕ) → d < n → d ≢ r.core → o.stamp ≤ clock words d
      behind d among other = omega (arith, seen d among other, greatest_le n words d r.looks mine.looks)

      -- it is the first of the rest
      pub first : IsFirstOf n r.core o left k.rest
      first = is_next n r.core words k.rest left o k.course.some_core
          (rising_rest k.done k.rest (subst Rising k.order k.course.rising)) k.clocks (sym left_here ∙ next) behind

      -- it follows what was made
      order_here : all ≡ k.done ++ o ∷ first.later
      order_here = k.order ∙ ap (λ l. k.done ++ l) first.whole

      -- it names a shared word and a value of 32 bits
      pub fits_here : Fits k.shared o
      fits_here = (each_rest (Fits k.shared) k.done (o ∷ first.later)
          (subst (Each (Fits k.shared)) order_here k.course.fits)).0

      -- its load has what was stored last
      pub reads_here : o.act.write ≡ false → o.act.value ≡ stored_last o.act.word k.done 0
      reads_here = reads_at [] k.done first.later o (subst (Reads []) order_here k.course.reads)

      -- making it, where clocks and claims stay
      pub make_moves : (words' : List ℕ) → length words' ≡ length words → ((c : ℕ) → c < n + n → get_or words' c 0
          ≡ get_or words c 0) → ((w : ℕ) → w < k.shared → cell n words' w ≡ stored_last w (k.done ++ o ∷ []) 0)
          → Moves n all k.shared r.core words words' k.done (k.done ++ o ∷ []) first.later (with_operation r o)
      make_moves words' wide same cells =
          let level = λ (c : ℕ) (h : c < n). same c (omega (arith, h)) in
          let known = λ (c : ℕ) (h : c < n). let e : clock words' c ≡ clock words c = level c h in e in
          let rest_clocks : Each (λ (q : Operation). clock words (q.stamp % n) ≤ q.stamp) (o ∷ first.later) =
          subst (Each (λ (q : Operation). clock words (q.stamp % n) ≤ q.stamp)) first.whole k.clocks in
          record {
            wide = wide;
            order = order_here ∙ sym (append_assoc k.done (o ∷ []) first.later);
            claims = λ c h. same (n + c) (omega (arith, h));
            rises = λ c h. omega (arith, known c h);
            others = λ c h other. known c h;
            parts = λ c h other. operations_of-push_other n c k.done o (λ e. other (sym e ∙ first.own));
            own = refl;
            mine = record {
              among = mine.among;
              made = ap (λ l. l ++ o ∷ []) mine.made ∙ sym (operations_of-push n r.core k.done o first.own);
              shows = known r.core mine.among ∙ mine.shows;
              climbs = mine.climbs;
              looks = each_map (λ (l : Look). (l.core < n) × (l.seen ≤ clock words l.core)) (λ (l : Look). (l.core < n)
                  × (l.seen ≤ clock words' l.core)) (λ l h. (h.0, omega (arith, h.1, known l.core h.0)))
                  r.looks mine.looks;
            };
            clocks = each_map (λ (q : Operation). clock words (q.stamp % n) ≤ q.stamp)
                (λ (q : Operation). clock words' (q.stamp % n) ≤ q.stamp)
                (λ q h. omega (arith, h, known (q.stamp % n) (mod_below q.stamp n k.course.some_core)))
                first.later rest_clocks.1;
            passed = each-append (λ (q : Operation). (d : ℕ) → d < n → d ≢ q.stamp % n → q.stamp ≤ clock words' d)
                k.done (o ∷ [])
                (each_map (λ (q : Operation). (d : ℕ) → d < n → d ≢ q.stamp % n → q.stamp ≤ clock words d)
                (λ (q : Operation). (d : ℕ) → d < n → d ≢ q.stamp % n → q.stamp ≤ clock words' d)
                (λ q h d among other. omega (arith, h d among other, known d among)) k.done k.passed)
                (λ d among other. omega (arith, behind d among (λ e. other (e ∙ sym first.own)), known d among), tt);
            cells = cells;
          }
