-- The rule in the form in which it is kept says what it says in words.
use Rattle.std.proofs.Common.{◌≡◌, ◌≢◌, ℕ, ◌%◌, ◌<◌, ◌≤◌, List, ◌++◌, sym, ap, ◌∙◌, subst, arith, inl, inr}
use Rattle.std.specs.List.{AllByRecursion as Each}
use Rattle.std.proofs.lemmas.Bool.{cases_eq}
use mathlib.Core.Option.{some, some-injective}
use lib.ListN.{get_elem?}
use Rattle.shared_order.specs.declared.operation.Operation.{Operation}
use Rattle.shared_order.specs.Operation.{operations_of}
use Rattle.shared_order.proofs.Lists.{each_map, operations_of-append}
use Rattle.clock_board.specs.declared.known.Record.{Record}
use Rattle.clock_board.specs.declared.known.View.{View}
use Rattle.clock_board.specs.View.{records_of}
use Rattle.clock_board.specs.Rule.{clock, claim, is_of, in_view, holders, IsTrueRecord, Kept}
use Rattle.clock_board.specs.InWords.{IsAt, IsFree, IsHeld, Tells, HoldsInWords}
use Rattle.clock_board.proofs.Lists.{each_at, none_counts, term_le, the_one}
use Rattle.clock_board.proofs.Order.{each_of_operations}
use Rattle.clock_board.proofs.Moved.{counts_own, counts_other, not_counted}

module _ (n : ℕ) (all : List Operation) (asked : ℕ → List ℕ → List Operation) (words : List ℕ) (seats : List View)
    (k : Kept n all asked words seats) where
  -- a record at a place is true
  true_at : (id j : ℕ) (r : Record) → IsAt seats id j r → IsTrueRecord n words k.done r
  true_at id j r at = each_at (IsTrueRecord n words k.done) (records_of at.view.holding) j r
      (k.views id at.view at.seat).records at.entry

  -- a core whose claim word is 0 is free
  free : (core : ℕ) → core < n → claim n words core ≡ 0 → IsFree n words seats k.done core
  free core among zero =
      let c = k.claims core among in
      let none : holders core seats ≡ 0 = c.one ∙ zero in
      record {
        bit = zero;
        shows = c.idle_clock zero;
        made = c.idle_made zero;
        none = λ id j r at.
            let there : in_view core at.view ≡ 0 =
            each_at (λ v. in_view core v ≡ 0) seats id at.view (none_counts (in_view core) seats none) at.seat in
            not_counted core r (each_at (λ q. is_of core q ≡ 0) (records_of at.view.holding) j r
            (none_counts (is_of core) (records_of at.view.holding) there) at.entry);
      }

  -- a core whose claim word is 1 is held once
  held : (core : ℕ) → core < n → claim n words core ≡ 1 → IsHeld n words seats core
  held core among one =
      let c = k.claims core among in
      let seat = the_one (in_view core) seats (c.one ∙ one) in
      let place = the_one (is_of core) (records_of seat.item.holding) seat.counts in
      let counted : is_of core place.item ≡ 1 = place.counts in
      record {
        bit = one;
        id = seat.index;
        place = place.index;
        kept = place.item;
        at = record { view = seat.item; seat = seat.there; entry = place.there };
        own = elim (cases_eq place.item.core core) [
          | inl same ↦ same
          | inr other ↦ absurd
              (let none : is_of core place.item ≡ 0 = counts_other core place.item other in omega (
                arith,
                none,
                counted,
              ))
        ];
        only = λ id j r at own.
            let here : 0 < is_of core r = omega (arith, counts_own core r own) in
            let more : is_of core r ≤ in_view core at.view =
            term_le (is_of core) (records_of at.view.holding) j r at.entry in
            let same : id ≡ seat.index = seat.only id at.view at.seat (omega (arith, here, more)) in
            let view : at.view ≡ seat.item =
            some-injective at.view seat.item (sym at.seat ∙ ap (get_elem? seats) same ∙ seat.there) in
            (same, place.only j r (subst (λ v. get_elem? (records_of v.holding) j ≡ some r) view at.entry) here);
      }

  -- what a true record tells
  tells : (r : Record) → IsTrueRecord n words k.done r → Tells n all words r
  tells r t = record {
    among = t.among;
    shows = t.shows;
    climbs = t.climbs;
    list = record {
      later = operations_of n r.core k.rest;
      whole = ap (operations_of n r.core) k.order ∙ operations_of-append n r.core k.done k.rest
          ∙ ap (λ l. l ++ operations_of n r.core k.rest) (sym t.made);
      from = each_map (λ (o : Operation). (clock words (o.stamp % n) ≤ o.stamp) × (o.stamp % n ≡ r.core))
          (λ (o : Operation). clock words r.core ≤ o.stamp) (λ o h. subst (λ c. clock words c ≤ o.stamp) h.1 h.0)
          (operations_of n r.core k.rest)
          (each_of_operations n r.core (λ o. clock words (o.stamp % n) ≤ o.stamp) k.rest k.clocks);
    };
    looks = t.looks;
    behind = subst (Each (λ (o : Operation). (d : ℕ) → d < n → d ≢ r.core → o.stamp ≤ clock words d)) (sym t.made)
        (each_map (λ (o : Operation). ((d : ℕ) → d < n → d ≢ o.stamp % n → o.stamp ≤ clock words d)
        × (o.stamp % n ≡ r.core)) (λ (o : Operation). (d : ℕ) → d < n → d ≢ r.core → o.stamp ≤ clock words d)
        (λ o h d among other. h.0 d among (λ e. other (e ∙ h.1))) (operations_of n r.core k.done)
        (each_of_operations n r.core (λ o. (d : ℕ) → d < n → d ≢ o.stamp % n → o.stamp ≤ clock words d)
        k.done k.passed));
  }

  -- all that the rule says
  pub in_words : HoldsInWords n all words seats
  in_words = record {
    done = k.done;
    begins = (k.rest, k.order);
    claims = λ core among. let c = k.claims core among in elim (cases_eq (claim n words core) 0) [
      | inl zero ↦ inl (free core among zero)
      | inr some_one ↦ inr (held core among (omega (arith, c.bit)))
    ];
    made = λ id j r at. (true_at id j r at).made;
    records = λ id j r at. tells r (true_at id j r at);
    cells = λ w within. k.cells w (omega (arith, within, k.wide));
  }
