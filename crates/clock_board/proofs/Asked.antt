-- What the table asks of each step of a core's pass.
use Rattle.std.proofs.Common.{◌≡◌, ◌≢◌, ℕ, ◌+◌, ◌^◌, ◌<◌, ◌≤◌, false, List, [], ◌∷◌, ◌++◌, length, get_or, set, sym, refl, ap, ◌∙◌, subst, arith, inl, inr, eq-eqb, ne_eqb}
use Rattle.std.specs.List.{AllByRecursion as Each}
use Rattle.std.proofs.lemmas.Bool.{cases_eq}
use Rattle.std.proofs.lemmas.List.{get_or-set_same, get_or-set_other, set-get_or}
use Rattle.std.proofs.Math.ListN.{length-set}
use mathlib.Core.Option.{some}
use lib.ListN.{get_elem?}
use Rattle.atomic_table.specs.Table.{State, keeps, Allows}
use Rattle.shared_order.specs.declared.operation.Operation.{Operation}
use Rattle.shared_order.specs.Operation.{load, store}
use Rattle.shared_order.specs.Words.{stored_last}
use Rattle.shared_order.specs.Fit.{Fits}
use Rattle.shared_order.proofs.Words.{stored_last-append}
use Rattle.clock_board.specs.declared.known.Record.{Record}
use Rattle.clock_board.specs.declared.known.Holding.TheVariants.{Given}
use Rattle.clock_board.specs.declared.known.View.{View}
use Rattle.clock_board.specs.Record.{clock_of, greatest, with_look, with_stamp, with_operation}
use Rattle.clock_board.specs.View.{own, given, todo, IsGiven, HasSeen}
use Rattle.clock_board.specs.Rule.{clock, cell, Kept}
use Rattle.clock_board.specs.Plays.{Place, looks, publishes, makes}
use Rattle.clock_board.proofs.Order.{same_first}
use Rattle.clock_board.proofs.Moved.{moved, given_is_live}
use Rattle.clock_board.proofs.Steps.{look_moves, publish_moves, left_here, first, fits_here, reads_here, make_moves}

module _ (n : ℕ) (all : List Operation) (asked : ℕ → List ℕ → List Operation) where
  -- the rule of a board with this course
  abbrev pub holds : State Unit View → Type 0
  holds s = Kept n all asked s.words s.views

  -- a core's pass has its own record
  is_given : (me : Place) (v : View) → me.0 ≡ v → IsGiven v → me.0.holding ≡ Given (own me.0)
  is_given me v e g = (subst IsGiven (sym e) g).role

  -- a look at core d's clock keeps the rule and tells what it showed
  pub may_look : (slots id : ℕ) (me : Place) (v : View) (d : ℕ) → me.0 ≡ v → IsGiven v → d < n
      → Allows holds slots id me d (λ w. w) (looks d me)
  may_look slots id me v d e g among s k homes at wide =
      let is = is_given me v e g in
      let r : Record = own me.0 in
      let w : View = given me.0 (with_look r d (clock s.words d)) in (
        w,
        keeps,
        tt,
        subst (λ ws. Kept n all asked ws (set s.views id w)) (sym (set-get_or s.words d 0))
            (moved n all asked s.words s.views k id me.0 r at is s.words k.done k.rest (with_look r d (clock s.words d))
            (look_moves n all asked s.words s.views k id me.0 r at is d among)),
        refl,
      )

  -- so does the publishing of a stamp at or past the clock, and not past what is left
  pub may_publish : (slots id : ℕ) (me : Place) (v : View) (core stamp : ℕ) → me.0 ≡ v → IsGiven v → (own v).core ≡ core
      → clock_of (own v).published ≤ stamp → Each (λ (o : Operation). stamp ≤ o.stamp) (todo v)
      → Allows holds slots id me core (λ _. stamp) (λ _. publishes me stamp)
  may_publish slots id me v core stamp e g is_own late left s k homes at wide =
      let is = is_given me v e g in
      let r : Record = own me.0 in
      let w : View = given me.0 (with_stamp r stamp) in
      let here : r.core ≡ core = ap (λ u. (own u).core) e ∙ is_own in
      let late' : clock_of r.published ≤ stamp = subst (λ u. clock_of (own u).published ≤ stamp) (sym e) late in
      let left' = subst (Each (λ (o : Operation). stamp ≤ o.stamp)) (left_here n all asked s.words s.views k id me.0 r
      at is) (subst (λ u. Each (λ (o : Operation). stamp ≤ o.stamp) (todo u)) (sym e) left) in (
        w,
        keeps,
        tt,
        subst (λ c. Kept n all asked (set s.words c stamp) (set s.views id w)) here
            (moved n all asked s.words s.views k id me.0 r at is (set s.words r.core stamp) k.done k.rest
            (with_stamp r stamp) (publish_moves n all asked s.words s.views k id me.0 r at is stamp late' left')),
        refl,
      )

  -- what is told of the operation that was to be made is told of it by any name
  in_words : (me : Place) (value : ℕ) (o : Operation) (left : List Operation) → todo me.0 ≡ o ∷ left → value
      ≡ o.act.value → value < 2 ^ 32
      → makes me value (given me.0 (with_operation (own me.0) o), me.1)
  in_words me value o left next is small o' left' next' =
      let same : o ≡ o' = (same_first o o' left left' (sym next ∙ next')).0 in (
        is ∙ ap (λ (q : Operation). q.act.value) same,
        small,
        λ i. (given me.0 (with_operation (own me.0) (same i)), me.1),
      )

  module _ (slots id : ℕ) (me : Place) (v : View) (word stamp value i : ℕ) (left : List Operation) (e : me.0 ≡ v)
      (g : IsGiven v) (seen : HasSeen v stamp) (at_word : i ≡ v.cores + v.cores + word) where
    -- of a state of the table
    module _ (s : State Unit View) (k : holds s) (at : get_elem? s.views id ≡ some me.0) where
      -- the view is of this course
      cores_here : me.0.cores ≡ n
      cores_here = (k.views id me.0 at).cores (given_is_live me.0.holding (own me.0) (is_given me v e g))

      -- the word is the shared word
      word_here : i ≡ n + n + word
      word_here = at_word ∙ ap (λ u. u.cores + u.cores + word) (sym e) ∙ ap (λ c. c + c + word) cores_here

      -- the other clocks were seen at or past the stamp
      seen_here : (d : ℕ) → d < n → d ≢ (own me.0).core → stamp ≤ greatest d (own me.0).looks
      seen_here d among other =
          (subst (λ u. HasSeen u stamp) (sym e) seen) d (subst (λ c. d < c) (sym cores_here) among) other

    -- the operation is next of all, of whichever kind it is
    module _ (o : Operation) (at_stamp : o.stamp ≡ stamp) (next : todo v ≡ o ∷ left) (s : State Unit View) (k : holds s)
        (at : get_elem? s.views id ≡ some me.0) where
      -- the view is a core's
      is : me.0.holding ≡ Given (own me.0)
      is = is_given me v e g

      -- the operation is next for this view
      next_here : todo me.0 ≡ o ∷ left
      next_here = ap todo e ∙ next

      -- the other clocks were seen at or past its stamp
      seen_at : (d : ℕ) → d < n → d ≢ (own me.0).core → o.stamp ≤ greatest d (own me.0).looks
      seen_at d among other =
          subst (λ t. t ≤ greatest d (own me.0).looks) (sym at_stamp) (seen_here s k at d among other)

      -- it names a shared word and a value of 32 bits
      pub fits : Fits k.shared o
      fits = fits_here n all asked s.words s.views k id me.0 (own me.0) at is o left next_here seen_at

      -- where it is a load, its value is what was stored last in the word
      pub reads : o.act.write ≡ false → o.act.value ≡ stored_last o.act.word k.done 0
      reads = reads_here n all asked s.words s.views k id me.0 (own me.0) at is o left next_here seen_at

      -- the rule after the operation
      pub made : (words' : List ℕ) → length words' ≡ length s.words → ((c : ℕ) → c < n + n → get_or words' c 0
          ≡ get_or s.words c 0) → ((w : ℕ) → w < k.shared → cell n words' w ≡ stored_last w (k.done ++ o ∷ []) 0)
          → Kept n all asked words' (set s.views id (given me.0 (with_operation (own me.0) o)))
      made words' wide same cells =
          moved n all asked s.words s.views k id me.0 (own me.0) at is words' (k.done ++ o ∷ [])
          (first n all asked s.words s.views k id me.0 (own me.0) at is o left next_here seen_at).later
          (with_operation (own me.0) o)
          (make_moves n all asked s.words s.views k id me.0 (own me.0) at is o left next_here seen_at words'
          wide same cells)

    -- a load of what is next keeps the rule and gives the course's value
    pub may_load : todo v ≡ load stamp word value ∷ left → Allows holds slots id me i (λ w. w) (makes me)
    may_load next s k homes at wide =
        let o : Operation = load stamp word value in
        let f = fits o refl next s k at in
        let found : get_or s.words i 0 ≡ value = ap (λ j. get_or s.words j 0) (word_here s k at) ∙ k.cells word f.word
        ∙ sym (reads o refl next s k at refl) in
        let kept = made o refl next s k at s.words refl (λ c h. refl) (λ w h. k.cells w h
        ∙ sym (stored_last-append w k.done (o ∷ []) 0)) in (
          given me.0 (with_operation (own me.0) o),
          keeps,
          tt,
          subst (λ ws. Kept n all asked ws (set s.views id (given me.0 (with_operation (own me.0) o))))
              (sym (set-get_or s.words i 0)) kept,
          in_words me (get_or s.words i 0) o left (ap todo e ∙ next) found
              (subst (λ x. x < 2 ^ 32) (sym found) f.value),
        )

    -- the words after the store
    stored_cell : (s : State Unit View) (k : holds s) → word < k.shared → (w : ℕ) → w < k.shared
        → cell n (set s.words (n + n + word) value) w ≡ stored_last w (k.done ++ store stamp word value ∷ []) 0
    stored_cell s k within w h =
        let after = stored_last-append w k.done (store stamp word value ∷ []) 0 in
        elim (cases_eq w word) [
          | inl same ↦
              let here : cell n (set s.words (n + n + word) value) w ≡ value =
              ap (cell n (set s.words (n + n + word) value)) same ∙ get_or-set_same s.words (n + n + word) value 0
              (omega (arith, within, k.wide)) in
              here ∙ sym (after ∙ rw (eq-eqb word w (sym same)) refl)
          | inr other ↦
              let there : cell n (set s.words (n + n + word) value) w ≡ stored_last w k.done 0 =
              get_or-set_other s.words (n + n + word) (n + n + w) value 0 (λ j. other (omega arith))
              ∙ k.cells w h in
              there ∙ sym (after ∙ rw (ne_eqb word w (λ j. other (sym j))) refl)
        ]

    -- a store of what is next keeps the rule
    pub may_store : todo v ≡ store stamp word value ∷ left → Allows holds slots id me i (λ _. value) (λ _.
        makes me value)
    may_store next s k homes at wide =
        let o : Operation = store stamp word value in
        let f = fits o refl next s k at in
        let kept = made o refl next s k at (set s.words (n + n + word) value) (length-set s.words (n + n + word) value)
        (λ c h. get_or-set_other s.words (n + n + word) c value 0 (omega (arith, h))) (stored_cell s k f.word) in (
          given me.0 (with_operation (own me.0) o),
          keeps,
          tt,
          subst (λ j. Kept n all asked (set s.words j value)
              (set s.views id (given me.0 (with_operation (own me.0) o)))) (sym (word_here s k at)) kept,
          in_words me value o left (ap todo e ∙ next) refl f.value,
        )
