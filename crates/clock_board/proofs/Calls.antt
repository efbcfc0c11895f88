-- What the calls keep of a pass: its array, and its face.
use Rattle.std.proofs.Common.{◌≡◌, ◌≢◌, ℕ, ◌%◌, ◌<◌, max, List, [], ◌∷◌, ◌++◌, length, get_or, set, sym, refl, ap, ◌∙◌, subst, arith, inl, inr, eq-eqb, ne_eqb}
use Rattle.std.proofs.lemmas.Bool.{cases_eq}
use Rattle.std.proofs.lemmas.List.{get_or-set_same, get_or-set_other}
use Rattle.clock_board.specs.declared.known.View.{View}
use Rattle.clock_board.specs.declared.known.Holding.TheVariants.{Given}
use Rattle.clock_board.specs.Record.{greatest, with_look, with_operation}
use Rattle.clock_board.specs.View.{own, todo, given, IsGiven, IsNext}
use Rattle.clock_board.specs.Board.{Remembers, IsSeated}
use Rattle.clock_board.specs.Plays.{Place, makes}
use Rattle.clock_board.proofs.Order.{left_goes_on, each_of_operations}
use Rattle.std.specs.List.{AllByRecursion as Each}
use Rattle.shared_order.specs.Fit.{Fits}
use Rattle.shared_order.specs.declared.operation.Operation.{Operation}
use Rattle.shared_order.specs.Operation.{operations_of, load, store}
use Rattle.clock_board.proofs.Looked.{greatest-push}
use Rattle.shared_order.proofs.Lists.{each_rest}

-- the array after a look
remembers_look : (v : View) (core d found kept : ℕ) (seen : List ℕ) → v.holding ≡ Given (own v)
    → Remembers v.holding core seen → length seen ≡ 16 → kept ≡ max (get_or seen d 0) found
    → Remembers (given v (with_look (own v) d found)).holding core (set seen d kept)
remembers_look v core d found kept seen is h long best =
    let was : Remembers (Given (own v)) core seen = subst (λ x. Remembers x core seen) is h in (
      was.0,
      λ e among. elim (cases_eq e d) [
        | inl same ↦
            let here : get_or (set seen d kept) e 0 ≡ kept = ap (λ i. get_or (set seen d kept) i 0) same
            ∙ get_or-set_same seen d kept 0 (omega (arith, same, long)) in
            here ∙ best ∙ ap (λ x. max x found) (ap (λ i. get_or seen i 0) (sym same) ∙ was.1 e among)
            ∙ sym (greatest-push e (own v).looks d found ∙ rw (eq-eqb d e (sym same)) refl)
        | inr other ↦
            let zero : max (greatest e (own v).looks) 0 ≡ greatest e (own v).looks = omega arith in
            get_or-set_other seen d e kept 0 other ∙ was.1 e among ∙ sym (greatest-push e (own v).looks d found
            ∙ rw (ne_eqb d e (λ j. other (sym j))) zero)
      ],
    )

module _ (me me' : Place) (v : View) (core : ℕ) (seen : List ℕ) (e : me.0 ≡ v) (g : IsGiven v)
    (h : IsSeated me core seen) where
  -- a core's pass has its own record
  is_given : me.0.holding ≡ Given (own me.0)
  is_given = (subst IsGiven (sym e) g).role

  -- what a pass keeps after a look
  pub seated_look : (d found kept : ℕ) → me' ≡ (given me.0 (with_look (own me.0) d found), me.1) → length seen ≡ 16
      → kept ≡ max (get_or seen d 0) found → IsSeated me' core (set seen d kept)
  seated_look d found kept in_words long best =
      let after : IsSeated (given me.0 (with_look (own me.0) d found), me.1) core (set seen d kept) =
      record {
        no_slot = h.no_slot;
        few = h.few;
        array = remembers_look me.0 core d found kept seen is_given
            h.array long best;
      } in
      subst (λ (m : Place). IsSeated m core (set seen d kept)) (sym in_words) after

-- once a core's pass has made its next operation, it is a core's pass with the rest to do
given_more : (v : View) (o : Operation) (left : List Operation) → IsGiven v → todo v ≡ o ∷ left
    → (todo (given v (with_operation (own v) o)) ≡ left) × IsGiven (given v (with_operation (own v) o))
given_more v o left g next =
    let t = left_goes_on (own v).made left (operations_of v.cores (own v).core v.course) o
    (g.whole ∙ ap (λ l. (own v).made ++ l) next) in
    (t.0, record { role = refl; among = g.among; whole = t.1 ∙ ap (λ l. ((own v).made ++ o ∷ []) ++ l) (sym t.0) })

-- the view v' is v after the operation
pub record IsMade (v v' : View) (o : Operation) : Type 0 where
  pub kept : IsGiven v'
  pub made : v' ≡ given v (with_operation (own v) o)
  pub left : todo v ≡ o ∷ todo v'

-- where the view is told to be v with its next operation made, it is v after it
is_made : (v v' : View) (o : Operation) (left : List Operation) → IsGiven v → todo v ≡ o ∷ left → v'
    ≡ given v (with_operation (own v) o) → IsMade v v' o
is_made v v' o left g next in_words =
    let more = given_more v o left g next in
    record {
      kept = subst IsGiven (sym in_words) more.1;
      made = in_words;
      left = next
          ∙ ap (λ l. o ∷ l) (sym (ap todo in_words ∙ more.0));
    }

-- what is to be made next is of the course, and so names a word of the board
pub next_fits : (words : ℕ) (course : List Operation) (v : View) (o : Operation) → Each (Fits words) course → v.course
    ≡ course → IsGiven v → IsNext v o → o.act.word < words
next_fits words course v o fits same g next =
    let Ours : Operation → Type 0 = λ q. Fits words q × (q.stamp % v.cores ≡ (own v).core) in
    let ours : Each Ours (operations_of v.cores (own v).core v.course) =
    each_of_operations v.cores (own v).core (Fits words) v.course (subst (Each (Fits words)) (sym same) fits) in
    let these : Each Ours ((own v).made ++ (o ∷ next.0)) =
    subst (Each Ours) (g.whole ∙ ap (λ l. (own v).made ++ l) next.1) ours in
    (each_rest Ours (own v).made (o ∷ next.0) these).0.0.word

-- what a load that was made tells
pub made_load : (me me' : Place) (v : View) (found stamp word : ℕ) → me.0 ≡ v → IsGiven v → makes me found me'
    → (value : ℕ) × IsNext v (load stamp word value) → IsMade v me'.0 (load stamp word found)
made_load me me' v found stamp word e g in_words next =
    let value : ℕ = next.0 in
    let left : List Operation = next.1.0 in
    let t = in_words (load stamp word value) left (ap todo e ∙ next.1.1) in
    let now : todo v ≡ load stamp word found ∷ left = next.1.1 ∙ ap (λ x. load stamp word x ∷ left) (sym t.0) in
    let after : me'.0 ≡ given v (with_operation (own v) (load stamp word found)) =
    ap (λ (m : Place). m.0) t.2 ∙ ap (λ u. given u (with_operation (own u) (load stamp word value))) e
    ∙ ap (λ x. given v (with_operation (own v) (load stamp word x))) (sym t.0) in
    is_made v me'.0 (load stamp word found) left g now after

-- what a store that was made tells
pub made_store : (me me' : Place) (v : View) (stored stamp word : ℕ) → me.0 ≡ v → IsGiven v → makes me stored me'
    → IsNext v (store stamp word stored) → IsMade v me'.0 (store stamp word stored)
made_store me me' v stored stamp word e g in_words next =
    let t = in_words (store stamp word stored) next.0 (ap todo e ∙ next.1) in
    is_made v me'.0 (store stamp word stored) next.0 g next.1 (ap (λ (m : Place). m.0) t.2
    ∙ ap (λ u. given u (with_operation (own u) (store stamp word stored))) e)

-- the greatest look at the core that was looked at, and at another
module _ (me me' : Place) (v : View) (d found : ℕ) (e : me.0 ≡ v)
    (in_words : me' ≡ (given me.0 (with_look (own me.0) d found), me.1)) where
  -- the looks after a look
  looks_now : (own me'.0).looks ≡ (own v).looks ++ record { core = d; seen = found } ∷ []
  looks_now = ap (λ (m : Place). (own m.0).looks) in_words
      ∙ ap (λ u. (own u).looks ++ record { core = d; seen = found } ∷ []) e

  -- it is the greater of what was seen before and now
  pub seen_there : greatest d (own me'.0).looks ≡ max (greatest d (own v).looks) found
  seen_there = ap (greatest d) looks_now ∙ greatest-push d (own v).looks d found ∙ rw (eq-eqb d d refl) refl

  -- at another core it stays
  pub seen_others : (c : ℕ) → c ≢ d → greatest c (own me'.0).looks ≡ greatest c (own v).looks
  seen_others c other =
      let zero : max (greatest c (own v).looks) 0 ≡ greatest c (own v).looks = omega arith in
      ap (greatest c) looks_now ∙ greatest-push c (own v).looks d found ∙ rw (ne_eqb d c (λ j. other (sym j))) zero
