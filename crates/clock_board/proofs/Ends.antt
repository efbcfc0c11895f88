-- What the words of a closed board tell.
use Rattle.std.proofs.Common.{◌≡◌, ℕ, zero, suc, ◌+◌, ◌^◌, ◌%◌, ◌==◌, ◌&&◌, ◌<◌, ◌≤◌, Bool, true, false, cond, List, [], ◌∷◌, ◌++◌, length, get_or, sym, refl, ap, ◌∙◌, subst, arith, append-nil, lit<, inl, inr}
use Rattle.std.specs.List.{AllByRecursion as Each}
use Rattle.std.proofs.lemmas.Nat.{mod_below}
use Rattle.std.proofs.lemmas.Bool.{cases_eq}
use Rattle.std.proofs.lemmas.List.{get_or_push}
use Rattle.std.proofs.Math.ListN.{get_or-append}
use mathlib.Core.Option.{some, some-injective, some-ne-none}
use lib.ListN.{get_elem?}
use Rattle.atomic_table.specs.Table.{Final, Seen}
use Rattle.shared_order.specs.declared.operation.Operation.{Operation}
use Rattle.shared_order.specs.Operation.{operations_of}
use Rattle.shared_order.specs.Words.{stored_last}
use Rattle.shared_order.specs.Fit.{Fits}
use Rattle.shared_order.proofs.Lists.{each_map, each_first, each_rest, each_at}
use Rattle.clock_board.specs.declared.known.Record.{Record}
use Rattle.clock_board.specs.declared.known.View.{View}
use Rattle.clock_board.specs.Record.{clock_of}
use Rattle.clock_board.specs.View.{back, records_of, IsMaker}
use Rattle.clock_board.specs.Rule.{clock, cell, IsTrueRecord, Kept}
use Rattle.clock_board.specs.Board.{BoardFace}
use Rattle.clock_board.specs.End.{IsEnd, AllPast}
use Rattle.clock_board.proofs.Asked.{holds}

-- a word that was read is the one that the list has there
pub read_at : (xs : List ℕ) (i x : ℕ) → get_elem? xs i ≡ some x → get_or xs i 0 ≡ x
read_at [] i x e = absurd (some-ne-none x (sym e))
read_at (y ∷ ys) zero x e = some-injective y x e
read_at (y ∷ ys) (suc i) x e = read_at ys i x e

-- copied so far, and one word more
pub copied_more : (xs ys : List ℕ) (first i x : ℕ) → length xs ≡ i → ((j : ℕ) → j < i → get_or xs j 0
    ≡ get_or ys (first + j) 0) → get_or ys (first + i) 0 ≡ x → (j : ℕ) → j < i + 1 → get_or (xs ++ x ∷ []) j 0
    ≡ get_or ys (first + j) 0
copied_more xs ys first i x long before last j h = elim (cases_eq j i) [
  | inl same ↦ get_or_push xs x 0 j (long ∙ sym same) ∙ sym last ∙ ap (λ k. get_or ys (first + k) 0) (sym same)
  | inr other ↦ let lower : j < i =
      omega arith in get_or-append xs (x ∷ []) 0 j (omega (arith, lower, long)) ∙ before j lower
]

-- what was stored last by operations that fit is of 32 bits
stored_small : (shared word : ℕ) (os : List Operation) (begun : ℕ) → Each (Fits shared) os → begun < 2 ^ 32
    → stored_last word os begun < 2 ^ 32
stored_small shared word [] begun h small = small
stored_small shared word (o ∷ os) begun h small = stored_small shared word os
    (cond (o.act.write && (o.act.word == word)) o.act.value begun) h.1 (by (o.act.write && (o.act.word == word)))
  where
    by : (b : Bool) → cond b o.act.value begun < 2 ^ 32
    by true = h.0.value
    by false = small

module _ (n : ℕ) (all : List Operation) (asked : ℕ → List ℕ → List Operation) (words : List ℕ) (slots : List Unit)
    (id : ℕ) (v : View) (end : Final (Seen (holds n all asked) id v) words slots)
    (shared first : ℕ) (wide : length words ≡ n + n + shared) (at_first : first ≡ n + n) where
  -- the rule at the end
  kept : Kept n all asked end.0.words end.0.views
  kept = end.1.0

  -- the rule speaks of as many shared words as the board has
  same_shared : kept.shared ≡ shared
  same_shared = omega (arith, kept.wide, wide, ap length end.2)

  -- a shared word has what was stored last in it
  stored : (w : ℕ) → w < shared → get_or words (first + w) 0 ≡ stored_last w kept.done 0
  stored w within = ap (λ f. get_or words (f + w) 0) at_first ∙ ap (λ l. cell n l w) (sym end.2)
      ∙ kept.cells w (omega (arith, within, same_shared))

  -- so it is of 32 bits
  pub word_small : (w : ℕ) → w < shared → get_or words (first + w) 0 < 2 ^ 32
  word_small w within =
      let fits : Each (Fits kept.shared) kept.done = each_first (Fits kept.shared) kept.done kept.rest
      (subst (Each (Fits kept.shared)) kept.order kept.course.fits) in
      subst (λ x. x < 2 ^ 32) (sym (stored w within)) (stored_small kept.shared w kept.done 0 fits (lit< tt))

  module _ (b : BoardFace) (same_cores : n ≡ b.cores) (same_course : all ≡ b.course) (same_words : shared ≡ b.words)
      (is : IsMaker v) (answer : List ℕ) (copied : (w : ℕ) → w < shared → get_or answer w 0
      ≡ get_or words (first + w) 0) where
    -- the records that came back are true
    records : Each (IsTrueRecord n end.0.words kept.done) (back v)
    records = subst (Each (IsTrueRecord n end.0.words kept.done)) (ap records_of is) (kept.views id v end.1.1).records

    -- the answer has what was stored last by all that was made
    pub ended : IsEnd b (back v) answer
    ended = record {
      done = kept.done;
      rest = kept.rest;
      order = sym same_course ∙ kept.order;
      made = each_map (IsTrueRecord n end.0.words kept.done) (λ (r : Record). r.made
          ≡ operations_of b.cores r.core kept.done) (λ r t. t.made
          ∙ ap (λ c. operations_of c r.core kept.done) same_cores) (back v) records;
      words = λ w within. let here : w < shared = omega (arith, within, same_words) in copied w here ∙ stored w here;
    }

    -- where all have published past the course, nothing of it is left
    nothing_left : (limit : ℕ) (rest : List Operation) → kept.rest ≡ rest → AllPast b (back v) limit → rest ≡ []
    nothing_left limit [] e past = refl
    nothing_left limit (o ∷ rest) e past =
        let core : ℕ = o.stamp % n in
        let among : core < b.cores = omega (arith, mod_below o.stamp n kept.course.some_core, same_cores) in
        let before : Each (λ (q : Operation). q.stamp < limit) (kept.done ++ o ∷ rest) =
        subst (Each (λ (q : Operation). q.stamp < limit)) (sym same_course ∙ kept.order
        ∙ ap (λ l. kept.done ++ l) e) past.below in
        let low : o.stamp < limit = (each_rest (λ (q : Operation). q.stamp < limit) kept.done (o ∷ rest) before).0 in
        let clocks : Each (λ (q : Operation). clock end.0.words (q.stamp % n) ≤ q.stamp) (o ∷ rest) =
        subst (Each (λ (q : Operation). clock end.0.words (q.stamp % n) ≤ q.stamp)) e kept.clocks in
        let found = past.past core among in
        let r : Record = found.1 in
        let t : IsTrueRecord n end.0.words kept.done r = subst (IsTrueRecord n end.0.words kept.done) found.3
        (each_at (IsTrueRecord n end.0.words kept.done) (back v) found.0 r records found.2) in
        let shows : clock end.0.words core ≡ clock_of r.published = ap (clock end.0.words) (sym found.4.0) ∙ t.shows in
        absurd (omega (arith, low, clocks.0, shows, found.4.1))

    -- the words after the whole course
    pub whole : (limit w : ℕ) → AllPast b (back v) limit → w < b.words → get_or answer w 0 ≡ stored_last w b.course 0
    whole limit w past within =
        let here : w < shared = omega (arith, within, same_words) in
        let done : b.course ≡ kept.done = sym same_course ∙ kept.order
        ∙ ap (λ l. kept.done ++ l) (nothing_left limit kept.rest refl past) ∙ append-nil kept.done in
        copied w here ∙ stored w here ∙ ap (λ l. stored_last w l 0) (sym done)
