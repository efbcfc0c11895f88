-- The functions that are marked from the entry downwards are those that are reached.
use Rattle.std.proofs.Common.{◌≡◌, ℕ, zero, suc, ◌+◌, ◌<◌, ◌≤◌, ◌==◌, ◌||◌, Bool, true, false, if◌then◌else◌, List, length, slice_index_or, refl, ap, sym, ◌∙◌, subst, arith, inl, inr, true≢false, drop, get_or, replicate, slice_set, get_or-set_other}
use Rattle.std.specs.Prelude.{◌⊎◌}
use Rattle.std.proofs.lemmas.Grind.{get_or-set_at}
use Rattle.std.proofs.lemmas.List.{at_drop_all}
use Rattle.std.proofs.lemmas.Bool.{or_left, or_right, eqb-true, eqb-false, eq-eqb, cases_lt}
use Rattle.tc_word.proofs.Items.{drop_item}
use Rattle.sp_shape.specs.Shown.{plain_part, parts_of, functions_of}
use Rattle.sp_shape.specs.declared.parts.Part.{Part}
use Rattle.sp_shape.specs.Formed.{functions_formed}
use Rattle.sp_shape.specs.Parts.{PlainPart, straight, repeats, calls_to, leaves, PlainParts, no_part, part}
use Rattle.cycle_bound.specs.Nodes.{part_nodes, parts_nodes, functions_nodes}
use Rattle.cycle_bound.specs.Calls.{PartCallsBelow, CallsBelow}
use Rattle.cycle_bound.proofs.Earlier.{functions_below}
use Rattle.bound_persist.specs.Marks.{is_marked, HaveBelow, AreMarks}
use Rattle.bound_persist.specs.Reached.{part_reaches, parts_reach, reaches}

-- one of two is true
or_true : (a b : Bool) → (a || b) ≡ true → (a ≡ true) ⊎ (b ≡ true)
or_true true b is = inl refl
or_true false b is = inr is

-- ---- what parts call

-- a function that is called and passes a test
record Calls (f : ℕ → Bool) (k : ℕ) (called : Bool) : Type 0 where
  passes : f k ≡ true
  is : called ≡ true

mutual
  part_one : (f : ℕ → Bool) (p : PlainPart) → part_reaches f p ≡ true → (k : ℕ)
      × Calls f k (part_reaches (λ i. i == k) p)
  part_one f (straight bs) is = absurd (true≢false (sym is))
  part_one f (repeats count body tail) is = calls_one f body is
  part_one f (calls_to k tail) is = (k, record { passes = is; is = eq-eqb k k refl })
  part_one f (leaves tail) is = absurd (true≢false (sym is))

  calls_one : (f : ℕ → Bool) (ps : PlainParts) → parts_reach f ps ≡ true → (k : ℕ)
      × Calls f k (parts_reach (λ i. i == k) ps)
  calls_one f no_part is = absurd (true≢false (sym is))
  calls_one f (part p rest) is = elim (or_true (part_reaches f p) (parts_reach f rest) is) [
    | inl here ↦ let h = part_one f p here in (
      h.0,
      record {
        passes = h.1.passes;
        is = or_left (part_reaches (λ i. i == h.0) p)
            (parts_reach (λ i. i == h.0) rest) h.1.is;
      },
    )
    | inr later ↦ let h = calls_one f rest later in (
      h.0,
      record {
        passes = h.1.passes;
        is = or_right (part_reaches (λ i. i == h.0) p)
            (parts_reach (λ i. i == h.0) rest) h.1.is;
      },
    )
  ]

mutual
  part_all : (f : ℕ → Bool) (p : PlainPart) (k : ℕ) → f k ≡ true → part_reaches (λ i. i == k) p ≡ true
      → part_reaches f p ≡ true
  part_all f (straight bs) k passes is = is
  part_all f (repeats count body tail) k passes is = calls_all f body k passes is
  part_all f (calls_to i tail) k passes is = ap f (eqb-true i k is) ∙ passes
  part_all f (leaves tail) k passes is = is

  calls_all : (f : ℕ → Bool) (ps : PlainParts) (k : ℕ) → f k ≡ true → parts_reach (λ i. i == k) ps ≡ true
      → parts_reach f ps ≡ true
  calls_all f no_part k passes is = is
  calls_all f (part p rest) k passes is =
      elim (or_true (part_reaches (λ i. i == k) p) (parts_reach (λ i. i == k) rest) is) [
        | inl here ↦ or_left (part_reaches f p) (parts_reach f rest) (part_all f p k passes here)
        | inr later ↦ or_right (part_reaches f p) (parts_reach f rest) (calls_all f rest k passes later)
      ]

mutual
  part_less : (n k : ℕ) (p : PlainPart) → PartCallsBelow n p → part_reaches (λ i. i == k) p ≡ true → k < n
  part_less n k (straight bs) h is = absurd (true≢false (sym is))
  part_less n k (repeats count body tail) h is = calls_less n k body h is
  part_less n k (calls_to i tail) h is = let same = eqb-true i k is in omega (arith, h, same)
  part_less n k (leaves tail) h is = absurd (true≢false (sym is))

  calls_less : (n k : ℕ) (ps : PlainParts) → CallsBelow n ps → parts_reach (λ i. i == k) ps ≡ true → k < n
  calls_less n k no_part h is = absurd (true≢false (sym is))
  calls_less n k (part p rest) h is =
      elim (or_true (part_reaches (λ i. i == k) p) (parts_reach (λ i. i == k) rest) is) [
        | inl here ↦ part_less n k p h.0 here
        | inr later ↦ calls_less n k rest h.1 later
      ]

-- ---- what is reached

module _ (fs : List PlainParts) where
  abbrev at_number : ℕ → PlainParts
  at_number k = slice_index_or fs k no_part

  abbrev over : ℕ → ℕ → ℕ → Bool → Bool
  over j n k b = if b then (j == n || parts_reach (reaches fs j n) (at_number n)) else reaches fs j n k

  pub reaches_itself : (k n : ℕ) → k < n → reaches fs k n k ≡ true
  reaches_itself k zero less = absurd (omega (arith, less))
  reaches_itself k (suc n) less = by (λ l. reaches_itself k n l) (k == n) refl
    where
      by : (k < n → reaches fs k n k ≡ true) → (b : Bool) → (k == n) ≡ b → over k n k b ≡ true
      by earlier true same = or_left (k == n) (parts_reach (reaches fs k n) (at_number n)) same
      by earlier false other = earlier (let ne = eqb-false k n other in omega (arith, less, ne))

  onwards : HaveBelow fs → (m j n k : ℕ) → n ≤ length fs → reaches fs m n k ≡ true
      → parts_reach (λ i. i == j) (at_number m) ≡ true → reaches fs j n k ≡ true
  onwards below m j zero k within is calls = absurd (true≢false (sym is))
  onwards below m j (suc n) k within is calls =
      by (λ i h. onwards below m j n i (omega (arith, within)) h calls) (k == n) is
    where
      by : ((i : ℕ) → reaches fs m n i ≡ true → reaches fs j n i ≡ true) → (b : Bool) → over m n k b ≡ true
          → over j n k b ≡ true
      by earlier true h = elim (or_true (m == n) (parts_reach (reaches fs m n) (at_number n)) h) [
        | inl same ↦
            let here : parts_reach (λ i. i == j) (at_number n) ≡ true =
            subst (λ x. parts_reach (λ i. i == j) (at_number x) ≡ true) (eqb-true m n same) calls in
            let less : j < n = calls_less n j (at_number n) (below n (omega (arith, within))) here in
            or_right (j == n) (parts_reach (reaches fs j n) (at_number n)) (calls_all (reaches fs j n) (at_number n) j
            (reaches_itself j n less) here)
        | inr called ↦
            let one = calls_one (reaches fs m n) (at_number n) called in
            or_right (j == n) (parts_reach (reaches fs j n) (at_number n))
            (calls_all (reaches fs j n) (at_number n) one.0 (earlier one.0 one.1.passes) one.1.is)
      ]
      by earlier false h = earlier k h

  module _ (set : List Bool) (closed : (k : ℕ) → k < length fs → is_marked set k ≡ true → (j : ℕ) → parts_reach (λ i. i
      == j) (at_number k) ≡ true → is_marked set j ≡ true) where
    all_marked : (j n k : ℕ) → n ≤ length fs → is_marked set k ≡ true → reaches fs j n k ≡ true → is_marked set j ≡ true
    all_marked j zero k within marked is = absurd (true≢false (sym is))
    all_marked j (suc n) k within marked is =
        by (λ i m h. all_marked j n i (omega (arith, within)) m h) (k == n) refl is
      where
        by : ((i : ℕ) → is_marked set i ≡ true → reaches fs j n i ≡ true → is_marked set j ≡ true) → (b : Bool)
            → (k == n) ≡ b → over j n k b ≡ true → is_marked set j ≡ true
        by earlier true same h =
            let here : is_marked set n ≡ true = subst (λ x. is_marked set x ≡ true) (eqb-true k n same) marked in
            elim (or_true (j == n) (parts_reach (reaches fs j n) (at_number n)) h) [
              | inl is ↦ subst (λ x. is_marked set x ≡ true) (sym (eqb-true j n is)) here
              | inr called ↦
                  let one = calls_one (reaches fs j n) (at_number n) called in
                  earlier one.0 (closed n (omega (arith, within)) here one.0 one.1.is) one.1.passes
            ]
        by earlier false other h = earlier k marked h

-- ---- the marks are what is reached

pub both_ways : (a b : Bool) → (a ≡ true → b ≡ true) → (b ≡ true → a ≡ true) → a ≡ b
both_ways true b f g = sym (f refl)
both_ways false true f g = absurd (true≢false (sym (g refl)))
both_ways false false f g = refl

pub marks_are : (fs : List PlainParts) (entry : ℕ) (set : List Bool) → AreMarks fs entry 0 set → (j : ℕ)
    → is_marked set j ≡ reaches fs j (length fs) entry
marks_are fs entry set h j =
    both_ways (is_marked set j) (reaches fs j (length fs) entry) (h.sound j)
    (all_marked fs set (λ k less marked i calls. h.closed k (omega arith) less marked i calls) j (length fs) entry
    (omega arith) h.first)

-- one function more, that is marked
pub marks_more : (fs : List PlainParts) (entry number : ℕ) (ps : PlainParts) (was now : List Bool) → HaveBelow fs
    → number < length fs → slice_index_or fs number no_part ≡ ps
    → is_marked was number ≡ true → ((j : ℕ) → is_marked now j ≡ (is_marked was j || parts_reach (λ i. i == j) ps))
    → AreMarks fs entry (number + 1) was → AreMarks fs entry number now
marks_more fs entry number ps was now below within own marked change h = record {
  first = stays entry h.first;
  sound = λ j is. elim (or_true (is_marked was j) (parts_reach (λ i. i == j) ps) (sym (change j) ∙ is)) [
    | inl before ↦ h.sound j before
    | inr called ↦ onwards fs below number j (length fs) entry (omega arith) (h.sound number marked)
        (subst (λ qs. parts_reach (λ i. i == j) qs ≡ true) (sym own) called)
  ];
  closed = λ k from less is j calls. elim (cases_lt number k) [
    | inl later ↦ elim (or_true (is_marked was k) (parts_reach (λ i. i == k) ps) (sym (change k) ∙ is)) [
      | inl before ↦ stays j (h.closed k (omega (arith, later)) less before j calls)
      | inr called ↦
          let few : k < number = calls_less number k (slice_index_or fs number no_part) (below number within) (subst
          (λ qs. parts_reach (λ i. i == k) qs ≡ true) (sym own) called) in
          absurd (omega (arith, few, later))
    ]
    | inr here ↦
        let same : k ≡ number = omega (arith, from, here) in
        change j ∙ or_right (is_marked was j) (parts_reach (λ i. i == j) ps) (subst (λ qs. parts_reach (λ i. i == j) qs
        ≡ true) (ap (λ x. slice_index_or fs x no_part) same ∙ own) calls)
  ];
}
  where
    stays : (j : ℕ) → is_marked was j ≡ true → is_marked now j ≡ true
    stays j before = change j ∙ or_left (is_marked was j) (parts_reach (λ i. i == j) ps) before

-- one that is not
pub marks_pass : (fs : List PlainParts) (entry number : ℕ) (set : List Bool) → is_marked set number ≡ false
    → AreMarks fs entry (number + 1) set → AreMarks fs entry number set
marks_pass fs entry number set none h = record {
  first = h.first;
  sound = h.sound;
  closed = λ k from less is j calls. elim (cases_lt number k) [
    | inl later ↦ h.closed k (omega (arith, later)) less is j calls
    | inr here ↦
        let same : k ≡ number = omega (arith, from, here) in
        absurd (true≢false (sym is ∙ ap (λ x. is_marked set x) same ∙ none))
  ];
}

-- ---- what is written

pub marked_one : (set : List Bool) (k j : ℕ) → k < length set → is_marked (slice_set set k true) j
    ≡ (is_marked set j || (k == j))
marked_one set k j room = by (k == j) refl
  where
    by : (b : Bool) → (k == j) ≡ b → is_marked (slice_set set k true) j ≡ (is_marked set j || b)
    by true same =
        get_or-set_at set k j true false (sym (eqb-true k j same)) room ∙ sym (or_right (is_marked set j) true refl)
    by false other = get_or-set_other set k j true false (λ e. eqb-false k j other (sym e)) ∙ none (is_marked set j)
      where
        none : (a : Bool) → a ≡ (a || false)
        none true = refl
        none false = refl

-- the entry alone
pub marks_first : (fs : List PlainParts) (entry : ℕ) (set : List Bool) → entry < length fs → ((j : ℕ) → is_marked set j
    ≡ (entry == j)) → AreMarks fs entry (length fs) set
marks_first fs entry set within is = record {
  first = is entry ∙ eq-eqb entry entry refl;
  sound = λ j marked. subst (λ x. reaches fs x (length fs) entry ≡ true) (eqb-true entry j (sym (is j) ∙ marked))
      (reaches_itself fs entry (length fs) within);
  closed = λ k from less marked j calls. absurd (omega (arith, from, less));
}

-- ---- item by item

or_joined : (a b c : Bool) → (a || (b || c)) ≡ ((a || b) || c)
or_joined true b c = refl
or_joined false b c = refl

pub or_none : (a : Bool) → (a || false) ≡ a
or_none true = refl
or_none false = refl

pub marks_next : (j : ℕ) (ps : List Part) (i : ℕ) (p : Part) (now was all : Bool) → i < length ps → p ≡ get_or ps i p
    → now ≡ (was || part_reaches (λ k. k == j) (plain_part p))
    → (was || parts_reach (λ k. k == j) (parts_of (drop i ps))) ≡ all
    → (now || parts_reach (λ k. k == j) (parts_of (drop (i + 1) ps))) ≡ all
marks_next j ps i p now was all within is e h =
    let rest : Bool = parts_reach (λ k. k == j) (parts_of (drop (i + 1) ps)) in
    ap (λ b. b || rest) e ∙ sym (or_joined was (part_reaches (λ k. k == j) (plain_part p)) rest)
    ∙ ap (λ xs. was || parts_reach (λ k. k == j) (parts_of xs)) (sym (drop_item ps i p within is)) ∙ h

pub marks_at_end : (j : ℕ) (ps : List Part) (i : ℕ) (now all : Bool) → length ps ≤ i
    → (now || parts_reach (λ k. k == j) (parts_of (drop i ps))) ≡ all → now ≡ all
marks_at_end j ps i now all past h =
    sym (or_none now) ∙ ap (λ b. now || b) (sym (at_drop_all (λ xs. parts_reach (λ k. k == j) (parts_of xs)) ps i past))
    ∙ h

-- nodes
pub part_passed : (ps : List Part) (i : ℕ) (p : Part) (s a all : ℕ) → i < length ps → p ≡ get_or ps i p
    → s ≤ a + part_nodes (plain_part p)
    → a + parts_nodes (parts_of (drop i ps)) ≤ all → s + parts_nodes (parts_of (drop (i + 1) ps)) ≤ all
part_passed ps i p s a all within is e h =
    let front = ap (λ xs. parts_nodes (parts_of xs)) (drop_item ps i p within is) in omega (arith, e, h, front)

-- nodes, from the last function down
pub functions_down : (functions : List (List Part)) (n : ℕ) (f : List Part) (s a all : ℕ) → n < length functions → f
    ≡ get_or functions n f
    → s ≤ a + (1 + parts_nodes (parts_of f)) → a ≤ all + functions_nodes (functions_of (drop (n + 1) functions))
    → s ≤ all + functions_nodes (functions_of (drop n functions))
functions_down functions n f s a all within is e h =
    let front = ap (λ xs. functions_nodes (functions_of xs)) (drop_item functions n f within is) in
    omega (arith, e, h, front)

pub none_marked : (n j : ℕ) → is_marked (replicate n false) j ≡ false
none_marked zero j = refl
none_marked (suc n) zero = refl
none_marked (suc n) (suc j) = none_marked n j

pub have_below : (fs : List PlainParts) (n : ℕ) → n ≡ length fs → functions_formed fs n ≡ true → HaveBelow fs
have_below fs n same formed k less = functions_below fs n k formed (omega (arith, less, same))

pub marked_first : (set : List Bool) (entry : ℕ) → entry < length set → ((j : ℕ) → is_marked set j ≡ false) → (j : ℕ)
    → is_marked (slice_set set entry true) j ≡ (entry == j)
marked_first set entry room none j = marked_one set entry j room ∙ ap (λ b. b || (entry == j)) (none j)
