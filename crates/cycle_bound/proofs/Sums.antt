-- Sums over bundles and over parts, item by item.
use Rattle.std.proofs.Common.{◌≡◌, ℕ, zero, suc, ◌+◌, ◌^◌, ◌<◌, ◌≤◌, List, [], ◌∷◌, length, drop, get_or, refl, ap, sym, ◌∙◌, arith}
use Rattle.std.proofs.lemmas.List.{at_drop_all}
use Rattle.tc_word.proofs.Items.{drop_item}
use Rattle.patmos_instr.specs.Bundles.{PlainBundle}
use Rattle.sp_shape.specs.Parts.{PlainParts}
use Rattle.sp_shape.specs.Shown.{plain_part, parts_of}
use Rattle.sp_shape.specs.declared.parts.Part.{Part}
use Rattle.cycle_bound.specs.Bound.{bundle_bound, bundles_bound, part_bound, parts_bound, bounds}
use Rattle.sp_shape.specs.Words.{bundle_words, bundles_words, part_words, parts_words}
use Rattle.cycle_bound.specs.Held.{held}
use Rattle.cycle_bound.specs.Nodes.{part_nodes, parts_nodes}
use Rattle.cycle_bound.proofs.Holding.{held_next, held_next_held, held_at_end}

-- ---- any sum over a list

sum_next : {A : Type 0} → (sum : List A → ℕ) (xs : List A) (i : ℕ) (x : A) (s a n all : ℕ) → i < length xs → x
    ≡ get_or xs i x
    → sum (x ∷ drop (i + 1) xs) ≡ n + sum (drop (i + 1) xs) → s ≡ held (a + n) → held (a + sum (drop i xs)) ≡ all
    → held (s + sum (drop (i + 1) xs)) ≡ all
sum_next sum xs i x s a n all within is front e h =
    held_next s a n (sum (drop (i + 1) xs)) all e
    (ap (λ m. held (a + m)) (sym (ap sum (drop_item xs i x within is) ∙ front)) ∙ h)

sum_next_held : {A : Type 0} → (sum : List A → ℕ) (xs : List A) (i : ℕ) (x : A) (s a r n all : ℕ) → i < length xs → x
    ≡ get_or xs i x
    → sum (x ∷ drop (i + 1) xs) ≡ n + sum (drop (i + 1) xs) → s ≡ held (a + r) → r ≡ held n
    → held (a + sum (drop i xs)) ≡ all → held (s + sum (drop (i + 1) xs)) ≡ all
sum_next_held sum xs i x s a r n all within is front e one h =
    held_next_held s a n r (sum (drop (i + 1) xs)) all e one
    (ap (λ m. held (a + m)) (sym (ap sum (drop_item xs i x within is) ∙ front)) ∙ h)

sum_at_end : {A : Type 0} → (sum : List A → ℕ) → sum [] ≡ 0 → (xs : List A) (i s all : ℕ) → length xs ≤ i
    → s ≤ 2 ^ 62 + 1
    → held (s + sum (drop i xs)) ≡ held all → s ≡ held all
sum_at_end sum none xs i s all past small h =
    held_at_end s all small (ap (λ n. held (s + n)) (sym (at_drop_all sum xs i past ∙ none)) ∙ h)

-- ---- of bundles

pub words_next : (bs : List PlainBundle) (i : ℕ) (b : PlainBundle) (s a all : ℕ) → i < length bs → b ≡ get_or bs i b → s
    ≡ held (a + bundle_words b)
    → held (a + bundles_words (drop i bs)) ≡ all → held (s + bundles_words (drop (i + 1) bs)) ≡ all
words_next bs i b s a all within is e h = sum_next bundles_words bs i b s a (bundle_words b) all within is refl e h

pub words_at_end : (bs : List PlainBundle) (i s all : ℕ) → length bs ≤ i → s ≤ 2 ^ 62 + 1
    → held (s + bundles_words (drop i bs)) ≡ held all → s ≡ held all
words_at_end bs i s all past small h = sum_at_end bundles_words refl bs i s all past small h

pub cycles_next : (each : ℕ) (bs : List PlainBundle) (i : ℕ) (b : PlainBundle) (s a all : ℕ) → i < length bs → b
    ≡ get_or bs i b → s
    ≡ held (a + bundle_bound each b)
    → held (a + bundles_bound each (drop i bs)) ≡ all → held (s + bundles_bound each (drop (i + 1) bs)) ≡ all
cycles_next each bs i b s a all within is e h =
    sum_next (bundles_bound each) bs i b s a (bundle_bound each b) all within is refl e h

pub cycles_at_end : (each : ℕ) (bs : List PlainBundle) (i s all : ℕ) → length bs ≤ i → s ≤ 2 ^ 62 + 1
    → held (s + bundles_bound each (drop i bs)) ≡ held all → s ≡ held all
cycles_at_end each bs i s all past small h = sum_at_end (bundles_bound each) refl bs i s all past small h

-- ---- of parts

pub part_words_next : (ps : List Part) (i : ℕ) (p : Part) (s a r all : ℕ) → i < length ps → p ≡ get_or ps i p
    → s ≡ held (a + r)
    → r ≡ held (part_words (plain_part p))
    → held (a + parts_words (parts_of (drop i ps))) ≡ all → held (s + parts_words (parts_of (drop (i + 1) ps))) ≡ all
part_words_next ps i p s a r all within is e one h =
    sum_next_held (λ xs. parts_words (parts_of xs)) ps i p s a r (part_words (plain_part p)) all within is refl e one h

pub parts_words_at_end : (ps : List Part) (i s all : ℕ) → length ps ≤ i → s ≤ 2 ^ 62 + 1
    → held (s + parts_words (parts_of (drop i ps))) ≡ held all → s ≡ held all
parts_words_at_end ps i s all past small h = sum_at_end (λ xs. parts_words (parts_of xs)) refl ps i s all past small h

pub part_cycles_next : (fs : List PlainParts) (each : ℕ) (fill : ℕ → ℕ) (n : ℕ) (ps : List Part) (i : ℕ) (p : Part)
    (s a r all : ℕ) → i < length ps → p ≡ get_or ps i p
    → s ≡ held (a + r) → r ≡ held (part_bound each fill (bounds fs each fill n) n (plain_part p))
    → held (a + parts_bound each fill (bounds fs each fill n) n (parts_of (drop i ps))) ≡ all
    → held (s + parts_bound each fill (bounds fs each fill n) n (parts_of (drop (i + 1) ps))) ≡ all
part_cycles_next fs each fill n ps i p s a r all within is e one h =
    sum_next_held (λ xs. parts_bound each fill (bounds fs each fill n) n (parts_of xs)) ps i p s a r
    (part_bound each fill (bounds fs each fill n) n (plain_part p)) all within is refl e one h

pub parts_cycles_at_end : (fs : List PlainParts) (each : ℕ) (fill : ℕ → ℕ) (n : ℕ) (ps : List Part) (i s all : ℕ)
    → length ps ≤ i → s ≤ 2 ^ 62 + 1
    → held (s + parts_bound each fill (bounds fs each fill n) n (parts_of (drop i ps))) ≡ held all → s ≡ held all
parts_cycles_at_end fs each fill n ps i s all past small h =
    sum_at_end (λ xs. parts_bound each fill (bounds fs each fill n) n (parts_of xs)) refl ps i s all past small h

pub nodes_next : (ps : List Part) (i : ℕ) (p : Part) (s a all : ℕ) → i < length ps → p ≡ get_or ps i p → s
    ≡ a + part_nodes (plain_part p)
    → a + parts_nodes (parts_of (drop i ps)) ≡ all → s + parts_nodes (parts_of (drop (i + 1) ps)) ≡ all
nodes_next ps i p s a all within is e h =
    let front = ap (λ xs. parts_nodes (parts_of xs)) (drop_item ps i p within is) in
    omega (arith, e, h, front)

pub nodes_at_end : (ps : List Part) (i s all : ℕ) → length ps ≤ i → s + parts_nodes (parts_of (drop i ps))
    ≡ all → s ≡ all
nodes_at_end ps i s all past h =
    let none = at_drop_all (λ xs. parts_nodes (parts_of xs)) ps i past in omega (arith, h, none)

pub item_nodes : (ps : List Part) (i : ℕ) (p : Part) → i < length ps → p ≡ get_or ps i p → part_nodes (plain_part p)
    ≤ parts_nodes (parts_of ps)
item_nodes [] i p within is = absurd (omega arith)
item_nodes (x ∷ ps) zero p within is = let same = ap (λ y. part_nodes (plain_part y)) is in omega (arith, same)
item_nodes (x ∷ ps) (suc i) p within is = let rest = item_nodes ps i p (omega arith) is in omega (arith, rest)
