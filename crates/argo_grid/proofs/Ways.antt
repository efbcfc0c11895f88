-- Routes by arithmetic: where they come to after so many links, and which link stands at which place.
use Rattle.std.proofs.Common.{◌≡◌, ◌≢◌, ℕ, zero, suc, ◌+◌, ◌-◌, ◌<◌, ◌≤◌, ◌⊎◌, inl, inr, true, false, ◌==◌, List, [], ◌∷◌, ◌++◌, length, Some, slice_get, refl, sym, ap, ◌∙◌, arith, length-append}
use Rattle.std.specs.Int.{abs_diff}
use Rattle.std.proofs.lemmas.Bool.{cases_lt, cases_eq, eq-eqb, ne_eqb}
use Rattle.std.proofs.lemmas.Bool.Decides.{nat_tests}
use Rattle.std.proofs.lemmas.Option.{slice_get_within}
use Rattle.argo_grid.specs.declared.route.Router.{Router}
use Rattle.argo_grid.specs.declared.route.Route.{Route}
use Rattle.argo_grid.specs.declared.route.Link.{Link}
use Rattle.argo_grid.specs.declared.route.Link.TheVariants.{Inject, Between, Eject}
use Rattle.argo_grid.specs.Route.{toward, moved, next_router, router_after, distance, links_from, links_of}

toward_up : (from to : ℕ) → from < to → toward from to ≡ from + 1
toward_up from to below = grind (arith, nat_tests)

toward_down : (from to : ℕ) → to ≤ from → toward from to ≡ from - 1
toward_down from to above = grind (arith, nat_tests)

-- steps up and steps down
pub moved_up : (steps from to : ℕ) → steps ≤ to - from → moved steps from to ≡ from + steps
moved_up zero from to fits = omega arith
moved_up (suc steps) from to fits =
    rw (toward_up from to (omega arith)) (moved_up steps (from + 1) to (omega arith) ∙ omega arith)

pub moved_down : (steps from to : ℕ) → steps ≤ from - to → moved steps from to ≡ from - steps
moved_down zero from to fits = omega arith
moved_down (suc steps) from to fits =
    rw (toward_down from to (omega arith)) (moved_down steps (from - 1) to (omega arith) ∙ omega arith)

-- so many steps lead so far away
moved_away : (steps from to : ℕ) → steps ≤ abs_diff from to → abs_diff from (moved steps from to) ≡ steps
moved_away steps from to fits = elim (cases_lt from to) [
  | inl below ↦ rw (moved_up steps from to (omega arith)) (omega arith)
  | inr above ↦ rw (moved_down steps from to (omega arith)) (omega arith)
]

-- and all of them to the end
moved_all : (from to : ℕ) → moved (abs_diff from to) from to ≡ to
moved_all from to = elim (cases_lt from to) [
  | inl below ↦ moved_up (abs_diff from to) from to (omega arith) ∙ omega arith
  | inr above ↦ moved_down (abs_diff from to) from to (omega arith) ∙ omega arith
]

nearer : (from to steps : ℕ) → suc steps ≤ abs_diff from to → steps ≤ abs_diff (toward from to) to
nearer from to steps fits = elim (cases_lt from to) [
  | inl below ↦ rw (toward_up from to below) (omega arith)
  | inr above ↦ rw (toward_down from to above) (omega arith)
]

-- along the row
pub along_row : (links : ℕ) (at to : Router) → links ≤ abs_diff at.column to.column → router_after links at to
    ≡ record { column = moved links at.column to.column; row = at.row }
along_row zero at to fits = refl
along_row (suc links) at to fits =
    let on : (at.column == to.column) ≡ false = ne_eqb at.column to.column (λ same. omega (arith, same)) in
    let next : Router = record { column = toward at.column to.column; row = at.row } in
    let step : next_router at to ≡ next = rw on refl in
    ap (λ r. router_after links r to) step ∙ along_row links next to (nearer at.column to.column links fits)

-- within the column
column_only : (links : ℕ) (at to : Router) → at.column ≡ to.column → router_after links at to
    ≡ record { column = to.column; row = moved links at.row to.row }
column_only zero at to same = λ i. record { column = same i; row = at.row }
column_only (suc links) at to same =
    let on : (at.column == to.column) ≡ true = eq-eqb at.column to.column same in
    let next : Router = record { column = at.column; row = toward at.row to.row } in
    let step : next_router at to ≡ next = rw on refl in
    ap (λ r. router_after links r to) step ∙ column_only links next to same

after_sum : (a b : ℕ) (at to : Router) → router_after (a + b) at to ≡ router_after b (router_after a at to) to
after_sum zero b at to = let e : zero + b ≡ b = omega arith in ap (λ n. router_after n at to) e
after_sum (suc a) b at to = let e : suc a + b ≡ suc (a + b) = omega arith in ap (λ n. router_after n at to) e
    ∙ after_sum a b (next_router at to) to

-- past the row, along the column
pub along_column : (links : ℕ) (at to : Router) → abs_diff at.column to.column ≤ links → router_after links at to
    ≡ record { column = to.column; row = moved (links - abs_diff at.column to.column) at.row to.row }
along_column links at to past =
    let row : ℕ = abs_diff at.column to.column in
    let whole : links ≡ row + (links - row) = omega arith in
    let corner : Router = record { column = moved row at.column to.column; row = at.row } in
    ap (λ n. router_after n at to) whole
    ∙ after_sum row (links - row) at to
    ∙ ap (λ r. router_after (links - row) r to) (along_row row at to (omega arith))
    ∙ column_only (links - row) corner to (moved_all at.column to.column)

-- so many links lead so far away
how_far : (links : ℕ) (at to : Router) → links ≤ distance at to → distance at (router_after links at to) ≡ links
how_far links at to fits = elim (cases_lt links (abs_diff at.column to.column)) [
  | inl row ↦
      ap (distance at) (along_row links at to (omega arith))
      ∙ omega (arith, moved_away links at.column to.column (omega arith))
  | inr column ↦
      ap (distance at) (along_column links at to column)
      ∙ omega (arith, moved_away (links - abs_diff at.column to.column) at.row to.row (omega arith))
]

-- the links between routers in their order
link_from : (count k : ℕ) (at to : Router) (others : List Link) → k < count → slice_get (links_from count at to
    ++ others) k ≡ Some (Between (router_after k at to) (router_after (suc k) at to))
link_from zero k at to others within = absurd (omega arith)
link_from (suc count) zero at to others within = refl
link_from (suc count) (suc k) at to others within = link_from count k (next_router at to) to others (omega arith)

link_after : (count : ℕ) (at to : Router) (link : Link) → slice_get (links_from count at to ++ link ∷ []) count
    ≡ Some link
link_after zero at to link = refl
link_after (suc count) at to link = link_after count (next_router at to) to link

length-links_from : (count : ℕ) (at to : Router) → length (links_from count at to) ≡ count
length-links_from zero at to = refl
length-links_from (suc count) at to = ap suc (length-links_from count (next_router at to) to)

pub links_counted : (r : Route) (hops : ℕ) → hops ≡ distance r.start r.end → hops + 2 ≡ length (links_of r)
unfolding links_of
links_counted r hops same =
    omega (
      arith,
      length-append (links_from (distance r.start r.end) r.start r.end) (Eject r.to ∷ []),
      length-links_from
          (distance r.start r.end) r.start r.end,
    )

-- the three kinds of links by their places
pub link_first : (r : Route) (place : ℕ) → place ≡ 0 → slice_get (links_of r) place ≡ Some (Inject r.from)
unfolding links_of
link_first r place first = ap (slice_get (links_of r)) first

link_at : (r : Route) (place k : ℕ) → place ≡ suc k → slice_get (links_of r) place
    ≡ slice_get (links_from (distance r.start r.end) r.start r.end ++ Eject r.to ∷ []) k
unfolding links_of
link_at r place k e = ap (slice_get (links_of r)) e

pub link_between : (r : Route) (place : ℕ) (from to : Router) → place ≢ 0 → place ≤ distance r.start r.end
    → from ≡ router_after (place - 1) r.start r.end → to ≡ router_after place r.start r.end
    → slice_get (links_of r) place ≡ Some (Between from to)
link_between r place from to some within first second =
    let next : place ≡ suc (place - 1) = omega arith in
    link_at r place (place - 1) next
    ∙ link_from (distance r.start r.end) (place - 1) r.start r.end (Eject r.to ∷ []) (omega arith)
    ∙ (λ i. Some (Between (sym first i) ((ap (λ n. router_after n r.start r.end) (sym next) ∙ sym second) i)))

pub link_last : (r : Route) (place : ℕ) → distance r.start r.end < place → place < length (links_of r)
    → slice_get (links_of r) place ≡ Some (Eject r.to)
link_last r place past within =
    let next : place ≡ suc (distance r.start r.end) = omega (arith, links_counted r (distance r.start r.end) refl) in
    link_at r place (distance r.start r.end) next ∙ link_after (distance r.start r.end) r.start r.end (Eject r.to)

-- each link of a route stands at one place of it
place_before : (r : Route) (place : ℕ) (link : Link) → slice_get (links_of r) place ≡ Some link
    → ((place ≡ 0) × (link ≡ Inject r.from))
    ⊎ (((place ≢ 0) × (place ≤ distance r.start r.end)
    × (link ≡ Between (router_after (place - 1) r.start r.end) (router_after place r.start r.end)))
    ⊎ ((place ≡ distance r.start r.end + 1) × (link ≡ Eject r.to)))
place_before r place link here =
    let within : place < length (links_of r) = slice_get_within (links_of r) place link here in
    elim (cases_eq place 0) [
      | inl first ↦ let there = link_first r place first in inl (first, cc)
      | inr some ↦ elim (cases_lt (distance r.start r.end) place) [
        | inl past ↦ let there = link_last r place past within in
            inr (inr (omega (arith, links_counted r (distance r.start r.end) refl), cc))
        | inr between ↦
            let there = link_between r place (router_after (place - 1) r.start r.end) (router_after place r.start r.end)
            some between refl refl in
            inr (inl (some, between, cc))
      ]
    ]

pub one_place : (r : Route) (place other : ℕ) (link : Link) → slice_get (links_of r) place ≡ Some link
    → slice_get (links_of r) other ≡ Some link → place ≡ other
one_place r place other link here there = elim (place_before r place link here) [
  | inl first ↦ elim (place_before r other link there) [
    | inl first' ↦ first.0 ∙ sym first'.0
    | inr (inl between') ↦ let a = first.1 in let b = between'.2 in cc
    | inr (inr last') ↦ let a = first.1 in let b = last'.1 in cc
  ]
  | inr (inl between) ↦ elim (place_before r other link there) [
    | inl first' ↦ let a = between.2 in let b = first'.1 in cc
    | inr (inl between') ↦
        let same : router_after (place - 1) r.start r.end ≡ router_after (other - 1) r.start r.end =
        let a = between.2 in let b = between'.2 in cc in
        let far : distance r.start (router_after (place - 1) r.start r.end) ≡ place - 1 =
        how_far (place - 1) r.start r.end (omega (arith, between.1)) in
        let far' : distance r.start (router_after (other - 1) r.start r.end) ≡ other - 1 =
        how_far (other - 1) r.start r.end (omega (arith, between'.1)) in
        let equal : place - 1 ≡ other - 1 = sym far ∙ ap (distance r.start) same ∙ far' in
        let some : 0 < place = positive place between.0 in
        let some' : 0 < other = positive other between'.0 in
        omega arith
    | inr (inr last') ↦ let a = between.2 in let b = last'.1 in cc
  ]
  | inr (inr last) ↦ elim (place_before r other link there) [
    | inl first' ↦ let a = last.1 in let b = first'.1 in cc
    | inr (inl between') ↦ let a = last.1 in let b = between'.2 in cc
    | inr (inr last') ↦ last.0 ∙ sym last'.0
  ]
]
  where
    positive : (n : ℕ) → n ≢ 0 → 0 < n
    positive n some = omega arith
