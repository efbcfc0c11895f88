-- The check of entry after entry.
use Rattle.std.proofs.Common.{◌≡◌, ℕ, ◌+◌, ◌-◌, ◌*◌, true, ◌<◌, ◌≤◌, List, length, get_or, take, drop, Some, None, Result, Ok, Err, refl, sym, ap, ◌∙◌, arith}
use Rattle.std.proofs.Math.ListN.{drop_of_length-le}
use Rattle.std.proofs.lemmas.List.{drop_more, take_more}
use Rattle.std.proofs.lemmas.Nat.{mod_below, div_below}
use Rattle.argo_grid.specs.declared.grid.Entry.{Entry}
use Rattle.argo_grid.specs.declared.fault.GridFault.{GridFault}
use Rattle.argo_grid.specs.Grid.{router_of}
use Rattle.argo_grid.specs.Route.{route, distance, links_for}
use Rattle.argo_grid.specs.Schedule.{Schedule, IsBounded}
use Rattle.argo_grid.specs.Check.{fault_of, checked_from, in_range}
use Rattle.argo_grid.proofs.Sharing.{in_range_means}
use Rattle.argo_grid.proofs.Ways.{links_counted}

-- the next entry has no fault
pub next_checked : (s : Schedule) (es : List Entry) (i : ℕ) (d : Entry) (all : Result (Unit {0}) GridFault)
    → i < length es → fault_of s (take i es) (get_or es i d) ≡ None
    → checked_from s (take i es) (drop i es) ≡ all → checked_from s (take (i + 1) es) (drop (i + 1) es) ≡ all
next_checked s es i d all within none held =
    ap (λ front. checked_from s front (drop (i + 1) es)) (take_more es i d within)
    ∙ sym (rw (drop_more es i d within, none) refl)
    ∙ held

-- it has one
pub next_faulty : (s : Schedule) (es : List Entry) (i : ℕ) (d : Entry) (fault : GridFault)
    (all : Result (Unit {0}) GridFault) → i < length es → fault_of s (take i es) (get_or es i d) ≡ Some fault
    → checked_from s (take i es) (drop i es) ≡ all → all ≡ Err fault
next_faulty s es i d fault all within found held = sym held ∙ rw (drop_more es i d within, found) refl

-- no entry is left
pub all_checked : (s : Schedule) (es : List Entry) (i : ℕ) (all : Result (Unit {0}) GridFault) → length es ≤ i
    → checked_from s (take i es) (drop i es) ≡ all → all ≡ Ok tt
all_checked s es i all over held = sym held ∙ rw (drop_of_length-le es over) refl

-- within the grid a route has at most 32 links
factor_most : (a b n : ℕ) → 1 ≤ b → a * b ≤ n → a ≤ n
factor_most a b n some few =
    let e : b ≡ 1 + (b - 1) = omega arith in
    let whole : a * b ≡ a + a * (b - 1) = ap (λ c. a * c) e ∙ omega arith in
    omega arith

pub few_links : (s : Schedule) (e : Entry) → IsBounded s → in_range s e ≡ true → length (links_for s.grid e) ≤ 32
few_links s e bounded is =
    let g = s.grid in
    let range = in_range_means s e is in
    let columns : g.columns ≤ 16 = factor_most g.columns g.rows 16 bounded.grid.rows bounded.grid.most in
    let rows : g.rows ≤ 16 = factor_most g.rows g.columns 16 bounded.grid.columns (omega (arith, bounded.grid.most)) in
    let first = mod_below e.from g.columns (omega (arith, bounded.grid.columns)) in
    let second = mod_below e.to g.columns (omega (arith, bounded.grid.columns)) in
    let third = div_below e.from g.columns g.rows bounded.grid.columns (omega (arith, range.from)) in
    let fourth = div_below e.to g.columns g.rows bounded.grid.columns (omega (arith, range.to)) in
    omega (arith, links_counted (route g e.from e.to) (distance (router_of g e.from) (router_of g e.to)) refl)

pub few_cycles : (s : Schedule) (e : Entry) (links : ℕ) → IsBounded s → in_range s e ≡ true → links
    ≡ length (links_for s.grid e) → links ≤ 32
few_cycles s e links bounded is same = omega (arith, few_links s e bounded is)
