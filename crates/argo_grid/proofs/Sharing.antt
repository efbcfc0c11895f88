-- The test of two entries and the places where their routes meet.
use Rattle.std.proofs.Common.{◌≡◌, ℕ, zero, suc, ◌+◌, ◌%◌, Bool, true, false, ◌&&◌, not, ◌==◌, nat_lt, inl, inr, List, [], ◌∷◌, Some, slice_get, IsTrue, ◌↔◌, refl, sym, ap, ◌∙◌, subst, arith}
use Rattle.std.specs.List.{list_any}
use Rattle.std.proofs.lemmas.Bool.{eq-eqb, eqb-true, ne_eqb, ltb-true, and_parts, and_from}
use Rattle.std.proofs.lemmas.Bool.Decides.{nat_tests}
use Rattle.argo_grid.specs.Grid.{routers}
use Rattle.argo_grid.specs.declared.grid.Entry.{Entry}
use Rattle.argo_grid.specs.declared.route.Router.{Router}
use Rattle.argo_grid.specs.declared.route.Link.{Link}
use Rattle.argo_grid.specs.declared.route.Link.TheVariants.{Inject, Between, Eject}
use Rattle.argo_grid.specs.declared.route.Route.{Route}
use Rattle.argo_grid.specs.Route.{route, links_of, links_for}
use Rattle.argo_grid.specs.Schedule.{Schedule}
use Rattle.argo_grid.specs.Correct.{IsInRange}
use Rattle.argo_grid.specs.Check.{in_range, Use, uses_from, uses_of, same_router, same_link, same_use, shares, MeetIn}
use Rattle.argo_grid.proofs.Lists.{true_or_false, passes_any}

-- an element of a list that passes a test
pub record Passes {X : Type 0} (p : X → Bool) (xs : List X) : Type 0 where
  pub place : ℕ
  pub value : X
  pub here : slice_get xs place ≡ Some value
  pub passes : p value ≡ true

any_passes : {X : Type 0} (p : X → Bool) (xs : List X) → list_any p xs ≡ true → Passes p xs
any_passes p [] h = cc
any_passes p (x ∷ xs) h = elim (true_or_false (p x)) [
  | inl here ↦ record { place = 0; value = x; here = refl; passes = here }
  | inr other ↦
      let later = any_passes p xs (rw other at h) in
      record { place = suc later.place; value = later.value; here = later.here; passes = later.passes }
]

same_router_true : (a b : Router) → same_router a b ≡ true → a ≡ b
same_router_true a b h =
    let parts = and_parts (a.column == b.column) (a.row == b.row) h in
    λ i. record { column = eqb-true a.column b.column parts.0 i; row = eqb-true a.row b.row parts.1 i }

same_router_refl : (a : Router) → same_router a a ≡ true
same_router_refl a =
    and_from (a.column == a.column) (a.row == a.row) (eq-eqb a.column a.column refl) (eq-eqb a.row a.row refl)

same_link_true : (a b : Link) → same_link a b ≡ true → a ≡ b
same_link_true (Inject core) (Inject other) h = ap Inject (eqb-true core other h)
same_link_true (Inject core) (Between from to) h = cc
same_link_true (Inject core) (Eject other) h = cc
same_link_true (Between from to) (Inject other) h = cc
same_link_true (Between from to) (Between from' to') h =
    let parts = and_parts (same_router from from') (same_router to to') h in
    λ i. Between (same_router_true from from' parts.0 i) (same_router_true to to' parts.1 i)
same_link_true (Between from to) (Eject other) h = cc
same_link_true (Eject core) (Inject other) h = cc
same_link_true (Eject core) (Between from to) h = cc
same_link_true (Eject core) (Eject other) h = ap Eject (eqb-true core other h)

same_link_refl : (a : Link) → same_link a a ≡ true
same_link_refl (Inject core) = eq-eqb core core refl
same_link_refl (Between from to) =
    and_from (same_router from from) (same_router to to) (same_router_refl from) (same_router_refl to)
same_link_refl (Eject core) = eq-eqb core core refl

-- what is used at a place of the route
use_at : (period slot : ℕ) (links : List Link) (i : ℕ) (link : Link) → slice_get links i ≡ Some link
    → slice_get (uses_from period slot links) i ≡ Some (record { link = link; slot = (slot + i) % period })
use_at period slot [] i link here = cc
use_at period slot (l ∷ links) zero link here =
    let same : l ≡ link = cc in
    λ i. Some (record { link = same i; slot = (let e : slot ≡ slot + zero = omega arith in e) i % period })
use_at period slot (l ∷ links) (suc i) link here =
    let e : slot + 1 + i ≡ slot + suc i = omega arith in
    use_at period (slot + 1) links i link here ∙ ap (λ n. Some (record { link = link; slot = n % period })) e

used_at : (period slot : ℕ) (links : List Link) (i : ℕ) (u : Use) → slice_get (uses_from period slot links) i ≡ Some u
    → (slice_get links i ≡ Some u.link) × (u.slot ≡ (slot + i) % period)
used_at period slot [] i u here = cc
used_at period slot (l ∷ links) zero u here =
    let first : Use = record { link = l; slot = slot % period } in
    let same : first ≡ u = cc in (
      ap (λ (v : Use). Some v.link) same,
      sym (ap (λ (v : Use). v.slot) same) ∙ ap (λ n. n % period)
          (let e : slot ≡ slot + zero = omega arith in e),
    )
used_at period slot (l ∷ links) (suc i) u here =
    let e : slot + 1 + i ≡ slot + suc i = omega arith in
    let later = used_at period (slot + 1) links i u here in
    (later.0, later.1 ∙ ap (λ n. n % period) e)

shared_means : (s : Schedule) (e other : Entry) → shares s e other ≡ true
    → MeetIn s.length e.slot (links_for s.grid e) other.slot (links_for s.grid other)
unfolding shares
shared_means s e other h =
    let own = any_passes (λ u. list_any (same_use u) (uses_of s other)) (uses_of s e) h in
    let found = any_passes (same_use own.value) (uses_of s other) own.passes in
    let parts = and_parts (same_link own.value.link found.value.link) (own.value.slot == found.value.slot)
    found.passes in
    let here = used_at s.length e.slot (links_for s.grid e) own.place own.value own.here in
    let there = used_at s.length other.slot (links_for s.grid other) found.place found.value found.here in
    record {
      place = own.place;
      other_place = found.place;
      link = own.value.link;
      here = here.0;
      there = there.0 ∙ ap Some (sym (same_link_true own.value.link found.value.link parts.0));
      together = sym here.1 ∙ eqb-true own.value.slot found.value.slot parts.1 ∙ there.1;
    }

meeting_shares : (s : Schedule) (e other : Entry) → MeetIn s.length e.slot (links_for s.grid e) other.slot
    (links_for s.grid other) → shares s e other ≡ true
unfolding shares
meeting_shares s e other m =
    let own : Use = record { link = m.link; slot = (e.slot + m.place) % s.length } in
    let found : Use = record { link = m.link; slot = (other.slot + m.other_place) % s.length } in
    passes_any (λ u. list_any (same_use u) (uses_of s other)) (uses_of s e) m.place own
    (use_at s.length e.slot (links_for s.grid e) m.place m.link m.here)
    (passes_any (same_use own) (uses_of s other) m.other_place found
    (use_at s.length other.slot (links_for s.grid other) m.other_place m.link m.there)
    (and_from (same_link m.link m.link) (own.slot == found.slot) (same_link_refl m.link)
    (eq-eqb own.slot found.slot m.together)))

pub shares_exactly : (s : Schedule) (e other : Entry) → (shares s e other ≡ true)
    ↔ MeetIn s.length e.slot (links_for s.grid e) other.slot (links_for s.grid other)
shares_exactly s e other = (shared_means s e other, meeting_shares s e other)

pub shares_by_places : (s : Schedule) (e other : Entry) (b : Bool) (period slot other_slot : ℕ) (own theirs : Route)
    → period ≡ s.length → slot ≡ e.slot → other_slot ≡ other.slot → own ≡ route s.grid e.from e.to → theirs
    ≡ route s.grid other.from other.to
    → IsTrue b ↔ MeetIn period slot (links_of own) other_slot (links_of theirs) → b ≡ shares s e other
shares_by_places s e other b period slot other_slot own theirs is_period is_slot is_other is_own is_theirs exactly =
    decided b (subst (λ (links : List Link). IsTrue b ↔ MeetIn s.length e.slot (links_for s.grid e) other.slot links)
    (ap links_of is_theirs)
    (subst (λ (links : List Link). IsTrue b ↔ MeetIn s.length e.slot links other.slot (links_of theirs))
    (ap links_of is_own)
    (subst (λ (n : ℕ). IsTrue b ↔ MeetIn s.length e.slot (links_of own) n (links_of theirs)) is_other
    (subst (λ (n : ℕ). IsTrue b ↔ MeetIn s.length n (links_of own) other_slot (links_of theirs)) is_slot
    (subst (λ (n : ℕ). IsTrue b ↔ MeetIn n slot (links_of own) other_slot (links_of theirs)) is_period exactly)))))
  where
    decided : (b : Bool) → IsTrue b ↔ MeetIn s.length e.slot (links_for s.grid e) other.slot (links_for s.grid other)
        → b ≡ shares s e other
    decided true exactly = sym (meeting_shares s e other (exactly.0 refl))
    decided false exactly = elim (true_or_false (shares s e other)) [
      | inl shared ↦ let bad : false ≡ true = exactly.1 (shared_means s e other shared) in cc
      | inr alone ↦ sym alone
    ]

-- the test of an entry's numbers
pub in_range_means : (s : Schedule) (e : Entry) → in_range s e ≡ true → IsInRange s e
in_range_means s e h =
    let first = and_parts (nat_lt e.slot s.length && nat_lt e.from (routers s.grid) && nat_lt e.to (routers s.grid))
    (not (e.from == e.to)) h in
    let second =
    and_parts (nat_lt e.slot s.length && nat_lt e.from (routers s.grid)) (nat_lt e.to (routers s.grid)) first.0 in
    let third = and_parts (nat_lt e.slot s.length) (nat_lt e.from (routers s.grid)) second.0 in
    record {
      slot = ltb-true e.slot s.length third.0;
      from = ltb-true e.from (routers s.grid) third.1;
      to = ltb-true e.to (routers s.grid) second.1;
      other = λ same. let equal : (e.from == e.to) ≡ true =
          eq-eqb e.from e.to same in let bad : false ≡ true = rw equal at first.1 in cc;
    }

pub in_range_is : (s : Schedule) (e : Entry) → IsInRange s e → in_range s e ≡ true
in_range_is s e h =
    let a : nat_lt e.slot s.length ≡ true = grind (arith, nat_tests, h.slot) in
    let b : nat_lt e.from (routers s.grid) ≡ true = grind (arith, nat_tests, h.from) in
    let c : nat_lt e.to (routers s.grid) ≡ true = grind (arith, nat_tests, h.to) in
    let d : (e.from == e.to) ≡ false = ne_eqb e.from e.to h.other in
    rw (a, b, c, d) refl
