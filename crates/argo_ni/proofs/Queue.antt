-- Packets under way: they are due one after another, so the one that was sent first comes first.
use Rattle.std.proofs.Common.{◌≡◌, ℕ, ◌+◌, ◌*◌, ◌%◌, ◌<◌, ◌≤◌, true, false, not, ◌==◌, List, [], ◌∷◌, ◌++◌, length, drop, filter, slice_get, Some, None, ap, sym, ◌∙◌, subst, refl, arith, inl, inr}
use Rattle.std.specs.List.{list_any, AllByRecursion as Each}
use Rattle.std.proofs.lemmas.Bool.{cases_eq, eq-eqb, ne_eqb}
use Rattle.argo_ni.specs.declared.packet.Packet.{Packet}
use Rattle.argo_ni.specs.Sound.{IsSent, IsQueue, IsFirst}
use Rattle.shared_order.proofs.Lists.{each_map}

-- no packet of the queue is due before it begins
pub due_from : (n core from cycle : ℕ) (ps : List Packet) → IsQueue n core from ps → list_any (λ p. p.due == cycle) ps
    ≡ true → from ≤ 2 * cycle
due_from n core from cycle [] h here = absurd (let no : false ≡ true = here in cc)
due_from n core from cycle (p ∷ ps) h here = elim (cases_eq p.due cycle) [
  | inl same ↦ omega (arith, h.0)
  | inr other ↦
      let not_here : (p.due == cycle) ≡ false = ne_eqb p.due cycle other in
      let later : list_any (λ p. p.due == cycle) ps ≡ true = rw not_here at here in
      omega (arith, h.0, due_from n core (2 * p.due + 1) cycle ps h.2 later)
]

-- so none of it is due earlier
pub none_due : (n core from cycle : ℕ) (ps : List Packet) → IsQueue n core from ps → 2 * cycle < from
    → filter (λ p. p.due == cycle) ps ≡ []
none_due n core from cycle [] h early = refl
none_due n core from cycle (p ∷ ps) h early =
    let other : (p.due == cycle) ≡ false = ne_eqb p.due cycle (omega (arith, h.0)) in
    rw other (none_due n core (2 * p.due + 1) cycle ps h.2 (omega (arith, h.0)))

pub all_stay : (n core from cycle : ℕ) (ps : List Packet) → IsQueue n core from ps → 2 * cycle < from
    → filter (λ p. not (p.due == cycle)) ps ≡ ps
all_stay n core from cycle [] h early = refl
all_stay n core from cycle (p ∷ ps) h early =
    let other : (p.due == cycle) ≡ false = ne_eqb p.due cycle (omega (arith, h.0)) in
    rw other (ap (λ qs. p ∷ qs) (all_stay n core (2 * p.due + 1) cycle ps h.2 (omega (arith, h.0))))

-- the packet that was sent first
pub is_first : (n core from : ℕ) (ps : List Packet) (p : Packet) → IsQueue n core from ps → slice_get ps 0 ≡ Some p
    → IsFirst n core from ps p
is_first n core from [] p h e = absurd (let no : None ≡ Some p = e in cc)
is_first n core from (q ∷ qs) p h e =
    let same : q ≡ p = cc in
    subst (λ r. IsFirst n core from (q ∷ qs) r) same (record { whole = refl; after = h.0; sent = h.1; rest = h.2 })

-- it is due, no packet is due before it, and after its delivery the others are left
pub first_comes : (n core from : ℕ) (ps : List Packet) (p : Packet) → IsFirst n core from ps p
    → list_any (λ q. q.due == p.due) ps ≡ true
first_comes n core from ps p h =
    let here : (p.due == p.due) ≡ true = eq-eqb p.due p.due refl in
    ap (λ qs. list_any (λ q. q.due == p.due) qs) h.whole ∙ rw here refl

pub first_due : (n core from cycle : ℕ) (ps : List Packet) (p : Packet) → IsFirst n core from ps p
    → list_any (λ q. q.due == cycle) ps ≡ true → p.due ≤ cycle
first_due n core from cycle ps p h here =
    let listed : list_any (λ q. q.due == cycle) (p ∷ drop 1 ps) ≡ true =
    sym (ap (λ qs. list_any (λ q. q.due == cycle) qs) h.whole) ∙ here in
    let early : 2 * p.due ≤ 2 * cycle =
    due_from n core (2 * p.due) cycle (p ∷ drop 1 ps) (omega arith, h.sent, h.rest) listed in
    omega arith

pub first_alone : (n core from : ℕ) (ps : List Packet) (p : Packet) → IsFirst n core from ps p
    → filter (λ q. q.due == p.due) ps ≡ p ∷ []
first_alone n core from ps p h =
    let here : (p.due == p.due) ≡ true = eq-eqb p.due p.due refl in
    ap (λ qs. filter (λ q. q.due == p.due) qs) h.whole
    ∙ rw here (ap (λ qs. p ∷ qs) (none_due n core (2 * p.due + 1) p.due (drop 1 ps) h.rest (omega arith)))

pub others_stay : (n core from : ℕ) (ps : List Packet) (p : Packet) → IsFirst n core from ps p
    → filter (λ q. not (q.due == p.due)) ps ≡ drop 1 ps
others_stay n core from ps p h =
    let here : (p.due == p.due) ≡ true = eq-eqb p.due p.due refl in
    ap (λ qs. filter (λ q. not (q.due == p.due)) qs) h.whole
    ∙ rw here (all_stay n core (2 * p.due + 1) p.due (drop 1 ps) h.rest (omega arith))

-- a queue begins where its first packet is due at the latest
pub queue_from : (n core from to : ℕ) (ps : List Packet) → IsQueue n core from ps
    → ((cycle : ℕ) → list_any (λ p. p.due == cycle) ps ≡ true → to ≤ 2 * cycle) → IsQueue n core to ps
queue_from n core from to [] h late = tt
queue_from n core from to (p ∷ ps) h late =
    let here : (p.due == p.due) ≡ true = eq-eqb p.due p.due refl in
    (late p.due (rw here refl), h.1, h.2)

-- one more packet that is due after the others
pub queue_append : (n core from last : ℕ) (ps : List Packet) (p : Packet) → IsQueue n core from ps
    → Each (λ q. 2 * q.due ≤ last) ps → IsSent n core p → from ≤ 2 * p.due → last < 2 * p.due
    → IsQueue n core from (ps ++ p ∷ [])
queue_append n core from last [] p h before sent after later = (after, sent, tt)
queue_append n core from last (q ∷ ps) p h before sent after later =
    (h.0, h.1, queue_append n core (2 * q.due + 1) last ps p h.2 before.1 sent (omega (arith, before.0)) later)

pub each_until : (last to : ℕ) (ps : List Packet) → last ≤ to → Each (λ q. 2 * q.due ≤ last) ps
    → Each (λ q. 2 * q.due ≤ to) ps
each_until last to ps more h =
    each_map (λ q. 2 * q.due ≤ last) (λ q. 2 * q.due ≤ to) (λ q early. omega (arith, early, more)) ps h

-- in a cycle in which a window begins, at most two packets that were sent before are due later
pub at_most_two : (n core cycle : ℕ) (ps : List Packet) → IsQueue n core (2 * cycle + 2) ps
    → Each (λ q. 2 * q.due ≤ 2 * cycle + 17) ps → cycle % 3 ≡ 0 → length ps < 3
at_most_two n core cycle [] h before window = omega arith
at_most_two n core cycle (p ∷ []) h before window = omega arith
at_most_two n core cycle (p ∷ q ∷ []) h before window = omega arith
at_most_two n core cycle (p ∷ q ∷ r ∷ ps) h before window =
    absurd (omega (arith, h.0, h.1.window, h.2.0, h.2.1.window, h.2.2.0, h.2.2.1.window, before.1.1.0))

pub is_empty : (ps : List Packet) → slice_get ps 0 ≡ None → ps ≡ []
is_empty [] e = refl
is_empty (p ∷ ps) e = absurd (let no : Some p ≡ None = e in cc)

-- packets that are all due within nine cycles are at most three
pub at_most_three : (n core from : ℕ) (ps : List Packet) → IsQueue n core from ps → Each (λ q. 2 * q.due ≤ from + 16) ps
    → length ps ≤ 3
at_most_three n core from [] h before = omega arith
at_most_three n core from (p ∷ []) h before = omega arith
at_most_three n core from (p ∷ q ∷ []) h before = omega arith
at_most_three n core from (p ∷ q ∷ r ∷ []) h before = omega arith
at_most_three n core from (p ∷ q ∷ r ∷ s ∷ ps) h before =
    absurd (omega (
      arith,
      h.0,
      h.1.window,
      h.2.0,
      h.2.1.window,
      h.2.2.0,
      h.2.2.1.window,
      h.2.2.2.0,
      h.2.2.2.1.window,
      before.1.1.1.0,
    ))
