-- A slot table goes round: what holds of one round holds of each.
use Rattle.std.proofs.Common.{◌≡◌, ℕ, ◌+◌, ◌-◌, ◌*◌, ◌/◌, ◌%◌, ◌<◌, ◌≤◌, Bool, true, false, List, length, ap, sym, ◌∙◌, subst, refl, arith, max, inl, inr, slice_index, ◌==◌}
use Rattle.std.proofs.Math.Nat.{add-mod-mod, mod-add-mod, add-mod_right}
use Rattle.std.proofs.lemmas.Nat.{mod-mul-add, mod_below, div-add-mod'}
use Rattle.std.proofs.lemmas.Bool.{cases_lt, eq-eqb, ne_eqb}
use Rattle.std.proofs.lemmas.List.Folds.{Any-from_list_any}
use Rattle.std.proofs.lemmas.Grind.{get_or_default_zero}
use Rattle.slot_arbiter.specs.Table.{has_entry, is_owned}
use Rattle.slot_arbiter.specs.Order.{IsNext, IsGap, OutlastsWaits}

true_false : true ≡ false → ⊥
true_false e = cc

true_unless : (b : Bool) → (b ≡ false → b ≡ true) → b ≡ true
true_unless true _ = refl
true_unless false h = h refl

-- from any slot on, each place of the table comes within one round
pub reach : (n first j : ℕ) → j < n → (k : ℕ) × ((k < n) × ((first + k) % n ≡ j))
reach n first j h =
    let away : ℕ = j + (n - first % n) in
    let whole : first + (j + (n - first % n)) ≡ (first / n + 1) * n + j = omega (arith, div-add-mod' first n) in (
      away % n,
      (
        mod_below away n (omega arith),
        add-mod-mod first away n ∙ ap (λ x. x % n) whole
            ∙ mod-mul-add (first / n + 1) n j h,
      ),
    )

-- from any slot on, a core that has an entry owns a slot within one round
pub comes : (table : List ℕ) (core first : ℕ) → has_entry table core ≡ true → (k : ℕ)
    × ((k < length table) × (is_owned table core (first + k) ≡ true))
comes table core first h =
    let entry = Any-from_list_any (λ e. e == core) table h in
    let at = reach (length table) first entry.0 entry.2 in (
      at.0,
      (
        at.1.0,
        ap (λ i. slice_index table i == core) at.1.1
            ∙ ap (λ e. e == core) (sym (get_or_default_zero table entry.0 entry.1 entry.2) ∙ entry.3) ∙ entry.4,
      ),
    )

-- so it is not so that none of the slots of a round is its own
pub none_passed : (table : List ℕ) (core first : ℕ) → has_entry table core ≡ true → ((k : ℕ) → k < length table
    → is_owned table core (first + k) ≡ false) → ⊥
none_passed table core first h none =
    let at = comes table core first h in
    let never = none at.0 at.1.0 in
    let owned = at.1.1 in
    cc

-- a round on, the owner is the same
round_on : (table : List ℕ) (core k : ℕ) → is_owned table core (k + length table) ≡ is_owned table core k
round_on table core k = ap (λ i. slice_index table i == core) (add-mod_right k (length table))

-- the owner depends on the place in the round alone
in_round : (table : List ℕ) (core j d : ℕ) → is_owned table core (j % length table + d) ≡ is_owned table core (j + d)
in_round table core j d = ap (λ i. slice_index table i == core) (mod-add-mod j (length table) d)

-- the next own slot from j on stands as far from j as that from j's place in the round
next_in_round : (table : List ℕ) (core j v : ℕ) → IsNext (is_owned table core) j v
    → IsNext (is_owned table core) (j % length table) (j % length table + (v - j))
next_in_round table core j v h = record {
  passes = in_round table core j (v - j) ∙ ap (is_owned table core) (omega (arith, h.from)) ∙ h.passes;
  from = omega arith;
  least = λ w from own.
      let d : ℕ = w - j % length table in
      let there : is_owned table core (j + d) ≡ true =
      sym (in_round table core j d) ∙ ap (is_owned table core) (omega arith) ∙ own in
      let least : v ≤ j + d = h.least (j + d) (omega arith) there in
      omega (arith, h.from);
}

-- a round on, the next own slot is a round on
next_round_on : (table : List ℕ) (core j v : ℕ) → IsNext (is_owned table core) j v
    → IsNext (is_owned table core) (j + length table) (v + length table)
next_round_on table core j v h = record {
  passes = round_on table core v ∙ h.passes;
  from = omega (arith, h.from);
  least = λ w from own.
      let before : is_owned table core (w - length table) ≡ true =
      sym (round_on table core (w - length table)) ∙ ap (is_owned table core) (omega arith) ∙ own in
      let least : v ≤ w - length table = h.least (w - length table) (omega arith) before in
      omega arith;
}

pub next_at : (test : ℕ → Bool) (t u s v : ℕ) → t ≡ s → u ≡ v → IsNext test t u → IsNext test s v
next_at test t u s v same_from same_to h =
    subst (λ x. IsNext test s x) same_to (subst (λ x. IsNext test x u) same_from h)

-- a distance that outlasts the waits from the places of one round outlasts all
pub all_waits : (table : List ℕ) (core w : ℕ) → 0 < length table → ((j v : ℕ) → j < length table
    → IsNext (is_owned table core) j v → v ≤ j + w) → OutlastsWaits (is_owned table core) (1 + w)
all_waits table core w some within = record {
  wait = λ j v h.
      let near : j % length table + (v - j) ≤ j % length table + w =
      within (j % length table) (j % length table + (v - j)) (mod_below j (length table) some)
      (next_in_round table core j v h) in
      omega arith;
}

-- ---- the walk over the table, slot by slot

-- the place after the last is the first
pub wraps : (n first slots at : ℕ) → at ≡ (first + slots) % n → at + 1 ≡ n → 0 ≡ (first + (slots + 1)) % n
wraps n first slots at here last =
    let q : ℕ = (first + slots) / n in
    let whole : first + (slots + 1) ≡ (q + 1) * n + 0 = omega (arith, div-add-mod' (first + slots) n) in
    sym (ap (λ x. x % n) whole ∙ mod-mul-add (q + 1) n 0 (omega arith))

pub moves : (n first slots at : ℕ) → 0 < n → at ≡ (first + slots) % n → (at + 1 ≡ n → ⊥) → at + 1
    ≡ (first + (slots + 1)) % n
moves n first slots at some here inside =
    let q : ℕ = (first + slots) / n in
    let below : (first + slots) % n < n = mod_below (first + slots) n some in
    let whole : first + (slots + 1) ≡ q * n + (at + 1) = omega (arith, div-add-mod' (first + slots) n) in
    sym (ap (λ x. x % n) whole ∙ mod-mul-add q n (at + 1) (omega arith))

-- the entry at the place tells whether the slot is the core's
pub owned_here : (table : List ℕ) (core slot at : ℕ) → at ≡ slot % length table → slice_index table at ≡ core
    → is_owned table core slot ≡ true
owned_here table core slot at here own =
    ap (λ i. slice_index table i == core) (sym here) ∙ eq-eqb (slice_index table at) core own

pub other_here : (table : List ℕ) (core slot at : ℕ) → at ≡ slot % length table → (slice_index table at ≡ core → ⊥)
    → is_owned table core slot ≡ false
other_here table core slot at here other =
    ap (λ i. slice_index table i == core) (sym here) ∙ ne_eqb (slice_index table at) core other

-- an own slot after none but others' is the next
pub found : (test : ℕ → Bool) (first slots : ℕ) → test (first + slots) ≡ true → ((k : ℕ) → k < slots → test (first + k)
    ≡ false) → IsNext test first (first + slots)
found test first slots own passed = record {
  passes = own;
  from = omega arith;
  least = λ v from also.
      elim (cases_lt v (first + slots)) [
        | inl early ↦
            let never : test (first + (v - first)) ≡ false = passed (v - first) (omega arith) in
            let same : first + (v - first) ≡ v = omega arith in
            absurd (true_false (sym also ∙ ap test (sym same) ∙ never))
        | inr late ↦ late
      ];
}

-- ---- the longest wait is one slot shorter than the gap

-- where a wait is the longest, the slot before it is the core's: else the wait from there were longer
own_before : (table : List ℕ) (core w before : ℕ) → OutlastsWaits (is_owned table core) (1 + w)
    → IsNext (is_owned table core) (before + 1) (before + (1 + w)) → is_owned table core before ≡ true
own_before table core w before within after =
    true_unless (is_owned table core before) (λ other.
    let longer : IsNext (is_owned table core) before (before + (1 + w)) = record {
      passes = after.passes;
      from = omega arith;
      least = λ v from own. after.least v (later v from own other) own;
    } in
    let near : before + (1 + w) < before + (1 + w) = within.wait before (before + (1 + w)) longer in
    absurd (omega arith))
  where
    later : (v : ℕ) → before ≤ v → is_owned table core v ≡ true → is_owned table core before ≡ false → before + 1 ≤ v
    later v from own other = elim (cases_lt before v) [
      | inl after ↦ omega arith
      | inr same ↦ absurd (true_false (sym own ∙ ap (is_owned table core) (omega arith) ∙ other))
    ]

pub gap_from_waits : (table : List ℕ) (core w : ℕ) → 0 < length table → OutlastsWaits (is_owned table core) (1 + w)
    → (j : ℕ) × IsNext (is_owned table core) j (j + w) → IsGap (is_owned table core) (1 + w)
gap_from_waits table core w some within at =
    let n : ℕ = length table in
    let before : ℕ = at.0 + n - 1 in
    let here : before + 1 ≡ at.0 + n = omega arith in
    let after : IsNext (is_owned table core) (before + 1) (before + (1 + w)) =
    next_at (is_owned table core) (at.0 + n) (at.0 + w + n) (before + 1) (before + (1 + w)) (sym here) (omega arith)
    (next_round_on table core at.0 (at.0 + w) at.1) in
    record {
      reached = (before, (own_before table core w before within after, after));
      greatest = λ u v _ next. let near : v < u + 1 + (1 + w) = within.wait (u + 1) v next in omega arith;
    }

-- ---- the longest of the waits, place by place

-- a number has one next
pub next_same : (test : ℕ → Bool) (t u v : ℕ) → IsNext test t u → IsNext test t v → u ≡ v
next_same test t u v a b = omega (arith, a.least v b.from b.passes, b.least u a.from a.passes)

-- the longer of the longest wait so far and the wait from the next place
pub more_waits : (test : ℕ → Bool) (first longest w more : ℕ) → more ≡ max longest w → IsNext test first (first + w)
    → ((j v : ℕ) → j < first → IsNext test j v → v ≤ j + longest) → (j v : ℕ) → j < first + 1
    → IsNext test j v → v ≤ j + more
more_waits test first longest w more e here before j v early h = elim (cases_lt j first) [
  | inl earlier ↦ omega (arith, before j v earlier h)
  | inr later ↦
      let at : j ≡ first = omega arith in
      let same : first + w ≡ v = next_same test first (first + w) v here (next_at test j v first v at refl h) in
      omega arith
]

pub longer_reached : (test : ℕ → Bool) (first longest w more : ℕ) → more ≡ max longest w → IsNext test first (first + w)
    → (j : ℕ) × IsNext test j (j + longest) → (j : ℕ) × IsNext test j (j + more)
longer_reached test first longest w more e here before = elim (cases_lt longest w) [
  | inl longer ↦ (first, next_at test first (first + w) first (first + more) refl (omega arith) here)
  | inr as_long ↦ (
    before.0,
    next_at test before.0 (before.0 + longest) before.0 (before.0 + more) refl
        (omega arith) before.1,
  )
]
