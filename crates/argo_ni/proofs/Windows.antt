-- Windows go round the other cores: what holds of one round holds of each.
use Rattle.std.proofs.Common.{◌≡◌, ◌≢◌, ℕ, ◌+◌, ◌-◌, ◌*◌, ◌/◌, ◌%◌, ◌<◌, ◌≤◌, Bool, true, false, ◌&&◌, nat_lt, nat_le, List, ap, sym, ◌∙◌, subst, refl, arith, inl, inr, ◌⊎◌, ◌==◌}
use Rattle.std.proofs.Math.Nat.{mod-add-mod, add-mod_right, mod-eq_of_lt}
use Rattle.std.proofs.lemmas.Nat.{mod-mul-add, mod_below, div-add-mod'}
use Rattle.std.proofs.lemmas.Bool.{cases_lt, eq-eqb, eqb-true, and_parts, and_from}
use Rattle.std.proofs.lemmas.Bool.Decides.{nat_tests}
use Rattle.slot_arbiter.specs.Order.{IsNext}
use Rattle.argo_ni.specs.declared.port.Port.{Port}
use Rattle.argo_ni.specs.Port.{port_at}
use Rattle.argo_ni.specs.Window.{target_in, is_used, sends_in}
use Rattle.slot_arbiter.proofs.Turns.{reach}

neither : (a : Bool) → (a && false) ≡ false
neither true = refl
neither false = refl

-- a number that passes the test, before which none does
pub found : (test : ℕ → Bool) (first k : ℕ) → test k ≡ true → first ≤ k → ((j : ℕ) → first ≤ j → j < k → test j ≡ false)
    → IsNext test first k
found test first k here from none = record {
  passes = here;
  from = from;
  least = λ v after own. elim (cases_lt v k) [
    | inl below ↦ let never = none v after below in absurd (let no : true ≡ false = cc in cc)
    | inr fine ↦ fine
  ];
}

-- in its window, a target whose channel has words is sent to
pub used_here : (n core k : ℕ) (ports : List Port) → 2 ≤ n → 0 < (port_at ports (target_in n core k)).channel.left
    → is_used n core ports k ≡ true
used_here n core k ports several some = grind (arith, nat_tests)

-- and one whose channel has none is not
pub unused_here : (n core k : ℕ) (ports : List Port) → (port_at ports (target_in n core k)).channel.left ≤ 0
    → is_used n core ports k ≡ false
unused_here n core k ports none = grind (arith, nat_tests)

-- so where nothing is sent in one round, nothing ever is
pub none_used : (n core first : ℕ) (ports : List Port) → ((k : ℕ) → first ≤ k → k < first + (n - 1)
    → is_used n core ports k ≡ false) → (k : ℕ) → is_used n core ports k ≡ false
none_used n core first ports none k = elim (cases_lt n 2) [
  | inl alone ↦ grind (arith, nat_tests)
  | inr several ↦
      let at = reach (n - 1) first (k % (n - 1)) (mod_below k (n - 1) (omega arith)) in
      let same : is_used n core ports k ≡ is_used n core ports (first + at.0) =
      ap (λ turn. nat_le 2 n && nat_lt 0 (port_at ports ((core + (turn + 1)) % n)).channel.left) (sym at.1.1) in
      same ∙ none (first + at.0) (omega arith) (omega (arith, at.1.0))
]

-- the first window in which something is sent begins in the first cycle in which something is
pub sends_next : (n core : ℕ) (ports : List Port) (from first window : ℕ) → from ≤ 2 * (3 * first) + 1 → 2 * (3 * first)
    + 1 < from + 6 → IsNext (is_used n core ports) first window → IsNext (sends_in n core ports) (from / 2) (3 * window)
sends_next n core ports from first window after near h = record {
  passes =
      let whole : 3 * window % 3 ≡ 0 = omega arith in
      let third : 3 * window / 3 ≡ window = omega arith in
      and_from (3 * window % 3 == 0) (is_used n core ports (3 * window / 3)) (eq-eqb (3 * window % 3) 0 whole)
      (ap (is_used n core ports) third ∙ h.passes);
  from = omega (arith, h.from);
  least = λ v at sent.
      let parts = and_parts (v % 3 == 0) (is_used n core ports (v / 3)) sent in
      let whole : v % 3 ≡ 0 = eqb-true (v % 3) 0 parts.0 in
      let least : window ≤ v / 3 = h.least (v / 3) (omega arith) parts.1 in
      omega arith;
}

-- where no window is used nothing is ever sent
pub never_sends : (n core : ℕ) (ports : List Port) → ((k : ℕ) → is_used n core ports k ≡ false) → (cycle : ℕ)
    → sends_in n core ports cycle ≡ false
never_sends n core ports none cycle =
    let never = none (cycle / 3) in rw never (neither (cycle % 3 == 0))

-- a number below two rounds is taken to its place in one
wrapped : (x n : ℕ) → x < n + n → ((x < n) × (x % n ≡ x)) ⊎ ((n ≤ x) × (x % n ≡ x - n))
wrapped x n below = elim (cases_lt x n) [
  | inl fits ↦ inl (fits, mod-eq_of_lt fits)
  | inr past ↦
      let whole : x ≡ 1 * n + (x - n) = omega arith in
      inr (past, ap (λ y. y % n) whole ∙ mod-mul-add 1 n (x - n) (omega arith))
]

turn_below : (n k : ℕ) → 2 ≤ n → k % (n - 1) + 1 < n
turn_below n k several = let below : k % (n - 1) < n - 1 = mod_below k (n - 1) (omega arith) in omega arith

-- a core is no target of its own
pub other_core : (n core k : ℕ) → 2 ≤ n → core < n → target_in n core k ≢ core
other_core n core k several among = λ same.
    let turn = turn_below n k several in
    elim (wrapped (core + (k % (n - 1) + 1)) n (omega arith)) [
      | inl fits ↦ absurd (omega (arith, fits.1))
      | inr past ↦ absurd (omega (arith, past.0, past.1))
    ]

-- no two cores have the same target in a window
pub targets_apart : (n core other window : ℕ) → core < n → other < n → target_in n core window
    ≡ target_in n other window → core ≡ other
targets_apart n core other window among among' same = elim (cases_lt n 2) [
  | inl alone ↦ omega arith
  | inr several ↦
      let turn = turn_below n window several in
      elim (wrapped (core + (window % (n - 1) + 1)) n (omega arith)) [
        | inl fits ↦ elim (wrapped (other + (window % (n - 1) + 1)) n (omega arith)) [
          | inl fits' ↦ omega (arith, same, fits.1, fits'.1)
          | inr past' ↦ omega (arith, same, fits.0, fits.1, past'.0, past'.1)
        ]
        | inr past ↦ elim (wrapped (other + (window % (n - 1) + 1)) n (omega arith)) [
          | inl fits' ↦ omega (arith, same, past.0, past.1, fits'.0, fits'.1)
          | inr past' ↦ omega (arith, same, past.0, past.1, past'.0, past'.1)
        ]
      ]
]

-- a round on, the target is the same
pub round_on : (n core window : ℕ) → target_in n core (window + (n - 1)) ≡ target_in n core window
round_on n core window = ap (λ turn. (core + (turn + 1)) % n) (add-mod_right window (n - 1))

-- each other core has a window of its own, so where nothing is ever sent no words are left to it
pub never_left : (n core d : ℕ) (ports : List Port) → core < n → d < n → d ≢ core
    → ((cycle : ℕ) → sends_in n core ports cycle ≡ false) → (port_at ports d).channel.left ≡ 0
never_left n core d ports among below other none = elim (cases_lt core d) [
  | inl after ↦ at_window (d - core - 1) (omega arith)
      (ap (λ turn. (core + (turn + 1)) % n) (mod-eq_of_lt {n = d - core - 1} {m = n - 1} (omega arith))
      ∙ ap (λ x. x % n) (omega arith) ∙ mod-eq_of_lt below)
  | inr before ↦ at_window (d + n - core - 1) (omega arith)
      (ap (λ turn. (core + (turn + 1)) % n) (mod-eq_of_lt {n = d + n - core - 1} {m = n - 1} (omega arith))
      ∙ ap (λ x. x % n) (omega arith) ∙ mod-mul-add 1 n d below)
]
  where
    at_window : (k : ℕ) → 2 ≤ n → target_in n core k ≡ d → (port_at ports d).channel.left ≡ 0
    at_window k several to =
        let whole : 3 * k % 3 ≡ 0 = omega arith in
        let third : 3 * k / 3 ≡ k = omega arith in
        let never : sends_in n core ports (3 * k) ≡ false = none (3 * k) in
        elim (cases_lt 0 (port_at ports d).channel.left) [
          | inl some ↦
              let there : 0 < (port_at ports (target_in n core k)).channel.left =
              subst (λ t. 0 < (port_at ports t).channel.left) (sym to) some in
              let used : is_used n core ports k ≡ true = used_here n core k ports several there in
              let sent : sends_in n core ports (3 * k) ≡ true =
              and_from (3 * k % 3 == 0) (is_used n core ports (3 * k / 3)) (eq-eqb (3 * k % 3) 0 whole)
              (ap (is_used n core ports) third ∙ used) in
              absurd (let no : true ≡ false = cc in cc)
          | inr empty ↦ omega arith
        ]

-- the turns of a round follow one another, and after the last one comes the first
turn_on : (m k : ℕ) → k % m + 1 < m → (k + 1) % m ≡ k % m + 1
turn_on m k inside =
    let whole : k + 1 ≡ k / m * m + (k % m + 1) = omega (arith, div-add-mod' k m) in
    ap (λ x. x % m) whole ∙ mod-mul-add (k / m) m (k % m + 1) inside

turn_again : (m k : ℕ) → k % m + 1 ≡ m → (k + 1) % m ≡ 0
turn_again m k last =
    let whole : k + 1 ≡ (k / m + 1) * m + 0 = omega (arith, div-add-mod' k m) in
    ap (λ x. x % m) whole ∙ mod-mul-add (k / m + 1) m 0 (omega arith)

-- after a window's target comes the next core, where that is not the sender
pub next_in_round : (n core target k : ℕ) → 2 ≤ n → core < n → target ≡ target_in n core k → (target + 1) % n ≢ core
    → (target + 1) % n ≡ target_in n core (k + 1)
next_in_round n core target k several among here other =
    let turn : ℕ = k % (n - 1) in
    let on : (target + 1) % n ≡ (core + (turn + 1) + 1) % n =
    ap (λ t. (t + 1) % n) here ∙ mod-add-mod (core + (turn + 1)) n 1 in
    elim (cases_lt (turn + 1) (n - 1)) [
      | inl inside ↦ on ∙ ap (λ x. x % n) (omega arith)
          ∙ ap (λ t. (core + (t + 1)) % n) (sym (turn_on (n - 1) k inside))
      | inr last ↦
          let below = turn_below n k several in
          let round : (core + (turn + 1) + 1) % n ≡ core = ap (λ x. x % n) (omega arith) ∙ mod-mul-add 1 n core among in
          absurd (other (on ∙ round))
    ]

-- and where it is, the one after that
pub past_itself : (n core target k : ℕ) → 2 ≤ n → core < n → target ≡ target_in n core k → (target + 1) % n ≡ core
    → (core + 1) % n ≡ target_in n core (k + 1)
past_itself n core target k several among here own =
    let turn : ℕ = k % (n - 1) in
    let on : (target + 1) % n ≡ (core + (turn + 1) + 1) % n =
    ap (λ t. (t + 1) % n) here ∙ mod-add-mod (core + (turn + 1)) n 1 in
    let below = turn_below n k several in
    elim (cases_lt (turn + 1) (n - 1)) [
      | inl inside ↦ elim (wrapped (core + (turn + 1) + 1) n (omega arith)) [
        | inl fits ↦ absurd (omega (arith, on, own, fits.1))
        | inr past ↦ absurd (omega (arith, on, own, past.0, past.1))
      ]
      | inr last ↦ ap (λ t. (core + (t + 1)) % n) (sym (turn_again (n - 1) k (omega arith)))
    ]
