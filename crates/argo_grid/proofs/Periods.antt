-- Slots of a period: when two places of two routes fall into one slot.
use Rattle.std.proofs.Common.{◌≡◌, ◌≢◌, ℕ, ◌+◌, ◌-◌, ◌*◌, ◌/◌, ◌%◌, ◌<◌, ◌≤◌, List, length, Some, slice_get, sym, ap, ◌∙◌, subst, arith, inl, inr}
use Rattle.std.proofs.Math.Nat.{add-mod-mod, mod-add-mod, add-mod_right, mod-eq_of_lt, mul-add-mod_self_right}
use Rattle.std.proofs.lemmas.Nat.{div-add-mod', mod_below}
use Rattle.std.proofs.lemmas.Bool.{cases_lt}
use Rattle.std.proofs.lemmas.Option.{slice_get_within}
use Rattle.argo_grid.specs.declared.route.Link.{Link}
use Rattle.argo_grid.specs.Check.{HasLink, MeetIn}

-- numbers less than a period apart that leave one remainder are equal
same_remainder : (a b period : ℕ) → 0 < period → a ≤ b → b < a + period → a % period ≡ b % period → a ≡ b
same_remainder a b period some after near same =
    let first : a / period * period + a % period ≡ a = div-add-mod' a period in
    let second : b / period * period + b % period ≡ b = div-add-mod' b period in
    elim (cases_lt (a / period) (b / period)) [
      | inl more ↦
          let e : b / period ≡ a / period + 1 + (b / period - a / period - 1) = omega arith in
          let far : b / period * period ≡ a / period * period + period + (b / period - a / period - 1) * period =
          ap (λ q. q * period) e ∙ omega arith in
          absurd (omega arith)
      | inr fewer ↦ elim (cases_lt (b / period) (a / period)) [
        | inl less ↦
            let e : a / period ≡ b / period + 1 + (a / period - b / period - 1) = omega arith in
            let far : a / period * period ≡ b / period * period + period + (a / period - b / period - 1) * period =
            ap (λ q. q * period) e ∙ omega arith in
            let rest = mod_below b period some in
            absurd (omega arith)
        | inr more ↦
            let e : a / period ≡ b / period = omega arith in
            let whole : a / period * period ≡ b / period * period = ap (λ q. q * period) e in
            omega arith
      ]
    ]

-- a period on, the remainder is the same, and no place between has it
pub next_place : (place period first : ℕ) → place % period ≡ first → (place + period) % period ≡ first
next_place place period first here = add-mod_right place period ∙ here

no_more_places : (place k period first : ℕ) → 0 < period → place % period ≡ first → k % period ≡ first → place ≤ k
    → k < place + period → k ≡ place
no_more_places place k period first some here there after near =
    sym (same_remainder place k period some after near (here ∙ sym there))

-- so where another link stands there, none of the places until the next one has it
pub later_places : (period first place : ℕ) (links : List Link) (link here : Link) → 0 < period → place % period ≡ first
    → slice_get links place ≡ Some here → here ≢ link
    → ((k : ℕ) → k < place → k % period ≡ first → slice_get links k ≡ Some link → ⊥)
    → (k : ℕ) → k < place + period → k % period ≡ first → slice_get links k ≡ Some link → ⊥
later_places period first place links link here some at is other before k within same there = elim (cases_lt k place) [
  | inl early ↦ before k early same there
  | inr late ↦
      let equal : k ≡ place = no_more_places place k period first some at same late within in
      let own : slice_get links place ≡ Some link = subst (λ n. slice_get links n ≡ Some link) equal there in
      other (let e : here ≡ link = cc in e)
]

pub no_place_left : (period first place : ℕ) (links : List Link) (link : Link) → length links ≤ place
    → ((k : ℕ) → k < place → k % period ≡ first → slice_get links k ≡ Some link → ⊥) → HasLink period first links link
    → ⊥
no_place_left period first place links link over before has =
    let within : has.place < length links = slice_get_within links has.place link has.here in
    before has.place (omega arith) has.first_is has.here

-- the slots that a route begins ahead of another
abbrev pub ahead_of : ℕ → ℕ → ℕ → ℕ
ahead_of period slot other_slot = (slot + (period - other_slot % period)) % period

-- places fall into one slot exactly where they do when the other route begins in slot 0
together_from : (period slot other_slot i k : ℕ) → 0 < period → k % period ≡ (ahead_of period slot other_slot + i)
    % period → (slot + i) % period ≡ (other_slot + k) % period
together_from period slot other_slot i k some same =
    let x : ℕ = slot + (period - other_slot % period) in
    let below = mod_below other_slot period some in
    let whole : other_slot + i + x ≡ (other_slot / period + 1) * period + (slot + i) =
    omega (arith, div-add-mod' other_slot period) in
    sym (
    sym (add-mod-mod other_slot k period)
    ∙ ap (λ r. (other_slot + r) % period) same
    ∙ add-mod-mod other_slot (x % period + i) period
    ∙ ap (λ n. n % period) (let e : other_slot + (x % period + i) ≡ other_slot + i + x % period = omega arith in e)
    ∙ add-mod-mod (other_slot + i) x period
    ∙ ap (λ n. n % period) whole
    ∙ mul-add-mod_self_right (other_slot / period + 1) period (slot + i)
    )

ahead_from : (period slot other_slot i k : ℕ) → 0 < period → (slot + i) % period ≡ (other_slot + k) % period
    → k % period ≡ (ahead_of period slot other_slot + i) % period
ahead_from period slot other_slot i k some same =
    let back : ℕ = period - other_slot % period in
    let below = mod_below other_slot period some in
    let whole : other_slot + k + back ≡ (other_slot / period + 1) * period + k =
    omega (arith, div-add-mod' other_slot period) in
    sym (
    mod-add-mod (slot + back) period i
    ∙ ap (λ n. n % period) (let e : slot + back + i ≡ slot + i + back = omega arith in e)
    ∙ sym (mod-add-mod (slot + i) period back)
    ∙ ap (λ r. (r + back) % period) same
    ∙ mod-add-mod (other_slot + k) period back
    ∙ ap (λ n. n % period) whole
    ∙ mul-add-mod_self_right (other_slot / period + 1) period k
    )

-- a route that is over before the other begins, in every period, never meets it
pub far_apart : (period slot other_slot : ℕ) (links other_links : List Link) → 0 < period → length other_links
    ≤ ahead_of period slot other_slot → ahead_of period slot other_slot + length links ≤ period
    → MeetIn period slot links other_slot other_links → ⊥
far_apart period slot other_slot links other_links some past over meet =
    let within : meet.place < length links = slice_get_within links meet.place meet.link meet.here in
    let within' : meet.other_place < length other_links =
    slice_get_within other_links meet.other_place meet.link meet.there in
    let same = ahead_from period slot other_slot meet.place meet.other_place some meet.together in
    let first : meet.other_place % period ≡ meet.other_place = mod-eq_of_lt (omega arith) in
    let second : (ahead_of period slot other_slot + meet.place) % period ≡ ahead_of period slot other_slot
    + meet.place = mod-eq_of_lt (omega arith) in
    omega arith

-- where the other route has the link in the slot of this place, they meet
pub meets_here : (period slot other_slot place : ℕ) (links other_links : List Link) (link : Link) → 0 < period
    → slice_get links place ≡ Some link → HasLink period ((ahead_of period slot other_slot + place)
    % period) other_links link → MeetIn period slot links other_slot other_links
meets_here period slot other_slot place links other_links link some here has = record {
  place = place;
  other_place = has.place;
  link = link;
  here = here;
  there = has.here;
  together = together_from period slot other_slot place has.place some has.first_is;
}

-- and where it has not, none of the places until there is one where they meet
pub no_more_meetings : (period slot other_slot place : ℕ) (links other_links : List Link) (here : Link) → 0 < period
    → slice_get links place ≡ Some here
    → (HasLink period ((ahead_of period slot other_slot + place) % period) other_links here → ⊥)
    → ((i k : ℕ) (link : Link) → i < place → slice_get links i ≡ Some link → slice_get other_links k ≡ Some link
    → (slot + i) % period ≡ (other_slot + k) % period → ⊥)
    → (i k : ℕ) (link : Link) → i < place + 1 → slice_get links i ≡ Some link → slice_get other_links k ≡ Some link
    → (slot + i) % period ≡ (other_slot + k) % period → ⊥
no_more_meetings period slot other_slot place links other_links here some is none before i k link within own other
    together = elim (cases_lt i place) [
      | inl early ↦ before i k link early own other together
      | inr last ↦
          let same : i ≡ place = omega arith in
          let own' : slice_get links place ≡ Some link = subst (λ n. slice_get links n ≡ Some link) same own in
          let equal : link ≡ here = cc in
          none (record {
            place = k;
            here = other ∙ ap Some equal;
            first_is = ahead_from period slot other_slot place k some
                (subst (λ n. (slot + n) % period ≡ (other_slot + k) % period) same together);
          })
    ]

pub no_meeting_left : (period slot other_slot place : ℕ) (links other_links : List Link) → length links ≤ place
    → ((i k : ℕ) (link : Link) → i < place → slice_get links i ≡ Some link → slice_get other_links k ≡ Some link
    → (slot + i) % period ≡ (other_slot + k) % period → ⊥)
    → MeetIn period slot links other_slot other_links → ⊥
no_meeting_left period slot other_slot place links other_links over before meet =
    let within : meet.place < length links = slice_get_within links meet.place meet.link meet.here in
    before meet.place meet.other_place meet.link (omega arith) meet.here meet.there meet.together
