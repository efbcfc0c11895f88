-- Events that go to functions which all fit into the method cache together take no more than they cost without it, and
-- one fetch of each function.
use Rattle.std.proofs.Common.{◌≡◌, ℕ, ◌+◌, ◌-◌, ◌*◌, ◌≤◌, ◌==◌, min, Bool, true, false, if◌then◌else◌, List, [], ◌∷◌, ◌++◌, sum_by, None, Some, refl, sym, ap, ◌∙◌, subst, arith, mul-le-mul_left}
use Rattle.std.proofs.lemmas.List.Sums.{sum_by_push}
use Rattle.std.specs.List.{Contains}
use Rattle.method_cache.specs.declared.cache.Method.{Method}
use Rattle.method_cache.specs.Residents.{fits, resident, is_among, fill_of}
use Rattle.patmos_instr.specs.declared.functions.StackFunc.TheVariants.{Sres, Sens, Sfree}
use Rattle.patmos_model.specs.Site.{Site}
use Rattle.core_pace.specs.Bound.{most_in_slot}
use Rattle.core_pace.specs.Pace.{Pace, Event, quick, load, cached, store, stack, came, is_loaded, asks, asked_by, with_line, carried, happened, clock}
use Rattle.core_pace.specs.Spans.{IsSlotted, accesses_from, moved_by}
use Rattle.core_pace.proofs.Moves.{carried_words}
use Rattle.bound_persist.specs.Together.{MissOnce}
use Rattle.bound_persist.proofs.Together.{none_missed, all_stay, once_pushed}
use Rattle.code_times.specs.Costs.{cost, AreFew}
use Rattle.code_times.proofs.Bounded.{Within, carried_within, few_so, few_rest}
use Rattle.code_persist.specs.Events.{AreAmong, bare, bares}

-- what the fetches of these move
abbrev pub fills : List Method → ℕ
fills methods = sum_by (λ m. fill_of m.words) methods

carried_misses : (site : Site) (p : Pace) → (carried site p).misses ≡ p.misses
carried_misses site p = by (p.words == 0)
  where
    by : (b : Bool) → (elim b as (λ _. Pace) [
      | true ↦ p
      | false ↦ record p {
        free = moved_by site p.free p.words;
        words = 0;
        line = None;
        accesses = p.accesses ++ accesses_from site p.free p.write p.words;
        loads = with_line p.line p.loads;
      }
    ]).misses ≡ p.misses
    by true = refl
    by false = refl

-- an event takes no more than it costs without the method cache, and the fetches of what missed by it
record Once (all : List Method) (each : ℕ) (e : Event) (p q : Pace) : Type 0 where
  free : q.free + each * fills p.misses ≤ p.free + bare each e + each * fills q.misses
  held : q.held ≤ 128
  missed : MissOnce all q.misses

module _ (site : Site) (all : List Method) (slots : IsSlotted site) (room : fits all ≡ true) where
  -- where no function is gone to
  other_once : (e : Event) (es : List Event) (p : Pace) → AreFew (e ∷ es) → p.words ≡ 0 → p.held ≤ 128
      → MissOnce all p.misses
      → (asked_by e p).misses ≡ p.misses → cost (most_in_slot site) e ≡ bare (most_in_slot site) e
      → Once all (most_in_slot site) e p (happened site e p)
  other_once e es p few none small missed same is =
      let f = few_so (most_in_slot site) e es p few none small in
      let w = carried_within site (asked_by e p) f.most slots f.words in
      let misses : (happened site e p).misses ≡ p.misses = carried_misses site (asked_by e p) ∙ same in
      let fetched = ap (λ ms. most_in_slot site * fills ms) misses in
      record {
        free = omega (arith, f.free, w.free, fetched, is);
        held = omega (arith, w.held, f.held);
        missed = subst
            (MissOnce all) (sym misses) missed;
      }

  asks_misses : (write : Bool) (words : ℕ) (p : Pace) → (asks write words p).misses ≡ p.misses
  asks_misses write words p = by (words == 0)
    where
      by : (b : Bool) → (elim b as (λ _. Pace) [
        | true ↦ record p { free = p.free + 1 }
        | false ↦
            record p { write = write; words = words; line = None }
      ]).misses ≡ p.misses
      by true = refl
      by false = refl

  cached_misses : (address : ℕ) (p : Pace) → (asked_by (cached address) p).misses ≡ p.misses
  cached_misses address p = by (is_loaded address p.loads)
    where
      by : (b : Bool)
          → (elim b as (λ _. Pace) [
            | true ↦ record p { free = p.free + 1; loads = address ∷ p.loads }
            | false ↦
                record p { write = false; words = 4; line = Some address }
          ]).misses ≡ p.misses
      by true = refl
      by false = refl

  came_once : (method : Method) (p : Pace) → p.words ≡ 0 → p.held ≤ 128 → MissOnce all p.misses → Contains all method
      → Once all (most_in_slot site) (came method) p (happened site (came method) p)
  came_once method p none small missed one = by (is_among method.function (resident p.misses)) refl
    where
      by : (b : Bool) → is_among method.function (resident p.misses) ≡ b → Once all (most_in_slot site) (came method) p
          (carried site (elim b as (λ _. Pace) [
            | true ↦ record p {
              write = false;
              words = 0;
              line = None;
              misses = if b then p.misses else p.misses
                  ++ method ∷ [];
            }
            | false ↦ record p {
              write = false;
              words = method.words + 1;
              line = None;
              misses = if b then p.misses else p.misses ++ method ∷ [];
            }
          ]))
      by true is = record { free = omega arith; held = small; missed = missed }
      by false is =
          let q : Pace =
          record p { write = false; words = method.words + 1; line = None; misses = p.misses ++ method ∷ [] } in
          let w : Within site q (fill_of method.words) (carried site q) =
          carried_within site q (fill_of method.words) slots (omega arith) in
          let misses : (carried site q).misses ≡ p.misses ++ method ∷ [] = carried_misses site q in
          let more : fills (carried site q).misses ≡ fills p.misses + fill_of method.words =
          ap fills misses ∙ sum_by_push (λ (m : Method). fill_of m.words) p.misses method in
          let fetched : most_in_slot site * fills (carried site q).misses ≡ most_in_slot site
          * (fills p.misses + fill_of method.words) = ap (λ n. most_in_slot site * n) more in
          let time = w.free in
          let h = w.held in
          record {
            free = omega (arith, time, fetched);
            held = omega (arith, h, small);
            missed = subst (MissOnce all) (sym misses) (once_pushed all p.misses method one
                (ap (is_among method.function) (sym (all_stay all p.misses room missed)) ∙ is) missed);
          }

  once : (e : Event) (es : List Event) (p : Pace) → AreFew (e ∷ es) → p.words ≡ 0 → p.held ≤ 128 → MissOnce all p.misses
      → AreAmong all (e ∷ es) → Once all (most_in_slot site) e p (happened site e p)
  once quick es p few none small missed among = other_once quick es p few none small missed refl refl
  once load es p few none small missed among = other_once load es p few none small missed refl refl
  once (cached address) es p few none small missed among =
      other_once (cached address) es p few none small missed (cached_misses address p) refl
  once store es p few none small missed among = other_once store es p few none small missed refl refl
  once (stack Sres count) es p few none small missed among =
      other_once (stack Sres count) es p few none small missed (asks_misses true (count + p.held - 128)
      (record p { held = min 128 (count + p.held) })) refl
  once (stack Sens count) es p few none small missed among =
      other_once (stack Sens count) es p few none small missed (asks_misses false (count - p.held)
      (record p { held = p.held + (count - p.held) })) refl
  once (stack Sfree count) es p few none small missed among =
      other_once (stack Sfree count) es p few none small missed refl refl
  once (came method) es p few none small missed among = came_once method p none small missed among.0

  among_rest : (e : Event) (es : List Event) → AreAmong all (e ∷ es) → AreAmong all es
  among_rest quick es among = among
  among_rest load es among = among
  among_rest (cached address) es among = among
  among_rest store es among = among
  among_rest (stack func count) es among = among
  among_rest (came method) es among = among.1

  -- the clock over events
  record Clocks (es : List Event) (p : Pace) : Type 0 where
    free : (clock site es p).free + most_in_slot site * fills p.misses ≤ p.free + bares (most_in_slot site) es
        + most_in_slot site * fills (clock site es p).misses
    missed : MissOnce all (clock site es p).misses

  clocks_once : (es : List Event) (p : Pace) → AreFew es → p.words ≡ 0 → p.held ≤ 128 → MissOnce all p.misses
      → AreAmong all es → Clocks es p
  clocks_once [] p few none small missed among = record { free = omega arith; missed = missed }
  clocks_once (e ∷ es) p few none small missed among =
      let h = once e es p few none small missed among in
      let rest = clocks_once es (happened site e p) (few_rest e es few) (carried_words site (asked_by e p)) h.held
      h.missed (among_rest e es among) in
      let a = h.free in
      let b = rest.free in
      record { free = omega (arith, a, b); missed = rest.missed }

  -- from an empty method cache
  pub clock_once : (es : List Event) (p : Pace) → AreFew es → p.words ≡ 0 → p.held ≤ 128 → p.misses ≡ []
      → AreAmong all es
      → (clock site es p).free ≤ p.free + bares (most_in_slot site) es + most_in_slot site * fills all
  clock_once es p few none small empty among =
      let h = clocks_once es p few none small (subst (MissOnce all) (sym empty) (none_missed all)) among in
      let a = h.free in
      let b = h.missed (λ m. fill_of m.words) in
      let least : fills (clock site es p).misses ≤ fills all = omega (arith, b) in
      let c = mul-le-mul_left (most_in_slot site) least in
      omega (arith, a, c)
