-- What the check answers, in terms of packets: the first fault of the first faulty entry.
use Rattle.std.proofs.Common.{◌≡◌, ℕ, zero, suc, ◌+◌, ◌<◌, ◌≤◌, Bool, true, false, not, ◌==◌, inl, inr, List, [], ◌∷◌, ◌++◌, length, Option, Some, None, option_map, slice_get, position, if◌then◌else◌, Result, Ok, Err, IsOk, ◌↔◌, refl, sym, ap, ◌∙◌, subst, arith, append_assoc, length-append}
use Rattle.std.specs.List.{position_from}
use Rattle.std.proofs.lemmas.Bool.{cases_lt, eq-eqb, eqb-true}
use Rattle.std.proofs.lemmas.Iterator.Adapters.{position_from-zero}
use Rattle.std.proofs.lemmas.Option.{slice_get_within}
use Rattle.argo_grid.specs.declared.grid.Entry.{Entry}
use Rattle.argo_grid.specs.declared.fault.GridFault.{GridFault}
use Rattle.argo_grid.specs.declared.fault.GridFault.TheVariants.{Range, Late, Shared}
use Rattle.argo_grid.specs.Schedule.{Schedule}
use Rattle.argo_grid.specs.Packet.{travel_time, Uses, Meet}
use Rattle.argo_grid.specs.Correct.{IsInRange, IsEntry, IsFaultless, IsNext, IsCorrect, IsShared, IsFirstFault}
use Rattle.argo_grid.specs.Check.{in_range, shares, fault_of, or_else, checked_from, checked}
use Rattle.argo_grid.proofs.Lists.{true_or_false, slice_get-append, slice_get_front, slice_get_seam}
use Rattle.argo_grid.proofs.Sharing.{in_range_means, in_range_is}
use Rattle.argo_grid.proofs.Meetings.{meet_exactly, turned, one_packet}

-- what it means where the first of a list's elements that pass a test stands
pub record IsFound {X : Type 0} (p : X → Bool) (xs : List X) (i : ℕ) : Type 0 where
  pub value : X
  pub here : slice_get xs i ≡ Some value
  pub passes : p value ≡ true
  pub least : (k : ℕ) (y : X) → k < i → slice_get xs k ≡ Some y → p y ≡ false

abbrev Found : {X : Type 0} → (X → Bool) → List X → ℕ → Option ℕ → Type 0
Found {X} p xs from None = (k : ℕ) (y : X) → slice_get xs k ≡ Some y → p y ≡ false
Found p xs from (Some i) = (k : ℕ) × ((i ≡ from + k) × IsFound p xs k)

shift : {X : Type 0} (p : X → Bool) (x : X) (xs : List X) (from : ℕ) (o : Option ℕ) → p x ≡ false
    → Found p xs (from + 1) o → Found p (x ∷ xs) from o
shift p x xs from None not_here none = λ k y here. go k y here
  where
    go : (k : ℕ) (y : _) → slice_get (x ∷ xs) k ≡ Some y → p y ≡ false
    go zero y here = let same : x ≡ y = cc in sym (ap p same) ∙ not_here
    go (suc k) y here = none k y here
shift p x xs from (Some i) not_here found = (
  suc found.0,
  (
    omega (arith, found.1.0),
    record {
      value = found.1.1.value;
      here = found.1.1.here;
      passes = found.1.1.passes;
      least = go;
    },
  ),
)
  where
    go : (k : ℕ) (y : _) → k < suc found.0 → slice_get (x ∷ xs) k ≡ Some y → p y ≡ false
    go zero y below here = let same : x ≡ y = cc in sym (ap p same) ∙ not_here
    go (suc k) y below here = found.1.1.least k y (omega arith) here

found_from : {X : Type 0} (p : X → Bool) (xs : List X) (from : ℕ) → Found p xs from (position_from p from xs)
found_from p [] from = λ k y here. let bad : None ≡ Some y = here in cc
found_from p (x ∷ xs) from = elim (true_or_false (p x)) [
  | inl here ↦ subst (Found p (x ∷ xs) from) (let e : Some from ≡ position_from p from (x ∷ xs) = rw here refl in e) (
    0,
    (
      omega arith,
      record {
        value = x;
        here = refl;
        passes = here;
        least = λ k y below there. absurd
            (omega arith);
      },
    ),
  )
  | inr other ↦ subst (Found p (x ∷ xs) from) (let e : position_from p (from + 1) xs ≡ position_from p from (x
      ∷ xs) = rw other refl in e)
      (shift p x xs from (position_from p (from + 1) xs) other (found_from p xs (from + 1)))
]

found : {X : Type 0} (p : X → Bool) (xs : List X) → Found p xs 0 (position p xs)
found p xs = subst (Found p xs 0) (sym (position_from-zero p xs)) (found_from p xs 0)

-- the entries are these, and those before have no fault
record Reached (s : Schedule) (earlier rest : List Entry) : Type 0 where
  whole : s.entries ≡ earlier ++ rest
  before : (j : ℕ) (o : Entry) → j < length earlier → IsEntry s j o → IsFaultless s j o

-- an entry has no fault, or this is the first fault of the schedule
abbrev Verdict : Schedule → ℕ → Entry → Option GridFault → Type 0
Verdict s i e None = IsFaultless s i e
Verdict s i e (Some fault) = IsFirstFault s fault

module _ (s : Schedule) (earlier rest : List Entry) (e : Entry) (r : Reached s earlier (e ∷ rest)) where
  next : IsNext s (length earlier) e
  next = record {
    here = ap (λ es. slice_get es (length earlier)) r.whole ∙ slice_get_seam earlier rest e;
    before = r.before;
  }

  earlier_entry : (j : ℕ) (o : Entry) → slice_get earlier j ≡ Some o → IsEntry s j o
  earlier_entry j o here = ap (λ es. slice_get es j) r.whole ∙ slice_get-append earlier (e ∷ rest) j o here

  entry_earlier : (j : ℕ) (o : Entry) → j < length earlier → IsEntry s j o → slice_get earlier j ≡ Some o
  entry_earlier j o below here =
      slice_get_front earlier (e ∷ rest) j o below (sym (ap (λ es. slice_get es j) r.whole) ∙ here)

  apart : (j : ℕ) (o : Entry) → shares s e o ≡ false → ¬ Meet s e o
  apart j o alone meet = let shared = (meet_exactly s e o).1 meet in let bad : false ≡ true = cc in cc

  on_sharing : IsInRange s e → e.arrive ≡ travel_time s.grid e → (o : Option ℕ) → Found (shares s e) earlier 0 o
      → Verdict s (length earlier) e (option_map (Shared (length earlier)) o)
  on_sharing in_range on_time None none = record {
    in_range = in_range;
    on_time = on_time;
    alone = λ j o below here. apart j o (none j o (entry_earlier j o below here));
  }
  on_sharing in_range on_time (Some i) found =
      let first = found.1.1 in
      let same : i ≡ found.0 = omega (arith, found.1.0) in
      subst (λ k. IsShared s (length earlier) k) (sym same) (record {
        entry = e;
        next = next;
        in_range = in_range;
        on_time = on_time;
        earlier = slice_get_within earlier found.0 first.value first.here;
        other = first.value;
        there = earlier_entry found.0 first.value first.here;
        meet = (meet_exactly s e first.value).0 first.passes;
        least = λ k o below here. apart k o
            (first.least k o below
            (entry_earlier k o (omega (arith, slice_get_within earlier found.0 first.value first.here)) here));
      })

  on_time : IsInRange s e → (b : Bool) → (e.arrive == travel_time s.grid e) ≡ b
      → Verdict s (length earlier) e (if not b then Some (Late (length earlier) (travel_time s.grid e)) else option_map
      (Shared (length earlier)) (position (shares s e) earlier))
  on_time in_range false late = record {
    entry = e;
    next = next;
    in_range = in_range;
    late = λ same. let yes_same = eq-eqb e.arrive (travel_time s.grid e) same in let bad : false ≡ true = cc in cc;
    travels = refl;
  }
  on_time in_range true exact = on_sharing in_range (eqb-true e.arrive (travel_time s.grid e) exact)
      (position (shares s e) earlier) (found (shares s e) earlier)

  judged : (b : Bool) → in_range s e ≡ b → Verdict s (length earlier) e (if not b then Some (Range (length earlier))
      else (if not (e.arrive == travel_time s.grid e) then Some (Late (length earlier) (travel_time s.grid e)) else
      option_map (Shared (length earlier)) (position (shares s e) earlier)))
  judged false out = record {
    entry = e;
    next = next;
    outside = λ inside. let is = in_range_is s e inside in
        let bad : false ≡ true = cc in cc;
  }
  judged true is = on_time (in_range_means s e is) (e.arrive == travel_time s.grid e) refl

  verdict : Verdict s (length earlier) e (fault_of s earlier e)
  verdict = judged (in_range s e) refl

-- one more entry without a fault
reached_next : (s : Schedule) (earlier rest : List Entry) (e : Entry) → Reached s earlier (e ∷ rest)
    → IsFaultless s (length earlier) e → Reached s (earlier ++ e ∷ []) rest
reached_next s earlier rest e r good = record {
  whole = r.whole ∙ sym (append_assoc earlier (e ∷ []) rest);
  before = λ j o below here. elim (cases_lt j (length earlier)) [
    | inl early ↦ r.before j o early here
    | inr last ↦
        let same : j ≡ length earlier = omega (arith, length-append earlier (e ∷ [])) in
        let there : IsEntry s (length earlier) o = subst (λ k. IsEntry s k o) same here in
        let own : IsEntry s (length earlier) e =
        ap (λ es. slice_get es (length earlier)) r.whole ∙ slice_get_seam earlier rest e in
        let equal : e ≡ o = cc in
        subst (λ k. IsFaultless s k o) (sym same) (subst (IsFaultless s (length earlier)) equal good)
  ];
}

-- all entries are without a fault
abbrev pub AllFaultless : Schedule → Type 0
AllFaultless s = (j : ℕ) (o : Entry) → IsEntry s j o → IsFaultless s j o

-- what an answer means
abbrev pub Meaning : Schedule → Result (Unit {0}) GridFault → Type 0
Meaning s (Ok u) = AllFaultless s
Meaning s (Err fault) = IsFirstFault s fault

goes_on : (s : Schedule) (i : ℕ) (e : Entry) (o : Option GridFault) (others : Result (Unit {0}) GridFault)
    → Verdict s i e o → (IsFaultless s i e → Meaning s others) → Meaning s (or_else o others)
goes_on s i e None others good later = later good
goes_on s i e (Some fault) others first later = first

meaning_from : (s : Schedule) (earlier rest : List Entry) → Reached s earlier rest
    → Meaning s (checked_from s earlier rest)
meaning_from s earlier [] r = λ j o here.
    let none : List Entry = [] in
    let listed : slice_get (earlier ++ []) j ≡ Some o = sym (ap (λ es. slice_get es j) r.whole) ∙ here in
    r.before j o (omega (arith, slice_get_within (earlier ++ []) j o listed, length-append earlier none)) here
meaning_from s earlier (e ∷ rest) r =
    goes_on s (length earlier) e (fault_of s earlier e) (checked_from s (earlier ++ e ∷ []) rest)
    (verdict s earlier rest e r)
    (λ good. meaning_from s (earlier ++ e ∷ []) rest (reached_next s earlier rest e r good))

pub meaning : (s : Schedule) → Meaning s (checked s)
unfolding checked
meaning s = meaning_from s [] s.entries (record { whole = refl; before = λ j o below here. absurd (omega arith) })

-- entries without a fault are a correct schedule
pub correct_of_faultless : (s : Schedule) → 1 ≤ s.length → AllFaultless s → IsCorrect s
correct_of_faultless s some all = record {
  in_range = λ i e here. (all i e here).in_range;
  on_time = λ i e here. (all i e here).on_time;
  apart = λ i j e other packet other_packet link cycle here there uses other_uses.
      let meet : Meet s e other = record {
        packet = packet;
        other_packet = other_packet;
        link = link;
        cycle = cycle;
        uses = uses;
        other_uses = other_uses;
      } in
      elim (cases_lt i j) [
        | inl before ↦ absurd ((all j other there).alone i e before here (turned s e other meet))
        | inr not_before ↦ elim (cases_lt j i) [
          | inl after ↦ absurd ((all i e here).alone j other after there meet)
          | inr not_after ↦
              let same : i ≡ j = omega arith in
              let there' : IsEntry s i other = subst (λ k. IsEntry s k other) (sym same) there in
              let equal : other ≡ e = cc in (
                same,
                one_packet s e packet other_packet link cycle some uses
                    (subst (λ o. Uses s o other_packet link cycle) equal other_uses),
              )
        ]
      ];
}

-- and a correct schedule has no fault
pub never_faulty : (s : Schedule) → IsCorrect s → (fault : GridFault) → ¬ IsFirstFault s fault
never_faulty s right (Range i) h = h.outside (right.in_range i h.entry h.next.here)
never_faulty s right (Late i needs) h = h.late (right.on_time i h.entry h.next.here ∙ sym h.travels)
never_faulty s right (Shared i j) h =
    let same = (right.apart i j h.entry h.other h.meet.packet h.meet.other_packet h.meet.link h.meet.cycle h.next.here
    h.there h.meet.uses h.meet.other_uses).0 in
    omega (arith, h.earlier, same)

pub right_exactly : (s : Schedule) (answer : Result (Unit {0}) GridFault) → 1 ≤ s.length → answer ≡ checked s
    → IsOk answer ↔ IsCorrect s
right_exactly s (Ok u) some same =
    ((λ ok. correct_of_faultless s some (subst (Meaning s) (sym same) (meaning s))), (λ right. refl))
right_exactly s (Err fault) some same = (
  (λ ok. absurd (let bad : false ≡ true = ok in cc)),
  (λ right. absurd (never_faulty s right fault (subst (Meaning s) (sym same) (meaning s)))),
)
