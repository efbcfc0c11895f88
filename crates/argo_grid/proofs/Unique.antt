-- A schedule has one first fault.
use Rattle.std.proofs.Common.{◌≡◌, ℕ, ◌≤◌, inl, inr, Result, Ok, Err, ◌↔◌, sym, ap, ◌∙◌, subst, arith}
use Rattle.std.proofs.lemmas.Bool.{cases_lt}
use Rattle.argo_grid.specs.declared.grid.Entry.{Entry}
use Rattle.argo_grid.specs.declared.fault.GridFault.{GridFault}
use Rattle.argo_grid.specs.declared.fault.GridFault.TheVariants.{Range, Late, Shared}
use Rattle.argo_grid.specs.Schedule.{Schedule}
use Rattle.argo_grid.specs.Packet.{travel_time, Meet}
use Rattle.argo_grid.specs.Correct.{IsInRange, IsEntry, IsFaultless, IsNext, IsOutOfRange, IsLate, IsShared, IsFirstFault}
use Rattle.argo_grid.specs.Check.{checked}
use Rattle.argo_grid.proofs.Faults.{Meaning, meaning, correct_of_faultless, never_faulty}

-- the first entry that has a fault
record Faulty (s : Schedule) (i : ℕ) : Type 0 where
  entry : Entry
  next : IsNext s i entry
  faulty : ¬ IsFaultless s i entry

faulty_out : (s : Schedule) (i : ℕ) → IsOutOfRange s i → Faulty s i
faulty_out s i h = record { entry = h.entry; next = h.next; faulty = λ good. h.outside good.in_range }

faulty_late : (s : Schedule) (i needs : ℕ) → IsLate s i needs → Faulty s i
faulty_late s i needs h =
    record { entry = h.entry; next = h.next; faulty = λ good. h.late (good.on_time ∙ sym h.travels) }

faulty_shared : (s : Schedule) (i j : ℕ) → IsShared s i j → Faulty s i
faulty_shared s i j h =
    record { entry = h.entry; next = h.next; faulty = λ good. good.alone j h.other h.earlier h.there h.meet }

one_faulty : (s : Schedule) (i j : ℕ) → Faulty s i → Faulty s j → i ≡ j
one_faulty s i j h k = elim (cases_lt i j) [
  | inl before ↦ absurd (h.faulty (k.next.before i h.entry before h.next.here))
  | inr not_before ↦ elim (cases_lt j i) [
    | inl after ↦ absurd (k.faulty (h.next.before j k.entry after k.next.here))
    | inr not_after ↦ omega arith
  ]
]

-- which entry it is
one_entry : (s : Schedule) (i j : ℕ) (e o : Entry) → i ≡ j → IsEntry s i e → IsEntry s j o → e ≡ o
one_entry s i j e o same here there =
    let there' : IsEntry s i o = subst (λ k. IsEntry s k o) (sym same) there in
    cc

least_shared : (s : Schedule) (i i' j j' : ℕ) (h : IsShared s i j) (k : IsShared s i' j') → h.entry ≡ k.entry → j ≡ j'
least_shared s i i' j j' h k same = elim (cases_lt j j') [
  | inl before ↦ absurd (k.least j h.other before h.there (subst (λ e. Meet s e h.other) same h.meet))
  | inr not_before ↦ elim (cases_lt j' j) [
    | inl after ↦ absurd (h.least j' k.other after k.there (subst (λ e. Meet s e k.other) (sym same) k.meet))
    | inr not_after ↦ omega arith
  ]
]

one_fault : (s : Schedule) (f g : GridFault) → IsFirstFault s f → IsFirstFault s g → f ≡ g
one_fault s (Range i) (Range j) h k = ap Range (one_faulty s i j (faulty_out s i h) (faulty_out s j k))
one_fault s (Range i) (Late j needs) h k =
    let place = one_faulty s i j (faulty_out s i h) (faulty_late s j needs k) in
    absurd (h.outside (subst (IsInRange s) (sym (one_entry s i j h.entry k.entry place h.next.here k.next.here))
    k.in_range))
one_fault s (Range i) (Shared j o) h k =
    let place = one_faulty s i j (faulty_out s i h) (faulty_shared s j o k) in
    absurd (h.outside (subst (IsInRange s) (sym (one_entry s i j h.entry k.entry place h.next.here k.next.here))
    k.in_range))
one_fault s (Late i needs) (Range j) h k =
    let place = one_faulty s i j (faulty_late s i needs h) (faulty_out s j k) in
    absurd (k.outside (subst (IsInRange s) (one_entry s i j h.entry k.entry place h.next.here k.next.here) h.in_range))
one_fault s (Late i needs) (Late j needs') h k =
    let place = one_faulty s i j (faulty_late s i needs h) (faulty_late s j needs' k) in
    let entry = one_entry s i j h.entry k.entry place h.next.here k.next.here in
    let same : needs ≡ needs' = h.travels ∙ ap (travel_time s.grid) entry ∙ sym k.travels in
    λ a. Late (place a) (same a)
one_fault s (Late i needs) (Shared j o) h k =
    let place = one_faulty s i j (faulty_late s i needs h) (faulty_shared s j o k) in
    let entry = one_entry s i j h.entry k.entry place h.next.here k.next.here in
    absurd (h.late (ap (λ (e : Entry). e.arrive) entry ∙ k.on_time ∙ ap (travel_time s.grid) (sym entry)
    ∙ sym h.travels))
one_fault s (Shared i o) (Range j) h k =
    let place = one_faulty s i j (faulty_shared s i o h) (faulty_out s j k) in
    absurd (k.outside (subst (IsInRange s) (one_entry s i j h.entry k.entry place h.next.here k.next.here) h.in_range))
one_fault s (Shared i o) (Late j needs) h k =
    let place = one_faulty s i j (faulty_shared s i o h) (faulty_late s j needs k) in
    let entry = one_entry s i j h.entry k.entry place h.next.here k.next.here in
    absurd (k.late (ap (λ (e : Entry). e.arrive) (sym entry) ∙ h.on_time ∙ ap (travel_time s.grid) entry
    ∙ sym k.travels))
one_fault s (Shared i o) (Shared j o') h k =
    let place = one_faulty s i j (faulty_shared s i o h) (faulty_shared s j o' k) in
    let entry = one_entry s i j h.entry k.entry place h.next.here k.next.here in
    let same = least_shared s i j o o' h k entry in
    λ a. Shared (place a) (same a)

-- so the check answers a fault exactly where it is the first one
exactly : (s : Schedule) (answer : Result (Unit {0}) GridFault) (fault : GridFault) → 1 ≤ s.length → Meaning s answer
    → (answer ≡ Err fault) ↔ IsFirstFault s fault
exactly s (Ok u) fault some means = (
  (λ same. absurd (let bad : Ok u ≡ Err fault = same in cc)),
  (λ first. absurd (never_faulty s (correct_of_faultless s some means) fault first)),
)
exactly s (Err found) fault some means = (
  (λ same. let e : found ≡ fault = cc in subst (IsFirstFault s) e means),
  (λ first. ap Err (one_fault s found fault means first)),
)

pub fault_exactly : (s : Schedule) (answer : Result (Unit {0}) GridFault) (fault : GridFault) → 1 ≤ s.length → answer
    ≡ checked s → (answer ≡ Err fault) ↔ IsFirstFault s fault
fault_exactly s answer fault some same = exactly s answer fault some (subst (Meaning s) (sym same) (meaning s))
