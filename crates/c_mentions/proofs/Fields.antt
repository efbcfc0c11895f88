-- What is noted of uses, by the fields.
use Rattle.std.proofs.Common.{◌≡◌, ℕ, ◌==◌, ◌<◌, ◌^◌, Bool, true, false, ◌||◌, List, [], ◌∷◌, length, inl, inr, refl, ap, sym, ◌∙◌, arith, length-set}
use Rattle.std.proofs.lemmas.Bool.{cases_eq, eq-eqb, ne_eqb}
use Rattle.std.proofs.lemmas.Grind.{get_or-set_at}
use Rattle.std.proofs.lemmas.List.{get_or-set_other, get_or-replicate}
use Rattle.std.specs.Prelude.{slice_index_or, slice_set}
use Rattle.std.specs.List.{list_any}
use Rattle.c_tree.specs.Plain.{PlainItem}
use Rattle.c_mentions.specs.declared.noted.Flags.{Flags}
use Rattle.c_mentions.specs.Bits.{has_bit, bits}
use Rattle.c_mentions.specs.Mentions.{comm_array, shared_array, is_mention, is_assignment, is_send}
use Rattle.c_mentions.specs.Noted.{none_noted, with_use, with_uses}
use Rattle.c_mentions.specs.Reported.{Tells}
use Rattle.c_mentions.proofs.Flagged.{bit_of_flags}
use Rattle.c_mentions.specs.Uses.{Use, reads, sets, sends, program_uses}

pub or_none : (b : Bool) → b ≡ (b || false)
or_none true = refl
or_none false = refl

or_or : (a b c : Bool) → ((a || b) || c) ≡ (a || (b || c))
or_or true b c = refl
or_or false b c = refl

-- ---- each field

comm_one : (m : Flags) (u : Use) → (with_use m u).comm ≡ (m.comm || is_mention comm_array u)
comm_one m (reads s) = refl
comm_one m (sets s) = refl
comm_one m (sends core) = or_none m.comm

comm_all : (m : Flags) (us : List Use) → (with_uses m us).comm ≡ (m.comm || list_any (is_mention comm_array) us)
comm_all m [] = or_none m.comm
comm_all m (u ∷ us) =
    comm_all (with_use m u) us ∙ ap (λ b. b || list_any (is_mention comm_array) us) (comm_one m u)
    ∙ or_or m.comm (is_mention comm_array u) (list_any (is_mention comm_array) us)

shared_one : (m : Flags) (u : Use) → (with_use m u).shared ≡ (m.shared || is_mention shared_array u)
shared_one m (reads s) = refl
shared_one m (sets s) = refl
shared_one m (sends core) = or_none m.shared

shared_all : (m : Flags) (us : List Use) → (with_uses m us).shared ≡ (m.shared || list_any (is_mention shared_array) us)
shared_all m [] = or_none m.shared
shared_all m (u ∷ us) =
    shared_all (with_use m u) us ∙ ap (λ b. b || list_any (is_mention shared_array) us) (shared_one m u)
    ∙ or_or m.shared (is_mention shared_array u) (list_any (is_mention shared_array) us)

assigns_shared_one : (m : Flags) (u : Use) → (with_use m u).assigns_shared
    ≡ (m.assigns_shared || is_assignment shared_array u)
assigns_shared_one m (reads s) = or_none m.assigns_shared
assigns_shared_one m (sets s) = refl
assigns_shared_one m (sends core) = or_none m.assigns_shared

assigns_shared_all : (m : Flags) (us : List Use) → (with_uses m us).assigns_shared
    ≡ (m.assigns_shared || list_any (is_assignment shared_array) us)
assigns_shared_all m [] = or_none m.assigns_shared
assigns_shared_all m (u ∷ us) =
    assigns_shared_all (with_use m u) us ∙ ap (λ b. b || list_any (is_assignment shared_array) us)
    (assigns_shared_one m u)
    ∙ or_or m.assigns_shared (is_assignment shared_array u) (list_any (is_assignment shared_array) us)

or_true : (b : Bool) → true ≡ (b || true)
or_true true = refl
or_true false = refl

set_one : (flags : List Bool) (at core : ℕ) → core < length flags
    → slice_index_or (slice_set flags at true) core false ≡ (slice_index_or flags core false || at == core)
set_one flags at core within = elim (cases_eq at core) [
  | inl same ↦ get_or-set_at flags at core true false (sym same) (omega arith)
      ∙ or_true (slice_index_or flags core false)
      ∙ ap (λ b. slice_index_or flags core false || b) (sym (eq-eqb at core same))
  | inr other ↦ get_or-set_other flags at core true false (λ e. other (sym e))
      ∙ or_none (slice_index_or flags core false)
      ∙ ap (λ b. slice_index_or flags core false || b) (sym (ne_eqb at core other))
]

sends_one : (m : Flags) (u : Use) (core : ℕ) → core < length m.sends
    → slice_index_or (with_use m u).sends core false ≡ (slice_index_or m.sends core false || is_send core u)
sends_one m (reads s) core within = or_none (slice_index_or m.sends core false)
sends_one m (sets s) core within = or_none (slice_index_or m.sends core false)
sends_one m (sends to) core within = set_one m.sends to core within

sends_length : (m : Flags) (u : Use) → length (with_use m u).sends ≡ length m.sends
sends_length m (reads s) = refl
sends_length m (sets s) = refl
sends_length m (sends to) = length-set m.sends to true

sends_all : (m : Flags) (us : List Use) (core : ℕ) → core < length m.sends
    → slice_index_or (with_uses m us).sends core false
    ≡ (slice_index_or m.sends core false || list_any (is_send core) us)
sends_all m [] core within = or_none (slice_index_or m.sends core false)
sends_all m (u ∷ us) core within =
    sends_all (with_use m u) us core (omega (arith, sends_length m u))
    ∙ ap (λ b. b || list_any (is_send core) us) (sends_one m u core within)
    ∙ or_or (slice_index_or m.sends core false) (is_send core u) (list_any (is_send core) us)

-- ---- a whole program

pub noted_tells : (m : Flags) (word : ℕ) (items : List PlainItem) → m ≡ with_uses none_noted (program_uses items) → word
    ≡ bits m.sends → word < 2 ^ 16
    → Tells (record { comm = m.comm; shared = m.shared; assigns_shared = m.assigns_shared; sends = word }) items
noted_tells m word items is same small = record {
  comm = ap (λ (n : Flags). n.comm) is ∙ comm_all none_noted (program_uses items);
  shared = ap (λ (n : Flags). n.shared) is ∙ shared_all none_noted (program_uses items);
  assigns_shared = ap (λ (n : Flags). n.assigns_shared) is ∙ assigns_shared_all none_noted (program_uses items);
  sends = λ core within.
      ap (has_bit core) same ∙ bit_of_flags core m.sends
      ∙ ap (λ (n : Flags). slice_index_or n.sends core false) is
      ∙ sends_all none_noted (program_uses items) core within
      ∙ ap (λ b. b || list_any (is_send core) (program_uses items)) (get_or-replicate 16 core false false within);
  small = small;
}
