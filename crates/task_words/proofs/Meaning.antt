-- A task's core gives what the task's tree means.
use Rattle.std.proofs.Common.{◌≡◌, ℕ, ◌+◌, ◌-◌, ◌/◌, ◌<◌, ◌&&◌, inl, inr, min, nat_lt, true, false, if◌then◌else◌, List, length, take, slice_index, Some, refl, sym, ap, ◌∙◌, subst, arith, length-take, get_or-take}
use Rattle.std.proofs.Math.ListN.{get_or-eq_default}
use Rattle.std.specs.List.{Contains, AllByRecursion as Each}
use Rattle.std.proofs.lemmas.Bool.{cases_lt, le-leb, lt-leb, lt-ltb, le-ltb}
use Rattle.c_world.specs.Shown.{room_in}
use Rattle.c_world.specs.declared.region.Region.{Region}
use Rattle.c_world.specs.declared.region.Region.TheVariants as region
use Rattle.patmos_instr.specs.declared.memories.Mem.TheVariants as mem
use Rattle.patmos_instr.specs.declared.memories.Width.TheVariants as load
use Rattle.patmos_instr.specs.declared.memories.StoreWidth.TheVariants as store
use Rattle.patmos_sem.specs.declared.effects.Effect.{Effect}
use Rattle.patmos_sem.specs.declared.effects.Effect.TheVariants as effect
use Rattle.shared_order.specs.Words.{zeros}
use Rattle.patmos_model.specs.Begin.{overlaid}
use Rattle.sp_tree.specs.Begun as tree
use Rattle.sp_tree.specs.Formed.{all_rooms}
use Rattle.sp_tree.specs.Statements.{PlainUnit}
use Rattle.sp_tree.specs.Uses.{Use, uses_of, are_apart}
use Rattle.sp_shape.specs.Memory.{cell_of}
use Rattle.sp_shape.specs.Run.{Run, Sources}
use Rattle.sp_shape.specs.Trail.{Step}
use Rattle.sp_emit.specs.Accesses.{IsReadPlace, IsStoredPlace, MayAsk}
use Rattle.sp_emit.specs.Expressions.{address_of, cell_space}
use Rattle.sp_emit.proofs.Aligned.{read_aligned, stored_aligned}
use Rattle.sp_emit.proofs.Apart.{cached_apart}
use Rattle.sp_emit.proofs.Cells.{cell_in}
use Rattle.code_core.specs.Asked.{asks_in}
use Rattle.task_core.proofs.Places.{no_cached_element, at_variable, at_element, at_read}
use Rattle.task_words.proofs.Passing.{all_pass}
use Rattle.code_words.specs.Own.{AreOwn, IsBelow, IsUncached, KeepsApart, AllApart}

-- ---- the words that private memory begins with

pub initial_alike : (initial : List ℕ) (word : ℕ) → overlaid 4 initial zeros word ≡ tree.first_private initial word
initial_alike initial word = elim (cases_lt word 4) [
  | inl low ↦ ap (λ b. elim (b && nat_lt word (4 + length initial)) as (λ _. ℕ) [
    | true ↦ slice_index initial
        (word - 4)
    | false ↦ 0
  ]) (lt-leb 4 word low)
      ∙ sym (ap (λ b. if b then slice_index initial (word - 4) else 0) (lt-leb 4 word low))
  | inr high ↦ ap (λ b. elim (b && nat_lt word (4 + length initial)) as (λ _. ℕ) [
    | true ↦ slice_index initial
        (word - 4)
    | false ↦ 0
  ]) (le-leb 4 word high)
      ∙ elim (cases_lt word (4 + length initial)) [
        | inl within ↦ ap (λ b. elim b as (λ _. ℕ) [ true ↦ slice_index initial (word - 4) | false ↦ 0 ])
            (lt-ltb word (4 + length initial) within)
        | inr past ↦ ap (λ b. elim b as (λ _. ℕ) [ true ↦ slice_index initial (word - 4) | false ↦ 0 ]) (le-ltb word
            (4 + length initial) past) ∙ sym (get_or-eq_default initial 0 (omega (arith, past)))
      ] ∙ sym (ap (λ b. if b then slice_index initial (word - 4) else 0) (le-leb 4 word high))
]

pub laid_alike : (at room : ℕ) (input : List ℕ) (f g : ℕ → ℕ) (word : ℕ) → f word ≡ g word
    → overlaid at (take room input) f word ≡ tree.laid at room input g word
laid_alike at room input f g word same = elim (cases_lt word at) [
  | inl low ↦ ap (λ b. elim (b && nat_lt word (at + length (take room input))) as (λ _. ℕ) [
    | true ↦ slice_index
        (take room input) (word - at)
    | false ↦ f word
  ]) (lt-leb at word low) ∙ same
      ∙ sym (ap (λ b. if b && (nat_lt (word - at) room && nat_lt (word - at) (length input)) then slice_index input
      (word - at) else g word) (lt-leb at word low))
  | inr high ↦ ap (λ b. elim (b && nat_lt word (at + length (take room input))) as (λ _. ℕ) [
    | true ↦ slice_index
        (take room input) (word - at)
    | false ↦ f word
  ]) (le-leb at word high)
      ∙ elim (cases_lt (word - at) room) [
        | inl inside ↦ elim (cases_lt (word - at) (length input)) [
          | inl there ↦ ap (λ b. elim b as (λ _. ℕ) [
            | true ↦ slice_index (take room input) (word - at)
            | false ↦
                f word
          ]) (lt-ltb word (at + length (take room input)) (omega (arith, long, inside, there, high)))
              ∙ get_or-take room input (word - at) 0 inside
              ∙ sym (λ i. if lt-ltb (word - at) room inside i && lt-ltb (word - at) (length input) there i then
              slice_index input (word - at) else g word)
          | inr past ↦ ap (λ b. elim b as (λ _. ℕ) [
            | true ↦ slice_index (take room input) (word - at)
            | false ↦
                f word
          ]) (le-ltb word (at + length (take room input)) (omega (arith, long, past, high))) ∙ same
              ∙ sym (λ i. if lt-ltb (word - at) room inside i && le-ltb (word - at) (length input) past i then
              slice_index input (word - at) else g word)
        ]
        | inr past ↦ ap (λ b. elim b as (λ _. ℕ) [ true ↦ slice_index (take room input) (word - at) | false ↦ f word ])
            (le-ltb word (at + length (take room input)) (omega (arith, long, past, high))) ∙ same
            ∙ sym (λ i. if le-ltb (word - at) room past i && nat_lt (word - at) (length input) then slice_index input
            (word - at) else g word)
      ] ∙ sym (ap (λ b. if b && (nat_lt (word - at) room && nat_lt (word - at) (length input)) then slice_index input
      (word - at) else g word) (le-leb at word high))
]
  where
    long : length (take room input) ≡ min room (length input)
    long = length-take room input

-- ---- loads by the data cache

module _ (u : PlainUnit) (apart_uses : are_apart (uses_of u) ≡ true) where
  abbrev Named : Use → Type 0
  Named = Contains (uses_of u)

  abbrev pub Cached : ℕ → Type 0
  Cached address = IsReadPlace Named mem.C address

  low_variable : (r : Region) (word address : ℕ) → mem.C ≡ cell_space r → word < room_in r all_rooms → address
      ≡ address_of r word → address / 4 < 49152
  low_variable region.Scratch word address is within at = absurd (let e : mem.C ≡ mem.L = is in cc)
  low_variable region.Comm word address is within at = absurd (let e : mem.C ≡ mem.L = is in cc)
  low_variable region.Private word address is within at = omega (arith, within, at)
  low_variable region.Shared word address is within at = absurd (let e : mem.C ≡ mem.M = is in cc)

  pub cached_own : AreOwn Cached
  cached_own address =
      at_read Named (λ c. address / 4 < 49152) mem.C address
      (λ c named. low_variable c.region c.word address)
      (λ a named index is within at. absurd (no_cached_element a.region is))
      (λ r is. absurd (no_cached_element r is))

  cached_stored_low : (address : ℕ) → IsStoredPlace Named mem.C address → address / 4 < 49152
  cached_stored_low address (inl v) =
      at_variable (λ c. address / 4 < 49152) mem.C address v.0 (low_variable v.0.region v.0.word address) v.2
  cached_stored_low address (inr (inl v)) = absurd (no_cached_element v.0.region v.2.space_is)
  cached_stored_low address (inr (inr (inl v))) = omega (arith, v.address_is)
  cached_stored_low address (inr (inr (inr v))) = absurd (let e : mem.C ≡ mem.L = v.2.space_is in cc)

  below_cell : (r : Region) (word : ℕ) → word < room_in r all_rooms → IsBelow (Some (cell_in r word))
  below_cell region.Private word within = within
  below_cell _ word within = tt

  main_below : (address : ℕ) → IsReadPlace Named mem.M address → IsBelow (cell_of mem.M address)
  main_below address =
      at_read Named IsBelow mem.M address (λ c named is within at. below_cell c.region c.word within)
      (λ a named index is within at. below_cell a.region (a.first + index) within)
      (λ r is. let low : 0 < 49152 = omega arith in low)

  -- what is stored past the data cache is never loaded by it
  other_word : (address other : ℕ) → IsStoredPlace Named mem.M address → Cached other → other / 4 ≡ address / 4 → ⊥
  other_word address other stored cached same =
      let is : other ≡ address =
      omega (arith, same, read_aligned Named mem.C other cached, stored_aligned Named mem.M address stored) in
      cached_apart (uses_of u) load.Word 0 store.Word 0 address apart_uses
      (refl, subst (IsReadPlace Named mem.C) is cached) (refl, stored)

  uncached_cell : (r : Region) (word address : ℕ) → address ≡ address_of r word → IsStoredPlace Named mem.M address
      → IsUncached Cached (Some (cell_in r word))
  uncached_cell region.Private word address at stored =
      λ other cached same. other_word address other stored cached (omega (arith, at, same))
  uncached_cell _ word address at stored = tt

  main_uncached : (address : ℕ) → IsStoredPlace Named mem.M address → IsUncached Cached (cell_of mem.M address)
  main_uncached address (inl v) =
      at_variable (IsUncached Cached) mem.M address v.0
      (λ is within at. uncached_cell v.0.region v.0.word address at (inl v)) v.2
  main_uncached address (inr (inl v)) =
      at_element (IsUncached Cached) mem.M address v.0
      (λ index is within at. uncached_cell v.0.region (v.0.first + index) address at (inr (inl v))) v.2
  main_uncached address (inr (inr (inl v))) =
      subst (λ a. IsUncached Cached (cell_of mem.M a)) (sym v.address_is) (λ other cached same. other_word address other
      (inr (inr (inl v))) cached (omega (arith, same, v.address_is)))
  main_uncached address (inr (inr (inr v))) = absurd (let e : mem.M ≡ mem.L = v.2.space_is in cc)

  pub apart_ask : (e : Effect) → MayAsk Named e → KeepsApart Cached e
  apart_ask (effect.Load mem.C width rd address) may = may.1
  apart_ask (effect.Load mem.M width rd address) may = main_below address may.1
  apart_ask (effect.Store mem.C width address value) may = cached_stored_low address may.1
  apart_ask (effect.Store mem.M width address value) may = main_uncached address may.1
  apart_ask _ may = tt

  -- each bundle of a trail
  pub all_apart : (from : Sources) (steps : List Step) (m : Run) → Each (MayAsk Named) (asks_in from steps m)
      → AllApart Cached from steps m
  all_apart = all_pass (MayAsk Named) (KeepsApart Cached) apart_ask tt (λ kind. tt)
