-- Where the variables and arrays of a valid program stand: within the words that each memory has for them.
use Rattle.std.proofs.Common.{◌≡◌, ℕ, ◌+◌, ◌≤◌, Bool, true, false, if◌then◌else◌, List, [], ◌∷◌, Option, None, Some, bytes_eq, arith, le-leb, lt-ltb}
use Rattle.std.proofs.lemmas.Bool.{and_from}
use Rattle.std.proofs.lemmas.List.Sums.{sum_by-cons}
use Rattle.std.specs.List.{AllByRecursion as Each}
use Rattle.std.specs.Prelude.{⊤}
use Rattle.c_world.specs.Shown.{room_in}
use Rattle.local_store.specs.declared.map.Cell.TheVariants as cell
use Rattle.c_tree.specs.declared.layout.Slot.{Slot}
use Rattle.c_tree.specs.declared.units.Global.{Global}
use Rattle.c_tree.specs.Layout.{slot_of, given_slots, slots_from, layout_of}
use Rattle.c_tree.specs.Names.{Found, Named, given}
use Rattle.c_tree.specs.Plain.{PlainItem, global, function}
use Rattle.c_tree.specs.Valid.{IsValid, words_of, item_words, words_in, with_item}
use Rattle.sp_tree.specs.Formed.{all_rooms, first_of, cell_formed, array_formed}
use Rattle.c_meaning.specs.Resolve.{slot_cell, slot_array}
use Rattle.c_meaning.specs.Scope.{Variable, Stands, level, outside, among_variables, among_slots, slot_region, slot_word}
use Rattle.c_meaning.specs.Scope as scope
use Rattle.c_meaning.specs.Values.{Names, named}
use Rattle.c_tree.specs.Typed.{ItemsTyped, Typed}
use Rattle.c_tree.proofs.Typing.{typed_of}

-- ---- slots

-- a slot has a word at least, and lies within the words that its memory has for variables and arrays
pub record SlotFits (s : Slot) : Type 0 where
  pub first : first_of (slot_region s) ≤ slot_word s
  pub last : slot_word s + s.length ≤ room_in (slot_region s) all_rooms
  pub some : 1 ≤ s.length

pub slot_cell_formed : (s : Slot) → SlotFits s → cell_formed (slot_cell s) ≡ true
slot_cell_formed s fits =
    and_from _ _ (le-leb (first_of (slot_region s)) (slot_word s) fits.first)
    (lt-ltb (slot_word s) (room_in (slot_region s) all_rooms) (omega (arith, fits.last, fits.some)))

pub slot_array_formed : (s : Slot) → SlotFits s → array_formed (slot_array s) ≡ true
slot_array_formed s fits =
    and_from _ _ (le-leb (first_of (slot_region s)) (slot_word s) fits.first)
    (le-leb (slot_word s + s.length) (room_in (slot_region s) all_rooms) fits.last)

-- ---- what names stand for

abbrev pub StandsFit : Stands → Type 0
StandsFit (level at unsigned) = ⊤
StandsFit (outside slot) = SlotFits slot
StandsFit scope.nothing = ⊤

slots_fit : (name : List ℕ) (slots : List Slot) → Each SlotFits slots → StandsFit (among_slots name slots)
slots_fit name [] each = tt
slots_fit name (s ∷ slots) each = by (bytes_eq s.name name) (slots_fit name slots each.1)
  where
    by : (here : Bool) → StandsFit (among_slots name slots)
        → StandsFit (if here then outside s else among_slots name slots)
    by true later = each.0
    by false later = later

pub named_fits : (names : Names) (text : List ℕ) → Each SlotFits names.slots → StandsFit (named names text)
named_fits names text each = by (among_variables text names.variables)
  where
    by : (found : Option (Found Variable))
        → StandsFit (elim found as (λ _. Stands) [
          | Some v ↦ level v.at v.is.unsigned
          | None ↦
              among_slots text names.slots
        ])
    by None = slots_fit text names.slots each
    by (Some v) = tt

-- ---- the slots of a program

slot_fits : (g : Global) (private scratch : ℕ) → 1 ≤ words_of g → 4 ≤ private
    → private + item_words false (global g) ≤ 49152
    → scratch + item_words true (global g) ≤ 2048 → SlotFits (slot_of private scratch g)
slot_fits g private scratch some first below inside = by g.scratch below inside
  where
    by : (in_scratch : Bool) → private + (if in_scratch then 0 else words_of g) ≤ 49152
        → scratch + (if in_scratch then words_of g else 0) ≤ 2048
        → SlotFits (record (slot_of private scratch g) {
          cell = if in_scratch then cell.Scratch scratch else
              cell.Private private;
        })
    by true below inside = record { first = omega arith; last = omega (arith, inside); some = some }
    by false below inside = record { first = omega (arith, first); last = omega (arith, below); some = some }

given_fit : Each SlotFits given_slots
given_fit = (
  record { first = omega arith; last = omega arith; some = omega arith },
  (record { first = omega arith; last = omega arith; some = omega arith }, tt),
)

slots_from_fit : (cores own : ℕ) (names : List Named) (items : List PlainItem) (private scratch : ℕ) → 4 ≤ private
    → private + words_in false items ≤ 49152 → scratch + words_in true items ≤ 2048
    → ItemsTyped cores own names items → Each SlotFits (slots_from private scratch items)
slots_from_fit cores own names [] private scratch first below inside typed = given_fit
slots_from_fit cores own names (function kind text void_word ps body ∷ items) private scratch first below inside
    typed =
    let f = function kind text void_word ps body in
    let all = sum_by-cons (item_words false) f items in
    let some = sum_by-cons (item_words true) f items in
    slots_from_fit cores own (with_item names f) items (private + item_words false f) (scratch + item_words true f)
    (omega (arith, first)) (omega (arith, below, all)) (omega (arith, inside, some)) typed.1
slots_from_fit cores own names (global g ∷ items) private scratch first below inside typed =
    let all = sum_by-cons (item_words false) (global g) items in
    let some = sum_by-cons (item_words true) (global g) items in (
      slot_fits g private scratch typed.0.some first (omega (arith, below, all)) (omega (arith, inside, some)),
      slots_from_fit cores own (with_item names (global g)) items (private + item_words false (global g))
          (scratch + item_words true (global g)) (omega (arith, first)) (omega (arith, below, all))
          (omega (arith, inside, some)) typed.1,
    )

pub layout_fits : (cores own : ℕ) (items : List PlainItem) → IsValid items cores own → Each SlotFits (layout_of items)
layout_fits cores own items valid =
    let typed : Typed cores own items = typed_of cores own items valid in
    slots_from_fit cores own given items 4 0 (omega arith) (omega (arith, typed.private)) (omega (arith, typed.scratch))
    typed.each
