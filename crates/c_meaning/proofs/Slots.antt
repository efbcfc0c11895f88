-- The slots of a valid program lie within their memories, and what a name stands for is one of them.
use Rattle.std.proofs.Common.{ℕ, ◌+◌, ◌≤◌, suc, Bool, true, false, List, [], ◌∷◌, arith}
use Rattle.std.specs.Prelude.{if◌then◌else◌, bytes_eq, codes}
use Rattle.std.proofs.lemmas.List.Elements.{All-append, All-cons, All-nil}
use Rattle.std.proofs.lemmas.List.Sums.{sum_by-cons}
use Rattle.local_store.specs.declared.map.Cell.TheVariants as cell
use Rattle.local_store.specs.declared.map.TheConstants.{COMM_WORDS, SHARED_WORDS}
use Rattle.local_store.specs.declared.store.TheConstants.{FIRST_DATA_WORD, PRIVATE_WORDS, SCRATCH_WORDS}
use Rattle.c_tree.specs.declared.layout.Slot.{Slot}
use Rattle.c_tree.specs.Layout.{is_unsigned, slot_of, item_slots, given_slots, slots_from, layout_of}
use Rattle.c_tree.specs.Names.{Named, given}
use Rattle.c_tree.specs.Plain.{PlainItem, global, function}
use Rattle.c_tree.specs.Valid.{IsValid, words_of, item_words, words_in, with_item}
use Rattle.c_tree.proofs.Typing.{typed_of}
use Rattle.c_tree.specs.Typed.{ItemTyped, ItemsTyped, Typed}
use Rattle.c_meaning.specs.Fits.{SlotFits, SlotsFit, StandsFits}
use Rattle.c_meaning.specs.Scope.{outside, among_slots}

placed : (scratch : Bool) (name : List ℕ) (unsigned : Bool) (first at words : ℕ) → 1 ≤ words
    → first + (if scratch then 0 else words) ≤ PRIVATE_WORDS → at + (if scratch then words else 0) ≤ SCRATCH_WORDS
    → SlotFits (record {
      name = name;
      cell = if scratch then cell.Scratch at else cell.Private first;
      length = words;
      unsigned = unsigned;
    })
placed true name unsigned first at words some private scratch = (some, scratch)
placed false name unsigned first at words some private scratch = (some, private)

given_fit : SlotsFit given_slots
given_fit =
    let shared : Slot =
    record { name = codes "shared"; cell = cell.Shared 0; length = SHARED_WORDS; unsigned = false } in
    let comm : Slot = record { name = codes "comm"; cell = cell.Comm 0; length = COMM_WORDS; unsigned = false } in
    All-cons SlotFits shared (comm ∷ []) (omega arith, omega arith)
    (All-cons SlotFits comm [] (omega arith, omega arith) (All-nil SlotFits))

module _ (cores own : ℕ) where
  item_fits : (names : List Named) (private scratch : ℕ) (i : PlainItem) → ItemTyped cores own names i
      → private + item_words false i ≤ PRIVATE_WORDS → scratch + item_words true i ≤ SCRATCH_WORDS
      → SlotsFit (item_slots private scratch i)
  item_fits names private scratch (global g) typed first last =
      All-cons SlotFits (slot_of private scratch g) [] (placed g.scratch g.name (is_unsigned g.kind) private scratch
      (words_of g) typed.some first last) (All-nil SlotFits)
  item_fits names private scratch (function its_kind text void_word parameters body) typed first last =
      All-nil SlotFits

  slots_fit : (names : List Named) (private scratch : ℕ) (items : List PlainItem) → ItemsTyped cores own names items
      → private + words_in false items ≤ PRIVATE_WORDS → scratch + words_in true items ≤ SCRATCH_WORDS
      → SlotsFit (slots_from private scratch items)
  slots_fit names private scratch [] typed first last = given_fit
  slots_fit names private scratch (i ∷ items) typed first last =
      let sum = sum_by-cons (item_words false) i items in
      let scratch_sum = sum_by-cons (item_words true) i items in
      All-append SlotFits (item_slots private scratch i) (slots_from (private + item_words false i)
      (scratch + item_words true i) items)
      (item_fits names private scratch i typed.0 (omega (arith, first, sum)) (omega (arith, last, scratch_sum)))
      (slots_fit (with_item names i) (private + item_words false i) (scratch + item_words true i) items typed.1
      (omega (arith, first, sum)) (omega (arith, last, scratch_sum)))

pub layout_fits : (cores own : ℕ) (items : List PlainItem) → IsValid items cores own → SlotsFit (layout_of items)
layout_fits cores own items valid =
    let typed : Typed cores own items = typed_of cores own items valid in
    slots_fit cores own given FIRST_DATA_WORD 0 items typed.each (omega (arith, typed.private))
    (omega (arith, typed.scratch))

-- what a name stands for among slots
pub found_fits : (text : List ℕ) (slots : List Slot) → SlotsFit slots → StandsFits (among_slots text slots)
found_fits text [] fit = tt
found_fits text (s ∷ slots) fit =
    by (bytes_eq s.name text) (found_fits text slots (λ k d below. fit (suc k) d (omega (arith, below))))
  where
    by : (same : Bool) → StandsFits (among_slots text slots)
        → StandsFits (if same then outside s else among_slots text slots)
    by true later = fit 0 s (omega arith)
    by false later = later
