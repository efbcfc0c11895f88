-- The words of a program's array `out`, in its core's own memories and in the world that its text comes to.
use Rattle.std.proofs.Common.{◌≡◌, ℕ, zero, suc, ◌+◌, ◌<◌, ◌≤◌, Bool, true, false, List, [], ◌∷◌, ◌++◌, Option, None, Some, IfSome, slice_get, refl, ap, ◌∙◌, arith}
use Rattle.std.specs.Prelude.{if◌then◌else◌}
use Rattle.std.specs.List.{AllByRecursion as Each}
use Rattle.local_store.specs.declared.map.Cell.{Cell}
use Rattle.local_store.specs.declared.map.Cell.TheVariants as cell
use Rattle.c_tree.specs.declared.layout.Slot.{Slot}
use Rattle.c_tree.specs.Layout.{slots_from, layout_of}
use Rattle.c_tree.specs.Plain.{PlainItem, global, function}
use Rattle.c_tree.specs.Valid.{IsValid, item_words}
use Rattle.c_run.specs.Reported.{words_from, is_output, output_from, output_number}
use Rattle.c_world.specs.declared.region.Region.{Region}
use Rattle.c_world.specs.declared.region.Region.TheVariants as region
use Rattle.c_world.specs.Shown.{room_in}
use Rattle.c_world.specs.World.{World, words_in}
use Rattle.patmos_model.specs.State.{Plain}
use Rattle.sp_tree.specs.Formed.{all_rooms, first_of}
use Rattle.single_path.proofs.Placed.{SlotFits, layout_fits}
use Rattle.job_rows.specs.Rows.{output_slot}
use Rattle.job_rows.specs.Rows.{own_world, words_out}

-- the cell is a word of the scratchpad or of private memory
abbrev IsOwnCell : Cell → Type 0
IsOwnCell (cell.Scratch word) = Unit {0}
IsOwnCell (cell.Private word) = Unit {0}
IsOwnCell _ = ⊥

placed_own : (scratch : Bool) (first at : ℕ) → IsOwnCell (if scratch then cell.Scratch at else cell.Private first)
placed_own true first at = tt
placed_own false first at = tt

-- the slot of a program's array `out` is a variable's of its own
found_own : (private scratch number : ℕ) (items : List PlainItem) (k : ℕ) → output_from number items ≡ Some (number + k)
    → IfSome (slice_get (slots_from private scratch items) k) (λ s. IsOwnCell s.cell)
found_own private scratch number [] k is = absurd (cc)
found_own private scratch number (function kind text void_word parameters body ∷ items) k is =
    found_own _ _ number items k is
found_own private scratch number (global g ∷ items) zero is = placed_own g.scratch private scratch
found_own private scratch number (global g ∷ items) (suc k) is =
    by (is_output g) is (λ later. let next : number + suc k ≡ number + 1 + k = omega arith in
    found_own (private + item_words false (global g)) (scratch + item_words true (global g)) (number + 1) items k
    (later ∙ ap Some next))
  where
    behind : Option Slot
    behind = slice_get (slots_from (private + item_words false (global g)) (scratch + item_words true (global g)) items)
        k

    by : (out : Bool) → (if out then Some number else output_from (number + 1) items) ≡ Some (number + suc k)
        → (output_from (number + 1) items ≡ Some (number + suc k) → IfSome behind (λ s. IsOwnCell s.cell))
        → IfSome behind (λ s. IsOwnCell s.cell)
    by true here later =
        absurd (let same : number ≡ number + suc k = ap (λ o. elim o as (λ _. ℕ) [ None ↦ 0 | Some n ↦ n ]) here in
        omega (arith, same))
    by false here later = later here

words_same : (f g : ℕ → ℕ) (first n : ℕ) → ((i : ℕ) → i < n → f (first + i) ≡ g (first + i)) → words_from f first n
    ≡ words_from g first n
words_same f g first zero same = refl
words_same f g first (suc n) same =
    ap (λ ws. ws ++ f (first + n) ∷ []) (words_same f g first n (λ i below. same i (omega (arith, below))))
    ∙ ap (λ word. words_from g first n ++ word ∷ []) (same n (omega arith))

abbrev region_of : Cell → Region
region_of c = elim c [
  | cell.Scratch word ↦ region.Scratch
  | cell.Comm word ↦ region.Comm
  | cell.Port core register ↦ region.Scratch
  | cell.Private word ↦ region.Private
  | cell.Shared word ↦ region.Shared
]

abbrev word_of : Cell → ℕ
word_of c = elim c [
  | cell.Scratch word ↦ word
  | cell.Comm word ↦ word
  | cell.Port core register ↦ 0
  | cell.Private word ↦ word
  | cell.Shared word ↦ word
]

module _ (x : Plain) (w : World) (scratch : (word : ℕ) → x.scratch word ≡ w.scratch word)
    (private : (word : ℕ) → 1 ≤ word → word < 49152 → x.private word ≡ w.private word) where
  own_words : (c : Cell) (n : ℕ) → IsOwnCell c → first_of (region_of c) ≤ word_of c → word_of c + n
      ≤ room_in (region_of c) all_rooms
      → words_from (words_in (region_of c) (own_world x)) (word_of c) n
      ≡ words_from (words_in (region_of c) w) (word_of c) n
  own_words (cell.Scratch word) n own first last = words_same x.scratch w.scratch word n (λ i below. scratch (word + i))
  own_words (cell.Private word) n own first last = words_same x.private w.private word n (λ i below. private (word + i)
      (omega (arith, first)) (omega (arith, last, below)))
  own_words _ n own first last = absurd own

  at_slot : (slots : List Slot) (k : ℕ) → Each SlotFits slots → IfSome (slice_get slots k) (λ s. IsOwnCell s.cell)
      → words_out (own_world x) (slice_get slots k) ≡ words_out w (slice_get slots k)
  at_slot [] k fit own = refl
  at_slot (s ∷ slots) zero fit own = own_words s.cell s.length own fit.0.first fit.0.last
  at_slot (s ∷ slots) (suc k) fit own = at_slot slots k fit.1 own

  pub outs_are : (cores core : ℕ) (items : List PlainItem) → IsValid items cores core
      → words_out (own_world x) (output_slot items) ≡ words_out w (output_slot items)
  outs_are cores core items valid = by (output_number items) refl
    where
      by : (number : Option ℕ) → output_number items ≡ number
          → words_out (own_world x) (elim number as (λ _. Option Slot) [
            | None ↦ None
            | Some k ↦ slice_get
                (layout_of items) k
          ]) ≡ words_out w (elim number as (λ _. Option Slot) [
            | None ↦ None
            | Some k ↦ slice_get
                (layout_of items) k
          ])
      by None is = refl
      by (Some k) is =
          let from_zero : k ≡ 0 + k = omega arith in
          at_slot (layout_of items) k (layout_fits cores core items valid)
          (found_own 4 0 0 items k (is ∙ ap Some from_zero))
