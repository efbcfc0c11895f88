-- The words of a valid program fit into private memory, and its input among them.
use Rattle.std.proofs.Common.{◌≡◌, ℕ, ◌+◌, ◌≤◌, Bool, true, false, List, [], ◌∷◌, length, map, replicate, refl, arith}
use Rattle.std.specs.Prelude.{if◌then◌else◌, ◌-◌}
use Rattle.std.proofs.Math.ListN.{length-append, length-map, length-replicate}
use Rattle.std.proofs.lemmas.List.Sums.{sum_by-cons}
use Rattle.c_tree.specs.declared.limits.TheConstants.{MOST_PRIVATE_WORDS}
use Rattle.c_tree.specs.Layout.{Input, const_word, first_words, item_initial, initial_from, initial_of, takes_input, input_from}
use Rattle.c_tree.specs.Names.{Named, given}
use Rattle.c_tree.specs.Plain.{PlainItem, global, function}
use Rattle.c_tree.proofs.Typing.{typed_of}
use Rattle.c_tree.specs.Typed.{ItemTyped, ItemsTyped, Typed}
use Rattle.c_tree.specs.Valid.{IsValid, words_of, item_words, words_in, with_item}

-- ---- the first words of what is declared in private memory

module _ (cores own : ℕ) where
  item_length : (names : List Named) (i : PlainItem) → ItemTyped cores own names i
      → length (item_initial i) ≡ item_words false i
  item_length names (function kind text void_word parameters body) typed = refl
  item_length names (global g) typed = by g.scratch
    where
      by : (scratch : Bool) → length (if scratch then [] else first_words g) ≡ (if scratch then 0 else words_of g)
      by true = refl
      by false = omega (
        arith,
        typed.enough,
        length-append (map const_word g.initial) (replicate (words_of g - length g.initial) 0),
        length-map g.initial const_word,
        length-replicate {A = ℕ} (words_of g - length g.initial) 0,
      )

  initial_length : (names : List Named) (items : List PlainItem) → ItemsTyped cores own names items
      → length (initial_from items) ≡ words_in false items
  initial_length names [] typed = refl
  initial_length names (i ∷ items) typed =
      let here = item_length names i typed.0 in
      let rest = initial_length (with_item names i) items typed.1 in
      let sum = sum_by-cons (item_words false) i items in
      omega (arith, length-append (item_initial i) (initial_from items), here, rest, sum)

-- ---- a whole program

pub initial_fits : (cores own : ℕ) (items : List PlainItem) → IsValid items cores own → length (initial_of items)
    ≤ MOST_PRIVATE_WORDS
initial_fits cores own items valid =
    let typed : Typed cores own items = typed_of cores own items valid in
    omega (arith, initial_length cores own given items typed.each, typed.private)

-- the input lies after the first words, and within those of all that is declared
pub input_within : (private : ℕ) (items : List PlainItem) → 4 ≤ private → (4 ≤ (input_from private items).at)
    × ((input_from private items).at + (input_from private items).room ≤ private + words_in false items)
input_within private [] first = (omega arith, omega arith)
input_within private (i ∷ items) first = by (takes_input i) (sum_by-cons (item_words false) i items)
    (input_within (private + item_words false i) items (omega (arith, first)))
  where
    Within : ℕ → Input → Type 0
    Within end x = (4 ≤ x.at) × (x.at + x.room ≤ end)

    by : (takes : Bool) → words_in false (i ∷ items) ≡ item_words false i + words_in false items
        → Within (private + item_words false i + words_in false items) (input_from (private + item_words false i) items)
        → Within (private + words_in false (i ∷ items)) (if takes then record {
          at = private;
          room = item_words false i;
        } else input_from (private + item_words false i) items)
    by true sum later = (first, omega (arith, sum))
    by false sum later = (later.0, omega (arith, sum, later.1))
