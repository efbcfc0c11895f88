-- The listed text of a task is a text of its image: assembled, it gives the image's words and starts.
use Rattle.std.proofs.Common.{arith, ◌≡◌, ◌≢◌, ◌∙◌, ℕ, zero, suc, ◌+◌, ◌<◌, ◌≤◌, ◌==◌, Bool, true, false, cond, nat_lt, List, [], ◌∷◌, ◌++◌, length, map, drop, refl, sym, ap, subst, append-nil, codes, bytes_eq, Some, None, Ok, length-append}
use Rattle.std.specs.Fmt.{decimal}
use Rattle.std.specs.List.{All, flat_map, AllByRecursion as Each}
use Rattle.std.proofs.lemmas.Bool.Decides.{nat_tests}
use Rattle.std.proofs.lemmas.List.Folds.{list_any-append}
use Rattle.patmos_instr.specs.Bundles.{FitsBundle}
use Rattle.patmos_forms.specs.declared.faults.AsmKind.TheVariants.{LabelTwice, TooLarge}
use Rattle.patmos_syntax.specs.Items.{Item, function, label, bundle, items_of}
use Rattle.patmos_asm.specs.Printed.{label_name}
use Rattle.patmos_asm.specs.Assembly.{Lookup, Places, Before, nothing, size_from, labels_from, functions_from, names_from, is_among, noted, place_of, fault_of, after, first_fault, words_from, parts_in, code_in, code_of}
use Rattle.patmos_asm.proofs.Answered.{answered}
use Rattle.patmos_asm.proofs.Lines.{lacks}
use Rattle.patmos_asm.proofs.Unfaulted.{none_first}
use Rattle.sp_shape.specs.Formed.{is_formed, function_formed}
use Rattle.sp_shape.specs.Parts.{PlainParts, PlainShape}
use Rattle.sp_shape.specs.Words.{bundles_words}
use Rattle.sp_shape.proofs.Functions.{each_formed}
use Rattle.cycle_bound.proofs.Earlier.{shape_parts}
use Rattle.tc_link.specs.Fits.{FitsImage}
use Rattle.tc_link.specs.Placed as linking
use Rattle.tc_link.specs.Placed.{others, place, size_of, start_of, flat, order, codes as codes_of, function_words, linked}
use Rattle.tc_link.proofs.Counted.{flat_words, codes_words}
use Rattle.tc_link.proofs.Order.{all_counted, entry_placed}
use Rattle.code_text.specs.declared.tasks.Numbers.{Numbers}
use Rattle.code_text.specs.Lines.{Line, remark, begins, marks, does, lines_text}
use Rattle.code_text.specs.Listing.{name_of, parts_lines, parts_loops, function_lines, functions_lines, task_lines, tally_text, reserved}
use Rattle.code_text.specs.Names.{HasNames}
use Rattle.code_text.specs.Tally.{function_tally, task_tally}
use Rattle.code_text.proofs.Inline.{lacks_both, decimal_inline, name_inline, tally_inline}
use Rattle.code_text.proofs.Labeled.{labels_in, all_marks, function_known, rise_parts, inline_parts, parts_labels, stand_labels, few_loops}
use Rattle.code_text.proofs.Ordered.{places_at, words_of, AllApart, starts_order, found_all, order_apart, order_within, order_words}
use Rattle.code_text.proofs.Placing.{function_stands}
use Rattle.code_text.proofs.Reading.{AreReadable, items_at, lines_read}
use Rattle.code_text.proofs.Standing.{Stand, Rise, stand_size, stand_functions, stand_names, stand_words, stand_faultless, stand_readable, readable_both}

-- ---- lists of statements

items_both : (line : ℕ) (ls ms : List Line) → items_at line (ls ++ ms) ≡ items_at line ls
    ++ items_at (line + length ls) ms
items_both line [] ms = ap (λ n. items_at n ms) (omega arith)
items_both line (remark note ∷ ls) ms =
    items_both (line + 1) ls ms ∙ ap (λ n. items_at (line + 1) ls ++ items_at n ms) (omega arith)
items_both line (begins name ∷ ls) ms = ap (λ is. function line name ∷ is) (items_both (line + 1) ls ms
    ∙ ap (λ n. items_at (line + 1) ls ++ items_at n ms) (omega arith))
items_both line (marks loop ∷ ls) ms = ap (λ is. label line (label_name loop) ∷ is) (items_both (line + 1) ls ms
    ∙ ap (λ n. items_at (line + 1) ls ++ items_at n ms) (omega arith))
items_both line (does b note ∷ ls) ms = ap (λ is. bundle line b ∷ is) (items_both (line + 1) ls ms
    ∙ ap (λ n. items_at (line + 1) ls ++ items_at n ms) (omega arith))

some_item : (i : Item) (is : List Item) → length (i ∷ is) == 0 ≡ false
some_item i is = grind (arith, nat_tests)

drop_front : (xs ys : List ℕ) (n : ℕ) → n ≡ length xs → drop n (xs ++ ys) ≡ ys
drop_front [] ys n e = ap (λ m. drop m ys) e
drop_front (x ∷ xs) ys zero e = absurd (omega arith)
drop_front (x ∷ xs) ys (suc n) e = drop_front xs ys n (omega (arith, e))

-- ---- a task whose functions have names

module _ (names : List (List ℕ)) (each : ℕ) (s : PlainShape) (formed : is_formed s ≡ true) (fits : FitsImage s)
    (bundles : (k : ℕ) → k < length s.functions → All FitsBundle (flat s k))
    (has : HasNames names (length s.functions)) where
  abbrev name : ℕ → List ℕ
  name k = name_of names k

  abbrev places : Places
  places = places_at name (size_of s) 0 (order s)

  abbrev parts : ℕ → PlainParts
  parts k = linking.function s k

  -- the words of functions in an order
  abbrev words_in : List ℕ → List ℕ
  words_in ks = flat_map (λ k. function_words (start_of s) (parts k)) ks

  found : (k : ℕ) → k < length s.functions → place_of places (name k) ≡ Some (start_of s k)
  found k below = found_all name (size_of s) (length s.functions) has.apart s.entry k (shape_parts s formed).entry below

  formed_at : (k : ℕ) → k < length s.functions → function_formed k (parts k) ≡ true
  formed_at k below = each_formed s.functions k (length s.functions) below (shape_parts s formed).functions

  abbrev own_labels : ℕ → Lookup
  own_labels k = place_of (all_marks 0 0 (parts k))

  few : (k : ℕ) → k < length s.functions → parts_loops (parts k) ≤ 4096
  few k below = omega (arith, few_loops k (parts k) (formed_at k below), fits.small k below)

  -- the lines of a function stand for its bundles
  stands : (words : List ℕ) (k : ℕ) → k < length s.functions → Stand (place_of places) (own_labels k) 0
      (parts_lines names words 0 0 (parts k)) (flat s k)
  stands words k below =
      function_stands names words (place_of places) (own_labels k) (start_of s) k
      (λ j less. found j (omega (arith, less, below))) (λ j less. has.named j (omega (arith, less, below)))
      0 0 (parts k) (formed_at k below) (function_known (parts k) (omega (arith, few k below)))

  rises : (words : List ℕ) (k : ℕ) → k < length s.functions → Rise 0 (parts_lines names words 0 0 (parts k))
  rises words k below = subst (Rise 0) (append-nil (parts_lines names words 0 0 (parts k)))
      (rise_parts names words 0 0 (parts k) [] (omega (arith, few k below)) tt)

  -- the lines of one function and of those after it
  next_lines : (k : ℕ) (ks : List ℕ) → functions_lines names each s (words_in (k ∷ ks)) (k ∷ ks)
      ≡ function_lines names each s (size_of s k) (codes_of (flat s k) ++ words_in ks) k
      ++ functions_lines names each s (words_in ks) ks
  next_lines k ks =
      ap (λ ws. function_lines names each s (size_of s k) (codes_of (flat s k) ++ words_in ks) k
      ++ functions_lines names each s ws ks)
      (drop_front (codes_of (flat s k)) (words_in ks) (size_of s k)
      (sym (codes_words (flat s k) ∙ flat_words (start_of s) (parts k))))

  -- the statements of functions, the first of which stands after this line
  abbrev items : ℕ → List ℕ → List Item
  items line ks = items_at line (functions_lines names each s (words_in ks) ks)

  abbrev body : List ℕ → ℕ → List Line
  body ks k = parts_lines names (codes_of (flat s k) ++ words_in ks) 0 0 (parts k)

  -- the line of the functions after one
  abbrev behind : ℕ → ℕ → List ℕ → ℕ
  behind line k ks = line + length (function_lines names each s (size_of s k) (codes_of (flat s k) ++ words_in ks) k)

  -- the statements after the begin of a function: its own, and those of the others
  abbrev inside : ℕ → ℕ → List ℕ → List Item
  inside line k ks = items_at (line + 1 + 1) (body ks k) ++ items (behind line k ks) ks

  next_items : (line k : ℕ) (ks : List ℕ) → items line (k ∷ ks) ≡ function (line + 1) (name k) ∷ inside line k ks
  next_items line k ks =
      ap (items_at line) (next_lines k ks)
      ∙ items_both line (function_lines names each s (size_of s k) (codes_of (flat s k) ++ words_in ks) k)
      (functions_lines names each s (words_in ks) ks)

  no_size : (line : ℕ) (ks : List ℕ) → size_from (items line ks) ≡ 0
  no_size line [] = refl
  no_size line (k ∷ ks) = ap size_from (next_items line k ks)

  no_labels : (line at : ℕ) (ks : List ℕ) → labels_from at (items line ks) ≡ []
  no_labels line at [] = refl
  no_labels line at (k ∷ ks) = ap (labels_from at) (next_items line k ks)

  -- the labels of a function are those of its loops
  labels_are : (line k : ℕ) (ks : List ℕ) → k < length s.functions → labels_from 0 (inside line k ks)
      ≡ all_marks 0 0 (parts k)
  labels_are line k ks below =
      stand_labels (place_of places) (own_labels k) (items (behind line k ks) ks) (line + 1 + 1) 0 0 (body ks k)
      (flat s k) (stands (codes_of (flat s k) ++ words_in ks) k below)
      ∙ ap (λ ps. labels_in 0 (body ks k) ++ ps) (no_labels (behind line k ks) (0 + bundles_words (flat s k)) ks)
      ∙ append-nil (labels_in 0 (body ks k)) ∙ parts_labels names (codes_of (flat s k) ++ words_in ks) 0 0 (parts k)

  size_is : (k : ℕ) → bundles_words (flat s k) ≡ size_of s k
  size_is k = flat_words (start_of s) (parts k)

  functions_are : (line at : ℕ) (ks : List ℕ) → Each (λ k. k < length s.functions) ks
      → functions_from at (items line ks) ≡ places_at name (size_of s) at ks
  functions_are line at [] all = refl
  functions_are line at (k ∷ ks) all =
      ap (functions_from at) (next_items line k ks)
      ∙ ap (λ ps. (name k, at + 1) ∷ ps)
      (stand_functions (place_of places) (own_labels k) (items (behind line k ks) ks) (line + 1 + 1) 0 (at + 1)
      (body ks k) (flat s k) (stands (codes_of (flat s k) ++ words_in ks) k all.0)
      ∙ ap (λ n. functions_from n (items (behind line k ks) ks)) (omega (arith, size_is k))
      ∙ functions_are (behind line k ks) (at + (1 + size_of s k)) ks all.1)

  names_are : (line : ℕ) (ks : List ℕ) → Each (λ k. k < length s.functions) ks → names_from (items line ks)
      ≡ map name ks
  names_are line [] all = refl
  names_are line (k ∷ ks) all =
      ap names_from (next_items line k ks)
      ∙ ap (λ ns. name k ∷ ns)
      (stand_names (place_of places) (own_labels k) (items (behind line k ks) ks) (line + 1 + 1) 0 (body ks k)
      (flat s k) (stands (codes_of (flat s k) ++ words_in ks) k all.0)
      ∙ names_are (behind line k ks) ks all.1)

  words_are : (line at : ℕ) (labels : Lookup) (ks : List ℕ) → Each (λ k. k < length s.functions) ks
      → words_from (place_of places) labels at (items line ks) ≡ words_in ks
  words_are line at labels [] all = refl
  words_are line at labels (k ∷ ks) all =
      let rest : List Item = items (behind line k ks) ks in
      let here : List Item = inside line k ks in
      let own = stands (codes_of (flat s k) ++ words_in ks) k all.0 in
      let sized : size_from here ≡ size_of s k = stand_size (place_of places) (own_labels k) rest (line + 1 + 1) 0
      (body ks k) (flat s k) own ∙ omega (arith, size_is k, no_size (behind line k ks) ks) in
      ap (words_from (place_of places) labels at) (next_items line k ks)
      ∙ ap (λ n. n ∷ words_from (place_of places) (place_of (labels_from 0 here)) 0 here) sized
      ∙ ap (λ ps. size_of s k ∷ words_from (place_of places) (place_of ps) 0 here) (labels_are line k ks all.0)
      ∙ ap (λ ws. size_of s k ∷ ws) (stand_words (place_of places) (own_labels k) rest (line + 1 + 1) 0
      (body ks k) (flat s k) own
      ∙ ap (λ ws. codes_of (flat s k) ++ ws) (words_are (behind line k ks) (0 + bundles_words (flat s k))
      (own_labels k) ks all.1))

  -- ---- faults

  -- none of the names to come is among those of functions that are begun
  abbrev AreNew : List (List ℕ) → List ℕ → Type 0
  AreNew begun ks = Each (λ k. is_among (name k) begun ≡ false) ks

  one_new : (begun : List (List ℕ)) (j k : ℕ) → j < length s.functions → k < length s.functions
      → is_among (name j) begun ≡ false → is_among (name k) begun ≡ false → j ≢ k
      → is_among (name j) (noted (name k) begun) ≡ false
  one_new begun j k h i e f ne =
      let other : bytes_eq (name j) (name k) ≡ false = different (bytes_eq (name j) (name k)) refl in
      rw (f, list_any-append (bytes_eq (name j)) begun (name k ∷ []), e, other) refl
    where
      different : (t : Bool) → bytes_eq (name j) (name k) ≡ t → t ≡ false
      different true same = absurd (ne (has.apart j k h i same))
      different false same = refl

  still_new : (begun : List (List ℕ)) (k : ℕ) (ks : List ℕ) → k < length s.functions
      → Each (λ j. j < length s.functions) ks → is_among (name k) begun ≡ false → AreNew begun ks → Each (λ j. j ≢ k) ks
      → AreNew (noted (name k) begun) ks
  still_new begun k [] h all f new apart = tt
  still_new begun k (j ∷ ks) h all f new apart =
      (one_new begun j k all.0 h new.0 f apart.0, still_new begun k ks h all.1 f new.1 apart.1)

  begun_some : (n : List ℕ) (begun : List (List ℕ)) → is_among n begun ≡ false → length (noted n begun) == 0 ≡ false
  begun_some n begun e = rw e (let z : length (begun ++ n ∷ []) ≡ length begun + 1 = length-append begun (n ∷ []) in
      grind (arith, nat_tests))

  begins_well : (among : Bool) (image : ℕ) → among ≡ false → image ≤ 32768
      → cond among (Some LabelTwice) (cond (nat_lt 32768 image) (Some TooLarge) None) ≡ None
  begins_well among image e small = grind (arith, nat_tests)

  none_faulty : (line : ℕ) (labels : Lookup) (before : Before) (ks : List ℕ) → Each (λ k. k < length s.functions) ks
      → AllApart ks → AreNew before.functions ks
      → before.image + words_of (size_of s) ks ≤ 32768 → first_fault (place_of places) labels before (items line ks)
      ≡ None
  none_faulty line labels before [] all apart new small = refl
  none_faulty line labels before (k ∷ ks) all apart new small =
      let rest : List Item = items (behind line k ks) ks in
      let begun : Before = after before (function (line + 1) (name k)) in
      let size = size_is k in
      let none : first_fault (place_of places) (own_labels k) begun (inside line k ks) ≡ None =
      stand_faultless (place_of places) (own_labels k) rest (line + 1 + 1) 0 0 begun (body ks k) (flat s k)
      (stands (codes_of (flat s k) ++ words_in ks) k all.0) (rises (codes_of (flat s k) ++ words_in ks) k all.0)
      refl
      (omega (arith, size, fits.small k all.0)) (omega (arith, size, small))
      (begun_some (name k) before.functions new.0) (λ n h i. refl)
      (λ later f z i. none_faulty (behind line k ks) (own_labels k) later ks all.1 apart.1
      (subst (λ fs. AreNew fs ks) (sym f) (still_new before.functions k ks all.0 all.1 new.0 new.1 apart.0))
      (omega (arith, i, size, small))) in
      ap (first_fault (place_of places) labels before) (next_items line k ks)
      ∙ none_first (function (line + 1) (name k)) (fault_of (place_of places) labels before
      (function (line + 1) (name k))) _
      (begins_well (is_among (name k) before.functions) (before.image + 1) new.0 (omega (arith, small)))
      (ap (λ ps. first_fault (place_of places) (place_of ps) begun (inside line k ks)) (labels_are line k ks all.0)
      ∙ none)

  -- ---- all lines can be read back

  note_reads : (size k : ℕ) → k < length s.functions → lacks 10 (codes "function " ++ name k ++ codes " words "
      ++ decimal size ++ codes " stack " ++ decimal (reserved (parts k)) ++ tally_text (function_tally each s k)) ≡ true
  note_reads size k below =
      let one = codes "function " ++ name k in
      let two = one ++ codes " words " ++ decimal size in
      let three = two ++ codes " stack " ++ decimal (reserved (parts k)) in
      lacks_both three (tally_text (function_tally each s k))
      (lacks_both (two ++ codes " stack ") (decimal (reserved (parts k)))
      (lacks_both two (codes " stack ") (lacks_both (one ++ codes " words ") (decimal size)
      (lacks_both one (codes " words ") (name_inline (name k) (has.named k below)) refl) (decimal_inline size))
      refl)
      (decimal_inline (reserved (parts k)))) (tally_inline (function_tally each s k))

  functions_read : (ks : List ℕ) → Each (λ k. k < length s.functions) ks → AreReadable (functions_lines names each s
      (words_in ks) ks)
  functions_read [] all = tt
  functions_read (k ∷ ks) all =
      subst AreReadable (sym (next_lines k ks)) (
        note_reads (size_of s k) k all.0,
        (
          has.named k all.0,
          readable_both (body ks k) (functions_lines names each s (words_in ks) ks)
              (stand_readable (place_of places) (own_labels k) 0 0 (body ks k) (flat s k)
              (stands (codes_of (flat s k) ++ words_in ks) k all.0) (bundles k all.0)
              (inline_parts names (codes_of (flat s k) ++ words_in ks) 0 0 (parts k))
              (rises (codes_of (flat s k) ++ words_in ks) k all.0))
              (functions_read ks all.1),
        ),
      )

  -- ---- the task

  module _ (numbers : Numbers) where
    abbrev lines : List Line
    lines = task_lines names numbers each s (linked s).words

    head_reads : lacks 10 (codes "core " ++ decimal numbers.core ++ codes " words " ++ decimal (length (linked s).words)
        ++ tally_text (task_tally each s) ++ codes " bound " ++ decimal numbers.bound ++ codes " persist "
        ++ decimal numbers.persist) ≡ true
    head_reads =
        let words = decimal (length (linked s).words) in
        let one = codes "core " ++ decimal numbers.core in
        let two = one ++ codes " words " ++ words in
        let three = two ++ tally_text (task_tally each s) in
        let four = three ++ codes " bound " ++ decimal numbers.bound in
        lacks_both (four ++ codes " persist ") (decimal numbers.persist)
        (lacks_both four (codes " persist ") (lacks_both (three ++ codes " bound ") (decimal numbers.bound)
        (lacks_both three (codes " bound ") (lacks_both two (tally_text (task_tally each s))
        (lacks_both (one ++ codes " words ") words (lacks_both one (codes " words ") (decimal_inline numbers.core) refl)
        (decimal_inline (length (linked s).words))) (tally_inline (task_tally each s))) refl)
        (decimal_inline numbers.bound)) refl) (decimal_inline numbers.persist)

    within : Each (λ k. k < length s.functions) (order s)
    within = order_within s.entry (length s.functions) (shape_parts s formed).entry

    image_fits : words_of (size_of s) (order s) ≤ 32768
    image_fits = omega (
      arith,
      order_words (size_of s) s.entry (length s.functions),
      all_counted (size_of s) s.entry
          (length s.functions) (shape_parts s formed).entry,
      fits.within,
    )

    abbrev whole : List Item
    whole = items (1 + 1) (order s)

    no_faults : first_fault (place_of (functions_from 0 whole)) (place_of []) nothing whole ≡ None
    no_faults =
        ap (λ ps. first_fault (place_of ps) (place_of []) nothing whole) (functions_are (1 + 1) 0 (order s) within)
        ∙ none_faulty (1 + 1) (place_of []) nothing (order s) within (order_apart s.entry (length s.functions)) (new_all
        (order s)) (omega (arith, image_fits))
      where
        new_all : (ks : List ℕ) → AreNew [] ks
        new_all [] = tt
        new_all (k ∷ ks) = (refl, new_all ks)

    starts_are : map (λ p. p.1) places ≡ (linked s).starts
    starts_are = ap (λ xs. 1 ∷ xs) (starts_order name (size_of s) s.entry (length s.functions)
        (0 + (1 + size_of s s.entry)) (omega arith)) ∙ starts_entry
      where
        starts_entry : 1 ∷ map (place (size_of s) s.entry) (others s.entry (length s.functions))
            ≡ map (start_of s) (order s)
        starts_entry = ap (λ x. x ∷ map (start_of s) (others s.entry (length s.functions)))
            (sym (entry_placed (size_of s) s.entry s.entry refl))

    parts_are : parts_in whole ≡ record {
      names = map name (order s);
      starts = (linked s).starts;
      words = (linked s).words;
    }
    parts_are =
        ap (λ ps. record {
          names = names_from whole;
          starts = map (λ p. p.1) ps;
          words = words_from (place_of ps)
              (place_of []) 0 whole;
        }) (functions_are (1 + 1) 0 (order s) within)
        ∙ ap (λ ns. record {
          names = ns;
          starts = map (λ p. p.1) places;
          words = words_from (place_of places)
              (place_of []) 0 whole;
        }) (names_are (1 + 1) (order s) within)
        ∙ ap (λ xs. record {
          names = map name (order s);
          starts = xs;
          words = words_from (place_of places)
              (place_of []) 0 whole;
        }) starts_are
        ∙ ap (λ ws. record { names = map name (order s); starts = (linked s).starts; words = ws }) (words_are (1 + 1) 0
        (place_of []) (order s) within)

    some : length whole == 0 ≡ false
    some = ap (λ is. length is == 0) (next_items (1 + 1) s.entry (others s.entry (length s.functions)))
        ∙ some_item (function (1 + 1 + 1) (name s.entry)) (inside (1 + 1) s.entry (others s.entry (length s.functions)))

    -- the text has the image's code, under the functions' names
    pub text_assembles : code_of (lines_text lines)
        ≡ Ok (record { names = map name (order s); starts = (linked s).starts; words = (linked s).words })
    unfolding code_of items_of
    text_assembles =
        ap code_in (lines_read 1 lines (head_reads, functions_read (order s) within))
        ∙ answered whole None some no_faults ∙ ap (λ p. Ok p) parts_are
