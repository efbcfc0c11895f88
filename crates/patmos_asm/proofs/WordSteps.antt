-- The words of one statement after another.
use Rattle.std.proofs.Common.{arith, ◌≡◌, ◌∙◌, ℕ, ◌+◌, ◌<◌, ◌≤◌, List, [], ◌∷◌, ◌++◌, length, get_or, drop, refl, sym, ap, append_assoc, None, subst}
use Rattle.std.proofs.lemmas.List.{append-nil, at_drop_all}
use Rattle.patmos_syntax.specs.declared.items.Item as code
use Rattle.patmos_syntax.specs.Items.{Item}
use Rattle.patmos_asm.specs.Assembly.{Lookup, nothing, place_of, functions_from, size_from, labels_after, first_fault, item_words, offset_after, words_from}
use Rattle.patmos_syntax.specs.Shown.{shown_item, shown_items}
use Rattle.patmos_asm.proofs.Steps.{item_first}
use Rattle.patmos_asm.proofs.Faultless.{Faultless, functions_small, rest_faultless, size_fits}

-- a text without a fault begins within its limits, where its functions have their places
pub begins : (functions labels : Lookup) (is : List Item) → ((q : List ℕ) → functions q
    ≡ place_of (functions_from 0 is) q) → ((q : List ℕ) → labels q ≡ place_of [] q) →
    first_fault (place_of (functions_from 0 is)) (place_of []) nothing is ≡ None → Faultless functions labels 0 is
begins functions labels is places none_set e =
    let k : functions ≡ place_of (functions_from 0 is) = λ i q. places q i in
    let l : labels ≡ place_of [] = λ i q. none_set q i in
    rw (k, l) (record {
      before = nothing;
      at_is = refl;
      none = e;
      within = record {
        offset = omega arith;
        in_function = λ name place found. cc;
        in_image = functions_small (place_of (functions_from 0 is)) (place_of []) nothing is e;
      };
    })

pub words_begin : (functions labels : Lookup) (is : List Item) (done : List ℕ) → done ≡ []
    → ((q : List ℕ) → labels q ≡ place_of [] q) →
    done ++ words_from functions labels 0 is ≡ words_from functions (place_of []) 0 is
words_begin functions labels is done none none_set =
    let l : labels ≡ place_of [] = λ i q. none_set q i in
    rw (none, l) refl

-- what is known of the statement at this place and of those after it
pub record Next (functions labels labels' : Lookup) (at at' : ℕ) (items : List code.Item) (item : code.Item)
    (i : ℕ) : Type 0 where
  pub within : i < length items
  pub is : item ≡ get_or items i item
  pub same : (q : List ℕ) → labels' q ≡ labels_after labels (shown_item item) (shown_items (drop (i + 1) items)) q
  pub offset : at' ≡ offset_after at (shown_item item)

pub words_step : (functions labels labels' : Lookup) (at at' : ℕ) (items : List code.Item) (item : code.Item) (i : ℕ)
    (done new all : List ℕ) →
    Next functions labels labels' at at' items item i → new ≡ done ++ item_words functions labels at (shown_item item)
    (shown_items (drop (i + 1) items)) →
    done ++ words_from functions labels at (shown_items (drop i items)) ≡ all → new
    ++ words_from functions labels' at' (shown_items (drop (i + 1) items)) ≡ all
words_step functions labels labels' at at' items item i done new all next pushed before =
    let known : labels' ≡ labels_after labels (shown_item item) (shown_items (drop (i + 1) items)) =
    λ k q. next.same q k in
    let first : shown_items (drop i items) ≡ shown_item item ∷ shown_items (drop (i + 1) items) =
    item_first items item i next.within next.is in
    let here : words_from functions labels at (shown_items (drop i items))
    ≡ item_words functions labels at (shown_item item) (shown_items (drop (i + 1) items))
    ++ words_from functions labels' at' (shown_items (drop (i + 1) items)) =
    rw (first, known, next.offset) refl in
    rw (pushed, append_assoc, ← here) before

pub faultless_step : (functions labels labels' : Lookup) (at at' : ℕ) (items : List code.Item)
    (item : code.Item) (i : ℕ) →
    Next functions labels labels' at at' items item i → Faultless functions labels at (shown_items (drop i items))
    → Faultless functions labels' at' (shown_items (drop (i + 1) items))
faultless_step functions labels labels' at at' items item i next f =
    let known : labels' ≡ labels_after labels (shown_item item) (shown_items (drop (i + 1) items)) =
    λ k q. next.same q k in
    rw (known, next.offset) (rest_faultless functions labels at (shown_item item) (shown_items (drop (i + 1) items))
    (subst (Faultless functions labels at) (item_first items item i next.within next.is) f))

pub size_step : (functions labels : Lookup) (at : ℕ) (items : List code.Item) (item : code.Item) (i : ℕ)
    → i < length items → item ≡ get_or items i item →
    Faultless functions labels at (shown_items (drop i items)) → size_from (shown_items (drop (i + 1) items)) ≤ 4096
size_step functions labels at items item i within is f =
    size_fits functions labels at (shown_item item) (shown_items (drop (i + 1) items))
    (subst (Faultless functions labels at) (item_first items item i within is) f)

-- where nothing is left, all is done
pub words_end : (functions labels : Lookup) (at : ℕ) (items : List code.Item) (i : ℕ) (done all : List ℕ)
    → length items ≤ i →
    done ++ words_from functions labels at (shown_items (drop i items)) ≡ all → done ≡ all
words_end functions labels at items i done all past e =
    let k : words_from functions labels at (shown_items (drop i items)) ≡ [] =
    at_drop_all (λ is. words_from functions labels at (shown_items is)) items i past in
    sym (append-nil done) ∙ ap (λ ws. done ++ ws) (sym k) ∙ e

-- the same words, by the same places
pub words_same : (functions functions' : Lookup) (is : List Item) → ((q : List ℕ) → functions q ≡ functions' q) →
    words_from functions (place_of []) 0 is ≡ words_from functions' (place_of []) 0 is
words_same functions functions' is same = let k : functions ≡ functions' = λ i q. same q i in rw k refl
