-- `main` is there in a valid program, has no parameters, and is the only function so called.
use Rattle.std.proofs.Common.{◌≡◌, ℕ, suc, ◌+◌, ◌<◌, ◌==◌, Bool, true, false, if◌then◌else◌, List, [], ◌∷◌, length, Option, None, Some, is_some, slice_index, bytes_eq, refl, ap, sym, ◌∙◌, arith, lt-ltb, eq-eqb, eqb-true, true≢false, slice_index_or}
use Rattle.std.proofs.lemmas.Bool.{and_from, and_parts}
use Rattle.std.proofs.lemmas.Slice.Eq.{bytes_eq-Decides}
use Rattle.std.specs.Option.{option_or, option_map}
use Rattle.std.specs.Prelude.{codes, ◌&&◌, ◌||◌}
use Rattle.c_tree.specs.declared.checks.Meaning.{Meaning}
use Rattle.c_tree.specs.Layout.{layout_of}
use Rattle.c_tree.specs.Names.{Found, Named, last_named, found, declared, given, number_of}
use Rattle.c_tree.specs.Plain.{PlainItem, global, function}
use Rattle.c_tree.specs.Valid.{IsValid, means_of, function_means, with_item, gives_int, is_main, has_main}
use Rattle.sp_tree.specs.Formed.{entry_formed}
use Rattle.sp_tree.specs.Statements.{no_function}
use Rattle.c_meaning.specs.Resolve.{names_in, resolved_items, parameters_in}
use Rattle.single_path.specs.Single.{with_calls, entry_of}
use Rattle.single_path.proofs.Formed.{as_many, made_length}
use Rattle.single_path.proofs.Functions.{made_at}
use Rattle.c_tree.specs.Typed.{ItemsTyped, Typed}
use Rattle.c_tree.proofs.Typing.{typed_of}
use Rattle.single_path.proofs.FunctionNames.{found_last}
use Rattle.single_path.proofs.OpenNames.{still_found}

-- ---- names that are declared

found_here : (text : List ℕ) (names : List Named) (name : List ℕ) (m : Meaning) → bytes_eq name text ≡ true
    → is_some (found text (declared names name m)) ≡ true
found_here text names name m same =
    ap is_some (found_last text names (record { name = name; means = m })
    ∙ ap (λ b. if b then Some m else found text names) same)

-- a name that is declared already is no function's
other_name : (names : List Named) (name text : List ℕ) → found name names ≡ None → is_some (found text names) ≡ true
    → bytes_eq name text ≡ false
other_name names name text new there = by (bytes_eq name text) refl
  where
    by : (same : Bool) → bytes_eq name text ≡ same → bytes_eq name text ≡ false
    by false is = is
    by true is =
        absurd (true≢false (sym there ∙ ap (λ x. is_some (found x names)) (sym ((bytes_eq-Decides name text).0 is))
        ∙ ap is_some new))

no_later : (cores own : ℕ) (names : List Named) (items : List PlainItem) → ItemsTyped cores own names items
    → (text : List ℕ) → is_some (found text names) ≡ true → (k : ℕ) → last_named (λ n. n) k text (names_in items) ≡ None
no_later cores own names [] typed text there k = refl
no_later cores own names (global g ∷ items) typed text there k =
    no_later cores own (with_item names (global g)) items typed.1 text
    (still_found names g.name text (means_of g) there) k
no_later cores own names (function kind name void_word parameters body ∷ items) typed text there k =
    let f = function kind name void_word parameters body in
    let later = no_later cores own (with_item names f) items typed.1 text
    (still_found names name text (function_means false kind parameters) there) (k + 1) in
    let other = other_name names name text typed.0.new there in
    let own_name : Found (List ℕ) = record { at = k; is = name } in
    ap (λ l. option_or l (if bytes_eq name text then Some own_name else None)) later
    ∙ ap (λ b. if b then Some own_name else None) other

-- ---- where `main` stands, where so many functions stand before these

record MainFrom (k : ℕ) (items : List PlainItem) : Type 0 where
  number : ℕ
  is : option_map (λ f. f.at) (last_named (λ n. n) k (codes "main") (names_in items)) ≡ Some (k + number)
  within : number < length (parameters_in items)
  bare : slice_index (parameters_in items) number ≡ 0

main_from : (cores own : ℕ) (names : List Named) (items : List PlainItem) → ItemsTyped cores own names items
    → has_main items ≡ true → (k : ℕ) → MainFrom k items
main_from cores own names [] typed there k = absurd (true≢false (sym there))
main_from cores own names (global g ∷ items) typed there k =
    let rest = main_from cores own (with_item names (global g)) items typed.1 there k in
    record { number = rest.number; is = rest.is; within = rest.within; bare = rest.bare }
main_from cores own names (function kind name void_word parameters body ∷ items) typed there k =
    by (is_main f) refl there (λ later. main_from cores own (with_item names f) items typed.1 later (k + 1))
  where
    f : PlainItem
    f = function kind name void_word parameters body

    own_name : Found (List ℕ)
    own_name = record { at = k; is = name }

    later_meant : (later : Option (Found (List ℕ))) (here : Bool) (n : ℕ) → option_map (λ l. l.at) later ≡ Some n
        → option_map (λ l. l.at) (option_or later (if here then Some own_name else None)) ≡ Some n
    later_meant None here n is = absurd (cc)
    later_meant (Some l) here n is = is

    by : (here : Bool) → is_main f ≡ here → (here || has_main items) ≡ true
        → (has_main items ≡ true → MainFrom (k + 1) items)
        → MainFrom k (f ∷ items)
    by true is some rest =
        let parts = and_parts (bytes_eq name (codes "main")) (gives_int kind && length parameters == 0) is in
        let bare = and_parts (gives_int kind) (length parameters == 0) parts.1 in
        let last = no_later cores own (with_item names f) items typed.1 (codes "main")
        (found_here (codes "main") names name (function_means false kind parameters) parts.0) (k + 1) in
        record {
          number = 0;
          is = ap (λ l. option_map (λ f. f.at)
              (option_or l (if bytes_eq name (codes "main") then Some own_name else None))) last
              ∙ ap (λ b. option_map (λ f. f.at) (if b then Some own_name else None)) parts.0 ∙ ap Some (omega arith);
          within = omega arith;
          bare = eqb-true (length parameters) 0 bare.1;
        }
    by false is some rest =
        let later = rest some in
        record {
          number = suc later.number;
          is = later_meant (last_named (λ n. n) (k + 1) (codes "main") (names_in items)) (bytes_eq name (codes "main"))
              (k + 1 + later.number) later.is
              ∙ ap Some (omega arith);
          within = omega (arith, later.within);
          bare = later.bare;
        }

-- ---- a whole program

pub record MainThere (items : List PlainItem) : Type 0 where
  pub number : ℕ
  pub is : number_of (codes "main") (names_in items) ≡ Some number
  pub within : number < length (resolved_items (layout_of items) [] items)
  pub bare : slice_index (parameters_in items) number ≡ 0

pub main_there : (cores own : ℕ) (items : List PlainItem) → IsValid items cores own → MainThere items
main_there cores own items valid =
    let typed : Typed cores own items = typed_of cores own items valid in
    let main = main_from cores own given items typed.each typed.main 0 in
    record {
      number = main.number;
      is = main.is ∙ ap Some (omega arith);
      within = omega (arith, main.within, as_many (layout_of items) [] items);
      bare = main.bare;
    }

pub entry_is_formed : (cores own : ℕ) (items : List PlainItem) → IsValid items cores own
    → entry_formed (with_calls items) ≡ true
entry_is_formed cores own items valid =
    let counts = parameters_in items in
    let bodies = resolved_items (layout_of items) [] items in
    let same = as_many (layout_of items) [] items in
    let main = main_there cores own items valid in
    ap (λ n. entry_formed (record (with_calls items) { entry = entry_of n })) main.is
    ∙ and_from _ _ (lt-ltb main.number (length (with_calls items).functions)
    (omega (arith, main.within, made_length counts bodies same)))
    (eq-eqb (slice_index_or (with_calls items).functions main.number no_function).parameters 0
    (ap (λ f. f.parameters) (made_at counts bodies main.number (omega (arith, main.within, same)) main.within)
    ∙ main.bare))
