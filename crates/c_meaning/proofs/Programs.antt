-- What resolved programs do: what the programs mean that they stand for.
use Rattle.std.proofs.Common.{◌≡◌, ◌≢◌, ℕ, zero, suc, ◌-◌, ◌<◌, ◌≤◌, Bool, true, false, ◌==◌, List, [], ◌∷◌, ◌++◌, length, Option, None, Some, bytes_eq, if◌then◌else◌, slice_index, slice_index_or, refl, ap, ap₂, sym, subst, ◌∙◌, arith, eq-eqb, ne_eqb, append_assoc, append-nil, length-append}
use Rattle.std.specs.Prelude.{codes, IfSome}
use Rattle.std.proofs.lemmas.List.{get_or_append_left, get_or-append_right}
use Rattle.c_tree.specs.declared.layout.Slot.{Slot}
use Rattle.c_tree.specs.declared.statements.Kind.{Kind}
use Rattle.c_tree.specs.declared.units.Parameter.{Parameter}
use Rattle.c_tree.specs.Layout.{layout_of}
use Rattle.c_tree.specs.Plain.{PlainStmt, PlainItem}
use Rattle.c_tree.specs.Plain as plain
use Rattle.c_world.specs.World.{World}
use Rattle.c_tree.proofs.LastNamed.{number_pushed, number_within}
use Rattle.c_meaning.specs.Actions.{PlainActions, no_action}
use Rattle.c_meaning.specs.Meaning.{Done, Outcome, Calls, calls_with, calls_of, function_outcome, parameter_variables, way_value, program_outcome}
use Rattle.c_tree.specs.Names.{number_of}
use Rattle.c_meaning.specs.Resolve.{resolved_body, resolved_items, names_in, numbered, calls_by}
use Rattle.c_meaning.specs.Resolved.{Serves, serves, routine_outcome}
use Rattle.c_meaning.proofs.Means.{body_means}

-- ---- numbers of functions

pub number_same : (text : List ℕ) (fs : List (List ℕ)) (f : List ℕ) → bytes_eq f text ≡ true
    → number_of text (fs ++ f ∷ []) ≡ Some (length fs)
number_same text fs f same = number_pushed text fs f ∙ ap (λ b. if b then Some (length fs) else number_of text fs) same

pub number_other : (text : List ℕ) (fs : List (List ℕ)) (f : List ℕ) → bytes_eq f text ≡ false
    → number_of text (fs ++ f ∷ []) ≡ number_of text fs
number_other text fs f other =
    number_pushed text fs f ∙ ap (λ b. if b then Some (length fs) else number_of text fs) other

-- ---- functions in order

serves_front : (rs more : List PlainActions) (n : ℕ) → n ≤ length rs → serves (rs ++ more) n ≡ serves rs n
serves_front rs more zero within = refl
serves_front rs more (suc n) within =
    let before = serves_front rs more n (omega arith) in
    let body : slice_index_or (rs ++ more) n no_action ≡ slice_index_or rs n no_action =
    get_or_append_left rs more no_action n (omega arith) in
    let next : Serves → PlainActions → Serves =
    λ g b k args world. if k == n then routine_outcome g b args world else g k args world in
    ap₂ next before body

serves_last : (rs : List PlainActions) (r : PlainActions) (n : ℕ) (args : List ℕ) (world : World) → length rs ≡ n
    → serves (rs ++ r ∷ []) (suc n) n args world ≡ routine_outcome (serves rs n) r args world
serves_last rs r n args world count =
    let first : n - n ≡ 0 = omega arith in
    let body : slice_index_or (rs ++ r ∷ []) n no_action ≡ r =
    get_or-append_right rs (r ∷ []) n n no_action count (omega arith)
    ∙ ap (λ i. slice_index_or (r ∷ []) i no_action) first in
    ap (λ b. if b then routine_outcome (serves (rs ++ r ∷ []) n) (slice_index_or (rs ++ r ∷ []) n no_action) args world
    else serves (rs ++ r ∷ []) n n args world) (eq-eqb n n refl)
    ∙ ap₂ (λ g b. routine_outcome g b args world) (serves_front rs (r ∷ []) n (omega arith)) body

serves_earlier : (rs : List PlainActions) (r : PlainActions) (n k : ℕ) (args : List ℕ) (world : World)
    → length rs ≡ n → k < n
    → serves (rs ++ r ∷ []) (suc n) k args world ≡ serves rs n k args world
serves_earlier rs r n k args world count below =
    let other : k ≢ n = omega arith in
    ap (λ b. if b then routine_outcome (serves (rs ++ r ∷ []) n) (slice_index_or (rs ++ r ∷ []) n no_action) args world
    else serves (rs ++ r ∷ []) n k args world) (ne_eqb k n other)
    ∙ ap (λ (g : Serves). g k args world) (serves_front rs (r ∷ []) n (omega arith))

-- ---- one function more

routine_means : (slots : List Slot) (fs : List (List ℕ)) (g : Serves) (parameters : List Parameter)
    (body : List PlainStmt) (args : List ℕ) (world : World)
    → routine_outcome g (resolved_body fs (record { slots = slots; variables = parameter_variables parameters })
    body) args world
    ≡ function_outcome slots (calls_by fs g) parameters body args world
routine_means slots fs g parameters body args world =
    ap (λ (d : Done). let given : Outcome = record { value = way_value d.way; world = d.state.world } in given)
    (body_means fs (record { slots = slots; variables = parameter_variables parameters }) g body
    (record { locals = slice_index args; world = world }))

one_more : (slots : List Slot) (fs : List (List ℕ)) (rs : List PlainActions) (n : ℕ) (kind : Option Kind)
    (its_name : List ℕ) (void_word : Bool)
    (parameters : List Parameter) (body : List PlainStmt) → length fs ≡ n → length rs ≡ n
    → calls_with slots (calls_by fs (serves rs n)) (plain.function kind its_name void_word parameters body)
    ≡ calls_by (fs ++ its_name ∷ [])
    (serves (rs ++ resolved_body fs (record { slots = slots; variables = parameter_variables parameters }) body ∷ [])
    (suc n))
one_more slots fs rs n kind its_name void_word parameters body count_fs count_rs =
    λ i text args world. at text args world i
  where
    r : PlainActions
    r = resolved_body fs (record { slots = slots; variables = parameter_variables parameters }) body

    earlier : (k : Option ℕ) (args : List ℕ) (world : World) → ((j : ℕ) → k ≡ Some j → j < n)
        → numbered (serves rs n) k args world ≡ numbered (serves (rs ++ r ∷ []) (suc n)) k args world
    earlier None args world below = refl
    earlier (Some k) args world below = sym (serves_earlier rs r n k args world count_rs (below k refl))

    by : (b : Bool) (text args : List ℕ) (world : World) → bytes_eq its_name text ≡ b
        → (if b then function_outcome slots (calls_by fs (serves rs n)) parameters body args world else calls_by fs
        (serves rs n) text args world)
        ≡ numbered (serves (rs ++ r ∷ []) (suc n)) (number_of text (fs ++ its_name ∷ [])) args world
    by true text args world is =
        sym (ap (λ k. numbered (serves (rs ++ r ∷ []) (suc n)) k args world) (number_same text fs its_name is
        ∙ ap Some count_fs)
        ∙ serves_last rs r n args world count_rs ∙ routine_means slots fs (serves rs n) parameters body args world)
    by false text args world is =
        earlier (number_of text fs) args world (λ j e. let below = subst (λ k. IfSome k (λ i. i < length fs)) e
        (number_within text fs) in omega arith)
        ∙ sym (ap (λ k. numbered (serves (rs ++ r ∷ []) (suc n)) k args world) (number_other text fs its_name is))

    at : (text args : List ℕ) (world : World)
        → calls_with slots (calls_by fs (serves rs n)) (plain.function kind its_name void_word parameters body)
        text args world
        ≡ calls_by (fs ++ its_name ∷ []) (serves (rs ++ r ∷ []) (suc n)) text args world
    at text args world = by (bytes_eq its_name text) text args world refl

-- ---- all functions

items_mean : (slots : List Slot) (fs : List (List ℕ)) (rs : List PlainActions) (n : ℕ) (items : List PlainItem)
    (names : List (List ℕ)) (all : List PlainActions)
    → length fs ≡ n → length rs ≡ n → names ≡ fs ++ names_in items → all ≡ rs ++ resolved_items slots fs items
    → calls_of slots (calls_by fs (serves rs n)) items ≡ calls_by names (serves all (length all))
items_mean slots fs rs n [] names all count_fs count_rs is_names is_all =
    ap (λ m. calls_by fs (serves rs m)) (sym count_rs)
    ∙ ap₂ (λ a b. calls_by a (serves b (length b))) (sym (is_names ∙ append-nil fs)) (sym (is_all ∙ append-nil rs))
items_mean slots fs rs n (plain.global of ∷ items) names all count_fs count_rs is_names is_all =
    items_mean slots fs rs n items names all count_fs count_rs is_names is_all
items_mean slots fs rs n (plain.function kind its_name void_word parameters body ∷ items) names all count_fs count_rs
    is_names is_all =
    let r = resolved_body fs (record { slots = slots; variables = parameter_variables parameters }) body in
    ap (λ calls. calls_of slots calls items) (one_more slots fs rs n kind its_name void_word parameters body
    count_fs count_rs)
    ∙ items_mean slots (fs ++ its_name ∷ []) (rs ++ r ∷ []) (suc n) items names all
    (omega (arith, length-append fs (its_name ∷ []))) (omega (arith, length-append rs (r ∷ [])))
    (is_names ∙ sym (append_assoc fs (its_name ∷ []) (names_in items)))
    (is_all ∙ sym (append_assoc rs (r ∷ []) (resolved_items slots (fs ++ its_name ∷ []) items)))

pub program_means : (items : List PlainItem) (world : World)
    → program_outcome items world
    ≡ numbered (serves (resolved_items (layout_of items) [] items) (length (resolved_items (layout_of items) [] items)))
    (number_of (codes "main") (names_in items)) [] world
program_means items world =
    ap (λ (calls : Calls). calls (codes "main") [] world)
    (items_mean (layout_of items) [] [] 0 items (names_in items) (resolved_items (layout_of items) [] items) refl
    refl refl refl)
