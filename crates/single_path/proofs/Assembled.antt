-- Functions, made one after another.
use Rattle.std.proofs.Common.{◌≡◌, ℕ, suc, ◌^◌, ◌<◌, List, [], ◌∷◌, ◌++◌, length, ap, sym, ◌∙◌, arith, slice_index, slice_index_or, subst, IfOk, append_assoc}
use Rattle.std.specs.Prelude.{Result, Ok, Err}
use Rattle.std.proofs.lemmas.List.{map-append}
use Rattle.c_tree.specs.Plain.{PlainItem}
use Rattle.c_meaning.specs.Actions.{PlainActions, no_action}
use Rattle.c_meaning.specs.declared.actions.Routine.{Routine}
use Rattle.c_meaning.specs.Shown.{actions_of, counts_of, bodies_of}
use Rattle.sp_tree.specs.declared.statements.SpFunction.{SpFunction}
use Rattle.sp_tree.specs.declared.statements.SpUnit.{SpUnit}
use Rattle.sp_tree.specs.Shown.{plain_function, functions_of, plain_unit}
use Rattle.sp_tree.specs.Statements.{PlainFunction, PlainUnit}
use Rattle.single_path.specs.Single.{made_function, made_functions, single}

-- the frame of each function fits in a word
abbrev pub FramesFit : List ℕ → List PlainActions → Type 0
FramesFit counts bodies = (k : ℕ) → k < length bodies
    → (made_function (slice_index counts k) (slice_index_or bodies k no_action)).frame < 2 ^ 32

pub first_fits : (left rest : List Routine) (r : Routine) → left ≡ r ∷ rest
    → FramesFit (counts_of left) (bodies_of left) → (made_function r.parameters (actions_of r.body)).frame < 2 ^ 32
first_fits left rest r is fit = subst (λ rs. FramesFit (counts_of rs) (bodies_of rs)) is fit 0 (omega arith)

pub rest_fit : (left rest : List Routine) (r : Routine) → left ≡ r ∷ rest
    → FramesFit (counts_of left) (bodies_of left) → FramesFit (counts_of rest) (bodies_of rest)
rest_fit left rest r is fit k within =
    subst (λ rs. FramesFit (counts_of rs) (bodies_of rs)) is fit (suc k) (omega (arith, within))

-- one function more
pub function_next : (front : List SpFunction) (f : SpFunction) (left rest : List Routine) (r : Routine)
    (whole : List PlainFunction) → left ≡ r ∷ rest → plain_function f ≡ made_function r.parameters (actions_of r.body)
    → functions_of front ++ made_functions (counts_of left) (bodies_of left) ≡ whole
    → functions_of (front ++ f ∷ []) ++ made_functions (counts_of rest) (bodies_of rest) ≡ whole
function_next front f left rest r whole is is_made so_far =
    let more = made_functions (counts_of rest) (bodies_of rest) in
    ap (λ fs. fs ++ more) (map-append plain_function front (f ∷ []))
    ∙ append_assoc (functions_of front) (plain_function f ∷ []) more ∙ ap (λ g. functions_of front ++ g ∷ more) is_made
    ∙ ap (λ rs. functions_of front ++ made_functions (counts_of rs) (bodies_of rs)) (sym is) ∙ so_far

-- what is so of the tree of a program is so of what was made
pub so_of_tree : {E : Type 0} (made : Result SpUnit E) (items : List PlainItem) (Holds : PlainUnit → Type 0)
    → IfOk made (λ u. plain_unit u ≡ single items) → Holds (single items) → IfOk made (λ u. Holds (plain_unit u))
so_of_tree (Ok u) items Holds is holds = subst Holds (sym is) holds
so_of_tree (Err e) items Holds is holds = tt
