-- The plain actions of parts that hold lists, by these lists.
use Rattle.std.proofs.Common.{◌≡◌, ℕ, zero, suc, ◌<◌, List, [], ◌∷◌, ◌++◌, length, get_or, slice_index_or, Option, refl, sym, ap, ap₂, arith}
use Rattle.std.specs.Prelude.{option_map}
use denote.Hole.Carrier.{hidden}
use Rattle.sp_tree.specs.declared.expressions.SpExpr.{SpExpr}
use Rattle.sp_tree.specs.Plain.{plain_sp}
use Rattle.c_meaning.specs.declared.actions.Action.{Action}
use Rattle.c_meaning.specs.declared.actions.Action.TheViews.{Choose, Loop}
use Rattle.c_meaning.specs.declared.actions.Action.TheBlock.{hidden-the_row-Action-0, hidden-the_row-Branch-1}
use Rattle.c_meaning.specs.declared.actions.Assignment.{Assignment}
use Rattle.c_meaning.specs.declared.actions.Branch.{Branch}
use Rattle.c_meaning.specs.declared.actions.Routine.{Routine}
use Rattle.c_meaning.specs.Actions.{PlainActions, no_action, action, PlainBranches, no_branch, branch, chooses, iterations, one, joined}
use Rattle.c_meaning.specs.Resolve.{choice}
use Rattle.c_meaning.specs.Shown.{plain_action, plain_row, plain_branches, plain_assignment, actions_of, branches_of, bodies_of}

row_actions : (body : List Action) → plain_row (hidden-the_row-Action-0 body) ≡ actions_of body
unfolding plain_action plain_row hidden-the_row-Action-0 hidden
row_actions [] = refl
row_actions (a ∷ body) = ap (action (plain_action a)) (row_actions body)

row_branches : (branches : List Branch) → plain_branches (hidden-the_row-Branch-1 branches) ≡ branches_of branches
unfolding plain_action plain_row plain_branches hidden-the_row-Branch-1 hidden
row_branches [] = refl
row_branches (b ∷ branches) =
    ap₂ (λ body rest. branch (plain_sp b.condition) body rest) (row_actions b.body) (row_branches branches)

pub plain_choose : (branches : List Branch) (otherwise : List Action)
    → plain_action (Choose branches otherwise) ≡ chooses (branches_of branches) (actions_of otherwise)
unfolding plain_action
plain_choose branches otherwise = ap₂ chooses (row_branches branches) (row_actions otherwise)

pub plain_loop : (most : ℕ) (condition : SpExpr) (body : List Action) (step : Option Assignment)
    → plain_action (Loop most condition body step) ≡ iterations most (plain_sp condition) (actions_of body)
    (option_map plain_assignment step)
unfolding plain_action
plain_loop most condition body step =
    ap (λ b. iterations most (plain_sp condition) b (option_map plain_assignment step)) (row_actions body)

-- no branches, and what is chosen
pub chosen_none : (branches : List Branch) (otherwise : PlainActions) → length branches ≡ 0
    → choice (branches_of branches) otherwise ≡ otherwise
chosen_none [] otherwise none = refl
chosen_none (b ∷ branches) otherwise none = absurd (omega (arith, none))

-- some branches, and what is chosen
pub chosen_some : (branches : List Branch) (otherwise : List Action) → 0 < length branches
    → one (plain_action (Choose branches otherwise)) ≡ choice (branches_of branches) (actions_of otherwise)
chosen_some [] otherwise some = absurd (omega (arith, some))
chosen_some (b ∷ branches) otherwise some = ap one (plain_choose (b ∷ branches) otherwise)

-- ---- one more

pub actions_push : (xs : List Action) (a : Action) → actions_of (xs ++ a ∷ [])
    ≡ joined (actions_of xs) (one (plain_action a))
actions_push [] a = refl
actions_push (x ∷ xs) a = ap (action (plain_action x)) (actions_push xs a)

pub actions_append : (xs ys : List Action) → actions_of (xs ++ ys) ≡ joined (actions_of xs) (actions_of ys)
actions_append [] ys = refl
actions_append (x ∷ xs) ys = ap (action (plain_action x)) (actions_append xs ys)

pub joined_none : (xs : PlainActions) → joined xs no_action ≡ xs
joined_none no_action = refl
joined_none (action a xs) = ap (action a) (joined_none xs)

pub joined_joined : (xs ys zs : PlainActions) → joined (joined xs ys) zs ≡ joined xs (joined ys zs)
joined_joined no_action ys zs = refl
joined_joined (action a xs) ys zs = ap (action a) (joined_joined xs ys zs)

-- branches before others
abbrev pub more_branches : List Branch → PlainBranches → PlainBranches
more_branches [] rest = rest
more_branches (b ∷ branches) rest = branch (plain_sp b.condition) (actions_of b.body) (more_branches branches rest)

pub branches_push : (bs : List Branch) (b : Branch) (rest : PlainBranches)
    → more_branches (bs ++ b ∷ []) rest ≡ more_branches bs (branch (plain_sp b.condition) (actions_of b.body) rest)
branches_push [] b rest = refl
branches_push (x ∷ bs) b rest = ap (branch (plain_sp x.condition) (actions_of x.body)) (branches_push bs b rest)

pub branches_all : (bs : List Branch) → more_branches bs no_branch ≡ branches_of bs
branches_all [] = refl
branches_all (b ∷ bs) = ap (branch (plain_sp b.condition) (actions_of b.body)) (branches_all bs)

-- the actions of a function, by its number
pub body_at : (routines : List Routine) (k : ℕ) (r : Routine) → k < length routines → r ≡ get_or routines k r
    → slice_index_or (bodies_of routines) k no_action ≡ actions_of r.body
body_at [] k r within is = absurd (omega (arith, within))
body_at (x ∷ routines) zero r within is = ap (λ (y : Routine). actions_of y.body) (sym is)
body_at (x ∷ routines) (suc k) r within is = body_at routines k r (omega (arith, within)) is
