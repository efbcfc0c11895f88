-- Actions that keep to rules for their expressions, what they set, their calls and their sends, and in which `break`
-- and `continue` stand in loops.
use Rattle.std.proofs.Common.{◌≡◌, ℕ, Bool, true, List, length, Option, None, Some, refl}
use Rattle.std.specs.Prelude.{⊤}
use Rattle.std.specs.List.{AllByRecursion as Each}
use Rattle.sp_tree.specs.Plain.{PlainSp, constant}
use Rattle.c_meaning.specs.Actions.{PlainTarget, PlainAssignment, PlainAction, sets, calls, transfers, chooses, iterations, breaks, continues, returns, PlainActions, no_action, action, PlainBranches, no_branch, branch, joined}
use Rattle.c_meaning.specs.Resolve.{assignment_to, maybe_sets, numbered_call, choice}

pub record Rules : Type 1 where
  pub Expr : PlainSp → Type 0
  pub Target : PlainTarget → Type 0
  -- of a function by its number, with so many arguments
  pub Call : ℕ → ℕ → Type 0
  -- to a core
  pub Send : ℕ → Type 0

-- what a call sets, if anything
abbrev pub Gives : (PlainTarget → Type 0) → Option PlainTarget → Type 0
Gives Target None = ⊤
Gives Target (Some target) = Target target

-- what is set, if anything
abbrev pub Steps : (PlainTarget → Type 0) → (PlainSp → Type 0) → Option PlainAssignment → Type 0
Steps Target Expr None = ⊤
Steps Target Expr (Some a) = Target a.target × Expr a.value

module _ (r : Rules) where
  -- in a loop, or outside of one
  abbrev mutual
    pub Does : Bool → PlainAction → Type 0
    Does inside (sets a) = r.Target a.target × r.Expr a.value
    Does inside (calls k args result) = r.Call k (length args) × Each r.Expr args × Gives r.Target result
    Does inside (transfers core source target count) =
        r.Send core × r.Expr source × r.Expr target × r.Expr count
    Does inside (chooses branches otherwise) = AnyDo inside branches × Do inside otherwise
    Does inside (iterations most condition body step) = r.Expr condition × Do true body × Steps r.Target r.Expr step
    Does inside breaks = inside ≡ true
    Does inside continues = inside ≡ true
    Does inside (returns e) = r.Expr e

    pub Do : Bool → PlainActions → Type 0
    Do inside no_action = ⊤
    Do inside (action a rest) = Does inside a × Do inside rest

    pub AnyDo : Bool → PlainBranches → Type 0
    AnyDo inside no_branch = ⊤
    AnyDo inside (branch condition body rest) = r.Expr condition × Do inside body × AnyDo inside rest

  pub joined_do : (inside : Bool) (xs ys : PlainActions) → Do inside xs → Do inside ys → Do inside (joined xs ys)
  joined_do inside no_action ys first second = second
  joined_do inside (action a xs) ys first second = (first.0, joined_do inside xs ys first.1 second)

  pub choice_does : (inside : Bool) (branches : PlainBranches) (otherwise : PlainActions) → AnyDo inside branches
      → Do inside otherwise → Do inside (choice branches otherwise)
  choice_does inside no_branch otherwise some last = last
  choice_does inside (branch condition body rest) otherwise some last = ((some, last), tt)

  pub assignment_does : (target : Option PlainTarget) (e : PlainSp) → Gives r.Target target → r.Expr e
      → Steps r.Target r.Expr (assignment_to target e)
  assignment_does None e to of = tt
  assignment_does (Some target) e to of = (to, of)

  pub sets_do : (inside : Bool) (a : Option PlainAssignment) → Steps r.Target r.Expr a → Do inside (maybe_sets a)
  sets_do inside None steps = tt
  sets_do inside (Some a) steps = (steps, tt)

  pub call_does : (inside : Bool) (k : Option ℕ) (args : List PlainSp) (target : Option PlainTarget)
      → r.Expr (constant 0) → ((number : ℕ) → k ≡ Some number → r.Call number (length args)) → Each r.Expr args
      → Gives r.Target target → Do inside (numbered_call k args target)
  call_does inside None args target zero may each to =
      sets_do inside (assignment_to target (constant 0)) (assignment_does target (constant 0) to zero)
  call_does inside (Some k) args target zero may each to = ((may k refl, each, to), tt)
