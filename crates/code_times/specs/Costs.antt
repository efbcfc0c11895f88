-- For proofs. How many cycles events take at most, where a transaction takes so many.
use Rattle.std.specs.Prelude.{ℕ, ◌+◌, ◌*◌, ◌≤◌, List, [], ◌∷◌, Option}
use Rattle.stack_cache.specs.declared.slots.TheConstants.{STACK_CACHE_WORDS}
use Rattle.patmos_code.specs.Images.{Parts}
use Rattle.patmos_model.specs.declared.flow.Goal.{Goal}
use Rattle.core_pace.specs.Pace.{Event, quick, load, cached, store, stack, came}
use Rattle.sp_shape.specs.Trail.{Step, does, begins}
use Rattle.cycle_bound.specs.Bound.{transactions, stack_moves, bundle_bound}
use Rattle.code_core.specs.Goes.{goal_events}

abbrev pub cost : ℕ → Event → ℕ
cost each quick = 1
cost each load = 1 + each
cost each (cached address) = 1 + each
cost each store = 1 + each
cost each (stack func count) = 1 + each * stack_moves func count
cost each (came method) = each * transactions (1 + method.words)

abbrev pub costs : ℕ → List Event → ℕ
costs each [] = 0
costs each (e ∷ es) = cost each e + costs each es

-- a stack instruction moves no more words than the stack cache has
abbrev pub AreFew : List Event → Type 0
AreFew [] = Unit {0}
AreFew (stack func count ∷ es) = (count ≤ STACK_CACHE_WORDS) × AreFew es
AreFew (e ∷ es) = AreFew es

-- of a trail, with what is due after its bundles
abbrev pub trail_cost : Parts → ℕ → List Step → List (Option Goal) → ℕ
trail_cost image each [] ds = 0
trail_cost image each (does b ∷ steps) [] = 0
trail_cost image each (does b ∷ steps) (d ∷ ds) =
    bundle_bound each b + costs each (goal_events image d) + trail_cost image each steps ds
trail_cost image each (begins ∷ steps) ds = trail_cost image each steps ds
