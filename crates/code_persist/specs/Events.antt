-- For proofs. Events that go to functions of a list alone, and what events cost without the method cache.
use Rattle.std.specs.Prelude.{ℕ, ◌+◌, List, [], ◌∷◌, Option}
use Rattle.std.specs.List.{Contains}
use Rattle.method_cache.specs.declared.cache.Method.{Method}
use Rattle.patmos_code.specs.Images.{Parts}
use Rattle.patmos_model.specs.declared.flow.Goal.{Goal}
use Rattle.core_pace.specs.Pace.{Event, came}
use Rattle.code_core.specs.Goes.{goal_events}
use Rattle.code_times.specs.Costs.{cost}

-- each function that is gone to is one of these
abbrev pub AreAmong : List Method → List Event → Type 0
AreAmong all [] = Unit {0}
AreAmong all (came method ∷ es) = Contains all method × AreAmong all es
AreAmong all (e ∷ es) = AreAmong all es

-- goals that go to them alone
abbrev pub AreFor : List Method → Parts → List (Option Goal) → Type 0
AreFor all image [] = Unit {0}
AreFor all image (d ∷ ds) = AreAmong all (goal_events image d) × AreFor all image ds

-- what an event costs, where going to a function costs nothing
abbrev pub bare : ℕ → Event → ℕ
bare each (came method) = 0
bare each e = cost each e

abbrev pub bares : ℕ → List Event → ℕ
bares each [] = 0
bares each (e ∷ es) = bare each e + bares each es
