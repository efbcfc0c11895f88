use Rattle.std.proofs.Common.{◌≡◌, [], ◌∷◌, ◌++◌, length}
use Rattle.method_cache.specs.Residents.{resident}
use Rattle.method_cache.proofs.cache.MethodCache.put_in.Given as goal

-- what is evicted would not stay beside the function
abbrev pub invariant-loop-self : goal.invariant-loop-self
invariant-loop-self l = resident (l.self ++ l.method ∷ []) ≡ resident (l.initial.self ++ l.method ∷ [])

abbrev pub decreases-loop-self : goal.decreases-loop-self
decreases-loop-self l = length l.self
