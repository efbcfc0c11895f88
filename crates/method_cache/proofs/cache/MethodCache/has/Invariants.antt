use Rattle.std.proofs.Common.{◌≡◌, ◌+◌, ◌-◌}
use Rattle.method_cache.specs.Residents.{is_among}
use Rattle.method_cache.specs.Ring.{ring}
use Rattle.method_cache.proofs.cache.MethodCache.has.Given as goal

-- the function is in the cache where it is at this place or after it
abbrev pub invariant-loop-at : goal.invariant-loop-at
invariant-loop-at l =
    is_among l.function (ring l.self-inside.places (l.self-inside.first + l.at) (l.self-inside.count - l.at))
    ≡ is_among l.function (ring l.self-inside.places l.self-inside.first l.self-inside.count)
