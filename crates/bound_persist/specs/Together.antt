-- To be believed. Functions that all fit into the method cache together: each misses at most once. No list of them need
-- be free of repetitions, since all is said by weights.
use Rattle.std.specs.Prelude.{ℕ, ◌+◌, ◌≤◌, if◌then◌else◌, List, [], ◌∷◌, sum_by}
use Rattle.std.specs.List.{Contains}
use Rattle.method_cache.specs.declared.cache.Method.{Method}
use Rattle.method_cache.specs.Residents.{is_among, touched}

-- the misses once functions were touched one after another
abbrev pub misses_after : List Method → List Method → List Method
misses_after misses [] = misses
misses_after misses (m ∷ ms) = misses_after (touched misses m) ms

-- each that is touched is one of these
abbrev pub AreOf : List Method → List Method → Type 0
AreOf all [] = Unit {0}
AreOf all (m ∷ ms) = Contains all m × AreOf all ms

-- what those of them weigh that did not miss yet
abbrev pub left : (Method → ℕ) → List Method → List Method → ℕ
left weight [] misses = 0
left weight (m ∷ ms) misses = (if is_among m.function misses then 0 else weight m) + left weight ms misses

-- each of them missed at most once: whatever functions weigh, the misses and those that are left weigh no more than all
abbrev pub MissOnce : List Method → List Method → Type 0
MissOnce all misses = (weight : Method → ℕ) → sum_by weight misses + left weight all misses ≤ sum_by weight all
