-- To be believed. What it is to be the next of the numbers that pass a test.
use Rattle.std.specs.Prelude.{ℕ, ◌+◌, ◌<◌, ◌≤◌, Bool, IsTrue}

-- u is the least number at or after t that passes the test
pub record IsNext (test : ℕ → Bool) (t u : ℕ) : Type 0 where
  pub passes : IsTrue (test u)
  pub from : t ≤ u
  pub least : (v : ℕ) → t ≤ v → IsTrue (test v) → u ≤ v

-- the gap is the greatest distance from a number that passes the test to the next one that does
pub record IsGap (test : ℕ → Bool) (gap : ℕ) : Type 0 where
  pub reached : (u : ℕ) × (IsTrue (test u) × IsNext test (u + 1) (u + gap))
  pub greatest : (u v : ℕ) → IsTrue (test u) → IsNext test (u + 1) v → v ≤ u + gap

-- from wherever on, the next number that passes the test is less than this far away
pub record OutlastsWaits (test : ℕ → Bool) (distance : ℕ) : Type 0 where
  pub wait : (t u : ℕ) → IsNext test t u → u < t + distance
