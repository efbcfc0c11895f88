-- To be believed. The looks that a worker makes at the clocks of the others, for one event.
use Rattle.std.specs.Prelude.{◌≡◌, ℕ, ◌<◌, ◌≤◌, ◌==◌, List, [], ◌∷◌, ◌++◌, count_by}
use Rattle.std.specs.List.{AllByRecursion as Each}
use Rattle.clock_board.specs.declared.known.Look.{Look}
use Rattle.clock_board.specs.Record.{greatest}

-- what was seen there
abbrev pub look : ℕ → ℕ → Look
look core seen = record { core = core; seen = seen }

-- the looks after some were made, for a stamp: at most one at each core, and none where an earlier look
-- gave at least that stamp
pub record HasLooked (wanted : ℕ) (before after new : List Look) : Type 0 where
  pub whole : after ≡ before ++ new
  pub once : (d : ℕ) → count_by (λ l. l.core == d) new ≤ 1
  pub needed : Each (λ l. greatest l.core before < wanted) new

-- none of them showed less than the stamp
pub record SawAll (wanted : ℕ) (before after : List Look) : Type 0 where
  pub new : List Look
  pub looked : HasLooked wanted before after new
  pub high : Each (λ l. wanted ≤ l.seen) new

-- the last of them, and no other, showed less: this core's clock, and this stamp
pub record SawOne (wanted core seen : ℕ) (before after : List Look) : Type 0 where
  pub prefix : List Look
  pub looked : HasLooked wanted before after (prefix ++ look core seen ∷ [])
  pub high : Each (λ l. wanted ≤ l.seen) prefix
  pub low : seen < wanted
