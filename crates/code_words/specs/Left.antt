-- To be believed. What a core that follows its code leaves in its memories.
use Rattle.std.specs.Prelude.{◌≡◌, ℕ, List, Bool, true}
use Rattle.std.specs.List.{AllByRecursion as Each}
use Rattle.slot_arbiter.specs.declared.place.Place.{Place}
use Rattle.shared_order.specs.Words.{after}
use Rattle.patmos_model.specs.Apart.{site_of}
use Rattle.patmos_model.specs.Begin.{begun}
use Rattle.patmos_model.specs.Range.{IsWord}
use Rattle.core_pace.specs.Moment.{core_in}
use Rattle.sp_shape.specs.Memory.{Memory}
use Rattle.sp_shape.specs.Parts.{PlainShape}
use Rattle.sp_shape.specs.Run.{Run, at_begin, by_words, run_late}
use Rattle.sp_shape.specs.Trail.{trail}
use Rattle.tc_link.specs.Backs.{backs_of}
use Rattle.tc_link.specs.Placed.{linked}
use Rattle.code_core.specs.Followed.{last_of}
use Rattle.code_core.specs.Goes.{by_stack}
use Rattle.code_core.specs.Held.{HoldsPorts}
use Rattle.code_words.specs.Own.{AreOwn, AllApart, HoldsOwn}
use Rattle.code_words.specs.Board.{HoldsBoard}

-- the addresses that pass a test
abbrev pub Among : (ℕ → Bool) → ℕ → Type 0
Among test address = test address ≡ true

-- whatever words loads give, the code loads by the data cache only at these addresses, which are of private words
-- below the stack, and stores to none of them past the cache
pub record KeepsCacheFresh (s : PlainShape) (cached : ℕ → Bool) (memory : Memory) : Type 0 where
  pub own : AreOwn (Among cached)
  pub apart : (loads : List ℕ) → Each IsWord loads
      → AllApart (Among cached) by_stack (trail s) (at_begin memory loads (backs_of s))

-- the core begins with a run's memory: the words that it alone reaches, its
-- interface, and those that others reach in a world
pub record BeginsWith (place : Place) (s : PlainShape) (cached : ℕ → Bool) (memory : Memory) (world : ℕ
    → ℕ) (input : List ℕ) : Type 0 where
  pub ports : HoldsPorts memory (begun (site_of place (linked s)) input).plain.interface
  pub own : HoldsOwn (Among cached) memory (begun (site_of place (linked s)) input)
  pub board : HoldsBoard place.core memory world

-- what comes of the code where each load gives what was stored last in its word, read
-- late; the values are those of its calls
abbrev pub left_by : PlainShape → Memory → List ℕ → Run
left_by s memory loads = run_late by_words (trail s) (at_begin memory loads (backs_of s))

-- after the last bundle the core has the registers and the words of that run, and of the words that others
-- reach those that its own stores left of the world
pub record IsLeft (place : Place) (s : PlainShape) (cached : ℕ → Bool) (memory : Memory) (world : ℕ
    → ℕ) (input values : List ℕ) : Type 0 where
  pub loads : List ℕ
  pub regs : (core_in (last_of place s input values)).plain.regs ≡ (left_by s memory loads).regs
  pub own : HoldsOwn (Among cached) (left_by s memory loads).memory (core_in (last_of place s input values))
  pub board : HoldsBoard place.core (left_by s memory loads).memory
      (after (last_of place s input values).told.own world)
