-- To be believed. What a tree comes to, beside what a C text means.
use Rattle.std.specs.Prelude.{◌≡◌}
use Rattle.sp_tree.specs.Straight as straight
use Rattle.c_meaning.specs.Meaning.{Outcome}

-- the same value, and the same world after it: the words of every memory, the flag
-- of a loop past its bound, and the sends
pub record IsMeant (s : straight.Outcome) (g : Outcome) : Type 0 where
  pub value : s.value ≡ g.value
  pub world : s.world ≡ g.world
