use Rattle.std.proofs.Common.{◌≡◌, ℕ, ◌+◌, ◌<◌, ◌≤◌, get_or, length, vec_capacity}
use Rattle.std.specs.Mem.Slots.{slots_items}
use Rattle.clock_board.proofs.board.copy_words.Given as goal

abbrev pub invariant-loop-j : goal.invariant-loop-j
invariant-loop-j l =
    (length l.spare.items ≡ l.j)
    × (l.count ≤ vec_capacity l.spare)
    × ((j : ℕ) → j < l.j → get_or l.spare.items j 0 ≡ get_or (slots_items l.closed.words) (l.first + j) 0)
