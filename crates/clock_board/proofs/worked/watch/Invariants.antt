use Rattle.std.proofs.Common.{◌≡◌}
use Rattle.clock_board.specs.View.{own, todo, IsGiven}
use Rattle.clock_board.specs.Board.{IsPassOf}
use Rattle.clock_board.proofs.worked.watch.Given as goal

abbrev pub invariant-loop : goal.invariant-loop
invariant-loop g l =
    IsPassOf l.board l.pass
    × IsGiven l.pass.view
    × ((own l.pass.view).core ≡ (own l.initial.pass.view).core)
    × (todo l.pass.view ≡ todo l.initial.pass.view)
    × ((own l.pass.view).published ≡ (own l.initial.pass.view).published)
