use Rattle.std.proofs.Common.{rules}
use Rattle.clock_board.proofs.Seats.{may_claim}
use Rattle.clock_board.proofs.parts.Board.claim.Goals as goal

pub swap-found-requires : goal.swap-found-requires
swap-found-requires g c = (
  search rules,
  search rules,
  may_claim (g.C.Course.cores c.self.inside.table.shared.key) (g.C.Course.all c.self.inside.table.shared.key)
      (g.C.Course.asked c.self.inside.table.shared.key)
      _ _ c.args.seat.now.me c.args.seat.now.me.0 c.args.core _ (search rules) c.requires.claiming (search rules)
      (search rules),
)
