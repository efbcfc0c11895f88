use Rattle.std.proofs.Common.{rules, ap}
use Rattle.clock_board.specs.Board.{PassFace}
use Rattle.clock_board.proofs.Seats.{may_join}
use Rattle.clock_board.proofs.parts.Board.take_back.Goals as goal

pub join_seat-requires : goal.join_seat-requires
join_seat-requires g c = (
  search rules,
  search rules,
  search rules,
  search rules,
  may_join (g.C.Course.cores c.self.inside.table.shared.key) (g.C.Course.all c.self.inside.table.shared.key)
      (g.C.Course.asked c.self.inside.table.shared.key)
      _ c.maker.inside.seat.me.0 c.args.maker.now.view _ c.pass.inside.seat.me.0
      (ap (λ (p : PassFace). p.view) c.maker.view_is) c.requires.maker,
)
