use Rattle.std.proofs.Common.{rules, ap}
use Rattle.clock_board.specs.Board.{PassFace}
use Rattle.clock_board.proofs.Seats.{may_split}
use Rattle.clock_board.proofs.parts.Board.give.Goals as goal

pub split_seat-seat-requires : goal.split_seat-seat-requires
split_seat-seat-requires g c = (
  search rules,
  search rules,
  may_split (g.C.Course.cores c.self.inside.table.shared.key) (g.C.Course.all c.self.inside.table.shared.key)
      (g.C.Course.asked c.self.inside.table.shared.key)
      _ c.maker.inside.seat.me.0 c.args.maker.now.view (ap (λ (p : PassFace). p.view) c.maker.view_is) c.requires.maker,
)
