use Rattle.std.proofs.Common.{rules, ap}
use Rattle.clock_board.specs.Board.{PassFace}
use Rattle.clock_board.proofs.Asked.{may_publish}
use Rattle.clock_board.proofs.parts.Board.publish.Goals as goal

pub store-requires : goal.store-requires
store-requires g c = (
  search rules,
  search rules,
  may_publish (g.C.Course.cores c.self.inside.table.shared.key) (g.C.Course.all c.self.inside.table.shared.key)
      (g.C.Course.asked c.self.inside.table.shared.key)
      _ _ c.pass.inside.seat.me c.args.pass.now.view c.pass.inside.core c.args.stamp
      (ap (λ (p : PassFace). p.view) c.pass.view_is) c.requires.given (search rules) c.requires.late
      c.requires.made,
)
