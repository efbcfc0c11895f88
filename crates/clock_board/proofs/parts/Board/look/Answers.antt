use Rattle.std.proofs.Common.{rules, ap}
use Rattle.clock_board.specs.Board.{PassFace}
use Rattle.clock_board.proofs.Asked.{may_look}
use Rattle.clock_board.proofs.Calls.{seated_look, seen_there, seen_others}
use Rattle.clock_board.proofs.parts.Board.look.Goals as goal

pub load-shown-requires : goal.load-shown-requires
load-shown-requires g c = (
  search rules,
  search rules,
  may_look (g.C.Course.cores c.self.inside.table.shared.key) (g.C.Course.all c.self.inside.table.shared.key)
      (g.C.Course.asked c.self.inside.table.shared.key)
      _ _ c.pass.inside.seat.me c.args.pass.now.view c.args.d (ap (λ (p : PassFace). p.view) c.pass.view_is)
      c.requires.given (search rules),
)

pub invariant_of-pass : goal.invariant_of-pass
invariant_of-pass g c = seated_look c.pass.inside.seat.me _ c.args.pass.now.view _ _
    (ap (λ (p : PassFace). p.view) c.pass.view_is) c.requires.given c.pass.invariant
    c.args.d c.load-shown.result _ c.load-shown.ensures.2 c.pass.told c.max.ensures

pub returns-clause-seen : goal.returns-clause-seen
returns-clause-seen g c = seen_there c.pass.inside.seat.me _ c.args.pass.now.view c.args.d c.load-shown.result
    (ap (λ (p : PassFace). p.view) c.pass.view_is) c.load-shown.ensures.2

pub returns-clause-others : goal.returns-clause-others
returns-clause-others g c = seen_others c.pass.inside.seat.me _ c.args.pass.now.view c.args.d c.load-shown.result
    (ap (λ (p : PassFace). p.view) c.pass.view_is) c.load-shown.ensures.2
