use Rattle.std.proofs.Common.{rules, ◌<◌, ap, arith}
use Rattle.shared_order.specs.Operation.{store}
use Rattle.clock_board.specs.Board.{BoardFace, PassFace}
use Rattle.clock_board.proofs.Asked.{may_store}
use Rattle.clock_board.proofs.Calls.{made_store, next_fits}
use Rattle.clock_board.proofs.parts.Board.store.Goals as goal

pub store-requires : goal.store-requires
store-requires g c =
    let within : c.args.word < c.self.inside.words = next_fits c.self.inside.words _ c.args.pass.now.view
    (store c.args.stamp c.args.word c.args.value) c.self.invariant.fits (search rules) c.requires.given
    c.requires.next in (
      search rules,
      omega (arith, within, ap (λ (b : BoardFace). b.cores) c.self.view_is),
      may_store (g.C.Course.cores c.self.inside.table.shared.key) (g.C.Course.all c.self.inside.table.shared.key)
          (g.C.Course.asked c.self.inside.table.shared.key)
          _ _ c.pass.inside.seat.me c.args.pass.now.view c.args.word c.args.stamp c.args.value _ c.requires.next.0
          (ap (λ (p : PassFace). p.view) c.pass.view_is) c.requires.given c.requires.seen (search rules)
          c.requires.next.1,
    )

pub returns : goal.returns
returns g c =
    let m = made_store c.pass.inside.seat.me c.store.new.seat.me c.args.pass.now.view _ c.args.stamp c.args.word
    (ap (λ (p : PassFace). p.view) c.pass.view_is) c.requires.given c.store.ensures.2 c.requires.next in
    record { of = search rules; given = m.kept; made = m.made; left = m.left }
