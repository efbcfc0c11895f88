use Rattle.std.proofs.Common.{subst, arith}
use Rattle.argo_ni.specs.Packet.{comm_word}
use Rattle.argo_ni.specs.Event.{IsInjection}
use Rattle.patmos_core.specs.Events.{SendsIn}
use Rattle.patmos_core.proofs.tasked.Tasked.ask_window.Goals as goal

pub returns-in-Some-clause-below : goal.returns-in-Some-clause-below
returns-in-Some-clause-below c = λ low.
    let sent : IsInjection c.args.self.now.body.ni.interface c.args.self.now.cycle c.in-Some.sent.target
    c.in-Some.sent.first c.in-Some.sent.count =
    subst (SendsIn c.args.self.now.body.ni.interface c.args.self.now.cycle) c.in-Some.is c.requires.sends in
    c.ask_packet.ensures.below (comm_word c.args.self.now.body.place.cores 0) low
    (omega (arith, c.comm_word-word.ensures, c.args.self.now.body.place.in_range.among, sent.piece.within))
