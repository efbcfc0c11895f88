use Rattle.std.proofs.Common.{refl, ap, arith}
use Rattle.shared_order.specs.Program.{fed}
use Rattle.patmos_core.proofs.Resumed.{unsent, packet_left, packet_first_of}
use Rattle.patmos_core.proofs.resume.inject.Goals as goal

pub returns-in_default-clause-sent : goal.returns-in_default-clause-sent
returns-in_default-clause-sent c = λ s. ap (λ p. (fed s p c.args.values.now).core)
    (unsent c.args.ni.now c.next_act-next.result c.args.cycle c.next_act-next.ensures c.requires.up_to.after
    (c.in_default.ensures.none refl))

pub returns-in_default-clause-left : goal.returns-in_default-clause-left
returns-in_default-clause-left c = λ s. ap (λ p. (fed s p c.args.values.now).left)
    (unsent c.args.ni.now c.next_act-next.result c.args.cycle c.next_act-next.ensures c.requires.up_to.after
    (c.in_default.ensures.none refl))

pub returns-clause-sent : goal.returns-clause-sent
returns-clause-sent c = λ s. packet_first_of c.args.ni.now.interface c.inject.new.self.interface s c.args.cycle _ _ _
    c.args.values.now (omega (arith, c.fits-values))
    c.in-Some.ensures.packet (c.inject.ensures.heard c.args.cycle s c.in-Some.ensures.due)

pub returns-clause-left : goal.returns-clause-left
returns-clause-left c =
    λ s. packet_left c.args.ni.now.interface s c.args.cycle _ _ _ c.args.values.now c.in-Some.ensures.packet
