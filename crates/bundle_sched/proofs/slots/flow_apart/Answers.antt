use Rattle.std.proofs.Common.{sym, ◌∙◌}
use Rattle.bundle_sched.proofs.LastBundle.{flow_left}
use Rattle.bundle_sched.proofs.slots.flow_apart.Goals as goal

pub returns-then-can_leave-clause-some : goal.returns-then-can_leave-clause-some
returns-then-can_leave-clause-some c =
    flow_left c.args.tail.now c.in-Some-split_last.others.now c.flow-item.result c.in-Some-split_last.last.now
    c.single.result c.single-then-can_leave.result c.in-Some.beside c.flow-item.is
    (sym c.in-Some.ensures.value) c.in-Some-split_last.ensures.cases.0 (sym c.can_leave.ensures ∙ c.if-can_leave.true)
    (λ k. record { first = (c.single.ensures.first ∙ c.first.ensures.value) k; second = c.single.ensures.second k })
    (λ k. record { first = c.single-then-can_leave.ensures.first k; second = c.single-then-can_leave.ensures.second k })
