use Rattle.std.proofs.Common.{sym, ap, ◌∙◌}
use Rattle.patmos_model.specs.Bundle.{ends}
use Rattle.patmos_step.specs.Shown.{plain_of}
use Rattle.patmos_alone.proofs.ByItself.{flow_alone}
use Rattle.patmos_step.proofs.Rests.{can_at_rest}
use Rattle.patmos_alone.proofs.Stretches.{only_both, goes_by}
use Rattle.patmos_alone.proofs.Waits.{flow_begins}
use Rattle.patmos_alone.proofs.bundles.do_flow.Goals as goal

pub returns : goal.returns
returns c = record {
  went = λ limit. (
    goes_by c.args.cycle c.args.body.now c.end.new.self
        (λ h. flow_alone c.args.cycle c.args.body.now (plain_of c.end.new.self) c.args.next.now c.in-Flow.kind h
        c.requires.begins c.requires.next c.in-Flow.is
        (sym c.has_no_slot_left.ensures ∙ c.if-not-has_no_slot_left.false)
        (c.end.ensures.plain ∙ ap (ends c.args.cycle) (c.go_through.ensures.plain c.requires.next.bundle
        c.requires.next.fetched))
        (ap (λ s. s.interface) (c.end.ensures.only.keeps.ni ∙ c.go_through.ensures.only.keeps.ni)))
        (can_at_rest c.end.new.self c.end.ensures.rest)
        (only_both c.args.body.now c.go_through.new.body c.end.new.self c.go_through.ensures.only c.end.ensures.only),
    flow_begins c.args.cycle c.args.next.now.words c.args.next.now.offset c.args.next.now.effect c.requires.next.bundle
        (plain_of c.args.body.now) (plain_of c.go_through.new.body) (plain_of c.end.new.self) c.requires.begins
        (c.go_through.ensures.plain c.requires.next.bundle c.requires.next.fetched) c.end.ensures.plain,
  );
}
