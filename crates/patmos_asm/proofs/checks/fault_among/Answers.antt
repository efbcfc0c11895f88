use Rattle.std.proofs.Common.{◌≡◌, ◌∙◌, ◌<◌, ◌≤◌, ◌+◌, ap, arith, length, None, rules}
use Rattle.patmos_asm.specs.Assembly.{fault_of, labels_after, after}
use Rattle.patmos_asm.specs.Names.{place_in}
use Rattle.patmos_asm.specs.Before.{shown_before}
use Rattle.patmos_syntax.specs.Shown.{shown_item, shown_items}
use Rattle.patmos_asm.proofs.Steps.{fault_step, grown}
use Rattle.patmos_asm.proofs.checks.fault_among.Goals as goal

pub loop-i-preserved : goal.loop-i-preserved
loop-i-preserved c =
    let item = c.index-items-i.result in
    let none : fault_of (place_in c.args.functions.now) (place_in c.loop-i.labels) (shown_before c.loop-i.before)
    (shown_item item) ≡ None = search rules in
    let next : shown_before c.add.new.self ≡ after (shown_before c.loop-i.before) (shown_item item) = search rules in
    let size : (c.add.new.self.size ≤ c.loop-i.before.size + 2) × (c.add.new.self.image ≤ c.loop-i.before.image + 2) =
    grown (shown_before c.loop-i.before) (shown_before c.add.new.self) (shown_item item) next in
    let within : c.loop-i.i < length c.args.items.now = search rules in (
      fault_step (place_in c.args.functions.now) (place_in c.loop-i.labels) (place_in c.in_ok-labels-2.labels)
          (shown_before c.loop-i.before) (shown_before c.add.new.self)
          c.args.items.now item c.loop-i.i within c.index-items-i.is none
          (λ q. c.in_ok-labels-2.ensures q ∙ ap (λ rest. labels_after (place_in c.loop-i.labels) (shown_item item)
          (shown_items rest) q) c.split_at.ensures.back)
          next ∙ c.loop-i.invariant.0,
      omega arith,
      omega arith,
    )
