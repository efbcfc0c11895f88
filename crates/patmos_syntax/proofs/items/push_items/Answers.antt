use Rattle.std.proofs.Common.{◌≡◌, ap, Some, None, false, rules}
use Rattle.patmos_forms.specs.Readers.{at_end}
use Rattle.patmos_syntax.specs.Items.{label_at, label}
use Rattle.patmos_syntax.proofs.Pushed.{label_pushed, last_pushed}
use Rattle.patmos_syntax.proofs.items.push_items.Goals as goal

pub labels-preserved : goal.labels-preserved
labels-preserved c =
    let e : label_at c.labels.rest.now ≡ Some (c.in-Some.name.now, c.in-Some.behind.now) = search rules in
    label_pushed _ _ _ _ c.args.line c.labels.rest.now c.in-Some.name.now c.in-Some.behind.now
    c.in_ok-push.ensures.items
    (ap (label c.args.line) c.in_ok-name.ensures.items) e c.labels.invariant

pub returns-in_ok-push-2 : goal.returns-in_ok-push-2
returns-in_ok-push-2 c =
    let e : label_at c.labels.rest.now ≡ None = search rules in
    let left : at_end c.labels.rest.now ≡ false = search rules in
    last_pushed _ _ _ _ c.args.line c.labels.rest.now c.in_ok-push-2.ensures.items c.in_ok-statement_of.ensures e left
    c.labels.invariant
