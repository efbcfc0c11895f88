use Rattle.std.proofs.Common.{◌-◌, None, reverse, length, sym, ◌∙◌, arith}
use Rattle.bundle_sched.specs.Ordered.{place}
use Rattle.bundle_sched.specs.declared.ordering.TheConstants.{WINDOW}
use Rattle.bundle_sched.proofs.Putting.{front_fewer, place_found, place_passed, place_none, place_ended, found_within}
use Rattle.bundle_sched.proofs.ordering.place.Goals as goal

pub returns-in_default-clause-number : goal.returns-in_default-clause-number
returns-in_default-clause-number c = sym (place_none c.loop-gone.others.now c.args.one.now (WINDOW - c.loop-gone.gone)
    c.loop-gone.found c.in_default.ensures.cases) ∙ c.loop-gone.invariant.same

pub returns-then-not-can_pass-clause-number : goal.returns-then-not-can_pass-clause-number
returns-then-not-can_pass-clause-number c =
    place_found c.loop-gone.others.now c.in-Some.before.now c.in-Some.last.now c.args.one.now c.loop-gone.gone
    c.loop-gone.found (omega arith) c.in-Some.ensures.cases.0
    c.earlier_row-found.result (place WINDOW c.args.one.now (reverse c.args.bundles.now) None)
    c.earlier_row-found.ensures c.loop-gone.invariant.same (sym c.can_pass.ensures ∙ c.if-not-can_pass.true)

pub returns-then-not-can_pass-clause-within : goal.returns-then-not-can_pass-clause-within
returns-then-not-can_pass-clause-within c =
    found_within c.loop-gone.others.now c.in-Some.before.now c.in-Some.last.now c.args.one.now c.loop-gone.gone
    c.loop-gone.found (omega arith) c.in-Some.ensures.cases.0
    c.earlier_row-found.result (length c.args.bundles.now) c.earlier_row-found.ensures c.loop-gone.invariant.fewer
    c.loop-gone.invariant.within

pub loop-gone-preserved : goal.loop-gone-preserved
loop-gone-preserved c = record {
  same = place_passed c.loop-gone.others.now c.in-Some.before.now c.in-Some.last.now c.args.one.now c.loop-gone.gone
      c.loop-gone.found (omega arith) c.in-Some.ensures.cases.0
      c.earlier_row-found.result (place WINDOW c.args.one.now (reverse c.args.bundles.now) None)
      c.earlier_row-found.ensures c.loop-gone.invariant.same (sym c.can_pass.ensures ∙ c.if-not-can_pass.false);
  fewer = front_fewer c.loop-gone.others.now c.in-Some.before.now c.in-Some.last.now (length c.args.bundles.now)
      c.in-Some.ensures.cases.0 c.loop-gone.invariant.fewer;
  within = found_within c.loop-gone.others.now c.in-Some.before.now c.in-Some.last.now c.args.one.now c.loop-gone.gone
      c.loop-gone.found (omega arith) c.in-Some.ensures.cases.0
      c.earlier_row-found.result (length c.args.bundles.now) c.earlier_row-found.ensures c.loop-gone.invariant.fewer
      c.loop-gone.invariant.within;
}

pub returns-clause-number : goal.returns-clause-number
returns-clause-number c = sym (place_ended c.loop-gone.others.now c.args.one.now c.loop-gone.gone c.loop-gone.found
    (omega arith)) ∙ c.loop-gone.invariant.same
