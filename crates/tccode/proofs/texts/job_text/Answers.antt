use Rattle.std.proofs.Common.{◌∙◌, ◌++◌, sym, ap, subst, arith, IfSome}
use Rattle.std.proofs.lemmas.List.{length-map, drop_all, append-nil}
use Rattle.job_tasks.specs.Coding.{shown, all_shown}
use Rattle.job_tasks.specs.Making.{IsMadeOn}
use Rattle.job_tasks.specs.Tasks.{told_from}
use Rattle.tccode.specs.Codes.{core_text, job_text, TellsOn}
use Rattle.tccode.proofs.Coding.{shown_at, next_text, next_each, at_all}
use Rattle.tccode.proofs.texts.job_text.Goals as goal

pub loop-core-init : goal.loop-core-init
loop-core-init c = (
  ap (λ text. text ++ job_text c.args.job.now (all_shown c.args.coded.now)) c.new-text.ensures.items,
  λ k below. absurd (omega (arith, below)),
)

pub overflow_cast-core : goal.overflow_cast-core
overflow_cast-core c =
    omega (arith, c.loop-core-test.true, c.requires.count, c.keeps_ranges.ensures.platform.cores_most)

pub put_core-requires-clause-made : goal.put_core-requires-clause-made
put_core-requires-clause-made c =
    subst (λ o. IfSome o (IsMadeOn c.args.job.now c.loop-core.core)) (shown_at c.args.coded.now c.loop-core.core
    c.index-coded-core.result c.loop-core-test.true c.index-coded-core.is)
    (c.requires.made c.loop-core.core)

pub loop-core-preserved : goal.loop-core-preserved
loop-core-preserved c = (
  next_text (core_text c.args.job.now) c.loop-core.text.items c.put_core.new.text.items _ c.args.coded.now
      c.loop-core.core c.index-coded-core.result c.loop-core-test.true c.index-coded-core.is
      c.in_ok-put_core.ensures.text c.loop-core.invariant.0,
  next_each (TellsOn c.args.job.now) (all_shown c.args.coded.now) c.loop-core.core (shown c.index-coded-core.result)
      (shown_at c.args.coded.now c.loop-core.core c.index-coded-core.result c.loop-core-test.true c.index-coded-core.is)
      c.in_ok-put_core.ensures.tells c.loop-core.invariant.1,
)

pub returns-clause-text : goal.returns-clause-text
returns-clause-text c =
    sym (append-nil c.loop-core.text.items)
    ∙ ap (λ ds. c.loop-core.text.items ++ told_from (core_text c.args.job.now) c.loop-core.core (all_shown ds)) (sym
    (drop_all c.loop-core.core c.args.coded.now c.loop-core-test.false))
    ∙ c.loop-core.invariant.0

pub returns-clause-tells : goal.returns-clause-tells
returns-clause-tells c = at_all (TellsOn c.args.job.now) (all_shown c.args.coded.now) c.loop-core.core
    (omega (arith, length-map c.args.coded.now shown, c.loop-core-test.false)) c.loop-core.invariant.1
