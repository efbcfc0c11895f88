use Rattle.std.proofs.Common.{◌+◌, ap, ◌∙◌, refl, to_z-of_z}
use Rattle.patmos_sem.specs.Bundles.{effect_of}
use Rattle.patmos_step.specs.Shown.{plain_of}
use Rattle.patmos_alone.specs.AtOnce.{branch_alone, branched}
use Rattle.patmos_alone.proofs.ByItself.{done_alone}
use Rattle.patmos_alone.proofs.AtOnce.{branched_is}
use Rattle.patmos_alone.proofs.quick.do_branch.Goals as goal

pub returns-clause-alone : goal.returns-clause-alone
returns-clause-alone c = λ h.
    done_alone c.args.cycle c.args.body.now _ (record {
      offset = c.args.offset;
      words = c.args.words;
      effect = effect_of
          (branch_alone c.args.guard c.args.by) c.args.body.now.regs;
    }) h
    c.requires.next.next
    ((λ i. record (plain_of c.args.body.now) {
      regs = c.settle.ensures i;
      offset = c.args.offset + c.args.words;
      flow = (c.branched-body.ensures ∙ ap (branched c.holds-taken.result c.args.offset) (to_z-of_z c.ranges.by)
          ∙ ap (λ taken. branched taken c.args.offset c.args.by) c.holds-taken.ensures) i;
      free = c.args.cycle + 1;
    }) ∙ branched_is c.args.cycle c.args.words c.args.offset c.args.guard c.args.by (plain_of c.args.body.now)
    c.requires.next.next.here.bundle c.requires.next.alone c.requires.next.is)
    refl
