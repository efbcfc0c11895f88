use Rattle.patmos_alone.proofs.Stretches.{goes_by}
use Rattle.patmos_alone.proofs.bundles.do_load.Goals as goal

pub returns-in-S : goal.returns-in-S
returns-in-S c = record {
  went = (
    goes_by c.args.cycle c.args.body.now c.load_own.new.body c.load_own.ensures.alone c.load_own.ensures.can
        c.load_own.ensures.only,
    c.load_own.ensures.begins,
  );
}
