use Rattle.patmos_alone.proofs.Stretches.{goes_by}
use Rattle.patmos_alone.proofs.bundles.do_store.Goals as goal

pub returns-in-S : goal.returns-in-S
returns-in-S c = record {
  went = (
    goes_by c.args.cycle c.args.body.now c.store_own.new.body c.store_own.ensures.alone c.store_own.ensures.can
        c.store_own.ensures.only,
    c.store_own.ensures.begins,
  );
}
