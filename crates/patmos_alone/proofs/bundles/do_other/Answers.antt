use Rattle.patmos_alone.proofs.bundles.do_other.Goals as goal

pub returns-in-Flow : goal.returns-in-Flow
returns-in-Flow c = record { went = c.do_flow.ensures.went c.args.limit }
