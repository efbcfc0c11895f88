use Rattle.c_tree.specs.Plain.{plain}
use Rattle.c_mentions.proofs.Fields.{noted_tells}
use Rattle.c_mentions.proofs.programs.mentions_of.Goals as goal

pub returns-clause-comm : goal.returns-clause-comm
returns-clause-comm c =
    (noted_tells c.noted-flags.result c.bits_of.result (plain c.args.unit.now) c.noted-flags.ensures
    c.bits_of.ensures.same c.bits_of.ensures.small).comm

pub returns-clause-shared : goal.returns-clause-shared
returns-clause-shared c =
    (noted_tells c.noted-flags.result c.bits_of.result (plain c.args.unit.now) c.noted-flags.ensures
    c.bits_of.ensures.same c.bits_of.ensures.small).shared

pub returns-clause-assigns_shared : goal.returns-clause-assigns_shared
returns-clause-assigns_shared c =
    (noted_tells c.noted-flags.result c.bits_of.result (plain c.args.unit.now) c.noted-flags.ensures
    c.bits_of.ensures.same c.bits_of.ensures.small).assigns_shared

pub returns-clause-sends : goal.returns-clause-sends
returns-clause-sends c =
    (noted_tells c.noted-flags.result c.bits_of.result (plain c.args.unit.now) c.noted-flags.ensures
    c.bits_of.ensures.same c.bits_of.ensures.small).sends
