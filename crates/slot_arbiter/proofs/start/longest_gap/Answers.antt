use Rattle.std.proofs.Common.{◌+◌, arith}
use Rattle.std.proofs.lemmas.Nat.{mul-le}
use Rattle.slot_arbiter.proofs.Cycles.{gap_in_cycles, wait_in_cycles}
use Rattle.slot_arbiter.proofs.start.longest_gap.Goals as goal

pub returns-clause-gap : goal.returns-clause-gap
returns-clause-gap c =
    gap_in_cycles c.args.entries.now c.args.slot c.args.core (1 + c.longest_wait.result) c.requires.slot_some
    c.longest_wait.ensures.gap

pub returns-clause-wait : goal.returns-clause-wait
returns-clause-wait c =
    wait_in_cycles c.args.entries.now c.args.slot c.args.core (1 + c.longest_wait.result) c.requires.slot_some
    c.longest_wait.ensures.wait

pub returns-clause-bounded : goal.returns-clause-bounded
returns-clause-bounded c = mul-le (1 + c.longest_wait.result) c.args.slot 64 64 (omega arith) c.requires.slot_most
