use Rattle.global_step.proofs.MachineRanges.{cores_keep, board_keeps, operations_keep}
use Rattle.global_step.proofs.range.machine_keeps_ranges.Goals as goal

pub returns-clause-cores : goal.returns-clause-cores
returns-clause-cores c = cores_keep

pub returns-clause-words : goal.returns-clause-words
returns-clause-words c = board_keeps

pub returns-clause-operations : goal.returns-clause-operations
returns-clause-operations c = operations_keep
