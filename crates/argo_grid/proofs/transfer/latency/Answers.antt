use Rattle.std.proofs.Common.{◌+◌, ◌*◌, arith}
use Rattle.std.proofs.lemmas.Grind.{common_steps}
use Rattle.argo_grid.proofs.Transfers.{delivered_by}
use Rattle.argo_grid.proofs.transfer.latency.Goals as goal

pub returns-clause-delivered : goal.returns-clause-delivered
returns-clause-delivered c = λ x d t i cycles one target begins within.
    delivered_by c.args.cores c.args.count (3 * c.from-round.result * c.div_ceil-packets.result + 9) x d t i cycles
    c.requires.several c.requires.most (grind (arith, common_steps)) one target begins within
