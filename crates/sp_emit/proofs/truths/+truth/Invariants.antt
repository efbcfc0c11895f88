use Rattle.std.proofs.Common.{◌+◌}
use Rattle.sp_tree.specs.Plain.{plain_sp}
use Rattle.sp_emit.proofs.TreeSizes.{size}
use Rattle.sp_emit.proofs.truths.+truth.Given as goal

abbrev pub decreases-truth : goal.decreases-truth
decreases-truth l = size (plain_sp l.e.now)

abbrev pub decreases-first_truth : goal.decreases-first_truth
decreases-first_truth l = size (plain_sp l.a.now) + size (plain_sp l.b.now)

abbrev pub decreases-second_truth : goal.decreases-second_truth
decreases-second_truth l = size (plain_sp l.a.now) + size (plain_sp l.b.now)
