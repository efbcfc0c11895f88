use Rattle.sp_emit.proofs.flags.+most.Given as goal

abbrev pub decreases-most_flags : goal.decreases-most_flags
decreases-most_flags l = l.count
