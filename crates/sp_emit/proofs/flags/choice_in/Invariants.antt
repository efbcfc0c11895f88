use Rattle.std.proofs.Common.{◌≡◌}
use Rattle.sp_tree.specs.Shown.{plain_function}
use Rattle.sp_emit.specs.Flags.{first_choice}
use Rattle.sp_emit.proofs.flags.choice_in.Given as goal

abbrev pub invariant-loop-slot : goal.invariant-loop-slot
invariant-loop-slot l = l.choice ≡ first_choice (plain_function l.f) l.slot
