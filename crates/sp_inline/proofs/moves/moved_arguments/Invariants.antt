use Rattle.std.proofs.Common.{◌≡◌, ◌++◌, drop, map}
use Rattle.sp_tree.specs.Plain.{plain_sp}
use Rattle.sp_inline.specs.Moved.{args_moved}
use Rattle.sp_inline.proofs.moves.moved_arguments.Given as goal

abbrev pub invariant-loop-e : goal.invariant-loop-e
invariant-loop-e l =
    map plain_sp l.values.items ++ args_moved l.place (map plain_sp (drop l.e-index l.args))
    ≡ args_moved l.place (map plain_sp l.args)
