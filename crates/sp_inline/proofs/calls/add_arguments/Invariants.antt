use Rattle.std.proofs.Common.{◌≡◌, ◌+◌, drop, map, length}
use Rattle.std.specs.Prelude.{◌-◌}
use Rattle.sp_tree.specs.Plain.{plain_sp}
use Rattle.sp_tree.specs.Shown.{stmts_of}
use Rattle.sp_tree.specs.Statements.{joined}
use Rattle.sp_inline.specs.Taken.{begun_words}
use Rattle.sp_inline.proofs.calls.add_arguments.Given as goal

abbrev pub invariant-loop-k : goal.invariant-loop-k
invariant-loop-k l =
    joined (stmts_of l.out.items) (begun_words (l.place + l.k) (length l.args - l.k) (map plain_sp (drop l.k l.args)))
    ≡ joined (stmts_of l.initial.out.items) (begun_words l.place (length l.args) (map plain_sp l.args))
