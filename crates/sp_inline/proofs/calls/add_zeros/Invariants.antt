use Rattle.std.proofs.Common.{◌≡◌, ◌≤◌, []}
use Rattle.std.specs.Prelude.{◌-◌}
use Rattle.sp_tree.specs.Shown.{stmts_of}
use Rattle.sp_tree.specs.Statements.{joined}
use Rattle.sp_inline.specs.Taken.{begun_words}
use Rattle.sp_inline.proofs.calls.add_zeros.Given as goal

abbrev pub invariant-loop-slot : goal.invariant-loop-slot
invariant-loop-slot l = record {
  so_far : joined (stmts_of l.out.items) (begun_words l.slot (l.to - l.slot) [])
      ≡ joined (stmts_of l.initial.out.items) (begun_words l.from (l.to - l.from) []);
  within : l.slot ≤ l.to;
}
