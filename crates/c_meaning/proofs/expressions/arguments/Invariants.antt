use Rattle.std.proofs.Common.{◌≡◌, ◌++◌, length, drop, map}
use Rattle.c_tree.specs.Plain.{plain_expr}
use Rattle.sp_tree.specs.Plain.{plain_sp}
use Rattle.c_meaning.specs.Open.{names_of}
use Rattle.c_meaning.specs.Resolve.{resolved_args}
use Rattle.c_meaning.proofs.expressions.arguments.Given as goal

abbrev pub invariant-loop-e : goal.invariant-loop-e
invariant-loop-e l = record {
  values : map plain_sp l.values.items ++ resolved_args (names_of l.scope) l.fresh (map plain_expr
      (drop l.e-index l.args))
      ≡ resolved_args (names_of l.scope) l.fresh (map plain_expr l.args);
  count : length l.values.items ≡ l.e-index;
}
