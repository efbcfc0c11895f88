use Rattle.std.proofs.Common.{drop, map}
use Rattle.c_tree.specs.Plain.{plain_expr}
use Rattle.c_mentions.specs.Uses.{args_uses}
use Rattle.c_mentions.proofs.Walks.{Left}
use Rattle.c_mentions.proofs.expressions.note_arguments.Given as goal

abbrev pub invariant-loop-e : goal.invariant-loop-e
invariant-loop-e l =
    Left l.hidden l.m l.initial.m (λ names. args_uses names (map plain_expr (drop l.e-index l.args)))
    (λ names. args_uses names (map plain_expr l.args))
