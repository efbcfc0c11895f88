use Rattle.std.proofs.Common.{◌+◌, drop, map, arith}
use Rattle.c_tree.specs.Plain.{plain_expr}
use Rattle.c_mentions.specs.Uses.{args_uses}
use Rattle.c_mentions.proofs.Uses.{args_next}
use Rattle.c_mentions.proofs.Walks.{left_more}
use Rattle.c_mentions.proofs.expressions.note_arguments.Goals as goal

pub loop-e-preserved : goal.loop-e-preserved
loop-e-preserved c =
    left_more c.args.hidden c.loop-e.m c.note_expression.new.m c.args.m.now _
    (λ names. args_uses names (map plain_expr (drop (c.loop-e.e-index + 1) c.args.args.now)))
    (λ names. args_uses names (map plain_expr (drop c.loop-e.e-index c.args.args.now)))
    (λ names. args_uses names (map plain_expr c.args.args.now))
    (λ names. args_next names c.args.args.now c.loop-e.e-index c.e-item.result (omega arith) c.e-item.is)
    c.note_expression.ensures c.loop-e.invariant
