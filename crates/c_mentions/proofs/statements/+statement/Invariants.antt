use Rattle.std.proofs.Common.{take, drop}
use Rattle.c_tree.specs.Plains.{block_of, arms_of}
use Rattle.c_meaning.specs.Values.{Names}
use Rattle.c_mentions.specs.Hidden.{Hides}
use Rattle.c_mentions.specs.Uses.{block_uses, arms_uses}
use Rattle.c_mentions.proofs.Walks.{Left, names_through}
use Rattle.c_mentions.proofs.statements.+statement.Given as goal

abbrev pub invariant-note_block-loop-s : goal.invariant-note_block-loop-s
invariant-note_block-loop-s l = record {
  hides : (names : Names) → Hides l.fn.hidden names → Hides l.behind (names_through names (take l.s-index l.body));
  left : Left l.fn.hidden l.m l.initial.m (λ names. block_uses (names_through names (take l.s-index l.body))
      (block_of (drop l.s-index l.body)))
      (λ names. block_uses names (block_of l.body));
}

abbrev pub invariant-note_arms-loop-arm : goal.invariant-note_arms-loop-arm
invariant-note_arms-loop-arm l =
    Left l.hidden l.m l.initial.m (λ names. arms_uses names (arms_of (drop l.arm-index l.arms)))
    (λ names. arms_uses names (arms_of l.arms))
