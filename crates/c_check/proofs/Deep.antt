-- Depths of a chain's operands, one after another.
use Rattle.std.proofs.Common.{◌≡◌, ℕ, ◌+◌, ◌<◌, max, List, length, get_or, drop, ap}
use Rattle.tc_word.proofs.Items.{drop_item}
use Rattle.c_tree.specs.declared.expressions.Step.{Step}
use Rattle.c_tree.specs.Depth.{expr_depth, steps_depth}
use Rattle.c_tree.specs.Plain.{plain_expr}
use Rattle.c_tree.specs.Plains.{steps_of}

pub deepest_next : (steps : List Step) (i : ℕ) (s : Step) → i < length steps → s ≡ get_or steps i s
    → steps_depth (steps_of (drop i steps)) ≡ max (1 + expr_depth (plain_expr s.operand)) (steps_depth
    (steps_of (drop (i + 1) steps)))
unfolding steps_depth
deepest_next steps i s h is = ap (λ ss. steps_depth (steps_of ss)) (drop_item steps i s h is)
