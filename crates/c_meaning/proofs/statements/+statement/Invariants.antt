use Rattle.std.proofs.Common.{◌≡◌, ◌+◌, ◌*◌, length, drop}
use Rattle.c_tree.specs.Plain.{plain_stmt}
use Rattle.c_tree.specs.Sizes.{stmt_size, block_size, arms_size}
use Rattle.c_tree.specs.Plains.{block_of, arms_of}
use Rattle.c_meaning.specs.Actions.{joined}
use Rattle.c_meaning.specs.Fits.{BlockFits, ArmsFit}
use Rattle.c_meaning.specs.Open.{names_of, functions_of, closed}
use Rattle.c_meaning.specs.Resolve.{resolved_block, resolved_arms}
use Rattle.c_meaning.specs.Shown.{actions_of}
use Rattle.c_meaning.proofs.Acted.{more_branches}
use Rattle.c_meaning.proofs.statements.+statement.Given as goal

abbrev pub invariant-statements-loop-s : goal.invariant-statements-loop-s
invariant-statements-loop-s l = record {
  actions : joined (actions_of l.out.items) (resolved_block (functions_of l.scope) (names_of l.scope)
      (block_of (drop l.s-index l.body)))
      ≡ joined (actions_of l.initial.out.items) (resolved_block (functions_of l.initial.scope)
      (names_of l.initial.scope) (block_of l.body));
  fits : BlockFits (names_of l.scope) (block_of (drop l.s-index l.body));
  kept : closed (length (names_of l.initial.scope).variables) (names_of l.scope) ≡ names_of l.initial.scope;
  functions : functions_of l.scope ≡ functions_of l.initial.scope;
}

abbrev pub invariant-branches-loop-arm : goal.invariant-branches-loop-arm
invariant-branches-loop-arm l = record {
  branches : more_branches l.branches.items (resolved_arms (functions_of l.scope) (names_of l.scope)
      (arms_of (drop l.arm-index l.arms)))
      ≡ resolved_arms (functions_of l.initial.scope) (names_of l.initial.scope) (arms_of l.arms);
  fits : ArmsFit (names_of l.scope) (arms_of (drop l.arm-index l.arms));
  names : names_of l.scope ≡ names_of l.initial.scope;
  functions : functions_of l.scope ≡ functions_of l.initial.scope;
}

-- ---- what goes through statements goes from larger to smaller ones

abbrev pub decreases-stmt : goal.decreases-stmt
decreases-stmt l = 2 * stmt_size (plain_stmt l.s.now) + 1

abbrev pub decreases-statements : goal.decreases-statements
decreases-statements l = 2 * block_size (block_of l.body.now) + 2

abbrev pub decreases-block : goal.decreases-block
decreases-block l = 2 * block_size (block_of l.body.now) + 3

abbrev pub decreases-repeat : goal.decreases-repeat
decreases-repeat l = 2 * block_size (block_of l.body.now) + 4

abbrev pub decreases-branches : goal.decreases-branches
decreases-branches l = 2 * arms_size (arms_of l.arms.now)
