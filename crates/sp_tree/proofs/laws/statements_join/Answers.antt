use Rattle.sp_tree.proofs.Joins.{joined_done, joined_formed, joined_cost, joined_levels, joined_uses, joined_shown}
use Rattle.sp_tree.proofs.laws.statements_join.Goals as goal

pub returns-clause-done : goal.returns-clause-done
returns-clause-done c = joined_done

pub returns-clause-formed : goal.returns-clause-formed
returns-clause-formed c = joined_formed

pub returns-clause-cost : goal.returns-clause-cost
returns-clause-cost c = joined_cost

pub returns-clause-levels : goal.returns-clause-levels
returns-clause-levels c = joined_levels

pub returns-clause-uses : goal.returns-clause-uses
returns-clause-uses c = joined_uses

pub returns-clause-shown : goal.returns-clause-shown
returns-clause-shown c = joined_shown
