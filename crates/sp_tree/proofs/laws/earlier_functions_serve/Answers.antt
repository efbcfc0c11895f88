use Rattle.sp_tree.proofs.Forms.{earlier_one}
use Rattle.sp_tree.proofs.laws.earlier_functions_serve.Goals as goal

pub returns-clause-formed : goal.returns-clause-formed
returns-clause-formed c = earlier_one
