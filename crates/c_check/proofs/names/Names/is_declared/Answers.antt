use Rattle.c_check.specs.Open.{names_of}
use Rattle.c_check.proofs.Declarations.{past_found}
use Rattle.c_check.proofs.names.Names.is_declared.Goals as goal

pub returns-in-None : goal.returns-in-None
returns-in-None c = past_found c.args.name.now c.args.outer (names_of c.args.self.now) _ c.in-None.ensures.found

pub returns-in-Some : goal.returns-in-Some
returns-in-Some c = past_found c.args.name.now c.args.outer (names_of c.args.self.now) _ c.in-Some.ensures.found
