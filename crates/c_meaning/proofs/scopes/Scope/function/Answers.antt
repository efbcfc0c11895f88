use Rattle.c_names.specs.Open.{open_names}
use Rattle.c_meaning.proofs.Opened.{number_found}
use Rattle.c_meaning.proofs.scopes.Scope.function.Goals as goal

pub returns-in-None-clause-number : goal.returns-in-None-clause-number
returns-in-None-clause-number c =
    number_found c.args.name.now (open_names c.args.self.now.functions) _ c.in-None.ensures.found

pub returns-in-Some-clause-number : goal.returns-in-Some-clause-number
returns-in-Some-clause-number c =
    number_found c.args.name.now (open_names c.args.self.now.functions) _ c.in-Some.ensures.found
