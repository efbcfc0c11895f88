use Rattle.std.proofs.Common.{Some, ap, ◌∙◌}
use Rattle.c_names.proofs.Entries.{none_found, some_found}
use Rattle.c_names.proofs.names.Names.find.Goals as goal

pub returns-in-None-clause-found : goal.returns-in-None-clause-found
returns-in-None-clause-found g c = none_found c.args.name.now c.args.self.now.entries.items c.in-None.ensures.number

pub returns-in-Some-clause-found : goal.returns-in-Some-clause-found
returns-in-Some-clause-found g c =
    ap (λ e. Some (c.in-Some.number, e.means)) c.index.ensures
    ∙ some_found c.args.name.now c.args.self.now.entries.items c.in-Some.number c.index.result.now
    c.in-Some.ensures.number
