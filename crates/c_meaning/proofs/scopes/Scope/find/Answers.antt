use Rattle.std.proofs.Common.{sym, subst, ◌∙◌}
use Rattle.c_names.specs.Open.{open_names}
use Rattle.c_meaning.specs.Fits.{StandsFits}
use Rattle.c_meaning.proofs.Opened.{found_stands}
use Rattle.c_meaning.proofs.Slots.{found_fits}
use Rattle.c_meaning.proofs.scopes.Scope.find.Goals as goal

-- a variable
pub returns-in-Some-clause-shown : goal.returns-in-Some-clause-shown
returns-in-Some-clause-shown c =
    let scope = c.args.self.now in
    found_stands c.args.name.now scope.globals.slots.now (open_names scope.variables) _ c.in-Some.ensures.found

-- what is declared outside functions
pub returns-in-Some-find-clause-shown : goal.returns-in-Some-find-clause-shown
returns-in-Some-find-clause-shown c =
    let scope = c.args.self.now in
    c.in-Some-find.ensures ∙ found_stands c.args.name.now scope.globals.slots.now (open_names scope.variables) _
    c.in-None.ensures.found

pub returns-in-None-find-clause-shown : goal.returns-in-None-find-clause-shown
returns-in-None-find-clause-shown c =
    let scope = c.args.self.now in
    c.in-None-find.ensures ∙ found_stands c.args.name.now scope.globals.slots.now (open_names scope.variables) _
    c.in-None.ensures.found

pub returns-in-Some-find-clause-fits : goal.returns-in-Some-find-clause-fits
returns-in-Some-find-clause-fits c =
    subst StandsFits (sym c.in-Some-find.ensures)
    (found_fits c.args.name.now c.args.self.now.globals.slots.now c.args.self.now.globals.fit)
