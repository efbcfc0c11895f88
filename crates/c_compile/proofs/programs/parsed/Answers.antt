use Rattle.std.proofs.Common.{sym, subst}
use Rattle.c_tree.specs.Plain.{plain}
use Rattle.c_compile.specs.Answered.{Gives}
use Rattle.c_compile.proofs.Read.{program_read}
use Rattle.c_compile.proofs.programs.parsed.Goals as goal

pub returns-clause-reported : goal.returns-clause-reported
returns-clause-reported c =
    subst (λ defined. Gives (λ (p : _). plain p.unit) c.checked.result defined)
    (sym (program_read c.args.tokens.now c.in_ok-program.program c.args.place.now.cores c.args.place.now.core
    c.in_ok-program.ensures.tree c.in_ok-program.ensures.fits c.in_ok-program.ensures.read))
    c.checked.ensures.reported
