use Rattle.std.proofs.Common.{sym, subst}
use Rattle.c_compile.proofs.Example.{nine_fits}
use Rattle.task_core.specs.Tasks.{code_of}
use Rattle.tc_link.specs.Fits.{FitsImage}
use Rattle.tests_code.proofs.compiling.words_are_the_assemblers.Goals as goal

pub code_of-requires-clause-fits : goal.code_of-requires-clause-fits
code_of-requires-clause-fits g c = subst (λ u. FitsImage (code_of u)) (sym c.in_ok-unit.ensures) nine_fits
