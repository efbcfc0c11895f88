use Rattle.c_parse.proofs.Whole.{fitting, left_few}
use Rattle.c_parse.proofs.parser.parse.Goals as goal

pub returns-in-Ok-clause-fits : goal.returns-in-Ok-clause-fits
returns-in-Ok-clause-fits c = fitting _ _ c.in-Ok.ensures.written c.in-Ok.ensures.fits c.in-Ok.ensures.read

pub overflow_sub-at : goal.overflow_sub-at
overflow_sub-at c = left_few _ _ _ c.in-Err-Syntax.field-0-is c.in-Err-Syntax.ensures.refuses
