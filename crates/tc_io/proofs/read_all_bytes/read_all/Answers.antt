use Rattle.std.proofs.Common.{◌++◌, take, arith}
use Rattle.std.proofs.lemmas.Grind.{common_steps}
use Rattle.tc_io.proofs.Reading.{gave_more}
use Rattle.tc_io.proofs.read_all_bytes.read_all.Goals as goal

-- what came is what was held and the piece of the last read
pub returns-then-limit-len-clause-came : goal.returns-then-limit-len-clause-came
returns-then-limit-len-clause-came g c = (
  c.pieces.bytes.items ++ take c.in-Ok.count c.read.new.buf,
  gave_more _ _ _ _ _ c.pieces.invariant.gave
      c.in-Ok.ensures.gave,
  grind (arith, common_steps),
)

pub returns-then-is_err-clause-came : goal.returns-then-is_err-clause-came
returns-then-is_err-clause-came g c = (
  c.pieces.bytes.items ++ take c.in-Ok.count c.read.new.buf,
  gave_more _ _ _ _ _ c.pieces.invariant.gave
      c.in-Ok.ensures.gave,
  grind (arith, common_steps),
)
