use Rattle.std.proofs.Common.{refl}
use Rattle.std.specs.Fmt.{digits}
use Rattle.tcrest.proofs.laws.worked_meanings.Goals as goal

pub returns : goal.returns
unfolding digits
returns c = record {
  sum = refl;
  cut_off = refl;
  input = refl;
}
