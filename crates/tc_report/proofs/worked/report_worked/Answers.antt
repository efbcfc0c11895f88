use Rattle.std.proofs.Common.{refl}
use Rattle.std.specs.Fmt.{digits}
use Rattle.tc_report.proofs.worked.report_worked.Goals as goal

pub returns : goal.returns
unfolding digits
returns c = record {
  done = refl;
  trap = refl;
  bound = refl;
  no_bound = refl;
  unsigned = refl;
  dropped = refl;
  nothing_dropped = refl;
  access = refl;
  meaning = refl;
  cut_off = refl;
  step = refl;
  out = refl;
}
