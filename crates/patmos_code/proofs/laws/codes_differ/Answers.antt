use Rattle.patmos_code.proofs.Bundles.{code_apart}
use Rattle.patmos_code.proofs.laws.codes_differ.Goals as goal

pub returns : goal.returns
returns c = code_apart
