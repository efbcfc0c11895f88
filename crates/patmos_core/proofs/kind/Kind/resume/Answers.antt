use Rattle.std.proofs.Common.{Some, subst}
use Rattle.patmos_core.specs.Waiting.{WaitsAt}
use Rattle.patmos_core.proofs.kind.Kind.resume.Goals as goal

pub resume-requires : goal.resume-requires
resume-requires c = record {
  asked = (
    c.requires.asked.0,
    subst (λ kind. WaitsAt kind (Some c.requires.asked.0))
        c.in-Tasked.is c.requires.asked.1,
  );
}
