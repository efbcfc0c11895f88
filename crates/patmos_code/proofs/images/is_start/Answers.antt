use Rattle.std.proofs.Common.{Ok, Err, refl}
use Rattle.patmos_code.proofs.Walks.{searched_start}
use Rattle.patmos_code.proofs.images.is_start.Goals as goal

pub returns-in-Ok : goal.returns-in-Ok
returns-in-Ok c = (
  λ _. searched_start c.args.starts.now c.args.place (Ok c.in-Ok.field-0) c.in-Ok.ensures.position c.requires,
  λ _. refl,
)

pub returns-in-Err : goal.returns-in-Err
returns-in-Err c = (
  λ e. cc,
  λ h. absurd (searched_start c.args.starts.now c.args.place (Err c.in-Err.field-0)
      c.in-Err.ensures.position c.requires h),
)
