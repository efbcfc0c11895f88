use Rattle.tc_link.proofs.Followed.{shape_followed}
use Rattle.tc_link.proofs.laws.code_follows_the_trail.Goals as goal

pub returns : goal.returns
returns c = shape_followed
