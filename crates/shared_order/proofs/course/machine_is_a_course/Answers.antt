use Rattle.shared_order.proofs.Courses.{is_course}
use Rattle.shared_order.proofs.course.machine_is_a_course.Goals as goal

pub returns : goal.returns
returns g c = record { course = λ turn n words. is_course turn n words g.X.Ranged.in_range }
