use Rattle.global_step.proofs.MachineRanges.{machine_course}
use Rattle.global_step.proofs.course.machine_is_a_course.Goals as goal

pub returns : goal.returns
returns c = machine_course
