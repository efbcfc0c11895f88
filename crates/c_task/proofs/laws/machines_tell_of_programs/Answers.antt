use Rattle.c_task.proofs.Telling.{tells}
use Rattle.c_task.proofs.laws.machines_tell_of_programs.Goals as goal

pub returns : goal.returns
returns c = λ items input words cores tasks cycles h. tells items c.args.place.now input words cores tasks cycles h
