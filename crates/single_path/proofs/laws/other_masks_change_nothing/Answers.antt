use Rattle.single_path.proofs.TakenLaws.{taken_words_stand, taken_others_stand}
use Rattle.single_path.proofs.laws.other_masks_change_nothing.Goals as goal

pub returns-clause-frame : goal.returns-clause-frame
returns-clause-frame c = taken_words_stand

pub returns-clause-masks_alone : goal.returns-clause-masks_alone
returns-clause-masks_alone c = taken_others_stand
