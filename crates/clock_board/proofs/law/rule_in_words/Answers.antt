use Rattle.clock_board.proofs.InWords.{in_words}
use Rattle.clock_board.proofs.law.rule_in_words.Goals as goal

pub returns : goal.returns
returns g c = λ course s kept. in_words (g.C.Course.cores course) (g.C.Course.all course) (g.C.Course.asked course)
    s.words s.views kept
