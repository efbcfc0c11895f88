use Rattle.std.proofs.Common.{rules}
use Rattle.clock_board.proofs.Seats.{starts_board}
use Rattle.clock_board.proofs.parts.Board.new.Goals as goal

pub of_words-requires : goal.of_words-requires
of_words-requires g c = starts_board _ _ _ c.args.cores c.args.words _ c.requires.cores c.requires.course (search rules)
