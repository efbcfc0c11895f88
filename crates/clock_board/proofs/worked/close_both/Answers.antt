use Rattle.clock_board.proofs.TwoEnds.{two_ends}
use Rattle.clock_board.proofs.worked.close_both.Goals as goal

pub returns : goal.returns
returns c =
    two_ends c.args.board c.args.zero c.args.one c.args.maker.view c.take_back.new.maker.view
    c.take_back-2.new.maker.view c.close.result c.requires.board c.requires.zero c.requires.one c.requires.maker
    c.take_back.ensures.back c.take_back-2.ensures.back
    c.close.ensures.whole
