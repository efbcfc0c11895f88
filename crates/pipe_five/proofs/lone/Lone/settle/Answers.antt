use Rattle.pipe_five.proofs.Carried.{landed_as}
use Rattle.pipe_five.proofs.lone.Lone.settle.Goals as goal

pub returns-clause-lands : goal.returns-clause-lands
returns-clause-lands c = λ x runs.
    let at = landed_as x c.args.self.now c.settle.new.self runs (c.settle.ensures.at runs.seen runs.shows) in
    record { seen = at.0; shows = at.1; core = at.2; words = runs.words; placed = at.3 }
