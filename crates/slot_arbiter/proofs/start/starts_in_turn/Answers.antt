use Rattle.slot_arbiter.proofs.InTurn.{start_in_turn, turn_starts}
use Rattle.slot_arbiter.proofs.start.starts_in_turn.Goals as goal

pub returns : goal.returns
returns c = record {
  in_turn = λ n core slot cycle among wide.
      (start_in_turn n slot core cycle among wide, turn_starts n slot core cycle among wide);
}
