use Rattle.stack_cache.proofs.Return.{back_is}
use Rattle.stack_cache.proofs.stack.words_come_back.Goals as goal

pub returns : goal.returns
returns c = λ n s private h whole few room. back_is n s private h whole few room
