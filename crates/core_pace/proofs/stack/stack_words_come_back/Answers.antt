use Rattle.core_pace.proofs.StackWords.{read_back, kept_below, kept_past, back_is}
use Rattle.core_pace.proofs.stack.stack_words_come_back.Goals as goal

pub returns-clause-read : goal.returns-clause-read
returns-clause-read c = read_back

pub returns-clause-below : goal.returns-clause-below
returns-clause-below c = kept_below

pub returns-clause-past : goal.returns-clause-past
returns-clause-past c = kept_past

pub returns-clause-back : goal.returns-clause-back
returns-clause-back c = back_is
