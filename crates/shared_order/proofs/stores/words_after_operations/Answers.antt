use Rattle.shared_order.proofs.Words.{after_is_stored, stored_last-store, stored_last-others}
use Rattle.shared_order.proofs.stores.words_after_operations.Goals as goal

pub returns-clause-after : goal.returns-clause-after
returns-clause-after c = after_is_stored

pub returns-clause-last : goal.returns-clause-last
returns-clause-last c = stored_last-store

pub returns-clause-none : goal.returns-clause-none
returns-clause-none c = stored_last-others
