use Rattle.std.specs.List.{Contains}
use Rattle.std.proofs.lemmas.List.Elements.{All-contains_itself}
use Rattle.sp_tree.specs.Uses.{uses_of}
use Rattle.sp_emit.proofs.Apart.{cached_apart}
use Rattle.sp_emit.proofs.TaskAsks.{task_asks}
use Rattle.sp_emit.proofs.laws.tasks_ask_for_what_they_name.Goals as goal

pub returns-clause-asks : goal.returns-clause-asks
returns-clause-asks c u formed = task_asks (Contains (uses_of u)) u formed (All-contains_itself (uses_of u))

pub returns-clause-apart : goal.returns-clause-apart
returns-clause-apart c uses width rd wide value address apart load store =
    cached_apart uses width rd wide value address apart load store
