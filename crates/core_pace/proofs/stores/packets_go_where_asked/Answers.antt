use Rattle.std.proofs.Common.{subst}
use Rattle.shared_order.specs.Apart.{Alone}
use Rattle.patmos_model.specs.State.{Core}
use Rattle.patmos_model.specs.Begin.{begun}
use Rattle.patmos_model.specs.Apart.{site_of}
use Rattle.patmos_model.proofs.Parts.{followed-run}
use Rattle.core_pace.specs.Stores.{SendsAsAsked}
use Rattle.core_pace.proofs.SentTo.{new_asked}
use Rattle.core_pace.proofs.SentOnly.{sends_as_asked}
use Rattle.core_pace.proofs.stores.packets_go_where_asked.Goals as goal

pub returns : goal.returns
returns c = λ place image input values cycles.
    let x : Core = begun (site_of place image) input in
    subst (λ (a : Alone Core). SendsAsAsked a.core.plain.interface a.core.seen.sendings)
    (followed-run place.cores place.core x values cycles)
    (sends_as_asked place.cores place.core x values cycles (new_asked place.cores place.core))
