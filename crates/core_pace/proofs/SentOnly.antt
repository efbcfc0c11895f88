-- A core's packets go only where its task asked for a transfer, at any time.
use Rattle.std.proofs.Common.{◌≡◌, ℕ, ◌+◌, List, subst, arith}
use Rattle.patmos_model.specs.State.{Core}
use Rattle.patmos_model.specs.Apart.{followed}
use Rattle.core_pace.specs.Stores.{SendsAsAsked}
use Rattle.core_pace.proofs.SentKept.{IsKept, kept_on}
use Rattle.core_pace.proofs.SentTo.{source_asked, target_asked, started_asked, delivery_asked, injection_asked}

asked_is_kept : IsKept SendsAsAsked
asked_is_kept = record {
  source = source_asked;
  target = target_asked;
  start = started_asked;
  delivery = delivery_asked;
  injection = injection_asked;
}

pub sends_as_asked : (n core : ℕ) (x : Core) (values : List ℕ) (t : ℕ) → SendsAsAsked x.plain.interface x.seen.sendings
    → SendsAsAsked (followed n core x values t).run.core.plain.interface (followed n core x values
    t).run.core.seen.sendings
sends_as_asked n core x values t h =
    let from_0 : 0 + t ≡ t = omega arith in
    subst (λ u. SendsAsAsked (followed n core x values u).run.core.plain.interface
    (followed n core x values u).run.core.seen.sendings) from_0 (kept_on SendsAsAsked asked_is_kept n core
    x values 0 t h)
