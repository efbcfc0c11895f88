-- Values past those that were read do not matter.
use Rattle.std.proofs.Common.{◌≡◌, ℕ, ◌*◌, ◌<◌, List, ◌++◌, sym, subst, ◌∙◌}
use Rattle.shared_order.specs.Operation.{loads}
use Rattle.shared_order.specs.Apart.{Alone, apart}
use Rattle.shared_order.specs.Stamps.{act_at, run_apart}
use Rattle.shared_order.proofs.ByStamps.{apart_by_stamps}
use Rattle.shared_order.proofs.Runs.{alone_stands}
use Rattle.patmos_model.specs.State.{Core}
use Rattle.patmos_model.specs.Cycle.{turn}

pub heard_alone : (n core : ℕ) (x : Core) (values : List ℕ) (t : ℕ) → core < n → (more : List ℕ)
    → apart turn n core x (loads (apart turn n core x values t).made ++ more) t
    ≡ record { core = (apart turn n core x values t).core; left = more; made = (apart turn n core x values t).made }
heard_alone n core x values t among more =
    let run : Alone Core = run_apart (act_at turn n) n core x values (2 * t * n) in
    let same : apart turn n core x values t ≡ run = apart_by_stamps turn n core x values t among in
    subst (λ (z : Alone Core). apart turn n core x (loads z.made ++ more) t ≡ record {
      core = z.core;
      left = more;
      made = z.made;
    }) (sym same)
    (apart_by_stamps turn n core x (loads run.made ++ more) t among ∙ alone_stands (act_at turn n) n core x values
    (2 * t * n) more)
