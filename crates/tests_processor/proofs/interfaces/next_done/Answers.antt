use Rattle.std.proofs.Common.{ℕ, ◌+◌, ◌*◌, ◌<◌, ◌≤◌, arith}
use Rattle.std.proofs.lemmas.Nat.{mul-le}
use Rattle.tests_processor.proofs.interfaces.next_done.Goals as goal

-- the stamp of a half-cycle that is not the first
late_stamp : (n core from half : ℕ) → 0 < n → 0 < from → from ≤ half → 0 < half * n + core
late_stamp n core from half some begun after =
    let least : 1 * 1 ≤ half * n = mul-le 1 1 half n (omega arith) (omega arith) in omega arith

pub next_after-requires : goal.next_after-requires
next_after-requires c = record {
  clear = λ half after here.
      late_stamp c.args.ni.now.interface.cores c.args.ni.now.interface.core c.args.ni.now.from half c.requires.cores
      c.requires.begun after;
}
