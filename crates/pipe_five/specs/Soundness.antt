-- For proofs. What the fields of the only core of a platform keep, apart from what they mean.
use Rattle.std.specs.Prelude.{◌≡◌, ℕ, ◌*◌, ◌≤◌, false}
use Rattle.slot_arbiter.specs.declared.place.TheConstants.{MOST_CYCLES}
use Rattle.argo_ni.specs.Interface.{Standing}
use Rattle.argo_ni.specs.Turn.{acts}
use Rattle.patmos_step.specs.declared.body.Body.{Body}
use Rattle.patmos_step.specs.Ready.{CanGoOn}

-- nothing is ever delivered or injected
abbrev pub NeverActs : Standing → Type 0
NeverActs s = (half : ℕ) → acts s.interface half ≡ false

-- The core can go on from a cycle. No other core is there, so its interface does nothing.
pub record CanStep (b : Body) (cycle : ℕ) : Type 0 where
  pub early : cycle ≤ MOST_CYCLES
  pub can : CanGoOn b
  pub alone : b.place.cores ≡ 1
  pub from : b.ni.from ≤ 2 * cycle
  pub never : NeverActs b.ni
