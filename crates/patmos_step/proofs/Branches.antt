-- Targets of branches.
use Rattle.std.proofs.Common.{◌≡◌, ℕ, ℤ, pos, negsuc, ◌+◌, ◌-◌, ◌%◌, ◌^◌, suc, refl, arith, ap}
use Rattle.std.specs.Int.{w32, cast_unsigned}
use Rattle.patmos_model.specs.Flows.{branch_target}

pub target_is : (offset : ℕ) (by : ℤ) → (offset + cast_unsigned w32 by) % 2 ^ 32 ≡ branch_target offset by
target_is offset (pos n) = refl
target_is offset (negsuc n) = ap (λ k. (offset + (2 ^ 32 - k)) % 2 ^ 32) (let e : suc n ≡ n + 1 = omega arith in e)
