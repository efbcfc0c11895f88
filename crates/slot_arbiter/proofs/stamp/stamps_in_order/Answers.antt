use Rattle.std.proofs.Common.{◌*◌, ◌+◌, ◌≤◌, arith}
use Rattle.std.proofs.lemmas.Nat.{same_from_place, mul-le}
use Rattle.slot_arbiter.proofs.stamp.stamps_in_order.Goals as goal

-- a later cycle is two half-cycles on, which is more than the phase and the core amount to
pub returns-clause-by_cycle : goal.returns-clause-by_cycle
returns-clause-by_cycle c = λ n a b q r p s act later.
    let on : (2 * q + p + 1) * n ≤ (2 * r + s) * n =
    mul-le (2 * q + p + 1) n (2 * r + s) n (omega (arith, act.in_phase)) (omega arith) in
    omega (arith, act.among)

-- equal stamps have one half-cycle and one core, and a half-cycle has one cycle and one phase
pub returns-clause-apart : goal.returns-clause-apart
returns-clause-apart c = λ n a b q r p s act act' e.
    let same = same_from_place (2 * q + p) a (2 * r + s) b n act.among act'.among e in
    (same.1, omega (arith, same.0, act.in_phase, act'.in_phase), omega (arith, same.0, act.in_phase, act'.in_phase))
