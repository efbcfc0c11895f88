-- The greatest look, and what looks tell of the clocks.
use Rattle.std.proofs.Common.{◌≡◌, ℕ, ◌<◌, ◌≤◌, ◌==◌, max, cond, List, [], ◌∷◌, ◌++◌, arith, inl, inr, ap}
use Rattle.std.specs.List.{AllByRecursion as Each}
use Rattle.std.proofs.lemmas.Bool.{cases_eq}
use Rattle.std.proofs.Common.{eq-eqb, ne_eqb}
use Rattle.clock_board.specs.declared.known.Look.{Look}
use Rattle.clock_board.specs.Record.{greatest}
use Rattle.clock_board.specs.Rule.{clock}

-- the greatest look once there is one look more
pub greatest-push : (d : ℕ) (ls : List Look) (core seen : ℕ) → greatest d (ls ++ record { core = core; seen = seen }
    ∷ []) ≡ max (greatest d ls) (cond (core == d) seen 0)
greatest-push d [] core seen = let x : ℕ = cond (core == d) seen 0 in let e : max x 0 ≡ max 0 x = omega arith in e
greatest-push d (l ∷ ls) core seen =
    let x : ℕ = cond (core == d) seen 0 in
    let y : ℕ = cond (l.core == d) l.seen 0 in
    let h : greatest d (ls ++ record { core = core; seen = seen } ∷ []) ≡ max (greatest d ls) x =
    greatest-push d ls core seen in
    let e : max y (greatest d (ls ++ record { core = core; seen = seen } ∷ [])) ≡ max (max y (greatest d ls)) x =
    omega (arith, h) in
    e

-- no look showed more than the clock has now
pub greatest_le : (n : ℕ) (words : List ℕ) (d : ℕ) (ls : List Look) → Each (λ (l : Look). (l.core < n)
    × (l.seen ≤ clock words l.core)) ls → greatest d ls ≤ clock words d
greatest_le n words d [] h = omega arith
greatest_le n words d (l ∷ ls) h =
    let below : cond (l.core == d) l.seen 0 ≤ clock words d = elim (cases_eq l.core d) [
      | inl same ↦ rw (eq-eqb l.core d same) (let e : clock words l.core ≡ clock words d = ap (clock words) same in
          omega (arith, h.0.1, e))
      | inr other ↦ rw (ne_eqb l.core d other) (omega arith)
    ] in
    omega (arith, below, greatest_le n words d ls h.1)
