-- Which cell stands at an address.
use Rattle.std.proofs.Common.{◌≡◌, ℕ, ◌+◌, ◌-◌, ◌*◌, ◌/◌, ◌<◌, Some, ap, arith}
use Rattle.std.proofs.lemmas.Bool.{le-leb, lt-ltb}
use Rattle.local_store.specs.Map.{cell_at}
use Rattle.local_store.specs.declared.map.Cell.TheVariants as cell
use Rattle.local_store.specs.declared.map.Space.TheVariants.{Main}

-- a word of private memory stands at four times its number
pub private_at : (word at : ℕ) → at ≡ 4 * word → word < 65536 → cell_at Main at ≡ Some (cell.Private word)
private_at word at is few =
    rw (le-leb 0 at (omega arith), lt-ltb at (0 + 4 * 65536) (omega (arith, is, few)))
    (ap (λ n. Some (cell.Private n)) (let e : (at - 0) / 4 ≡ word = omega (arith, is) in e))
