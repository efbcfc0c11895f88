-- The period of a slot table.
use Rattle.std.proofs.Common.{ℕ, ◌≤◌, List, length, arith}
use Rattle.std.specs.Prelude.{IsTrue}
use Rattle.std.proofs.lemmas.Bool.Decides.{nat_tests}
use Rattle.slot_arbiter.specs.Table.{is_table}

-- a slot table has at most 64 entries
pub few_entries : (cores : ℕ) (table : List ℕ) → IsTrue (is_table cores table) → length table ≤ 64
few_entries cores table is = grind (arith, nat_tests)
