-- The code of statements changes no word of the stack after the next counter of iterations, and none of the registers
-- that stand for such words.
use Rattle.std.proofs.Common.{ℕ, ◌+◌, ◌≤◌, List, slice_index_or, refl, arith}
use Rattle.std.proofs.lemmas.Bool.{le-leb, lt-ltb}
use Rattle.sp_tree.specs.Statements.{PlainStmts, PlainFunction}
use Rattle.sp_emit.specs.Places.{stack_word}
use Rattle.sp_emit.specs.Statements.{stmts_code}
use Rattle.sp_emit.specs.declared.registers.TheConstants.{OVERRUN}
use Rattle.sp_emit.specs.declared.stands.Homes.{Homes}
use Rattle.sp_emit.proofs.Passing.{outside_low, outside_past, low, may_pass, Low}
use Rattle.sp_emit.proofs.Walks.{Within, Flows, in_walk, in_flows, stmts_flow, stmts_are}
use Rattle.sp_emit.proofs.Windows.{IsHomed, ArePlaced}
use Rattle.sp_emit.proofs.WordPlaces.{stack_before}

-- the registers and words up to the next counter
abbrev pub end_at : Homes → ℕ → ℕ
end_at homes counter = homes.first + (counter + 1)

abbrev pub word_at : Homes → ℕ → ℕ
word_at homes counter = stack_word homes.first (counter + 1)

pub low_within : (homes : Homes) (counter : ℕ) → Within (low (end_at homes counter) (word_at homes counter)) homes counter
low_within homes counter = record {
  window = λ r lt. outside_low (end_at homes counter) r (omega (arith, lt));
  flag = outside_past (end_at homes counter) OVERRUN (omega arith);
  named = λ slot p is. refl;
  here = λ slot le. outside_low (end_at homes counter) (homes.first + slot) (omega (arith, le));
  reads = λ slot le out. refl;
  stores = λ slot le out. lt-ltb (stack_word homes.first slot) (word_at homes counter)
      (stack_before homes.first slot (counter + 1) (omega (arith, le)) out);
}

module _ (tops : List ℕ) (homes : Homes) (fs : List PlainFunction) (number slots frame most : ℕ)
    (h : IsHomed homes fs number slots) (le : slots ≤ most + 1) where
  pub low_flows : Flows (Low tops number (end_at homes most) (word_at homes most)) tops homes fs number slots frame
      most (λ k. Unit {0}) (λ count. Unit {0})
  low_flows = in_flows (record { branches = refl; calls = refl; brings = λ count. refl })
      (may_pass tops number (end_at homes most)) tops fs number slots frame (low_within homes most) le h.own
      (λ k earlier window called. rw (
        lt-ltb k number earlier,
        le-leb (slice_index_or tops k 0) (end_at homes most) (omega (arith, window)),
      ) refl)

  pub stmts_low : (counter : ℕ) (ts : PlainStmts) → counter ≤ most → ArePlaced tops homes fs number slots counter ts
      → Low tops number (end_at homes most) (word_at homes most) (stmts_code homes frame counter ts)
  stmts_low counter ts within p = stmts_are (in_walk (low (end_at homes most) (word_at homes most)) refl
      (may_pass tops number (end_at homes most))) refl refl h (low_within homes most) le low_flows counter ts within p
      (stmts_flow ts)
