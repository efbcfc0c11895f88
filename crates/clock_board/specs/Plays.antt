-- To be believed. What each step tells the pass that makes it: of its view before, the number found or stored, and
-- its view after.
use Rattle.std.specs.Prelude.{◌≡◌, ℕ, ◌+◌, ◌<◌, ◌^◌, ◌==◌, List, ◌∷◌, MatchBool}
use Rattle.atomic_table.specs.Table.{Me}
use Rattle.shared_order.specs.declared.operation.Operation.{Operation}
use Rattle.clock_board.specs.declared.known.View.{View}
use Rattle.clock_board.specs.Record.{empty, with_look, with_stamp, with_operation}
use Rattle.clock_board.specs.View.{own, given, todo}

-- what a pass has at the table: its view, and no slot
abbrev pub Place : Type 0
Place = Me Unit View

-- a look at core d's clock
abbrev pub looks : ℕ → Place → ℕ → Place → Type 0
looks d me found me' = me' ≡ (given me.0 (with_look (own me.0) d found), me.1)

-- the stamp that was stored in its clock is published
abbrev pub publishes : Place → ℕ → Place → Type 0
publishes me stored me' = me' ≡ (given me.0 (with_stamp (own me.0) stored), me.1)

-- its next operation is made, with the value that was loaded or stored
abbrev pub makes : Place → ℕ → Place → Type 0
makes me value me' =
    (o : Operation) (left : List Operation) → todo me.0 ≡ o ∷ left
    → (value ≡ o.act.value) × (value < 2 ^ 32)
    × (me' ≡ (given me.0 (with_operation (own me.0) o), me.1))

-- the word, a core's claim word, was swapped for 1: where it was 0, the pass is that core's
abbrev pub claims : ℕ → Place → ℕ → Place → Type 0
claims word me found me' =
    (core : ℕ) → word ≡ me.0.cores + core
    → MatchBool (found == 0) (me' ≡ (given me.0 (empty core), me.1)) (me' ≡ me)
