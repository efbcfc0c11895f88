-- A transaction with a core's own memory is what its own act in the cycle does.
use Rattle.std.proofs.Common.{◌≡◌, ℕ, true, false, Option, Some, refl, sym, ap, ◌∙◌}
use Rattle.local_store.specs.declared.map.Space.TheVariants.{Main}
use Rattle.local_store.specs.declared.map.Cell.{Cell}
use Rattle.local_store.specs.declared.map.Cell.TheVariants as cell
use Rattle.patmos_instr.specs.declared.memories.Width.{Width}
use Rattle.patmos_instr.specs.declared.memories.StoreWidth.{StoreWidth}
use Rattle.patmos_model.specs.declared.transfer.Then.{Then}
use Rattle.patmos_model.specs.declared.transfer.Then.TheVariants as then_on
use Rattle.patmos_model.specs.State.{History, Core, with_plain}
use Rattle.patmos_model.specs.Cells.{cell_of, now, reading, writing, with_value}
use Rattle.patmos_model.specs.Transaction.{transaction, transaction_then, moved, accessed, counted}
use Rattle.patmos_model.specs.Cycle.{own}
use Rattle.patmos_step.specs.declared.body.Body.{Body}
use Rattle.patmos_step.specs.Shown.{core_of, plain_of}
use Rattle.patmos_alone.specs.Alone.{IsAlone}
use Rattle.patmos_alone.specs.Moving.{IsPrivateCell, MovesOwn, CanMoveIn, private_at, private_set, moved_by}
use Rattle.patmos_step.proofs.Moves.{own_moves}

-- the core with these words moved
abbrev after_move : ℕ → Core → Core
after_move cycle c = record {
  plain = moved_by c.plain.transfer.then (moved cycle c.plain);
  seen = accessed c.plain.transfer cycle c.seen;
}

loads_private : (place : Option Cell) (rd : ℕ) (width : Width) (address cycle : ℕ) (c : Core) → IsPrivateCell place
    → reading place c.plain (λ word. now (with_plain (with_value rd width address word) (counted cycle c)))
    ≡ now (with_plain (λ x. with_value rd width address (private_at place x) x) (counted cycle c))
loads_private (Some (cell.Private word)) rd width address cycle c own = refl
loads_private _ rd width address cycle c own = absurd own

stores_private : (place : Option Cell) (width : StoreWidth) (address value : ℕ) (c : Core) → IsPrivateCell place
    → writing place width address value c ≡ now (with_plain (private_set place width address value) c)
stores_private (Some (cell.Private word)) width address value c own = refl
stores_private _ width address value c own = absurd own

moves_alone : (then : Then) (cycle : ℕ) (c : Core) → MovesOwn then → transaction_then then cycle c
    ≡ now (record { plain = moved_by then (moved cycle c.plain); seen = accessed c.plain.transfer cycle c.seen })
moves_alone then_on.Nothing cycle c own = refl
moves_alone (then_on.Load rd width address) cycle c own =
    loads_private (cell_of Main address) rd width address cycle c own
moves_alone (then_on.Line rd width address) cycle c own = absurd own
moves_alone (then_on.Store true width address value) cycle c own = absurd own
moves_alone (then_on.Store false width address value) cycle c own =
    stores_private (cell_of Main address) width address value (counted cycle c) own

transacts : (cycle : ℕ) (c : Core) → MovesOwn c.plain.transfer.then → transaction cycle c ≡ now (after_move cycle c)
unfolding transaction
transacts cycle c own = moves_alone c.plain.transfer.then cycle c own

-- the words of a core's own memory move
pub moved_alone : (cycle : ℕ) (b last : Body) (h : History) → CanMoveIn cycle (plain_of b)
    → plain_of last ≡ moved_by b.transfer.then (moved cycle (plain_of b)) → last.ni ≡ b.ni
    → IsAlone cycle (core_of b h) (core_of last (accessed b.transfer cycle h))
moved_alone cycle b last h moves same ni = record {
  act = own_moves cycle (core_of b h) moves.moves ∙ transacts cycle (core_of b h) moves.own
      ∙ ap (λ x. now (record { plain = x; seen = accessed b.transfer cycle h })) (sym same);
  interface = ap (λ s. s.interface) ni;
}
