-- To be believed. A transaction with main memory: up to four words in a slot of the core (Schoeberl et al., T-CREST,
-- 2015: time-division arbitration; lengths and costs are our own profile TP1's).
use Rattle.std.specs.Prelude.{ℕ, ◌+◌, ◌-◌, ◌*◌, min, Bool, true, false, ◌&&◌, nat_le, nat_lt, List, [], ◌∷◌, ◌++◌, Some, slice_index, unwrap_or}
use Rattle.shared_order.specs.Program.{Prog}
use Rattle.slot_arbiter.specs.Slot.{is_slot_start}
use Rattle.data_cache.specs.Accesses as cache
use Rattle.local_store.specs.declared.map.Space.TheVariants.{Main}
use Rattle.patmos_instr.specs.declared.memories.Width.{Width}
use Rattle.patmos_instr.specs.declared.memories.StoreWidth.{StoreWidth}
use Rattle.patmos_sem.specs.Narrow.{merged}
use Rattle.patmos_model.specs.declared.transfer.Transfer.{Transfer}
use Rattle.patmos_model.specs.declared.transfer.Then.{Then}
use Rattle.patmos_model.specs.declared.transfer.Then.TheVariants as then_on
use Rattle.patmos_model.specs.State.{Plain, Core, History, with_plain}
use Rattle.patmos_model.specs.Cells.{Acted, now, cell_of, reading, reading_line, writing, with_value}

-- how many words a slot moves
abbrev pub burst : Transfer → ℕ
burst t = min 4 t.words

-- the words are moved in a slot that starts in this cycle: the core goes on when the slot ends
abbrev pub moved : ℕ → Plain → Plain
moved cycle x = record x {
  transfer = record x.transfer { words = x.transfer.words - 4; then = then_on.Nothing };
  free = cycle + x.site.slot;
}

-- the transaction counts among the core's
abbrev pub accessed : Transfer → ℕ → History → History
accessed t cycle seen = record seen {
  accesses = seen.accesses ++ record { cycle = cycle; write = t.write; words = burst t } ∷ [];
}

abbrev pub counted : ℕ → Core → Core
counted cycle c = record { plain = moved cycle c.plain; seen = accessed c.plain.transfer cycle c.seen }

-- the line's four words come into the data cache
abbrev pub with_line : ℕ → List ℕ → History → History
with_line address words seen =
    record seen { cached = seen.cached ++ cache.Load address (Some words) ∷ [] }

-- and with them a load's value
abbrev pub line_taken : ℕ → Width → ℕ → List ℕ → Core → Core
line_taken rd width address words c = record {
  plain = with_value rd width address (slice_index words (cache.place_of address)) c.plain;
  seen = with_line address words c.seen;
}

-- a cached store is merged with the line's own word, which may be stale
abbrev pub with_store : Bool → StoreWidth → ℕ → ℕ → History → History
with_store cached width address value seen = elim cached [
  | false ↦ seen
  | true ↦ record seen {
    cached = seen.cached ++ cache.Store address
        (merged width address (unwrap_or (cache.cached_word seen.cached address) 0) value) ∷ [];
  }
]

-- the address of the line that holds an address
abbrev pub line_address : ℕ → ℕ
line_address address = cache.line_of address * 16

-- the transaction in this cycle, and what comes of it
abbrev pub transaction_then : Then → ℕ → Core → Prog Acted
transaction_then moved_on cycle c = elim moved_on [
  | then_on.Nothing ↦ now (counted cycle c)
  | then_on.Load rd width address ↦ reading (cell_of Main address) c.plain
      (λ word. now (with_plain (with_value rd width address word) (counted cycle c)))
  | then_on.Line rd width address ↦ reading_line (cell_of Main (line_address address)) c.plain
      (λ words. now (line_taken rd width address words (counted cycle c)))
  | then_on.Store cached width address value ↦ writing (cell_of Main address) width address value (record {
    plain = moved cycle c.plain;
    seen = with_store cached width address value (counted cycle c).seen;
  })
]

unfoldable pub transaction : ℕ → Core → Prog Acted
transaction cycle c = transaction_then c.plain.transfer.then cycle c

-- words are to be moved, the core is free for it, and a slot of its own starts
abbrev pub is_due : ℕ → Plain → Bool
is_due cycle x = nat_lt 0 x.transfer.words
    && (nat_le x.free cycle && is_slot_start x.site.table x.site.slot x.site.core cycle)
