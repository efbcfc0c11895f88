-- To be believed. The transactions of a transfer: its words move four a slot, and the last slot moves the rest.
use Rattle.std.specs.Prelude.{ℕ, zero, suc, ◌+◌, ◌-◌, ◌/◌, min, Bool, List, [], ◌∷◌}
use Rattle.slot_arbiter.specs.declared.event.Access.{Access}
use Rattle.patmos_model.specs.declared.transfer.Transfer.{Transfer}
use Rattle.patmos_model.specs.State.{Core}
use Rattle.patmos_model.specs.Transaction.{counted}

-- so many words are read, or written
pub record Burst : Type 0 where
  pub write : Bool
  pub words : ℕ

-- how many slots so many words take
abbrev pub slots_of : ℕ → ℕ
slots_of words = (words + 3) / 4

-- what so many slots move
abbrev pub bursts_in : ℕ → Bool → ℕ → List Burst
bursts_in zero write words = []
bursts_in (suc slots) write words = record { write = write; words = min 4 words } ∷ bursts_in slots write (words - 4)

-- the transactions of a transfer
abbrev pub bursts : Transfer → List Burst
bursts t = bursts_in (slots_of t.words) t.write t.words

-- each of them in the slot that starts in its cycle
abbrev pub in_cycles : List ℕ → List Burst → List Access
in_cycles [] bs = []
in_cycles (cycle ∷ cycles) [] = []
in_cycles (cycle ∷ cycles) (b ∷ bs) = record { cycle = cycle; write = b.write; words = b.words } ∷ in_cycles cycles bs

-- the core once its slots that start in these cycles have moved their words
abbrev pub moved_in : List ℕ → Core → Core
moved_in [] c = c
moved_in (cycle ∷ cycles) c = moved_in cycles (counted cycle c)
