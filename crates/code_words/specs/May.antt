-- To be believed. Which words that other cores reach a task may load and store, and to which cores it may
-- send: what it asks for, and what it has made.
use Rattle.std.specs.Prelude.{◌≡◌, ℕ, true, false, List, Option, Some}
use Rattle.std.specs.List.{AllByRecursion as Each}
use Rattle.local_store.specs.declared.map.Cell.{Cell}
use Rattle.local_store.specs.declared.map.Cell.TheVariants as cell
use Rattle.shared_order.specs.declared.operation.Operation.{Operation}
use Rattle.argo_ni.specs.Packet.{comm_word}
use Rattle.patmos_instr.specs.declared.memories.Mem.TheVariants as mem
use Rattle.patmos_sem.specs.declared.effects.Effect.{Effect}
use Rattle.patmos_sem.specs.declared.effects.Effect.TheVariants as effect
use Rattle.patmos_model.specs.State.{Core, Sending}
use Rattle.sp_shape.specs.Memory.{cell_of}
use Rattle.sp_shape.specs.Run.{Run, Sources}
use Rattle.sp_shape.specs.Trail.{Step}
use Rattle.code_words.specs.Own.{AllPass}

-- over the words that may be loaded, those that may be stored, and the cores
module _ (Loads Stores To : ℕ → Type 0) where
  abbrev pub MayMake : Operation → Type 0
  MayMake o = (o.act.write ≡ false → Loads o.act.word) × (o.act.write ≡ true → Stores o.act.word)

  abbrev pub MayStart : Sending → Type 0
  MayStart s = To s.target

  -- all that was made, and all that was asked of the interface, may be
  abbrev pub MadeWell : Core → List Operation → Type 0
  MadeWell c ops = Each MayMake ops × Each MayStart c.seen.sendings

  -- ---- what is asked for by the core of a number

  abbrev pub MayLoadCell : ℕ → Option Cell → Type 0
  MayLoadCell core (Some (cell.Comm word)) = Loads (comm_word core word)
  MayLoadCell core (Some (cell.Shared word)) = Loads word
  MayLoadCell core _ = Unit {0}

  abbrev pub MayStoreCell : ℕ → Option Cell → Type 0
  MayStoreCell core (Some (cell.Comm word)) = Stores (comm_word core word)
  MayStoreCell core (Some (cell.Shared word)) = Stores word
  MayStoreCell core (Some (cell.Port target register)) = To target
  MayStoreCell core _ = Unit {0}

  abbrev pub MayReach : ℕ → Effect → Type 0
  MayReach core (effect.Load mem.S width rd address) = Unit {0}
  MayReach core (effect.Load space width rd address) = MayLoadCell core (cell_of space address)
  MayReach core (effect.Store mem.S width address value) = Unit {0}
  MayReach core (effect.Store space width address value) = MayStoreCell core (cell_of space address)
  MayReach core _ = Unit {0}

  abbrev pub AllReach : ℕ → Sources → List Step → Run → Type 0
  AllReach core = AllPass (MayReach core)
