-- What a bundle's effect makes is what the task may make.
use Rattle.std.proofs.Common.{◌≡◌, ℕ, [], ◌∷◌, ◌++◌, List, Option, Some, sym, ap, subst, true≢false}
use Rattle.std.specs.List.{AllByRecursion as Each}
use Rattle.shared_order.specs.Operation.{load, store}
use Rattle.shared_order.specs.declared.operation.Operation.{Operation}
use Rattle.shared_order.proofs.Lists.{each-append}
use Rattle.local_store.specs.declared.map.Space.TheVariants.{Local, Main}
use Rattle.local_store.specs.declared.map.Cell.{Cell}
use Rattle.local_store.specs.declared.map.Cell.TheVariants as cell
use Rattle.argo_ni.specs.Interface.{port_to}
use Rattle.argo_ni.specs.Packet.{comm_word}
use Rattle.patmos_instr.specs.declared.memories.Mem.TheVariants as mem
use Rattle.patmos_sem.specs.declared.effects.Effect.{Effect}
use Rattle.patmos_sem.specs.declared.effects.Effect.TheVariants as effect
use Rattle.patmos_model.specs.State.{Core}
use Rattle.patmos_model.specs.Cells.{cell_of}
use Rattle.patmos_model.proofs.Acts.{port_cases}
use Rattle.code_core.proofs.Outcome.{port_at, port_with, MadeLoad, MadeStore, MadeLine, Made}
use Rattle.code_core.proofs.Settled.{OfBoth}
use Rattle.code_words.specs.May.{MayMake, MayStart, MadeWell, MayLoadCell, MayStoreCell, MayReach}
use Rattle.code_words.specs.Own.{AreOwn, KeepsApart}
use Rattle.code_words.proofs.OwnWords.{line_cell}

module _ (Loads Stores To : ℕ → Type 0) where
  pub well_of_both : OfBoth (MadeWell Loads Stores To)
  well_of_both = record {
    same = λ c d ops is h. (
      h.0,
      subst (Each (MayStart Loads Stores To))
          (sym (ap (λ (z : Core). z.seen.sendings) is.task)) h.1,
    );
    counts = λ u c ops h. h;
  }

  -- one load or store more
  loads_one : (s word value : ℕ) (ops : List Operation) → Loads word → Each (MayMake Loads Stores To) ops
      → Each (MayMake Loads Stores To) (ops ++ load s word value ∷ [])
  loads_one s word value ops may h = each-append (MayMake Loads Stores To) ops (load s word value ∷ []) h
      (((λ e. may), (λ e. absurd (true≢false (sym e)))), tt)

  stores_one : (s word value : ℕ) (ops : List Operation) → Stores word → Each (MayMake Loads Stores To) ops
      → Each (MayMake Loads Stores To) (ops ++ store s word value ∷ [])
  stores_one s word value ops may h = each-append (MayMake Loads Stores To) ops (store s word value ∷ []) h
      (((λ e. absurd (true≢false e)), (λ e. may)), tt)

  module _ (board : ℕ) (before : List Operation) (h : Each (MayMake Loads Stores To) before) where
    abbrev Well : List Operation → Type 0
    Well = Each (MayMake Loads Stores To)

    still : (ops : List Operation) → ops ≡ before → Well ops
    still ops same = subst Well (sym same) h

    loaded : (value : ℕ) (ops : List Operation) (place : Option Cell) → MayLoadCell Loads Stores To board place
        → MadeLoad place board value before ops → Well ops
    loaded value ops (Some (cell.Comm word)) may made =
        subst Well (sym made.1) (loads_one made.0 (comm_word board word) value before may h)
    loaded value ops (Some (cell.Shared word)) may made =
        subst Well (sym made.1) (loads_one made.0 word value before may h)
    loaded value ops _ may made = still ops made

    stored : (value : ℕ) (ops : List Operation) (place : Option Cell) → MayStoreCell Loads Stores To board place
        → MadeStore place board value before ops → Well ops
    stored value ops (Some (cell.Comm word)) may made =
        subst Well (sym made.1) (stores_one made.0 (comm_word board word) value before may h)
    stored value ops (Some (cell.Shared word)) may made =
        subst Well (sym made.1) (stores_one made.0 word value before may h)
    stored value ops _ may made = still ops made

    pub made_well : (Cached : ℕ → Type 0) → AreOwn Cached → (e : Effect) (value : ℕ) (ops : List Operation)
        → KeepsApart Cached e → MayReach Loads Stores To board e → Made e board value before ops → Well ops
    made_well Cached are_own (effect.Load mem.L width rd address) value ops a may made =
        loaded value ops (cell_of Local address) may made
    made_well Cached are_own (effect.Load mem.C width rd address) value ops a may made =
        still ops (subst (λ place. MadeLine place before ops) (line_cell address (are_own address a)) made)
    made_well Cached are_own (effect.Load mem.M width rd address) value ops a may made =
        loaded value ops (cell_of Main address) may made
    made_well Cached are_own (effect.Store mem.L width address v) value ops a may made =
        stored v ops (cell_of Local address) may made
    made_well Cached are_own (effect.Store mem.C width address v) value ops a may made =
        stored v ops (cell_of Main address) may made
    made_well Cached are_own (effect.Store mem.M width address v) value ops a may made =
        stored v ops (cell_of Main address) may made
    made_well Cached are_own _ value ops a may made = still ops made

  -- the transfers that it asks for
  module _ (board : ℕ) (d : Core) (h : Each (MayStart Loads Stores To) d.seen.sendings) where
    abbrev Sent : Core → Type 0
    Sent c = Each (MayStart Loads Stores To) c.seen.sendings

    port_sent : (value : ℕ) (place : Option Cell) → MayStoreCell Loads Stores To board place
        → Sent (port_at place value d)
    port_sent value (Some (cell.Port target register)) may =
        port_cases (λ a b. Sent) target register value d (λ b. h) h
        (each-append (MayStart Loads Stores To) d.seen.sendings (record {
          target = target;
          from = (port_to d.plain.interface target).source;
          to = (port_to d.plain.interface target).target;
          count = value;
        } ∷ []) h (may, tt))
    port_sent value _ may = h

    pub sent_well : (e : Effect) → MayReach Loads Stores To board e → Sent (port_with e d)
    sent_well (effect.Store mem.L width address value) may = port_sent value (cell_of Local address) may
    sent_well _ may = h
