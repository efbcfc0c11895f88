-- What a run may ask for passes a core's checks.
use Rattle.std.proofs.Common.{◌≡◌, ℕ, ◌+◌, ◌/◌, ◌%◌, ◌==◌, ◌&&◌, not, nat_le, nat_lt, Bool, true, false, Option, None, Some, refl, ap, ◌∙◌, arith}
use Rattle.std.proofs.lemmas.Bool.{eq-eqb, le-leb, lt-ltb, and_from}
use Rattle.local_store.specs.declared.map.Space.TheVariants.{Local, Main}
use Rattle.local_store.specs.declared.map.Cell.{Cell}
use Rattle.local_store.specs.declared.map.Cell.TheVariants as cell
use Rattle.patmos_instr.specs.declared.functions.StackFunc.TheVariants.{Sres, Sens, Sfree}
use Rattle.patmos_instr.specs.declared.memories.Mem.TheVariants as mem
use Rattle.patmos_instr.specs.declared.memories.Width.{Width}
use Rattle.patmos_instr.specs.declared.memories.Width.TheVariants as load
use Rattle.patmos_instr.specs.declared.memories.StoreWidth.{StoreWidth}
use Rattle.patmos_instr.specs.declared.memories.StoreWidth.TheVariants as store
use Rattle.patmos_sem.specs.Effects.{width_bytes, store_bytes}
use Rattle.patmos_sem.specs.declared.effects.Effect.{Effect}
use Rattle.patmos_sem.specs.declared.effects.Effect.TheVariants as effect
use Rattle.patmos_sem.specs.declared.effects.FlowKind.{FlowKind}
use Rattle.patmos_model.specs.declared.trap.Trap.{Trap}
use Rattle.patmos_model.specs.declared.trap.Trap.TheVariants as trap
use Rattle.patmos_model.specs.Site.{Site}
use Rattle.patmos_model.specs.State.{Plain}
use Rattle.patmos_model.specs.Cells.{cell_of}
use Rattle.patmos_model.specs.Checks.{check, fault_of, load_cell_fault, store_cell_fault, has_room, is_held, is_other, is_store_word, may_store}
use Rattle.argo_ni.specs.Interface.{port_to}
use Rattle.argo_ni.specs.Start.{is_in_range}
use Rattle.sp_shape.specs.Memory.{Memory}
use Rattle.sp_shape.specs.Pointers.{pointers_of}
use Rattle.sp_shape.specs.Run.{Run}
use Rattle.code_core.specs.Held.{HoldsStack, HoldsPorts}
use Rattle.code_core.specs.Sound.{IsSound, IsLocalLoadable, IsMainLoadable, IsLocalStorable, IsMainStorable, may_send}

holds_so : (b : Bool) (fault : Trap) (later : Option Trap) → b ≡ true → later ≡ None → check b fault later ≡ None
holds_so b fault later e l = ap (λ t. check t fault later) e ∙ l

local_loadable : (site : Site) (width : Width) (place : Option Cell) → IsLocalLoadable place
    → load_cell_fault site width place ≡ None
local_loadable site width (Some (cell.Scratch word)) s = refl
local_loadable site width (Some (cell.Comm word)) s = refl
local_loadable site width _ s = absurd s

main_loadable : (site : Site) (width : Width) (place : Option Cell) → IsMainLoadable place
    → load_cell_fault site width place ≡ None
main_loadable site width (Some (cell.Private word)) s = refl
main_loadable site width (Some (cell.Shared word)) s = refl
main_loadable site width _ s = absurd s

main_storable : (x : Plain) (width : StoreWidth) (value : ℕ) (place : Option Cell) → IsMainStorable place
    → store_cell_fault x width value place ≡ None
main_storable x width value (Some (cell.Private word)) s = refl
main_storable x width value (Some (cell.Shared word)) s = refl
main_storable x width value _ s = absurd s

local_storable : (m : Memory) (x : Plain) (width : StoreWidth) (value : ℕ) (place : Option Cell) → width ≡ store.Word
    → HoldsPorts m x.interface → IsLocalStorable x.site m value place → store_cell_fault x width value place ≡ None
local_storable m x width value None is h s = absurd s
local_storable m x width value (Some (cell.Scratch word)) is h s = refl
local_storable m x width value (Some (cell.Comm word)) is h s = refl
local_storable m x width value (Some (cell.Private word)) is h s = absurd s
local_storable m x width value (Some (cell.Shared word)) is h s = absurd s
local_storable m x width value (Some (cell.Port core register)) is h s =
    holds_so (may_store x width core register value) trap.Interface None
    (and_from (is_other x.site core) _ s.1.0 (and_from (is_store_word width) _ (ap is_store_word is)
    (and_from (not (register == 12)) _ (ap not s.1.1.0) (counts (register == 8) refl)))) refl
  where
    range : may_send m core value ≡ true → is_in_range (port_to x.interface core) value ≡ true
    range sent = (λ i. nat_lt 0 value && nat_le (h.source core s.0 i + value) 512 && nat_le (h.target core s.0 i
        + value) 512) ∙ sent

    counts : (b : Bool) → (register == 8) ≡ b → elim b as (λ _. Bool) [
      | true ↦ is_in_range (port_to x.interface core)
          value
      | false ↦ true
    ] ≡ true
    counts true eight = range (s.1.1.1 eight)
    counts false other = refl

word_loads : (x : Plain) (width : Width) (address : ℕ) (place : Option Cell) → width ≡ load.Word → address % 4 ≡ 0
    → load_cell_fault x.site width place ≡ None
    → check (address % width_bytes width == 0) trap.Align (load_cell_fault x.site width place) ≡ None
word_loads x width address place is aligned s =
    holds_so (address % width_bytes width == 0) trap.Align (load_cell_fault x.site width place)
    (eq-eqb (address % width_bytes width) 0 (ap (λ w. address % width_bytes w) is ∙ aligned)) s

word_stores : (x : Plain) (width : StoreWidth) (address value : ℕ) (place : Option Cell) → width ≡ store.Word
    → address % 4 ≡ 0 → store_cell_fault x width value place ≡ None
    → check (address % store_bytes width == 0) trap.Align (store_cell_fault x width value place) ≡ None
word_stores x width address value place is aligned s =
    holds_so (address % store_bytes width == 0) trap.Align (store_cell_fault x width value place)
    (eq-eqb (address % store_bytes width) 0 (ap (λ w. address % store_bytes w) is ∙ aligned)) s

pub sound_passes : (e : Effect) (m : Run) (x : Plain) → HoldsStack m x.stack x.private → HoldsPorts m.memory x.interface
    → IsSound x.site e (pointers_of m) m.memory → ((kind : FlowKind) → e ≡ effect.Flow kind
    → fault_of x (effect.Flow kind) ≡ None) → fault_of x e ≡ None
unfolding fault_of
sound_passes effect.Nothing m x h ports s flow = refl
sound_passes (effect.Flow kind) m x h ports s flow = flow kind refl
sound_passes (effect.Load mem.S width rd address) m x h ports s flow =
    holds_so (address % width_bytes width == 0) trap.Align (check (is_held x.stack address) trap.Stack None)
    (eq-eqb (address % width_bytes width) 0 s.0)
    (holds_so (is_held x.stack address) trap.Stack None (lt-ltb (x.stack.st + address / 4) x.stack.ss
    (omega (arith, s.1, h.st, h.ss))) refl)
sound_passes (effect.Load mem.L width rd address) m x h ports s flow =
    word_loads x width address (cell_of Local address) s.0 s.1 (local_loadable x.site width (cell_of Local address) s.2)
sound_passes (effect.Load mem.C width rd address) m x h ports s flow =
    word_loads x width address (cell_of Main address) s.0 s.1 (main_loadable x.site width (cell_of Main address) s.2)
sound_passes (effect.Load mem.M width rd address) m x h ports s flow =
    word_loads x width address (cell_of Main address) s.0 s.1 (main_loadable x.site width (cell_of Main address) s.2)
sound_passes (effect.Store mem.S width address value) m x h ports s flow =
    holds_so (address % store_bytes width == 0) trap.Align (check (is_held x.stack address) trap.Stack None)
    (eq-eqb (address % store_bytes width) 0 s.0)
    (holds_so (is_held x.stack address) trap.Stack None (lt-ltb (x.stack.st + address / 4) x.stack.ss
    (omega (arith, s.1, h.st, h.ss))) refl)
sound_passes (effect.Store mem.L width address value) m x h ports s flow =
    word_stores x width address value (cell_of Local address) s.0 s.1 (local_storable m.memory x width value
    (cell_of Local address) s.0 ports s.2)
sound_passes (effect.Store mem.C width address value) m x h ports s flow =
    word_stores x width address value (cell_of Main address) s.0 s.1 (main_storable x width value
    (cell_of Main address) s.2)
sound_passes (effect.Store mem.M width address value) m x h ports s flow =
    word_stores x width address value (cell_of Main address) s.0 s.1 (main_storable x width value
    (cell_of Main address) s.2)
sound_passes (effect.StackOp Sres count) m x h ports s flow =
    holds_so (has_room Sres count x.stack) trap.Stack None (and_from (nat_le count 128)
    (nat_le (49152 + count) x.stack.st) (le-leb count 128 s.0) (le-leb (49152 + count) x.stack.st
    (omega (arith, s.1, h.st)))) refl
sound_passes (effect.StackOp Sens count) m x h ports s flow =
    holds_so (has_room Sens count x.stack) trap.Stack None (and_from (nat_le count 128)
    (nat_le (x.stack.st + count) 65536) (le-leb count 128 s.0) (le-leb (x.stack.st + count) 65536
    (omega (arith, s.1, h.st)))) refl
sound_passes (effect.StackOp Sfree count) m x h ports s flow =
    holds_so (has_room Sfree count x.stack) trap.Stack None (and_from (nat_le count 128)
    (nat_le (x.stack.st + count) 65536) (le-leb count 128 s.0) (le-leb (x.stack.st + count) 65536
    (omega (arith, s.1, h.st)))) refl
