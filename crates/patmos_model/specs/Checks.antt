-- To be believed. The checks at the start of a bundle, in their order; the first that fails stops the core (our own
-- profile TP1): the bundle lies inside the function, its words stand for a bundle, no flow stands in a
-- delay slot; an address is a multiple of its width, and something stands there; a word of the stack
-- is held, or a stack instruction has room; the network's registers are used as they can be.
use Rattle.std.specs.Prelude.{ℕ, ◌+◌, ◌/◌, ◌%◌, Bool, true, false, not, ◌&&◌, ◌==◌, nat_lt, nat_le, Option, None, Some, is_none}
use Rattle.local_store.specs.declared.map.Space.TheVariants.{Local, Main}
use Rattle.local_store.specs.declared.map.Cell.{Cell}
use Rattle.local_store.specs.declared.map.Cell.TheVariants as cell
use Rattle.stack_cache.specs.declared.slots.TheConstants.{STACK_CACHE_WORDS}
use Rattle.stack_cache.specs.declared.stack.TheConstants.{STACK_END, STACK_LOWEST}
use Rattle.stack_cache.specs.Stack.{Stack}
use Rattle.argo_ni.specs.Interface.{port_to}
use Rattle.argo_ni.specs.Start.{is_in_range}
use Rattle.patmos_instr.specs.declared.functions.StackFunc.{StackFunc}
use Rattle.patmos_instr.specs.declared.functions.StackFunc.TheVariants.{Sres, Sens, Sfree}
use Rattle.patmos_instr.specs.declared.memories.Mem.{Mem}
use Rattle.patmos_instr.specs.declared.memories.Mem.TheVariants as mem
use Rattle.patmos_instr.specs.declared.memories.Width.{Width}
use Rattle.patmos_instr.specs.declared.memories.Width.TheVariants as load
use Rattle.patmos_instr.specs.declared.memories.StoreWidth.{StoreWidth}
use Rattle.patmos_instr.specs.declared.memories.StoreWidth.TheVariants as store
use Rattle.patmos_sem.specs.declared.effects.Effect.{Effect}
use Rattle.patmos_sem.specs.declared.effects.Effect.TheVariants as effect
use Rattle.patmos_sem.specs.Effects.{width_bytes, store_bytes}
use Rattle.patmos_model.specs.declared.trap.Trap.{Trap}
use Rattle.patmos_model.specs.declared.trap.Trap.TheVariants as trap
use Rattle.patmos_model.specs.Site.{Site}
use Rattle.patmos_model.specs.State.{Plain}
use Rattle.patmos_model.specs.Cells.{cell_of}

-- where the check holds, what the checks after it say; else this trap
abbrev pub check : Bool → Trap → Option Trap → Option Trap
check holds fault later = elim holds [ true ↦ later | false ↦ Some fault ]

-- a word of the stack that is held, counted in bytes from the top
abbrev pub is_held : Stack → ℕ → Bool
is_held s address = nat_lt (s.st + address / 4) s.ss

-- a stack instruction moves no more words than the stack cache has, and no pointer leaves the stack's region
abbrev pub has_room : StackFunc → ℕ → Stack → Bool
has_room func count s = nat_le count STACK_CACHE_WORDS && elim func [
  | Sres ↦ nat_le (STACK_LOWEST + count) s.st
  | Sens ↦ nat_le (s.st + count) STACK_END
  | Sfree ↦ nat_le (s.st + count) STACK_END
]

-- another core of the platform
abbrev pub is_other : Site → ℕ → Bool
is_other site target = nat_lt target site.cores && not (target == site.core)

-- the interface's registers are used by whole words
abbrev pub is_word : Width → Bool
is_word width = elim width [
  | load.Word ↦ true
  | load.Half ↦ false
  | load.Byte ↦ false
  | load.HalfUnsigned ↦ false
  | load.ByteUnsigned ↦ false
]

abbrev pub is_store_word : StoreWidth → Bool
is_store_word width = elim width [ store.Word ↦ true | store.Half ↦ false | store.Byte ↦ false ]

-- only the words not yet injected can be read
abbrev pub may_load : Site → Width → ℕ → ℕ → Bool
may_load site width target register = is_other site target && (is_word width && (register == 12))

-- they cannot be written, and a count can only where the words that it names lie in the communication
-- memories
abbrev pub may_store : Plain → StoreWidth → ℕ → ℕ → ℕ → Bool
may_store x width target register value = is_other x.site target && (is_store_word width
    && (not (register == 12) && elim (register == 8) [
      | true ↦ is_in_range (port_to x.interface target) value
      | false ↦ true
    ]))

-- the checks on the cell of a load, and of a store
abbrev pub load_cell_fault : Site → Width → Option Cell → Option Trap
load_cell_fault site width place = elim place [
  | None ↦ Some trap.Access
  | Some c ↦ elim c [
    | cell.Scratch word ↦ None
    | cell.Comm word ↦ None
    | cell.Port target register ↦ check (may_load site width target register) trap.Interface None
    | cell.Private word ↦ None
    | cell.Shared word ↦ None
  ]
]

abbrev pub store_cell_fault : Plain → StoreWidth → ℕ → Option Cell → Option Trap
store_cell_fault x width value place = elim place [
  | None ↦ Some trap.Access
  | Some c ↦ elim c [
    | cell.Scratch word ↦ None
    | cell.Comm word ↦ None
    | cell.Port target register ↦ check (may_store x width target register value) trap.Interface None
    | cell.Private word ↦ None
    | cell.Shared word ↦ None
  ]
]

-- the checks on a load, a store, and what a bundle asks for
abbrev pub load_fault : Plain → Mem → Width → ℕ → Option Trap
load_fault x space width address = check (address % width_bytes width == 0) trap.Align (elim space [
  | mem.S ↦ check (is_held x.stack address) trap.Stack None
  | mem.L ↦ load_cell_fault x.site width (cell_of Local address)
  | mem.C ↦ load_cell_fault x.site width (cell_of Main address)
  | mem.M ↦ load_cell_fault x.site width (cell_of Main address)
])

abbrev pub store_fault : Plain → Mem → StoreWidth → ℕ → ℕ → Option Trap
store_fault x space width address value = check (address % store_bytes width == 0) trap.Align (elim space [
  | mem.S ↦ check (is_held x.stack address) trap.Stack None
  | mem.L ↦ store_cell_fault x width value (cell_of Local address)
  | mem.C ↦ store_cell_fault x width value (cell_of Main address)
  | mem.M ↦ store_cell_fault x width value (cell_of Main address)
])

unfoldable pub fault_of : Plain → Effect → Option Trap
fault_of x asked = elim asked [
  | effect.Nothing ↦ None
  | effect.Flow kind ↦ check (is_none x.flow) trap.Flow None
  | effect.Load space width rd address ↦ load_fault x space width address
  | effect.Store space width address value ↦ store_fault x space width address value
  | effect.StackOp func count ↦ check (has_room func count x.stack) trap.Stack None
]
