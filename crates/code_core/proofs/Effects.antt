-- What a bundle's effect leaves of a run's stack, and of the registers of its interface, in a core.
use Rattle.std.proofs.Common.{◌≡◌, ℕ, Option, None, Some, sym, subst}
use Rattle.local_store.specs.declared.map.Space.TheVariants.{Local, Main}
use Rattle.local_store.specs.declared.map.Cell.{Cell}
use Rattle.local_store.specs.declared.map.Cell.TheVariants as cell
use Rattle.argo_ni.specs.Interface.{Interface}
use Rattle.patmos_instr.specs.declared.functions.StackFunc.TheVariants.{Sres, Sens, Sfree}
use Rattle.patmos_instr.specs.declared.memories.Mem.TheVariants as mem
use Rattle.patmos_instr.specs.declared.memories.StoreWidth.{StoreWidth}
use Rattle.patmos_instr.specs.declared.memories.StoreWidth.TheVariants as store
use Rattle.patmos_sem.specs.Narrow.{merged}
use Rattle.patmos_sem.specs.declared.effects.Effect.{Effect}
use Rattle.patmos_sem.specs.declared.effects.Effect.TheVariants as effect
use Rattle.patmos_model.specs.Site.{Site}
use Rattle.patmos_model.specs.State.{Plain, Core}
use Rattle.patmos_model.specs.Cells.{cell_of, port_set}
use Rattle.sp_shape.specs.Memory.{Memory, word_at, with_word, with_port}
use Rattle.sp_shape.specs.Pointers.{pointers_of}
use Rattle.sp_shape.specs.Run as run
use Rattle.sp_shape.specs.Run.{Run, effected}
use Rattle.code_core.specs.Goes.{by_stack}
use Rattle.code_core.specs.Held.{HoldsStack, HoldsPorts}
use Rattle.code_core.specs.Sound.{IsSound, IsLocalStorable, IsMainStorable}
use Rattle.code_core.proofs.Outcome.{stack_with, private_at, private_with, port_at, port_with, IsLike}
use Rattle.code_core.proofs.Ports.{sets_port}
use Rattle.code_core.proofs.StackHeld.{reserves, ensures_held, frees, sets_held, below_held}

-- ---- the stack

-- the run, as far as its stack goes
abbrev pub run_stack : Effect → Run → Run
run_stack (effect.Store mem.S width address value) m = run.stored mem.S width address value m
run_stack (effect.StackOp func count) m = run.stacked func count m
run_stack _ m = m

-- words of main memory that may be stored are none of the stack
main_held : (place : Option Cell) (width : StoreWidth) (address value : ℕ) (m : Run) (x : Plain) → IsMainStorable place
    → HoldsStack m x.stack x.private → HoldsStack m x.stack (private_at place width address value x)
main_held None width address value m x s h = absurd s
main_held (Some (cell.Scratch word)) width address value m x s h = absurd s
main_held (Some (cell.Comm word)) width address value m x s h = absurd s
main_held (Some (cell.Port target register)) width address value m x s h = absurd s
main_held (Some (cell.Private word)) width address value m x s h =
    below_held word (merged width address (x.private word) value) m x.stack x.private h s
main_held (Some (cell.Shared word)) width address value m x s h = h

pub stack_held : (site : Site) (e : Effect) (m : Run) (x : Plain) → IsSound site e (pointers_of m) m.memory
    → HoldsStack m x.stack x.private → HoldsStack (run_stack e m) (stack_with e x) (private_with e x)
stack_held site (effect.Store mem.S width address value) m x s h =
    sets_held width address value m x.stack x.private h s.1
stack_held site (effect.Store mem.C width address value) m x s h =
    main_held (cell_of Main address) width address value m x s.2 h
stack_held site (effect.Store mem.M width address value) m x s h =
    main_held (cell_of Main address) width address value m x s.2 h
stack_held site (effect.StackOp Sres count) m x s h = reserves count m x.stack x.private h s.0 s.1
stack_held site (effect.StackOp Sens count) m x s h = ensures_held count m x.stack x.private h s.0 s.1
stack_held site (effect.StackOp Sfree count) m x s h = frees count m x.stack x.private h s.1
stack_held site _ m x s h = h

pub held_like : (m : Run) (x c : Core) → IsLike x c → HoldsStack m x.plain.stack x.plain.private
    → HoldsStack m c.plain.stack c.plain.private
held_like m x c is h = subst (λ s. HoldsStack m s c.plain.private) (sym is.stack)
    (subst (λ f. HoldsStack m x.plain.stack f) (sym is.private) h)

-- ---- registers of the interface

-- words of main memory are no registers
main_ports : (place : Option Cell) (word : ℕ) (m : Memory) (i : Interface) → IsMainStorable place → HoldsPorts m i
    → HoldsPorts (with_word place word m) i
main_ports None word m i s h = absurd s
main_ports (Some (cell.Scratch at)) word m i s h = absurd s
main_ports (Some (cell.Private at)) word m i s h = record { count = h.count; source = h.source; target = h.target }
main_ports (Some (cell.Comm at)) word m i s h = absurd s
main_ports (Some (cell.Shared at)) word m i s h = record { count = h.count; source = h.source; target = h.target }
main_ports (Some (cell.Port target register)) word m i s h = absurd s

local_ports : (site : Site) (place : Option Cell) (width : StoreWidth) (address value : ℕ) (m : Memory) (d : Core)
    → width ≡ store.Word → IsLocalStorable site m value place → HoldsPorts m d.plain.interface
    → HoldsPorts (with_word place (merged width address (word_at place m) value) m) (port_at place value
    d).plain.interface
local_ports site None width address value m d is s h = absurd s
local_ports site (Some (cell.Private word)) width address value m d is s h = absurd s
local_ports site (Some (cell.Shared word)) width address value m d is s h = absurd s
local_ports site (Some (cell.Scratch word)) width address value m d is s h =
    record { count = h.count; source = h.source; target = h.target }
local_ports site (Some (cell.Comm word)) width address value m d is s h =
    record { count = h.count; source = h.source; target = h.target }
local_ports site (Some (cell.Port core register)) width address value m d is s h =
    subst (λ w. HoldsPorts (with_port core register (merged w address 0 value) m)
    (port_set core register value d).plain.interface) (sym is) (sets_port core register value m d h)

pub ports_held : (site : Site) (e : Effect) (m : Run) (d : Core) → IsSound site e (pointers_of m) m.memory
    → HoldsPorts m.memory d.plain.interface
    → HoldsPorts (effected by_stack e m).memory (port_with e d).plain.interface
ports_held site (effect.Store mem.L width address value) m d s h =
    local_ports site (cell_of Local address) width address value m.memory d s.0 s.2 h
ports_held site (effect.Store mem.C width address value) m d s h =
    main_ports (cell_of Main address) _ m.memory d.plain.interface s.2 h
ports_held site (effect.Store mem.M width address value) m d s h =
    main_ports (cell_of Main address) _ m.memory d.plain.interface s.2 h
ports_held site (effect.StackOp Sres count) m d s h = h
ports_held site (effect.StackOp Sens count) m d s h = h
ports_held site (effect.StackOp Sfree count) m d s h = h
ports_held site _ m d s h = h
