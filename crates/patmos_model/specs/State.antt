-- To be believed. The state of a core: what it needs to go on, and what it has seen.
use Rattle.std.specs.Prelude.{ℕ, Bool, false, not, ◌&&◌, ◌==◌, List, Option, None, Some}
use Rattle.slot_arbiter.specs.declared.event.Access.{Access}
use Rattle.method_cache.specs.declared.cache.Method.{Method}
use Rattle.data_cache.specs.Accesses as cache
use Rattle.stack_cache.specs.Stack.{Stack}
use Rattle.argo_ni.specs.Interface.{Interface}
use Rattle.patmos_sem.specs.Registers.{Registers}
use Rattle.patmos_model.specs.declared.flow.Flow.{Flow}
use Rattle.patmos_model.specs.declared.flow.Goal.TheVariants.{Within, Call, Fill, Return}
use Rattle.patmos_model.specs.declared.transfer.Transfer.{Transfer}
use Rattle.patmos_model.specs.declared.trap.Trap.{Trap}
use Rattle.patmos_model.specs.declared.state.Status.{Status}
use Rattle.patmos_model.specs.declared.state.Status.TheVariants.{Idle, Running, Trapped}
use Rattle.patmos_model.specs.Site.{Site}

-- A core between two of its acts: its registers, the top of its stack, its scratchpad and private
-- memory by the numbers of their words, its network interface; the function it is in and the offset
-- of its next bundle there; the flow that has not taken effect, and what is still to be moved between
-- main memory and the core; the cycle from which on it goes on; and whether it does.
pub record Plain : Type 0 where
  pub site : Site
  pub regs : Registers
  pub stack : Stack
  pub scratch : ℕ → ℕ
  pub private : ℕ → ℕ
  pub interface : Interface
  pub base : ℕ
  pub offset : ℕ
  pub flow : Option Flow
  pub transfer : Transfer
  pub free : ℕ
  pub status : Status

-- a transfer over the network that the task asked for: so many words, from a word of its own
-- communication memory to a word of the target's
pub record Sending : Type 0 where
  pub target : ℕ
  pub from : ℕ
  pub to : ℕ
  pub count : ℕ

-- What a core has done so far, of which it keeps only what its caches hold: the functions that missed
-- the method cache, its cached loads and stores, its transactions with main memory, and the transfers
-- over the network that it asked for; each in their order.
pub record History : Type 0 where
  pub misses : List Method
  pub cached : List cache.Access
  pub accesses : List Access
  pub sendings : List Sending

pub record Core : Type 0 where
  pub plain : Plain
  pub seen : History

-- the flow ends the task: it is a return with base 0, all of whose delay slots are done
abbrev pub is_end : Flow → Bool
is_end f = elim f.goal [
  | Within offset ↦ false
  | Call target ↦ false
  | Fill target ↦ false
  | Return base offset ↦ (base == 0) && (f.slots == 0)
]

-- the task has ended, at the cycle from which on the core is free: its last delay slot is done, and
-- what that had to move has moved
abbrev pub has_ended : Plain → Bool
has_ended x = elim x.flow [ None ↦ false | Some f ↦ is_end f && (x.transfer.words == 0) ]

-- the core has a task, which neither ended nor was stopped
abbrev pub is_running : Plain → Bool
is_running x = elim x.status [ Idle ↦ false | Running ↦ not (has_ended x) | Trapped trap at ↦ false ]

-- the core is free in the cycle, and nothing is to be moved
abbrev pub is_free : ℕ → Plain → Bool
is_free cycle x = (x.transfer.words == 0) && (x.free == cycle)

-- the core with its plain part changed
abbrev pub with_plain : (Plain → Plain) → Core → Core
with_plain change c = record c { plain = change c.plain }

-- a trap in the cycle changes nothing else
abbrev pub stopped : Trap → ℕ → Plain → Plain
stopped trap cycle x = record x { status = Trapped trap cycle }
