-- To be believed. Flows of control (Patmos Reference Handbook, control-flow instructions). A flow's guard, its target
-- and what a return goes to are read in its own bundle, and it takes effect after its last delay slot:
-- two for a branch in the function, three for the others. A call, a branch with cache fill and a
-- return touch the method cache.
use Rattle.std.specs.Prelude.{ℕ, ℤ, pos, negsuc, ◌+◌, ◌-◌, ◌%◌, ◌^◌, Bool, true, false, ◌==◌, nat_lt, List, Option, None, Some}
use Rattle.method_cache.specs.declared.cache.Method.{Method}
use Rattle.method_cache.specs.Residents.{resident, is_among, touched}
use Rattle.patmos_sem.specs.declared.effects.FlowKind.{FlowKind}
use Rattle.patmos_sem.specs.declared.effects.FlowKind.TheVariants as kind
use Rattle.patmos_model.specs.declared.flow.Flow.{Flow}
use Rattle.patmos_model.specs.declared.flow.Goal.{Goal}
use Rattle.patmos_model.specs.declared.flow.Goal.TheVariants.{Within, Call, Fill, Return}
use Rattle.patmos_model.specs.declared.transfer.Transfer.{Transfer}
use Rattle.patmos_model.specs.declared.transfer.Then.TheVariants as then_on
use Rattle.patmos_model.specs.declared.trap.Trap.TheVariants as trap
use Rattle.patmos_model.specs.Site.{size_at, has_place, method_at}
use Rattle.patmos_model.specs.State.{Plain, Core, with_plain, stopped, is_free}
use Rattle.patmos_model.specs.Transfers.{nothing, reads}

-- what is to be fetched for a function after these misses: nothing where the method cache has it, else
-- its words and its size word
abbrev pub fetch_of : List Method → Method → Transfer
fetch_of misses method = elim (is_among method.function (resident misses)) [
  | true ↦ nothing
  | false ↦ reads (method.words + 1) then_on.Nothing
]

-- the offset that a branch goes to, counted from its own bundle's first word
abbrev pub branch_target : ℕ → ℤ → ℕ
branch_target offset (pos n) = (offset + n) % 2 ^ 32
branch_target offset (negsuc n) = (offset + (2 ^ 32 - (n + 1))) % 2 ^ 32

-- a flow that a bundle at an offset asks for, with its delay slots
abbrev pub flow_of : ℕ → FlowKind → Flow
flow_of offset asked = elim asked [
  | kind.Branch by ↦ record { goal = Within (branch_target offset by); slots = 2 }
  | kind.Call target ↦ record { goal = Call target; slots = 3 }
  | kind.BranchFill target ↦ record { goal = Fill target; slots = 3 }
  | kind.Return base back ↦ record { goal = Return base back; slots = 3 }
]

-- the core at an offset of the function that starts at a place, which the method cache is asked for
abbrev pub entered : ℕ → ℕ → Core → Core
entered base offset c = record {
  plain = record c.plain {
    base = base;
    offset = offset;
    flow = None;
    transfer = fetch_of c.seen.misses (method_at c.plain.site.image base);
  };
  seen = record c.seen { misses = touched c.seen.misses (method_at c.plain.site.image base) };
}

-- what a return comes back to after a call: the offset after the call's last delay slot
abbrev pub with_return : Plain → Plain
with_return x = record x { regs = record x.regs { srb = x.base; sro = x.offset } }

-- the flow's goal is a place in the code
abbrev pub is_placed : Goal → Plain → Bool
is_placed goal x = elim goal [
  | Within offset ↦ nat_lt offset (size_at x.site.image x.base)
  | Call target ↦ has_place x.site.image target 0
  | Fill target ↦ has_place x.site.image target 0
  | Return base offset ↦ has_place x.site.image base offset
]

-- the core where the flow goes to
abbrev pub gone : Goal → Core → Core
gone goal c = elim goal [
  | Within offset ↦ record c { plain = record c.plain { offset = offset; flow = None } }
  | Call target ↦ entered target 0 (with_plain with_return c)
  | Fill target ↦ entered target 0 c
  | Return base offset ↦ entered base offset c
]

-- the flow takes effect in the cycle: a goal that is no place is a trap
abbrev pub taken : ℕ → Goal → Core → Core
taken cycle goal c = elim (is_placed goal c.plain) [
  | true ↦ gone goal c
  | false ↦ with_plain (stopped trap.Flow cycle) c
]

-- a flow without a delay slot left takes effect as soon as the core is free
unfoldable pub flowed : ℕ → Core → Core
flowed cycle c = elim (is_free cycle c.plain) [
  | true ↦ elim c.plain.flow [
    | None ↦ c
    | Some f ↦ elim (f.slots == 0) [ true ↦ taken cycle f.goal c | false ↦ c ]
  ]
  | false ↦ c
]

-- a flow that was pending before a bundle has one delay slot less after it, and one that the bundle
-- asked for becomes pending
abbrev pub counted : Option Flow → Option Flow → Option Flow
counted before asked = elim before [
  | None ↦ asked
  | Some f ↦ Some (record f { slots = f.slots - 1 })
]
