-- The stack stays one: its words stand between its pointers, no more than the cache has, in the stack's region.
use Rattle.std.proofs.Common.{◌≡◌, ℕ, zero, suc, ◌+◌, ◌-◌, ◌/◌, ◌≤◌, nat_le, min, true, List, [], ◌++◌, length, take, drop, replicate, slice_index, slice_set, refl, sym, ap, ◌∙◌, subst, arith, length-take, length-drop, length-append}
use Rattle.std.proofs.lemmas.Bool.{leb-true, and_parts}
use Rattle.std.proofs.lemmas.List.{length-set, length-replicate}
use Rattle.std.proofs.lemmas.List.FromFn.{length-map-range_with_len}
use Rattle.slot_arbiter.specs.Stamp.{stamp}
use Rattle.shared_order.specs.Program.{and_then}
use Rattle.stack_cache.specs.Stack.{Stack, IsStack, empty, grown, reserved, missing, freed}
use Rattle.patmos_instr.specs.declared.functions.StackFunc.{StackFunc}
use Rattle.patmos_instr.specs.declared.functions.StackFunc.TheVariants.{Sres, Sens, Sfree}
use Rattle.patmos_instr.specs.declared.memories.StoreWidth.{StoreWidth}
use Rattle.patmos_sem.specs.Narrow.{merged}
use Rattle.patmos_model.specs.declared.flow.Goal.{Goal}
use Rattle.patmos_model.specs.declared.flow.Goal.TheVariants.{Within}
use Rattle.patmos_model.specs.State.{Plain, Core}
use Rattle.patmos_model.specs.Flows.{gone}
use Rattle.patmos_model.specs.Checks.{has_room}
use Rattle.patmos_model.specs.Bundle.{words_from, refilled, stack_set}
use Rattle.patmos_model.specs.Cycle.{own, settled}
use Rattle.patmos_model.specs.Apart.{Followed, followed, after_delivery, after_injection}
use Rattle.patmos_model.proofs.Acts.{Any, stack_after, Steps, act_leaves}
use Rattle.patmos_model.proofs.Leaves.{Leaves}
use Rattle.core_pace.specs.Moment.{Moment}
use Rattle.core_pace.proofs.Parts.{fed_leaves}
use Rattle.core_pace.proofs.Waits.{interface_apart}

-- ---- the stack's instructions

-- with the same number of words between the same pointers
set_is_stack : (width : StoreWidth) (address value : ℕ) (s : Stack) → IsStack s
    → IsStack (stack_set width address value s)
set_is_stack width address value s h =
    let same : length (slice_set s.words (address / 4) (merged width address (slice_index s.words (address / 4)) value))
    ≡ length s.words =
    length-set s.words (address / 4) (merged width address (slice_index s.words (address / 4)) value) in
    record {
      low = h.low;
      high = h.high;
      between = ap (λ k. s.st + k) same ∙ h.between;
      few = omega (arith, same, h.few);
    }

reserved_is_stack : (count : ℕ) (s : Stack) → IsStack s → 49152 + count ≤ s.st → IsStack (reserved count s)
reserved_is_stack count s h room =
    let words : length (take 128 (grown count s)) ≡ min 128 (count + length s.words) =
    length-take 128 (grown count s) ∙ ap (min 128) (length-append (replicate count 0) s.words
    ∙ ap (λ k. k + length s.words) (length-replicate count 0)) in
    record {
      low = omega (arith, room);
      high = omega (arith, h.high);
      between = omega (arith, words, h.between, room);
      few = omega (arith, words);
    }

refilled_is_stack : (count : ℕ) (memory : ℕ → ℕ) (s : Stack) → IsStack s → count ≤ 128 → s.st + count ≤ 65536
    → IsStack (refilled count memory s)
refilled_is_stack count memory s h most room =
    let words : length (s.words ++ words_from memory s.ss (missing count s)) ≡ length s.words + missing count s =
    length-append s.words (words_from memory s.ss (missing count s))
    ∙ ap (λ k. length s.words + k) (length-map-range_with_len memory s.ss (missing count s)) in
    record {
      low = h.low;
      high = omega (arith, h.between, h.high, room);
      between = omega (arith, words, h.between);
      few = omega (arith, words, h.few, most);
    }

freed_is_stack : (count : ℕ) (s : Stack) → IsStack s → s.st + count ≤ 65536 → IsStack (freed count s)
freed_is_stack count s h room =
    let words : length (drop count s.words) ≡ length s.words - count = length-drop count s.words in
    record {
      low = omega (arith, h.low);
      high = omega (arith, h.high, room);
      between = omega (arith, words, h.between);
      few = omega (arith, words, h.few);
    }

-- ---- the act

abbrev Held : Core → Type 0
Held c = IsStack c.plain.stack

stack_held : (func : StackFunc) (count : ℕ) (x : Plain) → IsStack x.stack → has_room func count x.stack ≡ true
    → IsStack (stack_after func count x)
stack_held Sres count x h room =
    let tests = and_parts (nat_le count 128) (nat_le (49152 + count) x.stack.st) room in
    reserved_is_stack count x.stack h (leb-true (49152 + count) x.stack.st tests.1)
stack_held Sens count x h room =
    let tests = and_parts (nat_le count 128) (nat_le (x.stack.st + count) 65536) room in
    refilled_is_stack count x.private x.stack h (leb-true count 128 tests.0)
    (leb-true (x.stack.st + count) 65536 tests.1)
stack_held Sfree count x h room =
    let tests = and_parts (nat_le count 128) (nat_le (x.stack.st + count) 65536) room in
    freed_is_stack count x.stack h (leb-true (x.stack.st + count) 65536 tests.1)

steps_held : Steps Any Held
steps_held = record {
  waits = λ c t free h of. h;
  value = λ c rd width address word h kind. h;
  advances = λ c b words h found. h;
  stacks = λ c func count h room. stack_held func count c.plain h room;
  sets = λ c width address value h kind. set_is_stack width address value c.plain.stack h;
  scratch = λ c word value h kind. h;
  private = λ c word value h kind. h;
  source = λ c target value h. h;
  target = λ c target value h. h;
  starts = λ c target count h. h;
  caches = λ c access h of. h;
  counts = λ c access h. h;
}

gone_held : (goal : Goal) (c : Core) → Held c → Held (gone goal c)
gone_held (Within offset) c h = h
gone_held _ c h = h

act_held : (u : ℕ) (c : Core) → Held c → Leaves Held (and_then (own u c) settled)
act_held u c h = act_leaves Held steps_held (record {
  stops = λ c fault cycle h. h;
  goes = λ c goal h placed.
      gone_held goal c h;
}) u c h

-- ---- the run

pub stack_is_kept : (n core : ℕ) (x : Core) (values : List ℕ) (t : ℕ) → IsStack x.plain.stack
    → IsStack (followed n core x values t).run.core.plain.stack
stack_is_kept n core x values zero h = h
stack_is_kept n core x values (suc t) h =
    let f : Followed = followed n core x values t in
    let m : Moment = record { cycle = t; told = f; bundles = [] } in
    let g : Followed = after_injection n core t (after_delivery n core t f) in
    let here : IsStack g.run.core.plain.stack = subst (λ (c : Core). IsStack c.plain.stack)
    (sym (interface_apart n core m)) (stack_is_kept n core x values t h) in
    fed_leaves Held (stamp n core t 1) (and_then (own t g.run.core) settled) g.run.left (act_held t g.run.core here)

-- the stack of a task that begins
pub empty_is_stack : IsStack empty
empty_is_stack = record { low = omega arith; high = omega arith; between = refl; few = omega arith }
