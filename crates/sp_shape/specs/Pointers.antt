-- To be believed. The stack's pointers along what a run asks for; and when all of it is within
-- the stack: an access reaches a word that the stack cache holds, and an instruction leaves the
-- top in the stack's region (our own profile TP1).
use Rattle.std.specs.Prelude.{ℕ, ◌+◌, ◌-◌, ◌/◌, ◌<◌, ◌≤◌, min, max, List, [], ◌∷◌}
use Rattle.stack_cache.specs.declared.slots.TheConstants.{STACK_CACHE_WORDS}
use Rattle.stack_cache.specs.declared.stack.TheConstants.{STACK_END, STACK_LOWEST}
use Rattle.patmos_instr.specs.declared.functions.StackFunc.TheVariants.{Sres, Sens, Sfree}
use Rattle.patmos_instr.specs.declared.memories.Mem.TheVariants as mem
use Rattle.patmos_sem.specs.declared.effects.Effect.{Effect}
use Rattle.patmos_sem.specs.declared.effects.Effect.TheVariants as effect
use Rattle.sp_shape.specs.Run.{Run}

-- the top of the stack, and the end of the words of it that the stack cache holds
pub record Pointers : Type 0 where
  pub st : ℕ
  pub ss : ℕ

abbrev pub pointers_of : Run → Pointers
pointers_of m = record { st = m.st; ss = m.ss }

-- where stack instructions move them
abbrev pub moved : Effect → Pointers → Pointers
moved (effect.StackOp Sres count) p = record { st = p.st - count; ss = min p.ss (p.st - count + STACK_CACHE_WORDS) }
moved (effect.StackOp Sens count) p = record { st = p.st; ss = max p.ss (p.st + count) }
moved (effect.StackOp Sfree count) p = record { st = p.st + count; ss = max p.ss (p.st + count) }
moved _ p = p

abbrev pub moved_by : List Effect → Pointers → Pointers
moved_by [] p = p
moved_by (e ∷ es) p = moved_by es (moved e p)

abbrev pub IsWithinStack : Effect → Pointers → Type 0
IsWithinStack (effect.Load mem.S width rd address) p = p.st + address / 4 < p.ss
IsWithinStack (effect.Store mem.S width address value) p = p.st + address / 4 < p.ss
IsWithinStack (effect.StackOp Sres count) p = (count ≤ STACK_CACHE_WORDS) × (STACK_LOWEST + count ≤ p.st)
IsWithinStack (effect.StackOp Sens count) p = (count ≤ STACK_CACHE_WORDS) × (p.st + count ≤ STACK_END)
IsWithinStack (effect.StackOp Sfree count) p = (count ≤ STACK_CACHE_WORDS) × (p.st + count ≤ STACK_END)
IsWithinStack _ p = Unit {0}

-- all that is asked for, one after another
abbrev pub AreWithinStack : List Effect → Pointers → Type 0
AreWithinStack [] p = Unit {0}
AreWithinStack (e ∷ es) p = IsWithinStack e p × AreWithinStack es (moved e p)
