-- Code that stores in no register of the interface starts no transfer; and code after other code.
use Rattle.std.proofs.Common.{is_none, ◌∙◌, ◌≡◌, true≢false, Bool, true, false, if◌then◌else◌, List, [], ◌∷◌, ◌++◌, sym, refl}
use Rattle.std.specs.List.{list_all}
use Rattle.std.proofs.lemmas.Bool.{and_parts}
use Rattle.patmos_instr.specs.Bundles.{PlainBundle}
use Rattle.patmos_instr.specs.declared.instructions.Op.{Op}
use Rattle.patmos_instr.specs.declared.instructions.Op.TheVariants.{Store}
use Rattle.patmos_instr.specs.declared.memories.Mem.TheVariants as mem
use Rattle.patmos_instr.specs.declared.memories.StoreWidth.TheVariants as store
use Rattle.patmos_sem.specs.Effects.{asked}
use Rattle.patmos_sem.specs.Registers.{Registers, holds}
use Rattle.patmos_sem.specs.declared.effects.Effect.TheVariants as effect
use Rattle.sp_shape.specs.Memory.{Memory}
use Rattle.sp_shape.specs.Run.{Run, Sources, once, run, begun}
use Rattle.sp_shape.specs.Trail.{Step, does, begins, all_done}
use Rattle.sp_emit.specs.Starting.{StartsWell, AllStart, AllWords}
use Rattle.sp_shape.proofs.Lists.{all_weaker}
use Rattle.sp_emit.proofs.Effects.{Footprint, keeps_to, is_in, AreIn, everything}

-- ---- code that stores in no register of the interface

abbrev pub is_portless_op : Op → Bool
is_portless_op (Store mem.L width ra rs imm) = false
is_portless_op _ = true

abbrev pub is_portless : PlainBundle → Bool
is_portless b = is_portless_op b.first.op

portless_well : (on : Bool) (op : Op) (regs : Registers) (k : Memory) → is_portless_op op ≡ true
    → StartsWell (if on then asked regs op else effect.Nothing) k
portless_well false op regs k e = tt
portless_well true (Store mem.L width ra rs imm) regs k e = absurd (true≢false (sym e))
portless_well true (Store _ width ra rs imm) regs k e = tt
portless_well true _ regs k e = tt

pub portless_start : (from : Sources) (bs : List PlainBundle) (m : Run) → list_all is_portless bs ≡ true
    → AllStart from (all_done bs) m
portless_start from [] m all = tt
portless_start from (b ∷ bs) m all =
    let both = and_parts (is_portless b) (list_all is_portless bs) all in (
      portless_well (holds m.regs b.first.guard) b.first.op m.regs m.memory both.0,
      portless_start from bs (once from b m) both.1,
    )

portless_in : (F : Footprint) → F.writes ≡ false → (b : PlainBundle) → is_in F b ≡ true → is_portless b ≡ true
portless_in F none b within =
    by b.first.op (and_parts (keeps_to F b.first.guard b.first.op) (is_none b.second) within).0
  where
    by : (op : Op) → keeps_to F b.first.guard op ≡ true → is_portless_op op ≡ true
    by (Store mem.L store.Word ra rs imm) keeps = absurd (true≢false (sym keeps ∙ none))
    by (Store mem.L _ ra rs imm) keeps = absurd cc
    by _ keeps = refl

-- where no other memory than the stack is written
abbrev pub unwritten : Footprint
unwritten = record everything { writes = false }

pub unwritten_start : (from : Sources) (F : Footprint) → F.writes ≡ false → (bs : List PlainBundle) (m : Run)
    → AreIn F bs → AllStart from (all_done bs) m
unwritten_start from F none bs m all =
    portless_start from bs m (all_weaker (is_in F) is_portless (portless_in F none) bs all)

pub start_append : (from : Sources) (xs ys : List Step) (m : Run) → AllStart from xs m
    → AllStart from ys (run from xs m) → AllStart from (xs ++ ys) m
start_append from [] ys m a b = b
start_append from (does x ∷ xs) ys m a b = (a.0, start_append from xs ys (once from x m) a.1 b)
start_append from (begins ∷ xs) ys m a b = start_append from xs ys (begun m) a b

-- registers that hold words before each bundle of both do so before each of one
pub words_left : (from : Sources) (xs ys : List Step) (m : Run) → AllWords from (xs ++ ys) m → AllWords from xs m
words_left from [] ys m words = tt
words_left from (does x ∷ xs) ys m words = (words.0, words_left from xs ys (once from x m) words.1)
words_left from (begins ∷ xs) ys m words = words_left from xs ys (begun m) words

pub words_right : (from : Sources) (xs ys : List Step) (m : Run) → AllWords from (xs ++ ys) m
    → AllWords from ys (run from xs m)
words_right from [] ys m words = words
words_right from (does x ∷ xs) ys m words = words_right from xs ys (once from x m) words.1
words_right from (begins ∷ xs) ys m words = words_right from xs ys (begun m) words
