-- For worked rows. Bundles and functions for worked examples.
use Rattle.std.specs.Prelude.{ℕ, [], ◌∷◌, Some}
use Rattle.patmos_instr.specs.Bundles.{PlainBundle}
use Rattle.patmos_instr.specs.declared.functions.AluFunc.TheVariants as alu
use Rattle.patmos_instr.specs.declared.functions.StackFunc.{StackFunc}
use Rattle.patmos_instr.specs.declared.instructions.Op.TheVariants.{AluLong, Load, Stack, Store}
use Rattle.patmos_instr.specs.declared.memories.Mem.{Mem}
use Rattle.patmos_instr.specs.declared.memories.Mem.TheVariants as mem
use Rattle.patmos_instr.specs.declared.memories.StoreWidth.TheVariants as store
use Rattle.patmos_instr.specs.declared.memories.Width.TheVariants as load
use Rattle.sp_shape.specs.Parts.{straight, repeats, PlainParts, part, one}
use Rattle.sp_shape.specs.Small as small

-- r1 = the word of a memory at r2
abbrev pub loads : Mem → PlainBundle
loads space = small.under small.always (Load space load.Word 1 2 0)

-- where p1 is true, the word of main memory at r2 = r1
abbrev pub stores : PlainBundle
stores = small.under small.p1 (Store mem.M store.Word 2 1 0)

abbrev pub stacks : StackFunc → ℕ → PlainBundle
stacks func count = small.under small.always (Stack func count)

-- r1 = r1 + 70000
abbrev pub adds_long : PlainBundle
adds_long = small.under small.always (AluLong alu.Add 1 1 70_000)

-- r1 = r1 + 1, twice at once
abbrev pub adds_both : PlainBundle
adds_both = record { first = (small.add 1).first; second = Some (small.add 1).first }

-- a function that loads through the data cache in each of three iterations
abbrev pub loading : PlainParts
loading = part (repeats 3 (one (straight (loads mem.C ∷ []))) small.again) small.empty

-- one that adds 1 in each of twenty iterations, ten times
abbrev pub nested : PlainParts
nested = part (repeats 10 (one (repeats 20 (one (straight (small.add 1 ∷ []))) small.again)) small.again) small.empty
