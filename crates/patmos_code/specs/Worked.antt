-- For worked rows. Bundles whose words are known, which show that the definitions compute.
use Rattle.std.specs.Prelude.{false, true, Some, None}
use Rattle.patmos_instr.specs.Bundles.{PlainBundle}
use Rattle.patmos_instr.specs.Instructions.{nop}
use Rattle.patmos_instr.specs.declared.functions.AluFunc.TheVariants as alu
use Rattle.patmos_instr.specs.declared.instructions.Op.{Op}
use Rattle.patmos_instr.specs.declared.instructions.Op.TheVariants.{AluReg, AluLong, Store}
use Rattle.patmos_instr.specs.declared.memories.Mem.TheVariants as mem
use Rattle.patmos_instr.specs.declared.memories.StoreWidth.TheVariants as store

-- an operation under (p0), alone in its bundle
abbrev alone : Op → PlainBundle
alone op = record { first = record { guard = record { negated = false; pred = 0 }; op = op }; second = None }

-- addl r2 = r0, 0x01000000
abbrev pub long_add : PlainBundle
long_add = alone (AluLong alu.Add 2 0 0x01000000)

-- sbm [r2 + 1] = r4
abbrev pub byte_store : PlainBundle
byte_store = alone (Store mem.M store.Byte 2 4 1)

-- { (!p2) add r3 = r4, r5 ; nop }
abbrev pub guarded_add : PlainBundle
guarded_add = record {
  first = record { guard = record { negated = true; pred = 2 }; op = AluReg alu.Add 3 4 5 };
  second = Some nop;
}
