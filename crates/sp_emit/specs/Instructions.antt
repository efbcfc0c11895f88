-- To be believed. Bundles of one instruction, as compiled code has them (Patmos Reference Handbook, instruction set).
use Rattle.std.specs.Prelude.{ℕ, pos, true, false, None, nat_lt, if◌then◌else◌}
use Rattle.patmos_instr.specs.Bundles.{PlainBundle}
use Rattle.patmos_instr.specs.Instructions.{nop}
use Rattle.patmos_instr.specs.declared.guards.Guard.{Guard}
use Rattle.patmos_instr.specs.declared.functions.AluFunc.{AluFunc}
use Rattle.patmos_instr.specs.declared.functions.AluFunc.TheVariants as alu
use Rattle.patmos_instr.specs.declared.functions.CmpFunc.{CmpFunc}
use Rattle.patmos_instr.specs.declared.functions.ImmFunc.{ImmFunc}
use Rattle.patmos_instr.specs.declared.functions.ImmFunc.TheVariants as imm
use Rattle.patmos_instr.specs.declared.functions.PredFunc.{PredFunc}
use Rattle.patmos_instr.specs.declared.functions.StackFunc.{StackFunc}
use Rattle.patmos_instr.specs.declared.memories.Mem.{Mem}
use Rattle.patmos_instr.specs.declared.memories.Mem.TheVariants as mem
use Rattle.patmos_instr.specs.declared.memories.StoreWidth.TheVariants as store
use Rattle.patmos_instr.specs.declared.memories.Width.TheVariants as load
use Rattle.patmos_instr.specs.declared.specials.Special.{Special}
use Rattle.patmos_instr.specs.declared.specials.WritableSpecial.{WritableSpecial}
use Rattle.patmos_instr.specs.declared.instructions.Op.{Op}
use Rattle.patmos_instr.specs.declared.instructions.Op.TheVariants.{AluImm, AluReg, AluLong, Mul, Cmp, CmpImm, Comb, ToSpecial, FromSpecial, Stack, Load, Store, Branch, Call, Return}

-- ---- guards

abbrev pub always : Guard
always = record { negated = false; pred = 0 }

-- where a predicate is true, and where it is false
abbrev pub where_so : ℕ → Guard
where_so p = record { negated = false; pred = p }

abbrev pub where_not : ℕ → Guard
where_not p = record { negated = true; pred = p }

-- ---- bundles

abbrev pub under : Guard → Op → PlainBundle
under guard op = record { first = record { guard = guard; op = op }; second = None }

abbrev pub idle : PlainBundle
idle = record { first = nop; second = None }

-- a register gets a whole word, in a bundle of two words; or one of 12 bits
abbrev pub set_long : ℕ → ℕ → PlainBundle
set_long rd n = under always (AluLong alu.Add rd 0 n)

-- a number that an instruction holds is set in one word, and others in two
unfoldable pub number_op : ℕ → ℕ → Op
number_op rd n = if nat_lt n 4096 then AluImm imm.Add rd 0 n else AluLong alu.Add rd 0 n

abbrev pub set_number : ℕ → ℕ → PlainBundle
set_number rd n = under always (number_op rd n)

abbrev pub set_short : Guard → ℕ → ℕ → PlainBundle
set_short guard rd n = under guard (AluImm imm.Add rd 0 n)

-- a register gets what another holds
abbrev pub copy : ℕ → ℕ → PlainBundle
copy rd ra = under always (AluImm imm.Add rd ra 0)

abbrev pub with_short : Guard → ImmFunc → ℕ → ℕ → ℕ → PlainBundle
with_short guard func rd ra n = under guard (AluImm func rd ra n)

abbrev pub compute : Guard → AluFunc → ℕ → ℕ → ℕ → PlainBundle
compute guard func rd ra rb = under guard (AluReg func rd ra rb)

abbrev pub compare : CmpFunc → ℕ → ℕ → ℕ → PlainBundle
compare func pd ra rb = under always (Cmp func pd ra rb)

abbrev pub compare_short : CmpFunc → ℕ → ℕ → ℕ → PlainBundle
compare_short func pd ra n = under always (CmpImm func pd ra n)

-- a predicate gets what two others come to
abbrev pub combine : PredFunc → ℕ → ℕ → ℕ → PlainBundle
combine func pd a b = under always (Comb func pd (where_so a) (where_so b))

abbrev pub multiply : ℕ → ℕ → PlainBundle
multiply ra rb = under always (Mul false ra rb)

abbrev pub multiply_unsigned : ℕ → ℕ → PlainBundle
multiply_unsigned ra rb = under always (Mul true ra rb)

abbrev pub from_special : ℕ → Special → PlainBundle
from_special rd special = under always (FromSpecial rd special)

abbrev pub to_special : WritableSpecial → ℕ → PlainBundle
to_special special ra = under always (ToSpecial special ra)

abbrev pub stack_op : StackFunc → ℕ → PlainBundle
stack_op func count = under always (Stack func count)

-- a register gets the word so many words after the address in a register; or that of the stack, so many from its top
abbrev pub load_from : Mem → ℕ → ℕ → ℕ → PlainBundle
load_from space rd ra words = under always (Load space load.Word rd ra words)

abbrev pub load_slot : ℕ → ℕ → PlainBundle
load_slot rd slot = under always (Load mem.S load.Word rd 0 slot)

-- the word so many words after the address in a register is set; or one of the stack
abbrev pub store_to : Guard → Mem → ℕ → ℕ → ℕ → PlainBundle
store_to guard space ra rs words = under guard (Store space store.Word ra rs words)

abbrev pub store_slot : Guard → ℕ → ℕ → PlainBundle
store_slot guard slot rs = under guard (Store mem.S store.Word 0 rs slot)

-- ---- flows, whose targets are not known yet

abbrev pub branch : ℕ → PlainBundle
branch p = under (where_so p) (Branch (pos 0))

abbrev pub call : PlainBundle
call = under always (Call 0)

abbrev pub return : PlainBundle
return = under always Return
