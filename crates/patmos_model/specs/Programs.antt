-- For worked rows. Small programs for worked values, as lists of bundles, and the core that runs one.
use Rattle.std.specs.Prelude.{ℕ, false, List, [], ◌∷◌, ◌++◌, length, Some, None, replicate}
use Rattle.slot_arbiter.specs.Table.{in_turn}
use Rattle.patmos_instr.specs.Bundles.{PlainBundle}
use Rattle.patmos_instr.specs.Instructions.{nop}
use Rattle.patmos_instr.specs.declared.guards.Guard.{Guard}
use Rattle.patmos_instr.specs.declared.functions.ImmFunc.TheVariants as imm
use Rattle.patmos_instr.specs.declared.functions.AluFunc.TheVariants as alu
use Rattle.patmos_instr.specs.declared.functions.CmpFunc.TheVariants as cmp
use Rattle.patmos_instr.specs.declared.functions.StackFunc.TheVariants.{Sres, Sens, Sfree}
use Rattle.patmos_instr.specs.declared.memories.Mem.{Mem}
use Rattle.patmos_instr.specs.declared.memories.Width.TheVariants as load
use Rattle.patmos_instr.specs.declared.memories.StoreWidth.TheVariants as store
use Rattle.patmos_instr.specs.declared.specials.WritableSpecial.{WritableSpecial}
use Rattle.patmos_instr.specs.declared.instructions.Op.{Op}
use Rattle.patmos_instr.specs.declared.instructions.Op.TheVariants.{AluImm, AluReg, AluLong, CmpImm, ToSpecial, Stack, Load, Store, Call, Return}
use Rattle.patmos_code.specs.Codes.{code}
use Rattle.patmos_code.specs.Images.{Parts, starts_of}
use Rattle.local_store.specs.declared.store.TheConstants.{INPUT_WORDS}
use Rattle.patmos_model.specs.State.{Core}
use Rattle.patmos_model.specs.Begin.{begun, idle}

-- an instruction under a guard, alone in its bundle
abbrev pub guarded : Guard → Op → PlainBundle
guarded guard op = record { first = record { guard = guard; op = op }; second = None }

-- an instruction that is always done
abbrev pub alone : Op → PlainBundle
alone op = guarded (record { negated = false; pred = 0 }) op

-- the first slot of one bundle beside that of another
abbrev pub beside : PlainBundle → PlainBundle → PlainBundle
beside one other = record { first = one.first; second = Some other.first }

abbrev pub nops : ℕ → List PlainBundle
nops count = replicate count (record { first = nop; second = None })

-- addi rd = ra, n; subi; addl; add
abbrev pub addi : ℕ → ℕ → ℕ → PlainBundle
addi rd ra n = alone (AluImm imm.Add rd ra n)

abbrev pub subi : ℕ → ℕ → ℕ → PlainBundle
subi rd ra n = alone (AluImm imm.Sub rd ra n)

abbrev pub sli : ℕ → ℕ → ℕ → PlainBundle
sli rd ra n = alone (AluImm imm.Sl rd ra n)

abbrev pub addl : ℕ → ℕ → ℕ → PlainBundle
addl rd ra constant = alone (AluLong alu.Add rd ra constant)

abbrev pub add : ℕ → ℕ → ℕ → PlainBundle
add rd ra rb = alone (AluReg alu.Add rd ra rb)

-- cmpineq pd = ra, n
abbrev pub cmpineq : ℕ → ℕ → ℕ → PlainBundle
cmpineq pd ra n = alone (CmpImm cmp.Neq pd ra n)

-- a whole word, from and to a memory: lw rd = [ra + n]; sw [ra + n] = rs
abbrev pub lw : Mem → ℕ → ℕ → ℕ → PlainBundle
lw space rd ra n = alone (Load space load.Word rd ra n)

abbrev pub sw : Mem → ℕ → ℕ → ℕ → PlainBundle
sw space ra n rs = alone (Store space store.Word ra rs n)

-- mts special = ra
abbrev pub mts : WritableSpecial → ℕ → PlainBundle
mts special ra = alone (ToSpecial special ra)

abbrev pub sres : ℕ → PlainBundle
sres count = alone (Stack Sres count)

abbrev pub sens : ℕ → PlainBundle
sens count = alone (Stack Sens count)

abbrev pub sfree : ℕ → PlainBundle
sfree count = alone (Stack Sfree count)

abbrev pub call : ℕ → PlainBundle
call target = alone (Call target)

-- a return and its three delay slots
abbrev pub ret : List PlainBundle → List PlainBundle
ret slots = alone Return ∷ slots

-- the words of bundles one after another
abbrev pub words_of : List PlainBundle → List ℕ
words_of [] = []
words_of (b ∷ bs) = code b ++ words_of bs

-- the words of functions one after another, each after its size
abbrev pub code_of : List (List PlainBundle) → List ℕ
code_of [] = []
code_of (f ∷ fs) = length (words_of f) ∷ (words_of f ++ code_of fs)

-- the image of functions of code, without initial words, with the room for input of one that was assembled
abbrev pub image_of : List (List PlainBundle) → Parts
image_of functions = record {
  words = code_of functions;
  starts = starts_of (code_of functions);
  initial = [];
  input_at = 4;
  input_room = INPUT_WORDS;
}

-- a core of n with a slot table and slots of six cycles, whose task has this image and starts at a cycle
abbrev pub with_image : List ℕ → ℕ → ℕ → ℕ → Parts → Core
with_image table n core start image = begun (record {
  cores = n;
  core = core;
  slot = 6;
  table = table;
  start = start;
  image = image;
}) []

-- one whose task has these functions
abbrev pub tabled : List ℕ → ℕ → ℕ → ℕ → List (List PlainBundle) → Core
tabled table n core start functions = with_image table n core start (image_of functions)

-- a core among n that take their slots in turn
abbrev pub core_of : ℕ → ℕ → ℕ → List (List PlainBundle) → Core
core_of n core start functions = tabled (in_turn n) n core start functions

-- one without a task
abbrev pub resting : ℕ → ℕ → Core
resting n core = idle (record {
  cores = n;
  core = core;
  slot = 6;
  table = in_turn n;
  start = 0;
  image = image_of [];
})

-- `main` of five bundles: r1 becomes 7
abbrev pub seven : List (List PlainBundle)
seven = (addi 1 0 7 ∷ ret (nops 3)) ∷ []

-- the first word alone of a bundle of two words, a long addition
abbrev pub half_bundle : Parts
half_bundle = record (image_of seven) { words = 1 ∷ 0x85840000 ∷ []; starts = 1 ∷ [] }

-- an image with two initial words and room for one word of input over the second
abbrev pub with_input : Parts
with_input = record (image_of seven) { initial = 1 ∷ 2 ∷ []; input_at = 5; input_room = 1 }
