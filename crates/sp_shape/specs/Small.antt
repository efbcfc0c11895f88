-- To be believed. Small shapes for worked examples.
use Rattle.std.specs.Prelude.{ℕ, pos, true, false, List, [], ◌∷◌, None}
use Rattle.patmos_instr.specs.Bundles.{PlainBundle}
use Rattle.patmos_instr.specs.Instructions.{nop}
use Rattle.patmos_instr.specs.declared.guards.Guard.{Guard}
use Rattle.patmos_instr.specs.declared.instructions.Op.{Op}
use Rattle.patmos_instr.specs.declared.instructions.Op.TheVariants.{AluImm, Branch, Call, Load, Mul, Return}
use Rattle.patmos_instr.specs.declared.functions.ImmFunc.TheVariants as imm
use Rattle.patmos_instr.specs.declared.memories.Mem.TheVariants as mem
use Rattle.patmos_instr.specs.declared.memories.Width.TheVariants as load_width
use Rattle.shared_order.specs.Words.{put}
use Rattle.sp_shape.specs.Memory.{Memory}
use Rattle.sp_shape.specs.Run.{Run, at_begin}
use Rattle.sp_shape.specs.Parts.{straight, repeats, calls_to, leaves, PlainParts, part, one, PlainShape}

abbrev pub always : Guard
always = record { negated = false; pred = 0 }

abbrev pub under : Guard → Op → PlainBundle
under guard op = record { first = record { guard = guard; op = op }; second = None }

abbrev pub idle : PlainBundle
idle = record { first = nop; second = None }

-- r1 = r1 + n
abbrev pub add : ℕ → PlainBundle
add n = under always (AluImm imm.Add 1 1 n)

abbrev pub p1 : Guard
p1 = record { negated = false; pred = 1 }

abbrev pub branch : Op
branch = Branch (pos 0)

-- where p1 is true, back to the begin of what is repeated
abbrev pub again : List PlainBundle
again = under p1 branch ∷ idle ∷ idle ∷ []

abbrev pub call_op : Op
call_op = Call 0

abbrev pub call : List PlainBundle
call = under always call_op ∷ idle ∷ idle ∷ idle ∷ []

abbrev pub return : List PlainBundle
return = under always Return ∷ idle ∷ idle ∷ idle ∷ []

-- a function that returns at once
abbrev pub empty : PlainParts
empty = one (leaves return)

-- one that adds 1, does three iterations in which it calls the one of a number, and adds 2
abbrev pub caller : ℕ → PlainParts
caller k =
    part (straight (add 1 ∷ [])) (part (repeats 3 (one (calls_to k call)) again) (part (straight (add 2 ∷ [])) empty))

abbrev pub shape_of : List PlainParts → ℕ → PlainShape
shape_of functions entry = record { functions = functions; entry = entry; initial = []; input_at = 4; input_room = 0 }

-- ---- runs

-- r1 = the first word of the scratchpad
abbrev pub load : PlainBundle
load = under always (Load mem.L load_width.Word 1 0 0)

-- r1 = r1 * r1, as far as it fits sl
abbrev pub square : PlainBundle
square = under always (Mul true 1 1)

-- the first word of the scratchpad is 7, and all others are 0
abbrev pub memory : Memory
memory = record {
  scratch = put 0 7 (λ _. 0);
  comm = λ _. 0;
  private = λ _. 0;
  shared = λ _. 0;
  source = λ _. 0;
  target = λ _. 0;
  starts = [];
}

-- a task that begins, whose loads give 5 where that is told, and whose call returns to offset 9 of the function at 3
abbrev pub beginning : Run
beginning = at_begin memory (5 ∷ []) (record { base = 3; offset = 9 } ∷ [])
