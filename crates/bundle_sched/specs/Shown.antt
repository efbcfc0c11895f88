-- For worked rows. Small functions for worked examples.
use Rattle.std.specs.Prelude.{ℕ, [], ◌∷◌}
use Rattle.patmos_instr.specs.Bundles.{PlainBundle}
use Rattle.patmos_instr.specs.declared.instructions.Op.TheVariants.{AluImm, CmpImm, Return}
use Rattle.patmos_instr.specs.declared.functions.CmpFunc.TheVariants as cmp
use Rattle.patmos_instr.specs.declared.functions.ImmFunc.TheVariants as imm
use Rattle.sp_shape.specs.Parts.{PlainParts, no_part, part, one, straight, repeats, leaves}
use Rattle.sp_shape.specs.Small as small
use Rattle.bundle_sched.specs.Packed.{pair}

-- a register = r1 + 1
abbrev pub add_to : ℕ → PlainBundle
add_to r = small.under small.always (AluImm imm.Add r 1 1)

-- p1 = whether r1 is not 0
abbrev pub test : PlainBundle
test = small.under small.always (CmpImm cmp.Neq 1 1 0)

-- two pieces of straight code with a load, and the return
abbrev pub ready : PlainParts
ready =
    part (straight (add_to 2 ∷ add_to 3 ∷ small.load ∷ []))
    (part (straight []) (part (straight (small.idle ∷ add_to 4 ∷ add_to 5 ∷ [])) small.empty))

-- packed, with the load's value in time
abbrev pub packed_ready : PlainParts
packed_ready =
    part (straight (pair (add_to 2) (add_to 3) ∷ small.load ∷ small.idle ∷ []))
    (one (leaves (small.under small.always Return ∷ pair (add_to 4) (add_to 5) ∷ small.idle ∷ small.idle ∷ [])))

-- a loop whose tail tests, loads and adds before its branch, and the return
abbrev pub turning : PlainParts
turning =
    part (repeats 3 (one (straight (add_to 2 ∷ small.idle ∷ add_to 3 ∷ []))) (test ∷ small.load ∷ add_to 4
    ∷ small.again)) small.empty

-- all of the iteration is one piece: the last bundle before the branch stands in its first delay slot, and the branch fills
-- the time of the load
abbrev pub packed_turning : PlainParts
packed_turning =
    part (repeats 3 no_part (pair (add_to 2) (add_to 3) ∷ test ∷ small.load ∷ small.under small.p1 small.branch
    ∷ add_to 4 ∷ small.idle ∷ [])) small.empty

-- ---- to be ordered

-- a register = 1
abbrev pub set : ℕ → PlainBundle
set r = small.under small.always (AluImm imm.Add r 0 1)

-- a register = 1 where p1 is true
abbrev pub set_on : ℕ → PlainBundle
set_on r = small.under small.p1 (AluImm imm.Add r 0 1)

-- an addition, a load, what waits for it, and two that do not; the return
abbrev pub waiting : PlainParts
waiting = part (straight (add_to 2 ∷ small.load ∷ small.square ∷ set 3 ∷ set 4 ∷ [])) small.empty

-- the first of the two stands beside the addition, and the second beside the load
abbrev pub ordered_waiting : PlainParts
ordered_waiting =
    part
    (straight (pair (add_to 2) (set 3) ∷ pair small.load (set 4) ∷ small.idle ∷ small.square ∷ small.idle ∷ []))
    small.empty
