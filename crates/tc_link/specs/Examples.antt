-- For worked rows. A bundle, shapes and walks for worked examples.
use Rattle.std.specs.Prelude.{ℕ, List, [], ◌∷◌, Some}
use Rattle.patmos_instr.specs.Bundles.{PlainBundle}
use Rattle.patmos_instr.specs.declared.functions.AluFunc.TheVariants as alu
use Rattle.patmos_instr.specs.declared.instructions.Op.TheVariants.{AluLong, FromSpecial, ToSpecial}
use Rattle.patmos_instr.specs.declared.specials.Special.TheVariants as special
use Rattle.patmos_instr.specs.declared.specials.WritableSpecial.TheVariants as writable
use Rattle.patmos_model.specs.declared.flow.Goal.{Goal}
use Rattle.sp_shape.specs.Parts.{PlainShape, straight, repeats, calls_to, part, one}
use Rattle.sp_shape.specs.Run.{Run, at_begin}
use Rattle.sp_shape.specs.Small as small
use Rattle.tc_link.specs.Backs.{backs_of}
use Rattle.tc_link.specs.Walk.{Walk}

-- r1 = r1 + 70000
abbrev pub adds_long : PlainBundle
adds_long = small.under small.always (AluLong alu.Add 1 1 70_000)

-- a function that returns at once, and one that calls it: the latter is run, or the former
abbrev pub second_run : PlainShape
second_run = small.shape_of (small.empty ∷ small.caller 0 ∷ []) 1

abbrev pub first_run : PlainShape
first_run = small.shape_of (small.empty ∷ small.caller 0 ∷ []) 0

-- a walk at offset 5 of the function at 1, with a flow that has so many delay slots left
abbrev pub asking : Goal → ℕ → Walk
asking to slots =
    record { run = small.beginning; base = 1; offset = 5; flow = Some (record { goal = to; slots = slots }) }

-- a function that keeps the place to which it returns in r2 and r3, calls the one of number 0 in a single iteration, and
-- returns
abbrev pub keeps_place : List PlainBundle
keeps_place =
    small.under small.always (FromSpecial 2 special.Srb) ∷ small.under small.always (FromSpecial 3 special.Sro) ∷ []

abbrev pub sets_place : List PlainBundle
sets_place =
    small.under small.always (ToSpecial writable.Srb 2) ∷ small.under small.always (ToSpecial writable.Sro 3) ∷ []

abbrev pub one_call : PlainShape
one_call = small.shape_of
    (small.empty ∷ part (straight keeps_place)
    (part (repeats 1 (one (calls_to 0 small.call)) small.again) (part (straight sets_place) small.empty)) ∷ []) 1

-- a task that begins, and is told to where the calls of a shape return
abbrev pub task_of : PlainShape → Run
task_of s = at_begin small.memory [] (backs_of s)
