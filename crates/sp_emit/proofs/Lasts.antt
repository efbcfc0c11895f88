-- The instruction in which the code of an expression ends, and words of the frame that are set by it under a mask.
use Rattle.std.proofs.Common.{◌≡◌, ℕ, ◌+◌, ◌<◌, Bool, true, false, if◌then◌else◌, nat_lt, Option, None, Some, [], ◌∷◌, refl, sym, ◌∙◌, arith, true≢false, ◌==◌, eq-eqb}
use Rattle.std.proofs.lemmas.Bool.{ltb-true}
use Rattle.patmos_instr.specs.declared.guards.Guard.{Guard}
use Rattle.patmos_instr.specs.declared.functions.ImmFunc.{ImmFunc}
use Rattle.patmos_instr.specs.declared.functions.ImmFunc.TheVariants as imm
use Rattle.patmos_instr.specs.declared.instructions.Op.{Op}
use Rattle.patmos_instr.specs.declared.instructions.Op.TheVariants.{AluImm, AluReg, AluLong, Load}
use Rattle.patmos_instr.specs.declared.memories.Mem.TheVariants as mem
use Rattle.patmos_instr.specs.declared.memories.Width.TheVariants as load
use Rattle.sp_tree.specs.Need.{need}
use Rattle.sp_tree.specs.Plain.{PlainSp, constant, frame_word, cell_word, array_word, before_one, between_two}
use Rattle.sp_tree.specs.Statements.{PlainSpTarget, to_slot, to_cell, to_array}
use Rattle.sp_tree.specs.declared.operators.SpBinary.{SpBinary}
use Rattle.sp_tree.specs.declared.operators.SpBinary.TheVariants as binary
use Rattle.sp_tree.specs.declared.operators.SpUnary.{SpUnary}
use Rattle.sp_tree.specs.declared.operators.SpUnary.TheVariants as unary
use Rattle.patmos_sem.specs.Registers.{holds}
use Rattle.sp_shape.specs.Run.{Run, Sources, once, IsWhole}
use Rattle.sp_shape.specs.Parts.{straight, PlainParts, one, joined}
use Rattle.sp_emit.specs.Endings.{imm_of, unary_op, binary_op, held_op, home_op, last_op}
use Rattle.sp_emit.specs.Expressions.{immediate_below, unary_code, binary_code, held_code, number_of, word_code, value_at, is_immediate, value_code, expr_code}
use Rattle.sp_emit.specs.Instructions.{always, under, set_number, number_op}
use Rattle.sp_emit.specs.Places.{flag_of, in_register, read_op, stack_word}
use Rattle.sp_emit.specs.Statements.{target_write, guarded_code, write_by, write_code}
use Rattle.sp_emit.specs.declared.registers.TheConstants.{FIRST, OVERRUN}
use Rattle.sp_emit.proofs.Numbers.{number_op_is}
use Rattle.sp_emit.proofs.Once.{did_write}
use Rattle.sp_emit.specs.declared.stands.Homes.{Homes}

-- an instruction that gives a register, by its number, a value of others and of a number
abbrev pub is_alu : ℕ → Op → Bool
is_alu to (AluImm func rd ra imm) = rd == to
is_alu to (AluReg func rd ra rb) = rd == to
is_alu to (AluLong func rd ra number) = rd == to
is_alu to _ = false

same : (to : ℕ) → (to == to) ≡ true
same to = eq-eqb to to refl

-- one that is the code of a value
pub record Gives (to : ℕ) (code : PlainParts) (op : Op) : Type 0 where
  pub alu : is_alu to op ≡ true
  pub is : code ≡ one (straight (under always op ∷ []))

abbrev Ends : ℕ → PlainParts → Option Op → Type 0
Ends to code None = Unit {0}
Ends to code (Some op) = Gives to code op

number_ends : (rd n : ℕ) → Gives rd (one (straight (set_number rd n ∷ []))) (number_op rd n)
number_ends rd n = record { alu = number_op_is (λ op. is_alu rd op ≡ true) rd n (same rd) (same rd); is = refl }

home_ends : (homes : Homes) (slot to : ℕ)
    → Ends to (one (straight (word_code (flag_of homes.flags slot) homes.first to slot))) (home_op
    (flag_of homes.flags slot) homes.first slot to)
unfolding read_op
home_ends homes slot to = by (flag_of homes.flags slot) (in_register homes.first slot) refl
  where
    plain : (b : Bool)
        → Ends to (one (straight (under always (if b then AluImm imm.Add to (homes.first + slot) 0 else Load mem.S
        load.Word to 0 (stack_word homes.first slot)) ∷ [])))
        (if b then Some (AluImm imm.Add to (homes.first + slot) 0) else None)
    plain true = record { alu = same to; is = refl }
    plain false = tt

    by : (o : Option ℕ) (b : Bool) → in_register homes.first slot ≡ b
        → Ends to (one (straight (word_code o homes.first to slot))) (home_op o homes.first slot to)
    by None b is = plain (in_register homes.first slot)
    by (Some p) b is = tt

unary_ends : (op : SpUnary) (to ra : ℕ) → Ends to (one (straight (unary_code op to ra))) (unary_op op to ra)
unary_ends unary.Minus to ra = record { alu = same to; is = refl }
unary_ends unary.Complement to ra = record { alu = same to; is = refl }
unary_ends unary.Not to ra = tt

binary_ends : (op : SpBinary) (to ra rb : ℕ) → Ends to (binary_code op to ra rb) (binary_op op to ra rb)
binary_ends binary.BitOr to ra rb = record { alu = same to; is = refl }
binary_ends binary.BitXor to ra rb = record { alu = same to; is = refl }
binary_ends binary.BitAnd to ra rb = record { alu = same to; is = refl }
binary_ends binary.ShiftLeft to ra rb = record { alu = same to; is = refl }
binary_ends binary.ShiftRight to ra rb = record { alu = same to; is = refl }
binary_ends binary.ShiftRightUnsigned to ra rb = record { alu = same to; is = refl }
binary_ends binary.Plus to ra rb = record { alu = same to; is = refl }
binary_ends binary.Minus to ra rb = record { alu = same to; is = refl }
binary_ends _ to ra rb = tt

held_ends : (op : SpBinary) (to ra n : ℕ) → Ends to (one (straight (held_code op to ra n))) (held_op op to ra n)
held_ends binary.BitOr to ra n = record { alu = same to; is = refl }
held_ends binary.BitXor to ra n = record { alu = same to; is = refl }
held_ends binary.BitAnd to ra n = record { alu = same to; is = refl }
held_ends binary.ShiftLeft to ra n = record { alu = same to; is = refl }
held_ends binary.ShiftRight to ra n = record { alu = same to; is = refl }
held_ends binary.ShiftRightUnsigned to ra n = record { alu = same to; is = refl }
held_ends binary.Plus to ra n = record { alu = same to; is = refl }
held_ends binary.Minus to ra n = record { alu = same to; is = refl }
held_ends _ to ra n = tt

last_ends : (homes : Homes) (e : PlainSp) (rd to : ℕ) → Ends to (value_code homes e rd to) (last_op homes e rd to)
last_ends homes (constant n) rd to = number_ends to n
last_ends homes (frame_word slot) rd to = home_ends homes slot to
last_ends homes (cell_word cell) rd to = tt
last_ends homes (array_word array index) rd to = tt
last_ends homes (before_one op of) rd to = unary_ends op to (value_at homes of rd)
last_ends homes (between_two op a b) rd to = by (is_immediate op b) (nat_lt (need a) (need b))
  where
    by : (held less : Bool) → Ends to (if held then one (straight (held_code op to (value_at homes a rd) (number_of b)))
        else if less then binary_code op to (value_at homes a (rd + 1)) (value_at homes b rd) else binary_code op to
        (value_at homes a rd) (value_at homes b (rd + 1)))
        (if held then held_op op to (value_at homes a rd) (number_of b) else if less then binary_op op to
        (value_at homes a (rd + 1)) (value_at homes b rd) else binary_op op to (value_at homes a rd)
        (value_at homes b (rd + 1)))
    by true less = held_ends op to (value_at homes a rd) (number_of b)
    by false true = binary_ends op to (value_at homes a (rd + 1)) (value_at homes b rd)
    by false false = binary_ends op to (value_at homes a rd) (value_at homes b (rd + 1))

-- the number of one stands in it
pub imm_small : (op : SpBinary) (func : ImmFunc) (n : ℕ) → imm_of op ≡ Some func → n < immediate_below op → n < 4096
imm_small op func n is below = grind (arith, is, below)

-- what it does under a predicate that is true
pub alu_on : (from : Sources) (to : ℕ) (g : Guard) (op : Op) (m : Run) → is_alu to op ≡ true → IsWhole m
    → holds m.regs g ≡ true
    → once from (under g op) m ≡ once from (under always op) m
alu_on from to g (AluImm func rd ra imm) m alu whole on = did_write from g (AluImm func rd ra imm) m whole on refl refl
    ∙ sym (did_write from always (AluImm func rd ra imm) m whole whole.fits.always refl refl)
alu_on from to g (AluReg func rd ra rb) m alu whole on = did_write from g (AluReg func rd ra rb) m whole on refl refl
    ∙ sym (did_write from always (AluReg func rd ra rb) m whole whole.fits.always refl refl)
alu_on from to g (AluLong func rd ra number) m alu whole on =
    did_write from g (AluLong func rd ra number) m whole on refl
    refl ∙ sym (did_write from always (AluLong func rd ra number) m whole whole.fits.always refl refl)
alu_on from to g _ m alu whole on = absurd (true≢false (sym alu))

-- ---- what is set under a mask: by that instruction, or from the first register

pub slot_write_is : (P : PlainParts → Type 0) (homes : Homes) (mask slot : ℕ) (e : PlainSp)
    → P (joined (expr_code homes e FIRST) (target_write homes mask (to_slot slot)))
    → ((op : Op) → homes.first + slot < OVERRUN → Gives (homes.first + slot) (value_code homes e FIRST
    (homes.first + slot)) op
    → P (guarded_code homes mask e op)) → P (write_code homes mask (to_slot slot) e)
slot_write_is P homes mask slot e other guarded = by (in_register homes.first slot) refl
  where
    ended : homes.first + slot < OVERRUN → (o : Option Op) → Ends (homes.first + slot) (value_code homes e FIRST
        (homes.first + slot)) o
        → P (write_by homes mask (to_slot slot) e o)
    ended lt None ends = other
    ended lt (Some op) ends = guarded op lt ends

    by : (b : Bool) → in_register homes.first slot ≡ b
        → P (write_by homes mask (to_slot slot) e (if b then last_op homes e FIRST (homes.first + slot) else None))
    by false is = other
    by true is = ended (ltb-true (homes.first + slot) OVERRUN is) (last_op homes e FIRST (homes.first + slot))
        (last_ends homes e FIRST (homes.first + slot))

pub write_is : (P : PlainParts → Type 0) (homes : Homes) (mask : ℕ) (target : PlainSpTarget) (e : PlainSp)
    → P (joined (expr_code homes e FIRST) (target_write homes mask target))
    → ((slot : ℕ) (op : Op) → target ≡ to_slot slot → Gives (homes.first + slot) (value_code homes e FIRST
    (homes.first + slot)) op
    → P (guarded_code homes mask e op)) → P (write_code homes mask target e)
write_is P homes mask (to_cell cell) e other guarded = other
write_is P homes mask (to_array array index) e other guarded = other
write_is P homes mask (to_slot slot) e other guarded =
    slot_write_is P homes mask slot e other (λ op here gives. guarded slot op refl gives)
