-- To be believed. The code of expressions: it leaves a value in a register, and works its operands out in registers from
-- one on, beside those that are spare. Of two operands the one of the greater need is worked out first, so that registers
-- suffice.
use Rattle.std.specs.Prelude.{ℕ, ◌+◌, ◌-◌, ◌*◌, ◌^◌, ◌==◌, ◌&&◌, ◌||◌, nat_lt, nat_le, Bool, true, false, if◌then◌else◌, List, [], ◌∷◌, Option, None, Some, is_none}
use Rattle.patmos_instr.specs.Bundles.{PlainBundle}
use Rattle.patmos_instr.specs.declared.functions.AluFunc.{AluFunc}
use Rattle.patmos_instr.specs.declared.functions.AluFunc.TheVariants as alu
use Rattle.patmos_instr.specs.declared.functions.CmpFunc.{CmpFunc}
use Rattle.patmos_instr.specs.declared.functions.CmpFunc.TheVariants as cmp
use Rattle.patmos_instr.specs.declared.functions.ImmFunc.{ImmFunc}
use Rattle.patmos_instr.specs.declared.functions.ImmFunc.TheVariants as imm
use Rattle.patmos_instr.specs.declared.functions.PredFunc.{PredFunc}
use Rattle.patmos_instr.specs.declared.functions.PredFunc.TheVariants as comb
use Rattle.patmos_instr.specs.declared.instructions.Op.{Op}
use Rattle.patmos_instr.specs.declared.instructions.Op.TheVariants.{AluImm, AluReg, Cmp, CmpImm}
use Rattle.patmos_instr.specs.declared.memories.Mem.{Mem}
use Rattle.patmos_instr.specs.declared.memories.Mem.TheVariants as mem
use Rattle.patmos_instr.specs.declared.specials.Special.TheVariants as special
use Rattle.c_world.specs.declared.region.Region.{Region}
use Rattle.c_world.specs.declared.region.Region.TheVariants as region
use Rattle.sp_tree.specs.Need.{need}
use Rattle.sp_tree.specs.Plain.{PlainSp, constant, frame_word, cell_word, array_word, before_one, between_two}
use Rattle.sp_tree.specs.declared.expressions.SpArray.{SpArray}
use Rattle.sp_tree.specs.declared.expressions.SpCell.{SpCell}
use Rattle.sp_tree.specs.declared.operators.SpBinary.{SpBinary}
use Rattle.sp_tree.specs.declared.operators.SpBinary.TheVariants as binary
use Rattle.sp_tree.specs.declared.operators.SpUnary.{SpUnary}
use Rattle.sp_tree.specs.declared.operators.SpUnary.TheVariants as unary
use Rattle.sp_shape.specs.Parts.{straight, PlainParts, no_part, one, joined}
use Rattle.sp_emit.specs.Divisors.{is_power, is_exact, power_quotient_to, power_rest_to, factor_quotient_to, factor_rest_to, signed_to}
use Rattle.sp_emit.specs.Division.{unsigned_quotient_to, unsigned_rest_to, signed_quotient_to, signed_rest_to, unsigned_division, signed_division}
use Rattle.sp_emit.specs.Instructions.{always, where_so, where_not, under, number_op, set_number, set_short, compute, with_short, compare, compare_short, combine, multiply, from_special, load_from}
use Rattle.sp_emit.specs.Places.{flag_of, in_register, read_word}
use Rattle.sp_emit.specs.declared.registers.TheConstants.{SPARE, DIVIDEND, TEST, SECOND}
use Rattle.sp_emit.specs.declared.stands.Homes.{Homes}

-- ---- addresses

-- the byte at which the words of a memory begin
abbrev pub base_of : Region → ℕ
base_of region.Scratch = 0
base_of region.Comm = 0x10000
base_of region.Private = 0
base_of region.Shared = 0x1000000

abbrev pub address_of : Region → ℕ → ℕ
address_of r word = base_of r + 4 * word

-- by which kind of access variables are reached, and elements: the data cache holds private variables alone
abbrev pub cell_space : Region → Mem
cell_space region.Scratch = mem.L
cell_space region.Comm = mem.L
cell_space region.Private = mem.C
cell_space region.Shared = mem.M

abbrev pub array_space : Region → Mem
array_space region.Scratch = mem.L
array_space region.Comm = mem.L
array_space region.Private = mem.M
array_space region.Shared = mem.M

-- ---- operators

-- 1 where a predicate is true, else 0
abbrev pub truth_of : ℕ → ℕ → List PlainBundle
truth_of p rd = set_short always rd 0 ∷ set_short (where_so p) rd 1 ∷ []

abbrev pub truth_to : ℕ → List PlainBundle
truth_to rd = truth_of TEST rd

-- of the word of one register, in another
abbrev pub unary_code : SpUnary → ℕ → ℕ → List PlainBundle
unary_code unary.Minus rd ra = compute always alu.Sub rd 0 ra ∷ []
unary_code unary.Complement rd ra = compute always alu.Nor rd ra 0 ∷ []
unary_code unary.Not rd ra = compare_short cmp.Eq TEST ra 0 ∷ truth_to rd

abbrev pub both_code : PredFunc → ℕ → ℕ → ℕ → List PlainBundle
both_code func rd ra rb =
    compare_short cmp.Neq TEST ra 0 ∷ compare_short cmp.Neq SECOND rb 0 ∷ combine func TEST TEST SECOND ∷ truth_to rd

abbrev pub compared_code : CmpFunc → ℕ → ℕ → ℕ → List PlainBundle
compared_code func rd ra rb = compare func TEST ra rb ∷ truth_to rd

abbrev pub computed : AluFunc → ℕ → ℕ → ℕ → PlainParts
computed func rd ra rb = one (straight (compute always func rd ra rb ∷ []))

-- the value of an operator on the words of two registers
abbrev pub binary_code : SpBinary → ℕ → ℕ → ℕ → PlainParts
binary_code binary.Or rd ra rb = one (straight (both_code comb.Por rd ra rb))
binary_code binary.And rd ra rb = one (straight (both_code comb.Pand rd ra rb))
binary_code binary.BitOr rd ra rb = computed alu.Or rd ra rb
binary_code binary.BitXor rd ra rb = computed alu.Xor rd ra rb
binary_code binary.BitAnd rd ra rb = computed alu.And rd ra rb
binary_code binary.Equal rd ra rb = one (straight (compared_code cmp.Eq rd ra rb))
binary_code binary.NotEqual rd ra rb = one (straight (compared_code cmp.Neq rd ra rb))
binary_code binary.Less rd ra rb = one (straight (compared_code cmp.Lt rd ra rb))
binary_code binary.LessUnsigned rd ra rb = one (straight (compared_code cmp.Ult rd ra rb))
binary_code binary.LessEqual rd ra rb = one (straight (compared_code cmp.Le rd ra rb))
binary_code binary.LessEqualUnsigned rd ra rb = one (straight (compared_code cmp.Ule rd ra rb))
binary_code binary.ShiftLeft rd ra rb = computed alu.Sl rd ra rb
binary_code binary.ShiftRight rd ra rb = computed alu.Sra rd ra rb
binary_code binary.ShiftRightUnsigned rd ra rb = computed alu.Sr rd ra rb
binary_code binary.Plus rd ra rb = computed alu.Add rd ra rb
binary_code binary.Minus rd ra rb = computed alu.Sub rd ra rb
binary_code binary.Times rd ra rb = one (straight (multiply ra rb ∷ from_special rd special.Sl ∷ []))
binary_code binary.Divide rd ra rb = signed_division TEST SECOND (signed_quotient_to rd) ra rb
binary_code binary.DivideUnsigned rd ra rb = unsigned_division (unsigned_quotient_to rd ra) ra rb
binary_code binary.Remainder rd ra rb = signed_division SECOND TEST (signed_rest_to rd) ra rb
binary_code binary.RemainderUnsigned rd ra rb = unsigned_division (unsigned_rest_to rd ra) ra rb

-- the constants of which an operator has code of its own as its second operand are below this number: arithmetic and
-- logic have 12 bits for it in their instruction, a comparison 5, and a signed division takes those that are not negative
abbrev pub immediate_below : SpBinary → ℕ
immediate_below binary.BitOr = 4096
immediate_below binary.BitXor = 4096
immediate_below binary.BitAnd = 4096
immediate_below binary.ShiftLeft = 4096
immediate_below binary.ShiftRight = 4096
immediate_below binary.ShiftRightUnsigned = 4096
immediate_below binary.Plus = 4096
immediate_below binary.Minus = 4096
immediate_below binary.Equal = 32
immediate_below binary.NotEqual = 32
immediate_below binary.Less = 32
immediate_below binary.LessUnsigned = 32
immediate_below binary.LessEqual = 32
immediate_below binary.LessEqualUnsigned = 32
immediate_below binary.Divide = 2 ^ 31
immediate_below binary.DivideUnsigned = 2 ^ 32
immediate_below binary.Remainder = 2 ^ 31
immediate_below binary.RemainderUnsigned = 2 ^ 32
immediate_below _ = 0

-- where one instruction holds the constant; of a division where it holds a power of two's place, or that power less 1
abbrev pub is_short : SpBinary → ℕ → Bool
is_short binary.Divide n = is_power n
is_short binary.DivideUnsigned n = is_power n
is_short binary.Remainder n = is_power n && nat_le n 4096
is_short binary.RemainderUnsigned n = is_power n && nat_le n 4096
is_short _ n = true

-- the greatest dividend of a division, without its sign
abbrev pub greatest : SpBinary → ℕ
greatest binary.Divide = 2 ^ 31
greatest binary.Remainder = 2 ^ 31
greatest _ = 2 ^ 32 - 1

abbrev pub is_immediate : SpBinary → PlainSp → Bool
is_immediate op (constant n) = nat_lt n (immediate_below op) && (is_short op n || is_exact (greatest op) n)
is_immediate op _ = false

-- an operator whose second operand is such a constant
abbrev pub held_computed : ImmFunc → ℕ → ℕ → ℕ → List PlainBundle
held_computed func rd ra n = with_short always func rd ra n ∷ []

abbrev pub held_compared : CmpFunc → ℕ → ℕ → ℕ → List PlainBundle
held_compared func rd ra n = compare_short func TEST ra n ∷ truth_to rd

abbrev pub short_code : SpBinary → ℕ → ℕ → ℕ → List PlainBundle
short_code binary.BitOr rd ra n = held_computed imm.Or rd ra n
short_code binary.BitXor rd ra n = held_computed imm.Xor rd ra n
short_code binary.BitAnd rd ra n = held_computed imm.And rd ra n
short_code binary.ShiftLeft rd ra n = held_computed imm.Sl rd ra n
short_code binary.ShiftRight rd ra n = held_computed imm.Sra rd ra n
short_code binary.ShiftRightUnsigned rd ra n = held_computed imm.Sr rd ra n
short_code binary.Plus rd ra n = held_computed imm.Add rd ra n
short_code binary.Minus rd ra n = held_computed imm.Sub rd ra n
short_code binary.Equal rd ra n = held_compared cmp.Eq rd ra n
short_code binary.NotEqual rd ra n = held_compared cmp.Neq rd ra n
short_code binary.Less rd ra n = held_compared cmp.Lt rd ra n
short_code binary.LessUnsigned rd ra n = held_compared cmp.Ult rd ra n
short_code binary.LessEqual rd ra n = held_compared cmp.Le rd ra n
short_code binary.LessEqualUnsigned rd ra n = held_compared cmp.Ule rd ra n
short_code binary.Divide rd ra n = signed_to rd ra (power_quotient_to rd DIVIDEND n)
short_code binary.DivideUnsigned rd ra n = power_quotient_to rd ra n
short_code binary.Remainder rd ra n = signed_to rd ra (power_rest_to rd DIVIDEND n)
short_code binary.RemainderUnsigned rd ra n = power_rest_to rd ra n
short_code _ rd ra n = []

-- and of a division by another constant
abbrev pub factor_code : SpBinary → ℕ → ℕ → ℕ → List PlainBundle
factor_code binary.Divide rd ra n = signed_to rd ra (factor_quotient_to rd DIVIDEND n)
factor_code binary.DivideUnsigned rd ra n = factor_quotient_to rd ra n
factor_code binary.Remainder rd ra n = signed_to rd ra (factor_rest_to rd DIVIDEND n)
factor_code binary.RemainderUnsigned rd ra n = factor_rest_to rd ra n
factor_code _ rd ra n = []

-- the one or the other
abbrev pub held_code : SpBinary → ℕ → ℕ → ℕ → List PlainBundle
held_code op rd ra n = if is_short op n then short_code op rd ra n else factor_code op rd ra n

-- ---- addresses of elements

-- the spare register gets a number, unless another instruction holds it: then the bundle does nothing
unfoldable pub spare_op : Bool → ℕ → Op
spare_op is_held n = if is_held then AluImm imm.Add 0 0 0 else number_op SPARE n

-- a comparison holds a short length, and others stand in the spare register
abbrev pub length_op : ℕ → Op
length_op length = spare_op (nat_lt length 32) length

-- whether an index is below the length
unfoldable pub below_op : ℕ → ℕ → ℕ → Op
below_op pd ra length = if nat_lt length 32 then CmpImm cmp.Ult pd ra length else Cmp cmp.Ult pd ra SPARE

-- whether loads and stores hold the first word of an array: it stands low in a memory that begins at byte 0
abbrev pub has_offset : SpArray → Bool
has_offset a = (base_of a.region == 0) && nat_lt a.first 128

-- how many words they add to the address in their register
abbrev pub offset_of : SpArray → ℕ
offset_of a = if has_offset a then a.first else 0

-- else the spare register gets the address of the first word
abbrev pub base_op : SpArray → Op
base_op a = spare_op (has_offset a) (address_of a.region a.first)

-- four times the index, with that address where there is one
unfoldable pub scaled_op : SpArray → ℕ → ℕ → Op
scaled_op a rd ra = if has_offset a then AluImm imm.Sl rd ra 2 else AluReg alu.Shadd2 rd ra SPARE

-- where the test fails, a load or a store that adds so many words is made at word 0
abbrev pub at_word_0 : ℕ → ℕ → ℕ → PlainBundle
at_word_0 p rd words = with_short (where_not p) imm.Sub rd 0 (4 * words)

-- ---- expressions

abbrev pub cell_code : SpCell → ℕ → List PlainBundle
cell_code c rd = set_number rd (address_of c.region c.word) ∷ load_from (cell_space c.region) rd rd 0 ∷ []

-- of the index in one register, in another. Where it is at or past the length the load is made at word 0, and 0 is taken
-- in its place
abbrev pub element_code : SpArray → ℕ → ℕ → List PlainBundle
element_code a rd ra =
    under always (length_op a.length)
    ∷ under always (below_op TEST ra a.length)
    ∷ under always (base_op a)
    ∷ under always (scaled_op a rd ra)
    ∷ at_word_0 TEST rd (offset_of a)
    ∷ load_from (array_space a.region) rd rd (offset_of a)
    ∷ set_short (where_not TEST) rd 0
    ∷ []

-- the number of a constant
abbrev pub number_of : PlainSp → ℕ
number_of (constant n) = n
number_of _ = 0

-- an operand that is a word of the frame in a register is used where it stands, and 0 in register 0, which always holds it
abbrev pub is_home : Homes → PlainSp → Bool
is_home homes (constant n) = n == 0
is_home homes (frame_word slot) = is_none (flag_of homes.flags slot) && in_register homes.first slot
is_home homes _ = false

abbrev pub home_of : Homes → PlainSp → ℕ
home_of homes (frame_word slot) = homes.first + slot
home_of homes _ = 0

abbrev pub slot_number : PlainSp → ℕ
slot_number (frame_word slot) = slot
slot_number _ = 0

abbrev pub value_at : Homes → PlainSp → ℕ → ℕ
value_at homes e rd = if is_home homes e then home_of homes e else rd

abbrev pub unless : Bool → PlainParts → PlainParts
unless there code = if there then no_part else code

-- the value of a word of the frame
abbrev pub word_code : Option ℕ → ℕ → ℕ → ℕ → List PlainBundle
word_code (Some p) homes to slot = truth_of p to
word_code None homes to slot = read_word homes to slot ∷ []

-- what gives the value of an expression in a register, once its operands are worked out from another one on: of two the one
-- of the greater need stands in that, and the other in the next
abbrev pub value_code : Homes → PlainSp → ℕ → ℕ → PlainParts
value_code homes (constant n) rd to = one (straight (set_number to n ∷ []))
value_code homes (frame_word slot) rd to = one (straight (word_code (flag_of homes.flags slot) homes.first to slot))
value_code homes (cell_word cell) rd to = one (straight (cell_code cell to))
value_code homes (array_word array index) rd to = one (straight (element_code array to (value_at homes index rd)))
value_code homes (before_one op of) rd to = one (straight (unary_code op to (value_at homes of rd)))
value_code homes (between_two op a b) rd to =
    if is_immediate op b then one (straight (held_code op to (value_at homes a rd) (number_of b)))
    else if nat_lt (need a) (need b) then binary_code op to (value_at homes a (rd + 1)) (value_at homes b rd)
    else binary_code op to (value_at homes a rd) (value_at homes b (rd + 1))

-- an operand is worked out where it stands in no register, after its own operands
abbrev pub worked_out : Homes → PlainSp → ℕ → PlainParts → PlainParts
worked_out homes e rd before = unless (is_home homes e) (joined before (value_code homes e rd rd))

-- the code of the operands, from a register on
abbrev pub operands_code : Homes → PlainSp → ℕ → PlainParts
operands_code homes (constant n) rd = no_part
operands_code homes (frame_word slot) rd = no_part
operands_code homes (cell_word cell) rd = no_part
operands_code homes (array_word array index) rd = worked_out homes index rd (operands_code homes index rd)
operands_code homes (before_one op of) rd = worked_out homes of rd (operands_code homes of rd)
operands_code homes (between_two op a b) rd =
    if is_immediate op b then worked_out homes a rd (operands_code homes a rd)
    else if nat_lt (need a) (need b) then joined (worked_out homes b rd (operands_code homes b rd))
    (worked_out homes a (rd + 1) (operands_code homes a (rd + 1)))
    else joined (worked_out homes a rd (operands_code homes a rd))
    (worked_out homes b (rd + 1) (operands_code homes b (rd + 1)))

-- an expression, worked out from a register on, whose value goes to another one: its last instruction sets that
abbrev pub expr_to : Homes → PlainSp → ℕ → ℕ → PlainParts
expr_to homes e rd to = joined (operands_code homes e rd) (value_code homes e rd to)

-- and to the same
abbrev pub expr_code : Homes → PlainSp → ℕ → PlainParts
expr_code homes e rd = expr_to homes e rd rd

-- the code of an operand
abbrev pub operand_code : Homes → PlainSp → ℕ → PlainParts
operand_code homes e rd = worked_out homes e rd (operands_code homes e rd)
