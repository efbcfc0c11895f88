-- The code of a function takes at most as many words as its trees cost.
use Rattle.std.proofs.Common.{◌≡◌, ℕ, zero, suc, ◌+◌, ◌-◌, ◌≤◌, Bool, true, false, List, [], ◌∷◌, length, refl, sym, ap, subst, arith, if◌then◌else◌, Option, None, Some, ◌++◌, true≢false, ◌||◌, ◌&&◌, ◌∙◌}
use Rattle.std.specs.Prelude.{nat_lt, is_some}
use Rattle.std.proofs.lemmas.Bool.{and_parts, ltb-true}
use Rattle.std.proofs.lemmas.Bool.Decides.{nat_tests}
use Rattle.c_world.specs.declared.region.Region.{Region}
use Rattle.patmos_instr.specs.declared.functions.AluFunc.TheVariants as alu
use Rattle.patmos_instr.specs.declared.functions.ImmFunc.TheVariants as imm
use Rattle.patmos_instr.specs.declared.functions.PredFunc.TheVariants as comb
use Rattle.patmos_instr.specs.declared.instructions.Op.TheVariants.{AluImm, AluLong}
use Rattle.sp_tree.specs.Cost.{constant_cost, unary_cost, binary_cost, held_below, is_held, expr_cost, args_cost, target_cost, stmt_cost, stmts_cost, cost}
use Rattle.sp_tree.specs.Formed as tree
use Rattle.sp_tree.proofs.Forms.{parts_of_function}
use Rattle.sp_tree.specs.Need.{need}
use Rattle.sp_tree.specs.Plain.{PlainSp, constant, frame_word, cell_word, array_word, before_one, between_two}
use Rattle.sp_tree.specs.Statements.{PlainSpTarget, to_slot, to_cell, to_array, PlainStmt, masks, writes, calls, transfers, overruns, iterations, PlainStmts, no_stmt, stmt, PlainFunction}
use Rattle.sp_tree.specs.declared.operators.SpBinary.{SpBinary}
use Rattle.sp_tree.specs.declared.operators.SpUnary.{SpUnary}
use Rattle.sp_shape.specs.Words.{bundles_room, parts_room, bundle_room}
use Rattle.sp_shape.specs.Parts.{straight, PlainParts, no_part, part, one, joined}
use Rattle.sp_shape.proofs.Lists.{room_append}
use Rattle.sp_emit.proofs.TruthCode.{no_joins}
use Rattle.sp_emit.proofs.Operands.{word_code_is, operand_is, mask_is}
use Rattle.sp_emit.proofs.Held.{held_is}
use Rattle.sp_emit.specs.Division.{unsigned_quotient_to}
use Rattle.sp_emit.specs.Divisors.{factor_rest_to}
use Rattle.sp_emit.specs.Expressions.{unary_code, binary_code, held_code, number_of, value_code, operands_code, expr_to, expr_code, operand_code, value_at, is_immediate, address_of, spare_op, length_op, below_op, has_offset, base_op, scaled_op, slot_number}
use Rattle.sp_emit.proofs.Codes.{kept_is, brought_is, taken_is, freed_is}
use Rattle.sp_emit.specs.Functions.{argument_kept, first_counter, arguments_kept, mask_in, mask_kept, place_kept, state_kept, frame_taken, result_given, function_rest, body_code, function_code, frame_words}
use Rattle.std.specs.Prelude.{◌-◌}
use Rattle.patmos_instr.specs.declared.guards.Guard.{Guard}
use Rattle.patmos_instr.specs.declared.instructions.Op.{Op}
use Rattle.c_world.specs.declared.region.Region.TheVariants as region
use Rattle.sp_emit.specs.Instructions.{always, where_so, under, set_short, set_number, number_op, combine}
use Rattle.sp_emit.specs.Places.{flag_in, flag_words, flag_of, in_register, read_word, set_word, cleared_in, word_cleared, words_cleared, fetch_word, keep_word, fetched_at, seek_word, match_word, mask_test, told_at}
use Rattle.sp_emit.specs.declared.registers.TheConstants.{RESULT, MASK, FIRST, OVERRUN, TEST, SECOND, SPARE}
use Rattle.sp_emit.proofs.WordPlaces.{read_is, set_op_is, fetch_is, keep_is}
use Rattle.sp_emit.specs.Statements.{cell_write, element_write, target_write, guarded_code, args_code, call_code, send_code, overrun_code, slot_set, stmt_code, stmts_code, mask_handed}
use Rattle.sp_emit.specs.Flags.{begun_body}
use Rattle.sp_emit.specs.Truths.{cmp_of, by_two, by_number, test_of, tested_code, flag_at, joins, unless_stands, join, truth_code, before_flag, flag_set, flag_by, flag_code, both_of, bits_of, is_not, is_condition, is_masking, is_frame_word, word_flag, seeks, bit_sought, operands_stood, spares_second, pairs, kept_code, joining_code, paired_code, unjoined_code, func_in}
use Rattle.sp_emit.proofs.BegunBody.{begun_costs}
use Rattle.sp_emit.proofs.FlagWords.{seek_is, match_is, handed_is}
use Rattle.sp_emit.proofs.Lasts.{Gives, write_is}
use Rattle.sp_emit.proofs.Numbers.{number_op_is}
use Rattle.sp_emit.proofs.Offsets.{spare_op_is, below_op_is, scaled_op_is}
use Rattle.sp_tree.specs.declared.expressions.SpArray.{SpArray}
use Rattle.sp_emit.specs.declared.stands.Homes.{Homes}
use Rattle.sp_emit.specs.declared.stands.Flags.{Flags}

room_both : (a b : PlainParts) → parts_room (joined a b) ≡ parts_room a + parts_room b
room_both no_part b = omega arith
room_both (part p a) b = omega (arith, room_both a b)

-- ---- expressions

unary_room : (op : SpUnary) (rd ra : ℕ) → bundles_room (unary_code op rd ra) ≤ unary_cost op
unary_room op rd ra = grind arith

binary_room : (op : SpBinary) (rd ra rb : ℕ) → parts_room (binary_code op rd ra rb) ≤ binary_cost op
unfolding unsigned_quotient_to
binary_room op rd ra rb = grind arith

held_room : (op : SpBinary) (rd ra n : ℕ) → bundles_room (held_code op rd ra n) ≤ binary_cost op
unfolding factor_rest_to
held_room op rd ra n = held_is (λ bs. bundles_room bs ≤ binary_cost op) op rd ra n (grind arith) (grind arith)

read_words : (homes rd slot : ℕ) → bundle_room (read_word homes rd slot) ≤ 2
read_words homes rd slot = read_is (λ b. bundle_room b ≤ 2) homes rd slot (omega arith) (λ out. omega arith)

keep_words : (homes slot : ℕ) → bundle_room (keep_word homes slot) ≤ 1
keep_words homes slot = keep_is (λ b. bundle_room b ≤ 1) homes slot (omega arith) (λ out. omega arith)

fetch_words : (homes slot : ℕ) → bundle_room (fetch_word homes slot) ≤ 2
fetch_words homes slot = fetch_is (λ b. bundle_room b ≤ 2) homes slot (omega arith) (λ out. omega arith)

seek_words : (homes : Homes) (mask : ℕ) → bundle_room (seek_word homes mask) ≤ 2
seek_words homes mask = seek_is (λ b. bundle_room b ≤ 2) homes mask (omega arith) (fetch_words homes.first mask)

match_words : (homes : Homes) (mask : ℕ) → bundle_room (match_word homes mask) ≤ 1
match_words homes mask = match_is (λ b. bundle_room b ≤ 1) homes mask (omega arith) (omega arith)

-- a constant takes its second word only where it has to
number_room : (rd n : ℕ) → bundle_room (set_number rd n) ≤ constant_cost n
unfolding number_op
number_room rd n = by (nat_lt n 4096)
  where
    by : (b : Bool) → bundle_room (under always (if b then AluImm imm.Add rd 0 n else AluLong alu.Add rd 0 n))
        ≤ (if b then 1 else 2)
    by true = omega arith
    by false = omega arith

number_words : (rd n : ℕ) → bundle_room (set_number rd n) ≤ 2
number_words rd n = number_op_is (λ op. bundle_room (under always op) ≤ 2) rd n (omega arith) (omega arith)

spare_words : (is_held : Bool) (n : ℕ) → bundle_room (under always (spare_op is_held n)) ≤ 2
spare_words is_held n =
    spare_op_is (λ op. bundle_room (under always op) ≤ 2) is_held n (omega arith) (number_words SPARE n)

below_words : (pd ra length : ℕ) → bundle_room (under always (below_op pd ra length)) ≤ 1
below_words pd ra length =
    below_op_is (λ op. bundle_room (under always op) ≤ 1) pd ra length (omega arith) (omega arith)

scaled_words : (a : SpArray) (rd ra : ℕ) → bundle_room (under always (scaled_op a rd ra)) ≤ 1
scaled_words a rd ra = scaled_op_is (λ op. bundle_room (under always op) ≤ 1) a rd ra (omega arith) (omega arith)

set_words : (homes : ℕ) (g : Guard) (slot rs : ℕ) → bundle_room (set_word homes g slot rs) ≤ 1
set_words homes g slot rs =
    set_op_is (λ op. bundle_room (under g op) ≤ 1) homes slot rs (omega arith) (λ out. omega arith)

-- each costs a word
some_unary : (op : SpUnary) → 1 ≤ unary_cost op
some_unary op = grind arith

some_binary : (op : SpBinary) → 1 ≤ binary_cost op
some_binary op = grind arith

some_constant : (n : ℕ) → 1 ≤ constant_cost n
some_constant n = by (nat_lt n 4096)
  where
    by : (b : Bool) → 1 ≤ (if b then 1 else 2)
    by true = omega arith
    by false = omega arith

some_cost : (e : PlainSp) → 1 ≤ expr_cost e
some_cost (constant n) = some_constant n
some_cost (before_one op of) = omega (arith, some_unary op)
some_cost (between_two op a b) = omega (arith, some_binary op)
some_cost _ = omega arith

-- what the cost counts as held by an instruction is
held_counted : (op : SpBinary) (n words : ℕ) → (if is_immediate op (constant n) then 0 else words)
    ≤ (if nat_lt n (held_below op) then 0 else words)
held_counted op n words = grind (arith, nat_tests)

operand_counted : (op : SpBinary) (b : PlainSp) (words : ℕ) → (if is_immediate op b then 0 else words)
    ≤ (if is_held op b then 0 else words)
operand_counted op (constant n) words = held_counted op n words
operand_counted op _ words = omega arith

-- of two operands, those that are worked out
two_operands : (homes : Homes) (a b : PlainSp) (rd : ℕ) (held less : Bool) → parts_room (operand_code homes a rd)
    ≤ expr_cost a → parts_room (operand_code homes b rd) ≤ expr_cost b
    → parts_room (operand_code homes a (rd + 1)) ≤ expr_cost a → parts_room (operand_code homes b (rd + 1))
    ≤ expr_cost b
    → parts_room (if held then operand_code homes a rd else if less then joined (operand_code homes b rd)
    (operand_code homes a (rd + 1)) else joined (operand_code homes a rd) (operand_code homes b (rd + 1)))
    ≤ expr_cost a + (if held then 0 else expr_cost b)
two_operands homes a b rd true less ha hb na nb = omega (arith, ha)
two_operands homes a b rd false true ha hb na nb =
    omega (arith, hb, na, room_both (operand_code homes b rd) (operand_code homes a (rd + 1)))
two_operands homes a b rd false false ha hb na nb =
    omega (arith, ha, nb, room_both (operand_code homes a rd) (operand_code homes b (rd + 1)))

-- and the operator
two_room : (homes : Homes) (op : SpBinary) (a b : PlainSp) (rd to : ℕ) (held less : Bool)
    → parts_room (if held then one (straight (held_code op to (value_at homes a rd) (number_of b))) else if less then
    binary_code op to (value_at homes a (rd + 1)) (value_at homes b rd) else binary_code op to (value_at homes a rd)
    (value_at homes b (rd + 1)))
    ≤ binary_cost op
two_room homes op a b rd to true less = omega (arith, held_room op to (value_at homes a rd) (number_of b))
two_room homes op a b rd to false true = binary_room op to (value_at homes a (rd + 1)) (value_at homes b rd)
two_room homes op a b rd to false false = binary_room op to (value_at homes a rd) (value_at homes b (rd + 1))

operand_room : (homes : Homes) (e : PlainSp) (rd : ℕ) → parts_room (operands_code homes e rd)
    + parts_room (value_code homes e rd rd) ≤ expr_cost e → parts_room (operand_code homes e rd) ≤ expr_cost e
operand_room homes e rd both = operand_is (λ ps. parts_room ps ≤ expr_cost e) homes e rd (omega arith)
    (omega (arith, both, room_both (operands_code homes e rd) (value_code homes e rd rd)))

value_room : (homes : Homes) (e : PlainSp) (rd to : ℕ) → parts_room (operands_code homes e rd)
    + parts_room (value_code homes e rd to) ≤ expr_cost e
value_room homes (constant v) rd to = omega (arith, number_room to v)
value_room homes (frame_word slot) rd to = omega (
  arith,
  word_code_is (λ bs. bundles_room bs ≤ 2) homes to slot
      (λ p. omega arith) (omega (arith, read_words homes.first to slot)),
)
value_room homes (cell_word cell) rd to = omega (arith, number_words to (address_of cell.region cell.word))
value_room homes (array_word array index) rd to =
    omega (
      arith,
      spare_words (nat_lt array.length 32) array.length,
      below_words TEST (value_at homes index rd) array.length,
      spare_words (has_offset array) (address_of array.region array.first),
      scaled_words array to (value_at homes index rd),
      operand_room homes index rd (value_room homes index rd rd),
    )
value_room homes (before_one op of) rd to =
    omega (arith, operand_room homes of rd (value_room homes of rd rd), unary_room op to (value_at homes of rd))
value_room homes (between_two op a b) rd to =
    omega (
      arith,
      operand_counted op b (expr_cost b),
      two_operands homes a b rd (is_immediate op b) (nat_lt (need a) (need b))
          (operand_room homes a rd (value_room homes a rd rd)) (operand_room homes b rd (value_room homes b rd rd))
          (operand_room homes a (rd + 1) (value_room homes a (rd + 1) (rd + 1)))
          (operand_room homes b (rd + 1) (value_room homes b (rd + 1) (rd + 1))),
      two_room homes op a b rd to (is_immediate op b) (nat_lt (need a) (need b)),
    )

pub expr_room : (homes : Homes) (e : PlainSp) (rd to : ℕ) → parts_room (expr_to homes e rd to) ≤ expr_cost e
expr_room homes e rd to =
    omega (arith, room_both (operands_code homes e rd) (value_code homes e rd to), value_room homes e rd to)

args_room : (homes : Homes) (args : List PlainSp) (rd : ℕ) → parts_room (args_code homes args rd) ≤ args_cost args
args_room homes [] rd = omega arith
args_room homes (e ∷ args) rd = omega (
  arith,
  room_both (expr_code homes e rd) (args_code homes args (rd + 1)),
  expr_room homes e rd rd,
  args_room homes args (rd + 1),
)

-- ---- truths

-- a test takes no more than the value of its operator; that of a condition takes two less, which set it to 0 and to 1
abbrev saved_by : Bool → ℕ
saved_by condition = if condition then 2 else 0

abbrev op_saved : SpBinary → ℕ
op_saved op = saved_by (is_some (cmp_of op) || is_some (both_of op))

test_room : (op : SpBinary) (ra rb : ℕ) → bundles_room (by_two (cmp_of op) op ra rb) + op_saved op ≤ binary_cost op
test_room op ra rb = grind arith

number_test : (op : SpBinary) (ra n : ℕ) → bundles_room (by_number (cmp_of op) ra n) + op_saved op ≤ binary_cost op
number_test op ra n = grind arith

not_saved : (op : SpUnary) → 1 + saved_by (is_not op) ≤ unary_cost op
not_saved op = grind arith

two_tests : (homes : Homes) (op : SpBinary) (a b : PlainSp) (held less : Bool)
    → bundles_room (if held then by_number (cmp_of op) (value_at homes a FIRST) (number_of b) else if less then by_two
    (cmp_of op) op (value_at homes a (FIRST + 1)) (value_at homes b FIRST) else by_two (cmp_of op) op
    (value_at homes a FIRST) (value_at homes b (FIRST + 1)))
    + op_saved op ≤ binary_cost op
two_tests homes op a b true less = number_test op (value_at homes a FIRST) (number_of b)
two_tests homes op a b false true = test_room op (value_at homes a (FIRST + 1)) (value_at homes b FIRST)
two_tests homes op a b false false = test_room op (value_at homes a FIRST) (value_at homes b (FIRST + 1))

operand_most : (homes : Homes) (e : PlainSp) (rd : ℕ) → parts_room (operand_code homes e rd) ≤ expr_cost e
operand_most homes e rd = operand_room homes e rd (value_room homes e rd rd)

tested_room : (homes : Homes) (e : PlainSp) → parts_room (tested_code homes e) + saved_by (is_condition e) ≤ expr_cost e
tested_room homes (constant n) = some_cost (constant n)
tested_room homes (frame_word slot) = omega arith
tested_room homes (cell_word cell) = omega arith
tested_room homes (array_word array index) =
    omega (arith, room_both (operand_code homes index FIRST) (one (straight [])), operand_most homes index FIRST)
tested_room homes (before_one op of) = omega (
  arith,
  room_both (operand_code homes of FIRST)
      (one (straight (test_of homes (before_one op of)))),
  operand_most homes of FIRST,
  not_saved op,
)
tested_room homes (between_two op a b) =
    omega (
      arith,
      room_both (operands_code homes (between_two op a b) FIRST) (one (straight (test_of homes (between_two op a b)))),
      operand_counted op b (expr_cost b),
      two_operands homes a b FIRST (is_immediate op b) (nat_lt (need a) (need b)) (operand_most homes a FIRST)
          (operand_most homes b FIRST) (operand_most homes a (FIRST + 1)) (operand_most homes b (FIRST + 1)),
      two_tests homes op a b (is_immediate op b) (nat_lt (need a) (need b)),
    )

saved_most : (c : Bool) → saved_by c ≤ 2
saved_most true = omega arith
saved_most false = omega arith

-- where truths are joined there is no condition
no_condition : (flags : Flags) (op : SpBinary) (a b : PlainSp) → joins flags op a b ≡ true
    → is_condition (between_two op a b) ≡ false
no_condition flags op a b is = by (is_some (cmp_of op) || is_some (both_of op)) refl
  where
    by : (c : Bool) → (is_some (cmp_of op) || is_some (both_of op)) ≡ c → c ≡ false
    by true condition = absurd (true≢false (sym is ∙ no_joins flags op a b condition))
    by false other = refl

both_cost : (op : SpBinary) (a b : PlainSp) → is_some (both_of op) ≡ true → expr_cost a + expr_cost b + 2
    ≤ expr_cost (between_two op a b)
both_cost op a b is = grind (arith, is)

word_cost : (e : PlainSp) → is_frame_word e ≡ true → 2 ≤ expr_cost e
word_cost (frame_word slot) is = omega arith
word_cost _ is = absurd (true≢false (sym is))

unless_room : (most : ℕ) (o : Option ℕ) (code : PlainParts) → parts_room code ≤ most
    → parts_room (unless_stands o code) ≤ most
unless_room most None code few = few
unless_room most (Some p) code few = omega arith

-- the second of two truths that are joined, which the cost may count as held
second_room : (homes : Homes) (op : SpBinary) (b : PlainSp) → parts_room (truth_code homes b) ≤ expr_cost b
    → parts_room (unless_stands (flag_at homes.flags b) (truth_code homes b)) ≤ 1
    + (if is_held op b then 0 else expr_cost b)
second_room homes op (constant n) few =
    omega (arith, unless_room 1 (flag_at homes.flags (constant n)) (truth_code homes (constant n)) (omega arith))
second_room homes op (frame_word slot) few =
    omega (arith, unless_room _ (flag_at homes.flags (frame_word slot)) (truth_code homes (frame_word slot)) few)
second_room homes op (between_two f c d) few =
    omega (arith, unless_room _ (flag_at homes.flags (between_two f c d)) (truth_code homes (between_two f c d)) few)
second_room homes op _ few = omega (arith, few)

-- the second one, where the lowest bit of the first is sought
second_saved : (homes : Homes) (op : SpBinary) (b : PlainSp) → parts_room (truth_code homes b)
    + saved_by (is_condition b) ≤ expr_cost b → (is_some (word_flag homes.flags b) || is_condition b) ≡ true
    → parts_room (unless_stands (flag_at homes.flags b) (truth_code homes b)) + 2
    ≤ (if is_held op b then 0 else expr_cost b)
second_saved homes op (constant n) saved is = absurd (true≢false (sym is))
second_saved homes op (frame_word slot) saved is = by (flag_of homes.flags slot) is
  where
    by : (o : Option ℕ) → (is_some o || false) ≡ true
        → parts_room (unless_stands o (truth_code homes (frame_word slot))) + 2 ≤ 2
    by None is = absurd (true≢false (sym is))
    by (Some p) is = omega arith
second_saved homes op (cell_word cell) saved is = absurd (true≢false (sym is))
second_saved homes op (array_word array index) saved is = absurd (true≢false (sym is))
second_saved homes op (before_one f of) saved is =
    let few = subst (λ c. parts_room (truth_code homes (before_one f of)) + saved_by c ≤ expr_cost (before_one f of)) is
    saved in
    omega (arith, few)
second_saved homes op (between_two f c d) saved is =
    let few = subst (λ c'. parts_room (truth_code homes (between_two f c d)) + saved_by c'
    ≤ expr_cost (between_two f c d)) is saved in
    omega (
      arith,
      few,
      unless_room (parts_room (truth_code homes (between_two f c d)))
          (flag_at homes.flags (between_two f c d)) (truth_code homes (between_two f c d)) (omega arith),
    )

-- both operands of two truths that are joined
joined_room : (homes : Homes) (op : SpBinary) (a b : PlainSp) → joins homes.flags op a b ≡ true
    → parts_room (truth_code homes b) + saved_by (is_condition b) ≤ expr_cost b
    → parts_room (operands_stood homes a b (truth_code homes b)) + 1 ≤ expr_cost (between_two op a b)
joined_room homes op a b joins_them few = by (flag_at homes.flags a) (and_parts (is_some (bits_of op))
    (is_some (flag_at homes.flags a) || seeks homes.flags op a b) joins_them).1
  where
    second : PlainParts
    second = unless_stands (flag_at homes.flags b) (truth_code homes b)

    bits : PlainParts
    bits = one (straight (bit_sought homes.first (slot_number a)))

    by : (o : Option ℕ) → (is_some o || seeks homes.flags op a b) ≡ true
        → parts_room (joined second (unless_stands o bits)) + 1 ≤ expr_cost (between_two op a b)
    by (Some p) is = omega (
      arith,
      room_both second no_part,
      second_room homes op b (omega (arith, few)),
      some_cost a,
      some_binary op,
    )
    by None is =
        let masked = and_parts (is_masking op) _ is in
        let parts = and_parts (is_frame_word a) _ masked.1 in
        omega (
          arith,
          room_both second bits,
          second_saved homes op b few parts.1,
          word_cost a parts.0,
          some_binary op,
          fetch_words homes.first (slot_number a),
        )

-- two conditions, or one
unjoined_room : (homes : Homes) (op : SpBinary) (a b : PlainSp) → parts_room (truth_code homes a)
    + saved_by (is_condition a) ≤ expr_cost a
    → parts_room (unjoined_code homes op a b (truth_code homes a)) + saved_by (is_condition (between_two op a b))
    ≤ expr_cost (between_two op a b)
unjoined_room homes op a b few = by (pairs op a b) refl
  where
    kept : PlainParts
    kept = kept_code (truth_code homes a)

    keep : PlainParts
    keep = one (straight (combine comb.Por SECOND TEST TEST ∷ []))

    join_them : PlainParts
    join_them = one (straight (combine (func_in (both_of op)) TEST SECOND TEST ∷ []))

    by : (c : Bool) → pairs op a b ≡ c → parts_room (if c then paired_code homes op b (truth_code homes a) else
        tested_code homes (between_two op a b)) + saved_by (is_condition (between_two op a b))
        ≤ expr_cost (between_two op a b)
    by true is =
        let x = and_parts (is_some (both_of op)) (is_condition a && (is_condition b && spares_second b)) is in
        let y = and_parts (is_condition a) (is_condition b && spares_second b) x.1 in
        let z = and_parts (is_condition b) (spares_second b) y.1 in
        let first = subst (λ c. parts_room (truth_code homes a) + saved_by c ≤ expr_cost a) y.0 few in
        let second =
        subst (λ c. parts_room (tested_code homes b) + saved_by c ≤ expr_cost b) z.0 (tested_room homes b) in
        let most : saved_by (is_condition (between_two op a b)) ≤ 2 = saved_most (is_condition (between_two op a b)) in
        omega (
          arith,
          room_both kept (joining_code homes op b),
          room_both (truth_code homes a) keep,
          room_both (tested_code homes b) join_them,
          first,
          second,
          most,
          both_cost op a b x.0,
        )
    by false is = tested_room homes (between_two op a b)

truth_saved : (homes : Homes) (e : PlainSp) → parts_room (truth_code homes e) + saved_by (is_condition e) ≤ expr_cost e
truth_saved homes (constant n) = tested_room homes (constant n)
truth_saved homes (frame_word slot) = tested_room homes (frame_word slot)
truth_saved homes (cell_word cell) = tested_room homes (cell_word cell)
truth_saved homes (array_word array index) = tested_room homes (array_word array index)
truth_saved homes (before_one op of) = tested_room homes (before_one op of)
truth_saved homes (between_two op a b) = by (joins homes.flags op a b) refl (λ is. joined_room homes op a b is
    (truth_saved homes b)) (unjoined_room homes op a b (truth_saved homes a))
  where
    both_code : PlainParts
    both_code = operands_stood homes a b (truth_code homes b)

    by : (c : Bool) → joins homes.flags op a b ≡ c
        → (c ≡ true → parts_room both_code + 1 ≤ expr_cost (between_two op a b))
        → parts_room (unjoined_code homes op a b (truth_code homes a)) + saved_by (is_condition (between_two op a b))
        ≤ expr_cost (between_two op a b)
        → parts_room (if c then joined both_code (one (straight (join homes.flags TEST op a b ∷ []))) else unjoined_code
        homes op a b (truth_code homes a)) + saved_by (is_condition (between_two op a b))
        ≤ expr_cost (between_two op a b)
    by true is few other =
        let none = ap saved_by (no_condition homes.flags op a b is) in
        omega (arith, none, few refl, room_both both_code (one (straight (join homes.flags TEST op a b ∷ []))))
    by false is few other = other

before_room : (homes : Homes) (e : PlainSp) → parts_room (before_flag homes e) ≤ expr_cost e
before_room homes (constant n) = omega arith
before_room homes (frame_word slot) = omega (arith, tested_room homes (frame_word slot))
before_room homes (cell_word cell) = omega (arith, tested_room homes (cell_word cell))
before_room homes (array_word array index) = omega (arith, tested_room homes (array_word array index))
before_room homes (before_one op of) = omega (arith, tested_room homes (before_one op of))
before_room homes (between_two op a b) =
    by (joins homes.flags op a b) (λ is. joined_room homes op a b is (truth_saved homes b))
  where
    by : (c : Bool) → (c ≡ true → parts_room (operands_stood homes a b (truth_code homes b)) + 1
        ≤ expr_cost (between_two op a b)) → parts_room (if c then operands_stood homes a b (truth_code homes b) else
        unjoined_code homes op a b (truth_code homes a)) ≤ expr_cost (between_two op a b)
    by true few = omega (arith, few refl)
    by false few = omega (arith, unjoined_room homes op a b (truth_saved homes a))

set_room : (flags : Flags) (to : ℕ) (e : PlainSp) → bundle_room (flag_set flags to e) ≤ 1
set_room flags to (between_two op a b) = by (joins flags op a b)
  where
    by : (c : Bool) → bundle_room (if c then join flags to op a b else combine comb.Por to TEST TEST) ≤ 1
    by true = omega arith
    by false = omega arith
set_room flags to _ = omega arith

flag_room : (homes : Homes) (to : ℕ) (e : PlainSp) → parts_room (flag_code homes to e) ≤ 1 + expr_cost e
flag_room homes to e = by (flag_at homes.flags e)
  where
    by : (o : Option ℕ) → parts_room (flag_by o homes to e) ≤ 1 + expr_cost e
    by None = omega (
      arith,
      room_both (before_flag homes e) (one (straight (flag_set homes.flags to e ∷ []))),
      before_room homes e,
      set_room homes.flags to e,
    )
    by (Some p) = omega arith

-- ---- statements

cell_room : (homes : Homes) (mask : ℕ) (r : Region) (word : ℕ)
    → bundles_room (cell_write homes mask (record { region = r; word = word })) ≤ 7
cell_room homes mask r word =
    by r (seek_words homes mask) (match_words homes mask) (number_words SPARE (address_of r word))
  where
    by : (r : Region) → bundle_room (seek_word homes mask) ≤ 2 → bundle_room (match_word homes mask) ≤ 1
        → bundle_room (set_number SPARE (address_of r word)) ≤ 2
        → bundles_room (cell_write homes mask (record { region = r; word = word })) ≤ 7
    by region.Scratch read test address = omega (arith, read, test, address)
    by _ read test address = omega (arith, read, test, address)

element_room : (homes : Homes) (mask : ℕ) (r : Region) (first length : ℕ)
    → bundles_room (element_write homes mask (record { region = r; first = first; length = length })) ≤ 12
element_room homes mask r first length =
    let a : SpArray = record { region = r; first = first; length = length } in
    by r (seek_words homes mask) (match_words homes mask) (spare_words (nat_lt length 32) length)
    (below_words SECOND (FIRST + 1) length) (spare_words (has_offset a) (address_of r first))
    (scaled_words a (FIRST + 1) (FIRST + 1))
  where
    by : (r : Region) → bundle_room (seek_word homes mask) ≤ 2 → bundle_room (match_word homes mask) ≤ 1
        → bundle_room (under always (length_op length)) ≤ 2
        → bundle_room (under always (below_op SECOND (FIRST + 1) length)) ≤ 1
        → bundle_room (under always (base_op (record { region = r; first = first; length = length }))) ≤ 2
        → bundle_room (under always (scaled_op (record { region = r; first = first; length = length }) (FIRST + 1)
        (FIRST + 1))) ≤ 1
        → bundles_room (element_write homes mask (record { region = r; first = first; length = length })) ≤ 12
    by region.Scratch read test size below base scaled = omega (arith, read, test, size, below, base, scaled)
    by _ read test size below base scaled = omega (arith, read, test, size, below, base, scaled)

target_room : (homes : Homes) (mask : ℕ) (target : PlainSpTarget) → parts_room (target_write homes mask target)
    ≤ target_cost target
target_room homes mask (to_slot slot) = omega (
  arith,
  seek_words homes mask,
  match_words homes mask,
  set_words homes.first (where_so (told_at homes mask)) slot FIRST,
)
target_room homes mask (to_cell cell) = omega (arith, cell_room homes mask cell.region cell.word)
target_room homes mask (to_array array index) =
    omega (
      arith,
      room_both (expr_code homes index 4) (one (straight (element_write homes mask array))),
      expr_room homes index 4 4,
      element_room homes mask array.region array.first array.length,
    )

-- an instruction takes as many words under a mask as under none
guarded_room : (homes : Homes) (mask : ℕ) (e : PlainSp) (to : ℕ) (op : Op) → Gives to (value_code homes e FIRST to) op
    → parts_room (guarded_code homes mask e op) ≤ 4 + expr_cost e
guarded_room homes mask e to op gives =
    let bundles = mask_test homes mask ++ under (where_so (told_at homes mask)) op ∷ [] in
    let value = ap parts_room gives.is in
    omega (
      arith,
      room_both (operands_code homes e FIRST) (one (straight bundles)),
      value_room homes e FIRST to,
      value,
      seek_words homes mask,
      match_words homes mask,
    )

handed_room : (homes : Homes) (mask : ℕ) → bundles_room (mask_handed homes mask) ≤ 3
handed_room homes mask = handed_is (λ bs. bundles_room bs ≤ 3) homes mask (λ p is. omega arith)
    (λ none. omega (arith, read_words homes.first MASK mask))

call_room : (homes : Homes) (frame mask k : ℕ) (result : Option ℕ) → parts_room (call_code homes frame mask k result)
    ≤ 12
call_room homes frame mask k None = omega (arith, handed_room homes mask)
call_room homes frame mask k (Some slot) = omega (
  arith,
  handed_room homes mask,
  seek_words homes mask,
  match_words homes mask,
  set_words homes.first (where_so (told_at homes mask)) slot RESULT,
)

mutual
  stmt_room : (homes : Homes) (frame counter : ℕ) (t : PlainStmt) → parts_room (stmt_code homes frame counter t)
      ≤ stmt_cost t
  stmt_room homes frame counter (masks slot e) =
      mask_is (λ ps. parts_room ps ≤ 1 + expr_cost e) homes slot e (λ p is. flag_room homes p e)
      (λ plain here. omega (arith, expr_room homes e 3 (homes.first + slot)))
      (λ plain there. omega (
        arith,
        room_both (expr_code homes e 3) (slot_set homes.first slot),
        expr_room homes e 3 3,
        set_words homes.first always slot FIRST,
      ))
  stmt_room homes frame counter (writes mask target e) =
      write_is (λ ps. parts_room ps ≤ target_cost target + expr_cost e) homes mask target e
      (omega (
        arith,
        room_both (expr_code homes e 3) (target_write homes mask target),
        expr_room homes e 3 3,
        target_room homes mask target,
      ))
      (λ slot op is gives. subst (λ t. parts_room (guarded_code homes mask e op) ≤ target_cost t + expr_cost e) (sym is)
      (guarded_room homes mask e (homes.first + slot) op gives))
  stmt_room homes frame counter (calls mask k args result) =
      omega (
        arith,
        room_both (args_code homes args 3) (call_code homes frame mask k result),
        args_room homes args 3,
        call_room homes frame mask k result,
      )
  stmt_room homes frame counter (transfers mask core source target count) =
      let sent = one (straight (send_code homes mask core)) in
      omega (
        arith,
        room_both (expr_code homes source 3) (joined (expr_code homes target 4)
            (joined (expr_code homes count 5) sent)),
        room_both (expr_code homes target 4) (joined (expr_code homes count 5) sent),
        room_both (expr_code homes count 5) sent,
        expr_room homes source 3 3,
        expr_room homes target 4 4,
        expr_room homes count 5 5,
        seek_words homes mask,
        match_words homes mask,
      )
  stmt_room homes frame counter (overruns mask e) = omega (
    arith,
    room_both (expr_code homes e 3)
        (one (straight (overrun_code homes mask))),
    expr_room homes e 3 3,
    seek_words homes mask,
    match_words homes mask,
  )
  stmt_room homes frame counter (iterations count body) = omega (
    arith,
    stmts_room homes frame (counter - 1) body,
    number_words (fetched_at homes.first counter) count,
    fetch_words homes.first counter,
    keep_words homes.first counter,
  )

  stmts_room : (homes : Homes) (frame counter : ℕ) (ts : PlainStmts) → parts_room (stmts_code homes frame counter ts)
      ≤ stmts_cost ts
  stmts_room homes frame counter no_stmt = omega arith
  stmts_room homes frame counter (stmt t rest) =
      omega (
        arith,
        room_both (stmt_code homes frame counter t) (stmts_code homes frame counter rest),
        stmt_room homes frame counter t,
        stmts_room homes frame counter rest,
      )

-- ---- functions

kept_room : (homes n : ℕ) → bundles_room (arguments_kept homes n) ≤ n
kept_room homes zero = omega arith
kept_room homes (suc n) = omega (
  arith,
  room_append (arguments_kept homes n) (argument_kept homes n),
  kept_room homes n,
  set_words homes always n (FIRST + n),
)

mask_room : (homes : Homes) (f : PlainFunction) → bundles_room (mask_kept homes f) ≤ 2
mask_room homes f = by (flag_of homes.flags f.mask)
  where
    by : (o : Option ℕ) → bundles_room (mask_in o homes.first f.mask) ≤ 2
    by None = omega (arith, set_words homes.first always f.mask MASK)
    by (Some p) = omega arith

-- how many of the first words have something: at most as many stand in predicates as there are of these
abbrev counted : (ℕ → Option ℕ) → ℕ → ℕ
counted g zero = 0
counted g (suc n) = counted g n + (if is_some (g n) then 1 else 0)

abbrev counted_one : Option ℕ → ℕ → ℕ
counted_one None n = 0
counted_one (Some word) n = if nat_lt word n then 1 else 0

one_counted : (word : Option ℕ) (n : ℕ) → counted_one word n ≤ 1
one_counted None n = omega arith
one_counted (Some word) n = by (nat_lt word n)
  where
    by : (b : Bool) → (if b then 1 else 0) ≤ 1
    by true = omega arith
    by false = omega arith

one_more : (p : ℕ) (preds : List ℕ) (word : Option ℕ) (words : List (Option ℕ)) (n : ℕ)
    → counted (flag_in (p ∷ preds) (word ∷ words)) n ≤ counted (flag_in preds words) n + counted_one word n
one_more p preds word words zero = omega arith
one_more p preds None words (suc n) = omega (arith, one_more p preds None words n)
one_more p preds (Some word) words (suc n) = grind (arith, nat_tests, one_more p preds (Some word) words n)

most_counted : (preds : List ℕ) (words : List (Option ℕ)) (n : ℕ) → counted (flag_in preds words) n ≤ length preds
most_counted [] words zero = omega arith
most_counted [] words (suc n) = omega (arith, most_counted [] words n)
most_counted (p ∷ preds) [] zero = omega arith
most_counted (p ∷ preds) [] (suc n) = omega (arith, most_counted (p ∷ preds) [] n)
most_counted (p ∷ preds) (word ∷ words) n =
    omega (arith, one_more p preds word words n, one_counted word n, most_counted preds words n)

few_flags : (flags : Flags) (n : ℕ) → counted (flag_of flags) n ≤ 4
unfolding flag_of
few_flags flags n = most_counted (4 ∷ 5 ∷ 6 ∷ 7 ∷ []) (flag_words flags) n

-- a word is cleared by a bundle where it stands in a predicate or in a register, and none do from the flag on
cleared_one : (homes : Homes) (n : ℕ) → bundles_room (word_cleared homes n) ≤ (if is_some (flag_of homes.flags n) then 1
    else if in_register homes.first n then 1 else 0)
unfolding cleared_in
cleared_one homes n = by (flag_of homes.flags n)
  where
    plain : (b : Bool) → bundles_room (if b then set_short always (homes.first + n) 0 ∷ [] else [])
        ≤ (if b then 1 else 0)
    plain true = omega arith
    plain false = omega arith

    by : (o : Option ℕ) → bundles_room (cleared_in o homes.first n) ≤ (if is_some o then 1 else if in_register
        homes.first n then 1 else 0)
    by None = plain (in_register homes.first n)
    by (Some p) = omega arith

record Cleared (homes : Homes) (n : ℕ) : Type 0 where
  few : bundles_room (words_cleared homes n) ≤ n
  least : bundles_room (words_cleared homes n) ≤ (OVERRUN - homes.first) + counted (flag_of homes.flags) n

cleared_room : (homes : Homes) (n : ℕ) → Cleared homes n
cleared_room homes zero = record { few = omega arith; least = omega arith }
cleared_room homes (suc n) =
    let x = cleared_room homes n in
    let more = room_append (words_cleared homes n) (word_cleared homes n) in
    by (is_some (flag_of homes.flags n)) refl (in_register homes.first n) refl x.few x.least more (cleared_one homes n)
  where
    by : (c : Bool) → is_some (flag_of homes.flags n) ≡ c → (b : Bool) → in_register homes.first n ≡ b
        → bundles_room (words_cleared homes n) ≤ n
        → bundles_room (words_cleared homes n) ≤ (OVERRUN - homes.first) + counted (flag_of homes.flags) n
        → bundles_room (words_cleared homes n ++ word_cleared homes n) ≡ bundles_room (words_cleared homes n)
        + bundles_room (word_cleared homes n)
        → bundles_room (word_cleared homes n) ≤ (if c then 1 else if b then 1 else 0) → Cleared homes (suc n)
    by true flagged b is few least more single = let one_more : counted (flag_of homes.flags) (suc n)
        ≡ counted (flag_of homes.flags) n + 1 =
        ap (λ x. counted (flag_of homes.flags) n + (if x then 1 else 0)) flagged in
        record { few = omega (arith, few, more, single); least = omega (arith, least, more, single, one_more) }
    by false plain true is few least more single = let lt = ltb-true (homes.first + n) OVERRUN is in
        record { few = omega (arith, few, more, single); least = omega (arith, few, more, single, lt) }
    by false plain false is few least more single =
        record { few = omega (arith, few, more, single); least = omega (arith, least, more, single) }

-- with its size word
pub function_room : (homes : Homes) (fs : List PlainFunction) (n : ℕ) (f : PlainFunction) → tree.function_formed fs n f
    ≡ true → FIRST ≤ homes.first → 1 + parts_room (function_code homes f) ≤ cost f
function_room homes fs n f h before =
    omega (
      arith,
      taken_is (λ bs. bundles_room bs ≤ 1) (frame_words homes.first f) (omega arith) (omega arith),
      kept_is (λ bs. bundles_room bs ≤ 4) homes.first f (λ has. omega arith) (omega arith),
      mask_room homes f,
      room_append (mask_kept homes f) (place_kept homes.first f),
      brought_is (λ bs. bundles_room (bs ++ result_given homes.first f) ≤ 10) homes.first f
          (λ has. omega (
            arith,
            freed_is (λ bs. bundles_room bs ≤ 1) (frame_words homes.first f) (omega arith)
                (omega arith),
            read_words homes.first RESULT f.result,
          ))
          (omega (
            arith,
            freed_is (λ bs. bundles_room bs ≤ 1) (frame_words homes.first f) (omega arith) (omega arith),
            read_words homes.first RESULT f.result,
          )),
      room_append (frame_taken homes.first f) (words_cleared homes (tree.slots_of f)
          ++ (arguments_kept homes.first f.parameters ++ state_kept homes f)),
      (parts_of_function fs n f h).parameters,
      before,
      kept_room homes.first f.parameters,
      (cleared_room homes (tree.slots_of f)).least,
      few_flags homes.flags (tree.slots_of f),
      room_append (words_cleared homes (tree.slots_of f)) (arguments_kept homes.first f.parameters
          ++ state_kept homes f),
      room_append (arguments_kept homes.first f.parameters) (state_kept homes f),
      room_both (body_code homes f) (function_rest homes.first f),
      stmts_room homes (frame_words homes.first f) (first_counter f) (begun_body homes.flags f),
      begun_costs homes.flags f,
    )
