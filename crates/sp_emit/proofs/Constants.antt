-- Where the long constants of code are words, the constants and the counts of the tree are.
use Rattle.std.proofs.Common.{◌≡◌, ℕ, zero, suc, ◌+◌, ◌-◌, ◌<◌, ◌^◌, ◌==◌, nat_lt, Option, None, Some, Bool, true, false, not, ◌&&◌, ◌||◌, if◌then◌else◌, List, [], ◌∷◌, ◌++◌, slice_index_or, refl, sym, ap, ◌∙◌, arith, true≢false, length, ◌⊎◌, inl, inr, ◌≤◌, subst}
use Rattle.std.specs.Prelude.{is_some}
use Rattle.std.specs.List.{list_all}
use Rattle.std.proofs.lemmas.Bool.{and_parts, and_from, eqb-true, ltb-true}
use Rattle.patmos_instr.specs.declared.functions.PredFunc.TheVariants as comb
use Rattle.sp_tree.specs.Need.{need}
use Rattle.sp_tree.specs.Plain.{PlainSp, constant, frame_word, cell_word, array_word, before_one, between_two}
use Rattle.sp_tree.specs.Statements.{PlainSpTarget, to_slot, to_cell, to_array, PlainStmt, masks, writes, calls, transfers, overruns, iterations, PlainStmts, no_stmt, stmt, PlainFunction, no_function, PlainUnit}
use Rattle.sp_tree.specs.declared.operators.SpBinary.{SpBinary}
use Rattle.sp_shape.specs.Bundles.{has_word, part_all, parts_all}
use Rattle.sp_shape.specs.Parts.{straight, PlainParts, no_part, part, one, joined}
use Rattle.sp_emit.proofs.TruthCode.{seeks_word, no_joins, condition_tests}
use Rattle.sp_emit.specs.Functions.{codes, frame_words}
use Rattle.sp_emit.specs.Places.{flag_of, fetched_at, keep_word, seek_word, match_word, mask_test, told_at}
use Rattle.sp_emit.proofs.Codes.{codes_at}
use Rattle.std.proofs.lemmas.Bool.{cases_lt}
use Rattle.sp_emit.specs.Counts.{HasStmtCounts, HasStmtsCounts, HasCounts}
use Rattle.sp_emit.specs.Flags.{stmt_hinders, stmts_hinder, behind_first, begun_body, flags_of, stmts_spared, flag_tops}
use Rattle.sp_tree.specs.MaskTests.{is_equal, is_word, tests_mask}
use Rattle.sp_emit.specs.Truths.{bits_of, is_test, test_of, tested_code, is_same, word_flag, flag_at, joins, is_truth, unless_stands, join, truth_code, before_flag, flag_set, flag_by, flag_code, is_frame_word, seeks, sought, operands_stood, both_of, is_condition, func_in, spares_second, pairs, kept_code, joining_code, paired_code, unjoined_code}
use Rattle.sp_tree.specs.MaskTests.{is_one}
use Rattle.sp_emit.proofs.FlagsStand.{Stands, stands_of, all_stand}
use Rattle.sp_emit.proofs.BegunBody.{neither}
use Rattle.sp_emit.proofs.Held.{short_below}
use Rattle.sp_emit.proofs.Lasts.{Gives, write_is}
use Rattle.sp_emit.proofs.Operands.{mask_is}
use Rattle.sp_emit.specs.Expressions.{is_home, unless, value_code, operands_code, expr_to, expr_code, operand_code, immediate_below, is_immediate}
use Rattle.sp_emit.specs.Functions.{first_counter, function_begin, function_rest, body_code, function_code, places_of, emitted}
use Rattle.sp_emit.specs.Means.{HasWordConstants, HasTargetConstants, HasArgsConstants, HasStmtConstants, HasStmtsConstants, HasConstants}
use Rattle.sp_emit.specs.Statements.{element_write, target_write, guarded_code, args_code, call_code, send_code, overrun_code, slot_set, iterations_begin, iterations_tail, stmt_code, stmts_code}
use Rattle.sp_emit.specs.Instructions.{always, where_so, under, number_op, set_number, combine}
use Rattle.sp_emit.specs.declared.registers.TheConstants.{FIRST, TEST, SECOND}
use Rattle.patmos_instr.specs.declared.instructions.Op.{Op}
use Rattle.patmos_instr.specs.declared.functions.AluFunc.TheVariants as alu
use Rattle.patmos_instr.specs.declared.functions.ImmFunc.TheVariants as imm
use Rattle.patmos_instr.specs.declared.instructions.Op.TheVariants.{AluImm, AluLong}
use Rattle.sp_emit.specs.declared.stands.Homes.{Homes}
use Rattle.sp_emit.specs.declared.stands.Flags.{Flags}

abbrev Wordy : PlainParts → Type 0
Wordy parts = parts_all has_word parts ≡ true

-- what holds of each bundle of parts after others holds of each of both
split : (a b : PlainParts) → Wordy (joined a b) → Wordy a × Wordy b
split no_part b h = (refl, h)
split (part p rest) b h =
    let x = and_parts (part_all has_word p) (parts_all has_word (joined rest b)) h in
    let y = split rest b x.1 in
    (and_from (part_all has_word p) (parts_all has_word rest) x.0 y.0, y.1)

-- ---- expressions

-- a constant that an instruction holds is small
held_small : (op : SpBinary) (n : ℕ) → n < immediate_below op → n < 2 ^ 32
held_small op n less = grind (arith, less)

held_word : (op : SpBinary) (e : PlainSp) → is_immediate op e ≡ true → HasWordConstants e
held_word op (constant n) held = held_small op n (short_below op n held)
held_word op _ held = absurd (true≢false (sym held))

two_ways : (C : Type 0) (held less : Bool) (x y z : PlainParts) → (held ≡ true → Wordy x → C) → (Wordy y → C)
    → (Wordy z → C) → Wordy (if held then x else if less then y else z) → C
two_ways C true less x y z f g h wordy = f refl wordy
two_ways C false true x y z f g h wordy = g wordy
two_ways C false false x y z f g h wordy = h wordy

number_word : (rd n : ℕ) → has_word (set_number rd n) ≡ true → n < 2 ^ 32
unfolding number_op
number_word rd n = by (nat_lt n 4096) refl
  where
    by : (b : Bool) → nat_lt n 4096 ≡ b
        → has_word (under always (if b then AluImm imm.Add rd 0 n else AluLong alu.Add rd 0 n)) ≡ true → n < 2 ^ 32
    by true less has = omega (arith, ltb-true n 4096 less)
    by false more has = ltb-true n (2 ^ 32) has

unless_words : (C : Type 0) (there : Bool) (code : PlainParts) → (there ≡ true → C) → (Wordy code → C)
    → Wordy (unless there code) → C
unless_words C true code f g wordy = f refl
unless_words C false code f g wordy = g wordy

-- a word of the frame has no constant, and 0 is a word
home_words : (homes : Homes) (e : PlainSp) → is_home homes e ≡ true → HasWordConstants e
home_words homes (frame_word slot) is = tt
home_words homes (constant n) is = let none = eqb-true n 0 is in omega (arith, none)
home_words homes e is = absurd (true≢false (sym is))

-- the number of a constant
abbrev OwnWord : PlainSp → Type 0
OwnWord (constant n) = n < 2 ^ 32
OwnWord _ = Unit {0}

own_word : (homes : Homes) (e : PlainSp) (rd to : ℕ) → Wordy (value_code homes e rd to) → OwnWord e
own_word homes (constant n) rd to v = number_word to n (and_parts (has_word (set_number to n)) true
    (and_parts (has_word (set_number to n) && true) true v).0).0
own_word homes _ rd to v = tt

parts_words : (homes : Homes) (e : PlainSp) (rd : ℕ) → Wordy (operands_code homes e rd) → OwnWord e → HasWordConstants e
parts_words homes (constant n) rd h own = own
parts_words homes (frame_word slot) rd h own = tt
parts_words homes (cell_word cell) rd h own = tt
parts_words homes (array_word array index) rd h own =
    unless_words (HasWordConstants index) (is_home homes index) (expr_code homes index rd) (home_words homes index)
    (λ x. let s = split (operands_code homes index rd) (value_code homes index rd rd) x in
    parts_words homes index rd s.0 (own_word homes index rd rd s.1)) h
parts_words homes (before_one op of) rd h own =
    unless_words (HasWordConstants of) (is_home homes of) (expr_code homes of rd) (home_words homes of)
    (λ x. let s = split (operands_code homes of rd) (value_code homes of rd rd) x in parts_words homes of rd s.0
    (own_word homes of rd rd s.1)) h
parts_words homes (between_two op a b) rd h own =
    let first : (at : ℕ) → Wordy (operand_code homes a at) → HasWordConstants a = λ at x.
    unless_words (HasWordConstants a) (is_home homes a) (expr_code homes a at) (home_words homes a)
    (λ y. let s = split (operands_code homes a at) (value_code homes a at at) y in parts_words homes a at s.0
    (own_word homes a at at s.1)) x in
    let second : (at : ℕ) → Wordy (operand_code homes b at) → HasWordConstants b = λ at x.
    unless_words (HasWordConstants b) (is_home homes b) (expr_code homes b at) (home_words homes b)
    (λ y. let s = split (operands_code homes b at) (value_code homes b at at) y in parts_words homes b at s.0
    (own_word homes b at at s.1)) x in
    two_ways (HasWordConstants a × HasWordConstants b) (is_immediate op b) (nat_lt (need a) (need b))
    (operand_code homes a rd) (joined (operand_code homes b rd) (operand_code homes a (rd + 1)))
    (joined (operand_code homes a rd) (operand_code homes b (rd + 1)))
    (λ held x. (first rd x, held_word op b held)) (λ x. let s = split (operand_code homes b rd)
    (operand_code homes a (rd + 1)) x in (first (rd + 1) s.1, second rd s.0))
    (λ x. let s = split (operand_code homes a rd) (operand_code homes b (rd + 1)) x in
    (first rd s.0, second (rd + 1) s.1)) h

expr_words : (homes : Homes) (e : PlainSp) (rd to : ℕ) → Wordy (expr_to homes e rd to) → HasWordConstants e
expr_words homes e rd to h = let s = split (operands_code homes e rd) (value_code homes e rd to) h in
    parts_words homes e rd s.0 (own_word homes e rd to s.1)

args_words : (homes : Homes) (args : List PlainSp) (rd : ℕ) → Wordy (args_code homes args rd) → HasArgsConstants args
args_words homes [] rd h = tt
args_words homes (e ∷ args) rd h =
    let s = split (expr_code homes e rd) (args_code homes args (rd + 1)) h in
    (expr_words homes e rd rd s.0, args_words homes args (rd + 1) s.1)

-- ---- truths

-- those that stand in predicates already have no constant but 1
one_words : (b : PlainSp) → is_one b ≡ true → HasWordConstants b
one_words (constant n) is = let same = eqb-true n 1 is in omega (arith, same)
one_words _ is = absurd (true≢false (sym is))

word_words : (flags : Flags) (a : PlainSp) → is_some (word_flag flags a) ≡ true → HasWordConstants a
word_words flags (frame_word slot) is = tt
word_words flags _ is = absurd (true≢false (sym is))

at_words : (flags : Flags) (e : PlainSp) → is_some (flag_at flags e) ≡ true → HasWordConstants e
at_words flags (constant n) is = by (n == 1) refl is
  where
    by : (b : Bool) → (n == 1) ≡ b → is_some {T = ℕ} (if b then Some 0 else None) ≡ true → n < 2 ^ 32
    by true same is = let one = eqb-true n 1 same in omega (arith, one)
    by false other is = absurd (true≢false (sym is))
at_words flags (frame_word slot) is = tt
at_words flags (between_two op a b) is = by (is_same op && is_one b) refl is
  where
    by : (c : Bool) → (is_same op && is_one b) ≡ c → is_some (if c then word_flag flags a else None) ≡ true
        → HasWordConstants a × HasWordConstants b
    by true same is = (word_words flags a is, one_words b (and_parts (is_same op) (is_one b) same).1)
    by false other is = absurd (true≢false (sym is))
at_words flags _ is = absurd (true≢false (sym is))

-- so does a word whose lowest bit is sought
joined_words : (flags : Flags) (op : SpBinary) (a b : PlainSp) → joins flags op a b ≡ true → HasWordConstants a
joined_words flags op a b joins_them = by (flag_at flags a) refl (and_parts (is_some (bits_of op))
    (is_some (flag_at flags a) || seeks flags op a b) joins_them).1
  where
    word : (a : PlainSp) → is_frame_word a ≡ true → HasWordConstants a
    word (frame_word slot) is = tt
    word (cell_word cell) is = tt
    word _ is = absurd (true≢false (sym is))

    by : (o : Option ℕ) → flag_at flags a ≡ o → (is_some o || seeks flags op a b) ≡ true → HasWordConstants a
    by (Some p) there is = at_words flags a (ap is_some there)
    by None none is = word a (seeks_word flags op a b is)

-- a constant that is tested is 0
test_word : (e : PlainSp) → is_test e ≡ true → OwnWord e
test_word (constant n) test = let none = eqb-true n 0 test in omega (arith, none)
test_word _ test = tt

tested_words : (homes : Homes) (e : PlainSp) → is_test e ≡ true → Wordy (tested_code homes e) → HasWordConstants e
tested_words homes e test h = parts_words homes e FIRST (split (operands_code homes e FIRST)
    (one (straight (test_of homes e))) h).0 (test_word e test)

-- two conditions, or one
unjoined_words : (homes : Homes) (op : SpBinary) (a b : PlainSp) → is_test (between_two op a b) ≡ true
    → (is_condition a ≡ true → Wordy (truth_code homes a) → HasWordConstants a)
    → Wordy (unjoined_code homes op a b (truth_code homes a)) → HasWordConstants a × HasWordConstants b
unjoined_words homes op a b test first h = by (pairs op a b) refl h
  where
    by : (c : Bool) → pairs op a b ≡ c → Wordy (if c then paired_code homes op b (truth_code homes a) else tested_code
        homes (between_two op a b)) → HasWordConstants a × HasWordConstants b
    by true is h =
        let x = and_parts (is_some (both_of op)) (is_condition a && (is_condition b && spares_second b)) is in
        let y = and_parts (is_condition a) (is_condition b && spares_second b) x.1 in
        let z = and_parts (is_condition b) (spares_second b) y.1 in
        let halves = split (kept_code (truth_code homes a)) (joining_code homes op b) h in
        let own = split (truth_code homes a) (one (straight (combine comb.Por SECOND TEST TEST ∷ []))) halves.0 in
        let other = split (tested_code homes b) (one (straight (combine (func_in (both_of op)) TEST SECOND TEST ∷ [])))
        halves.1 in
        (first y.0 own.0, tested_words homes b (condition_tests b z.0) other.0)
    by false is h = tested_words homes (between_two op a b) test h

-- where no predicate holds a truth already, code gives it
abbrev Truth : Homes → PlainSp → Type 0
Truth homes e = is_truth homes.flags e ≡ true

second_words : (homes : Homes) (b : PlainSp) → (flag_at homes.flags b ≡ None → Wordy (truth_code homes b)
    → HasWordConstants b) → Wordy (unless_stands (flag_at homes.flags b) (truth_code homes b)) → HasWordConstants b
second_words homes b code h = by (flag_at homes.flags b) refl h
  where
    by : (o : Option ℕ) → flag_at homes.flags b ≡ o → Wordy (unless_stands o (truth_code homes b)) → HasWordConstants b
    by None is h = code is h
    by (Some p) is h = at_words homes.flags b (ap is_some is)

-- a condition has them in its code
condition_words : (homes : Homes) (e : PlainSp) → is_condition e ≡ true → Wordy (truth_code homes e)
    → HasWordConstants e
condition_words homes (constant n) is h = absurd (true≢false (sym is))
condition_words homes (frame_word slot) is h = tt
condition_words homes (cell_word cell) is h = tt
condition_words homes (array_word array index) is h = absurd (true≢false (sym is))
condition_words homes (before_one op of) is h = tested_words homes (before_one op of) is h
condition_words homes (between_two op a b) is h =
    unjoined_words homes op a b (condition_tests (between_two op a b) is) (condition_words homes a)
    (subst (λ (c : Bool). Wordy (if c then joined (operands_stood homes a b (truth_code homes b))
    (one (straight (join homes.flags TEST op a b ∷ []))) else unjoined_code homes op a b (truth_code homes a)))
    (no_joins homes.flags op a b is) h)

truth_words : (homes : Homes) (e : PlainSp) → Truth homes e → flag_at homes.flags e ≡ None → Wordy (truth_code homes e)
    → HasWordConstants e
truth_words homes (constant n) is none h =
    tested_words homes (constant n) (sym (ap (λ o. is_some o || (n == 0)) none) ∙ is) h
truth_words homes (frame_word slot) is none h = tt
truth_words homes (cell_word cell) is none h = tt
truth_words homes (array_word array index) is none h = absurd (true≢false (sym is))
truth_words homes (before_one op of) is none h = tested_words homes (before_one op of) is h
truth_words homes (between_two op a b) is none h =
    by (joins homes.flags op a b) refl
    (sym (ap (λ o. is_some o || (if joins homes.flags op a b then is_truth homes.flags b else is_test
    (between_two op a b))) none) ∙ is) h (truth_words homes b)
  where
    by : (c : Bool) → joins homes.flags op a b ≡ c → (if c then is_truth homes.flags b else is_test
        (between_two op a b)) ≡ true
        → Wordy (if c then joined (operands_stood homes a b (truth_code homes b))
        (one (straight (join homes.flags TEST op a b ∷ []))) else unjoined_code homes op a b (truth_code homes a))
        → (Truth homes b → flag_at homes.flags b ≡ None → Wordy (truth_code homes b) → HasWordConstants b)
        → HasWordConstants a × HasWordConstants b
    by true joins_it is h second =
        let s = split (operands_stood homes a b (truth_code homes b))
        (one (straight (join homes.flags TEST op a b ∷ []))) h in (
          joined_words homes.flags op a b joins_it,
          second_words homes b (second is)
              (split (unless_stands (flag_at homes.flags b) (truth_code homes b)) (sought homes a) s.0).0,
        )
    by false tests is h second = unjoined_words homes op a b is (condition_words homes a) h

before_words : (homes : Homes) (e : PlainSp) → Truth homes e → flag_at homes.flags e ≡ None
    → Wordy (before_flag homes e) → HasWordConstants e
before_words homes (constant n) is none h =
    let zero : n ≡ 0 = eqb-true n 0 (ap (λ o. is_some o || is_test (constant n)) (sym none) ∙ is) in
    omega (arith, zero)
before_words homes (frame_word slot) is none h = tt
before_words homes (cell_word cell) is none h = tt
before_words homes (array_word array index) is none h = truth_words homes (array_word array index) is none h
before_words homes (before_one op of) is none h = truth_words homes (before_one op of) is none h
before_words homes (between_two op a b) is none h = by (joins homes.flags op a b) refl
    (sym (ap (λ o. is_some o || (if joins homes.flags op a b then is_truth homes.flags b else is_test
    (between_two op a b))) none) ∙ is) h
  where
    by : (c : Bool) → joins homes.flags op a b ≡ c → (if c then is_truth homes.flags b else is_test
        (between_two op a b)) ≡ true
        → Wordy (if c then operands_stood homes a b (truth_code homes b) else unjoined_code homes op a b
        (truth_code homes a)) → HasWordConstants a × HasWordConstants b
    by true joins_it is h = (
      joined_words homes.flags op a b joins_it,
      second_words homes b (truth_words homes b is)
          (split (unless_stands (flag_at homes.flags b) (truth_code homes b)) (sought homes a) h).0,
    )
    by false tests is h = unjoined_words homes op a b is (condition_words homes a) h

flag_words : (homes : Homes) (to : ℕ) (e : PlainSp) → Truth homes e → Wordy (flag_code homes to e) → HasWordConstants e
flag_words homes to e is h = by (flag_at homes.flags e) refl h
  where
    by : (o : Option ℕ) → flag_at homes.flags e ≡ o → Wordy (flag_by o homes to e) → HasWordConstants e
    by None none h = before_words homes e is none (split (before_flag homes e)
        (one (straight (flag_set homes.flags to e ∷ []))) h).0
    by (Some p) there h = at_words homes.flags e (ap is_some there)

-- ---- statements

target_words : (homes : Homes) (mask : ℕ) (target : PlainSpTarget) → Wordy (target_write homes mask target)
    → HasTargetConstants target
target_words homes mask (to_slot slot) h = tt
target_words homes mask (to_cell cell) h = tt
target_words homes mask (to_array array index) h =
    expr_words homes index 4 4 (split (expr_code homes index 4) (one (straight (element_write homes mask array))) h).0

written_words : (homes : Homes) (mask : ℕ) (target : PlainSpTarget) (e : PlainSp)
    → Wordy (joined (expr_code homes e 3) (target_write homes mask target)) → HasTargetConstants target
    × HasWordConstants e
written_words homes mask target e h =
    let s = split (expr_code homes e 3) (target_write homes mask target) h in
    (target_words homes mask target s.1, expr_words homes e 3 3 s.0)

-- an instruction has the same constant under a mask as under none
guarded_words : (homes : Homes) (mask : ℕ) (target : PlainSpTarget) (slot : ℕ) (e : PlainSp) (op : Op) → target
    ≡ to_slot slot → Gives (homes.first + slot) (value_code homes e 3 (homes.first + slot)) op
    → Wordy (guarded_code homes mask e op)
    → HasTargetConstants target × HasWordConstants e
guarded_words homes mask target slot e op is gives h =
    let s = split (operands_code homes e 3)
    (one (straight (mask_test homes mask ++ under (where_so (told_at homes mask)) op ∷ []))) h in
    let bundles = (and_parts (list_all has_word (mask_test homes mask ++ under (where_so (told_at homes mask)) op ∷ []))
    true s.1).0 in
    let behind = and_parts (has_word (seek_word homes mask)) _ bundles in
    let last = (and_parts (has_word (match_word homes mask)) (has_word (under always op) && true) behind.1).1 in (
      subst HasTargetConstants (sym is) tt,
      parts_words homes e 3 s.0 (own_word homes e 3 (homes.first + slot)
          (subst Wordy (sym gives.is) (and_from (has_word (under always op) && true) true last refl))),
    )

-- what a word in a predicate is set to is a truth
set_truth : (homes : Homes) (slot p : ℕ) (e : PlainSp) → stmt_hinders homes.flags (masks slot e) ≡ false
    → flag_of homes.flags slot ≡ Some p → Truth homes e
set_truth homes slot p e free is =
    by (is_truth homes.flags e) (sym (ap (λ o. is_some o && not (is_truth homes.flags e)) is) ∙ free)
  where
    by : (b : Bool) → not b ≡ false → b ≡ true
    by true free = refl
    by false free = absurd (true≢false free)

mutual
  stmt_words : (homes : Homes) (frame counter : ℕ) (t : PlainStmt) → stmt_hinders homes.flags t ≡ false
      → Wordy (stmt_code homes frame counter t) → HasStmtConstants t × HasStmtCounts t
  stmt_words homes frame counter (masks slot e) free h = (
    mask_is (λ ps. Wordy ps → HasWordConstants e) homes slot e (λ p is x. flag_words homes p e
        (set_truth homes slot p e free is) x) (λ plain here x. expr_words homes e 3 (homes.first + slot) x)
        (λ plain there x. expr_words homes e 3 3 (split (expr_code homes e 3) (slot_set homes.first slot) x).0) h,
    tt,
  )
  stmt_words homes frame counter (writes mask target e) free h = (
    write_is (λ ps. Wordy ps → HasTargetConstants target × HasWordConstants e) homes mask target e
        (written_words homes mask target e) (λ slot op is gives x. guarded_words homes mask target slot e op is
        gives x) h,
    tt,
  )
  stmt_words homes frame counter (calls mask k args result) free h =
      (args_words homes args 3 (split (args_code homes args 3) (call_code homes frame mask k result) h).0, tt)
  stmt_words homes frame counter (transfers mask core source target count) free h =
      let sent = one (straight (send_code homes mask core)) in
      let s = split (expr_code homes source 3) (joined (expr_code homes target 4)
      (joined (expr_code homes count 5) sent)) h in
      let t = split (expr_code homes target 4) (joined (expr_code homes count 5) sent) s.1 in (
        (
          expr_words homes source 3 3 s.0,
          expr_words homes target 4 4 t.0,
          expr_words homes count 5 5
              (split (expr_code homes count 5) sent t.1).0,
        ),
        tt,
      )
  stmt_words homes frame counter (overruns mask e) free h =
      (expr_words homes e 3 3 (split (expr_code homes e 3) (one (straight (overrun_code homes mask))) h).0, tt)
  stmt_words homes frame counter (iterations count body) free h =
      let inner = stmts_code homes frame (counter - 1) body in
      let left = fetched_at homes.first counter in
      let iteration = parts_all has_word inner && list_all has_word (iterations_tail homes.first counter) in
      let x = and_parts (list_all has_word (iterations_begin homes.first counter count)) (iteration && true) h in
      let b = stmts_words homes frame (counter - 1) body free (and_parts (parts_all has_word inner)
      (list_all has_word (iterations_tail homes.first counter)) (and_parts iteration true x.1).0).0 in (
        b.0,
        (
          number_word left count (and_parts (has_word (set_number left count))
              (list_all has_word (keep_word homes.first counter ∷ [])) x.0).0,
          b.1,
        ),
      )

  stmts_words : (homes : Homes) (frame counter : ℕ) (ts : PlainStmts) → stmts_hinder homes.flags ts ≡ false
      → Wordy (stmts_code homes frame counter ts) → HasStmtsConstants ts × HasStmtsCounts ts
  stmts_words homes frame counter no_stmt free h = (tt, tt)
  stmts_words homes frame counter (stmt t rest) free h =
      let each = neither (stmt_hinders homes.flags t) (stmts_hinder homes.flags rest) free in
      let s = split (stmt_code homes frame counter t) (stmts_code homes frame counter rest) h in
      let x = stmt_words homes frame counter t each.0 s.0 in
      let y = stmts_words homes frame counter rest each.1 s.1 in
      ((x.0, y.0), (x.1, y.1))

-- ---- functions

mask_words : (mask : ℕ) (a : PlainSp) → is_word mask a ≡ true → HasWordConstants a
mask_words mask (frame_word slot) is = tt
mask_words mask _ is = absurd (true≢false (sym is))

-- the first statement, where it has no code, has no constant but 1
first_words : (mask : ℕ) (ts : PlainStmts) → tests_mask mask ts ≡ true → HasStmtsConstants (behind_first ts)
    × HasStmtsCounts (behind_first ts) → HasStmtsConstants ts × HasStmtsCounts ts
first_words mask (stmt (masks slot (between_two op a b)) rest) tests h =
    let x = and_parts (is_equal op) (is_word mask a && is_one b) (and_parts (slot == mask) _ tests).1 in
    let y = and_parts (is_word mask a) (is_one b) x.1 in
    (((mask_words mask a y.0, one_words b y.1), h.0), (tt, h.1))
first_words mask _ tests h = absurd (true≢false (sym tests))

function_words : (homes : Homes) (f : PlainFunction) → Stands homes.flags f → Wordy (function_code homes f)
    → HasStmtsConstants f.body × HasStmtsCounts f.body
function_words homes f stands h = by (is_some (flag_of homes.flags f.mask)) refl
    (stmts_words homes (frame_words homes.first f) (first_counter f) (begun_body homes.flags f) stands.body
    (split (body_code homes f) (function_rest homes.first f) (and_parts (list_all has_word (function_begin homes f))
    (parts_all has_word (joined (body_code homes f) (function_rest homes.first f))) h).1).0)
  where
    by : (b : Bool) → is_some (flag_of homes.flags f.mask) ≡ b
        → HasStmtsConstants (if b then behind_first f.body else f.body)
        × HasStmtsCounts (if b then behind_first f.body else f.body) → HasStmtsConstants f.body
        × HasStmtsCounts f.body
    by true is rest = first_words f.mask f.body (stands.mask is) rest
    by false is all = all

past_or : (fs : List PlainFunction) (k : ℕ) → length fs ≤ k → slice_index_or fs k no_function ≡ no_function
past_or [] k past = refl
past_or (f ∷ fs) zero past = absurd (omega (arith, past))
past_or (f ∷ fs) (suc k) past = past_or fs k (omega (arith, past))

functions_words : (fs : List PlainFunction) → ((k : ℕ) → Wordy (slice_index_or (codes fs) k no_part))
    → (k : ℕ) → HasStmtsConstants (slice_index_or fs k no_function).body
    × HasStmtsCounts (slice_index_or fs k no_function).body
functions_words fs h k = by (cases_lt k (length fs))
  where
    by : (k < length fs) ⊎ (length fs ≤ k) → HasStmtsConstants (slice_index_or fs k no_function).body
        × HasStmtsCounts (slice_index_or fs k no_function).body
    by (inl less) =
        let f = slice_index_or fs k no_function in
        function_words (places_of fs k) f (stands_of (flags_of fs k) f (all_stand (stmts_spared (flag_tops fs k) f.body)
        f)) (subst Wordy (codes_at fs k less) (h k))
    by (inr past) = subst (λ f. HasStmtsConstants f.body × HasStmtsCounts f.body) (sym (past_or fs k past)) (tt, tt)

pub constants_are_words : (u : PlainUnit) → ((k : ℕ) → Wordy (slice_index_or (emitted u).functions k no_part))
    → HasConstants u.functions
constants_are_words u h k = (functions_words u.functions h k).0

pub counts_are_words : (u : PlainUnit) → ((k : ℕ) → Wordy (slice_index_or (emitted u).functions k no_part))
    → HasCounts u.functions
counts_are_words u h k = (functions_words u.functions h k).1
