-- What holds of bundles of a class, of parts after others, and of the digits of a division, holds of the code of
-- expressions and statements.
use Rattle.std.proofs.Common.{Bool, ◌≡◌, ℕ, ◌+◌, ◌-◌, ◌<◌, ◌≤◌, ◌==◌, true, false, ◌&&◌, List, [], ◌∷◌, ◌++◌, Option, None, Some, length, slice_index_or, refl, subst, min, arith}
use Rattle.std.specs.Prelude.{nat_lt, nat_le}
use Rattle.std.proofs.lemmas.Bool.{and_parts, and_from, ltb-true, leb-true, eqb-true}
use Rattle.patmos_instr.specs.Bundles.{PlainBundle}
use Rattle.patmos_instr.specs.declared.functions.StackFunc.TheVariants.{Sres, Sens, Sfree}
use Rattle.patmos_instr.specs.declared.guards.Guard.{Guard}
use Rattle.sp_tree.specs.Formed.{names_words, array_formed, target_formed, expr_formed, callee_formed, args_formed, result_formed, send_formed, stmt_formed, stmts_formed, functions_formed, stmt_levels, slots_of}
use Rattle.sp_tree.specs.Need.{need}
use Rattle.sp_tree.specs.Plain.{PlainSp, constant, frame_word, cell_word, array_word, before_one, between_two}
use Rattle.sp_tree.specs.Statements.{PlainSpTarget, to_slot, to_cell, to_array, PlainStmt, masks, writes, calls, transfers, overruns, iterations, PlainStmts, no_stmt, stmt, PlainFunction, no_function}
use Rattle.sp_tree.specs.declared.operators.SpBinary.{SpBinary}
use Rattle.sp_tree.specs.declared.operators.SpBinary.TheVariants as binary
use Rattle.sp_tree.proofs.Forms.{few_arguments}
use Rattle.sp_shape.specs.Parts.{straight, PlainParts, no_part, one, joined}
use Rattle.sp_shape.proofs.Along.{parts_have, have_joined, have_lone, Composes, joined_has, lone_has, repeated_has}
use Rattle.sp_shape.specs.Trail.{Step, all_done, parts_trail}
use Rattle.sp_shape.proofs.Lists.{all_append}
use Rattle.sp_emit.specs.Division.{digit_tail, operands, without_signs, highest_bit, digits, around, unsigned_division, signed_division, unsigned_quotient_to, unsigned_rest_to, signed_quotient_to, signed_rest_to}
use Rattle.sp_emit.specs.Expressions.{binary_code, held_code, unary_code, cell_code, element_code, word_code, number_of, value_at, is_immediate, value_code, operands_code, expr_to, expr_code}
use Rattle.sp_emit.specs.Instructions.{always, where_so, under, set_number, combine}
use Rattle.sp_emit.specs.Places.{flag_of, in_register, stack_word, fetched_at, set_word, mask_test, told_at, args_least, target_least, stmt_least}
use Rattle.sp_emit.specs.Statements.{slot_write, cell_write, element_write, target_write, write_code, args_code, mask_handed, result_write, call_code, send_code, overrun_code, slot_set, mask_code, iterations_begin, iterations_tail, stmt_code, stmts_code}
use Rattle.sp_emit.specs.Truths.{bit_sought}
use Rattle.sp_emit.specs.declared.registers.TheConstants.{RESULT, MASK, FIRST, TEST, SECOND, SPARE, OVERRUN, FLAGS}
use Rattle.sp_emit.specs.declared.stands.Homes.{Homes}
use Rattle.sp_emit.proofs.Effects.{Footprint, is_in, AreIn, IsWide}
use Rattle.sp_emit.proofs.Footprints.{test, second, tests_in, alu_in, unary_in, held_in, operands_in, signs_in, highest_in, digits_in, unsigned_quotient_in, unsigned_rest_in, signed_quotient_in, signed_rest_in, number_in, seek_in, match_in, set_in, word_in, bit_in, begin_in, tail_in, handed_in, call_tail_in, overrun_in, cell_in, element_in, cell_write_in, element_write_in, send_in}
use Rattle.sp_emit.proofs.Lasts.{write_is}
use Rattle.sp_emit.proofs.Needs.{some_need}
use Rattle.sp_emit.proofs.Operands.{Handed, names_handed, needs_handed, both_handed, one_of, operands_are, mask_is}
use Rattle.sp_emit.proofs.TruthCode.{TruthParts, flag_is}
use Rattle.sp_emit.specs.Flags.{begun_body}
use Rattle.sp_emit.specs.Functions.{first_counter, frame_words, body_code, function_rest, function_code}
use Rattle.sp_emit.proofs.Around.{begins_in, ends_in, wide_begins, wide_ends}
use Rattle.sp_emit.proofs.Windows.{IsHomed, ArePlaced, InWindow, body_placed}
use Rattle.sp_emit.proofs.WordPlaces.{fetched_is}

pub record Walk (P : PlainParts → Type 0) (F : Footprint) : Type 0 where
  pub none : P no_part
  pub both : (x y : PlainParts) → P x → P y → P (joined x y)
  pub lone : (bs : List PlainBundle) → AreIn F bs → P (one (straight bs))
  pub unsigned : (ra rb : ℕ) (after : List PlainBundle) → AreIn F after → P (unsigned_division after ra rb)
  pub signed : (rest quotient ra rb : ℕ) (after : List PlainBundle) → rest < FLAGS → quotient < FLAGS → AreIn F after
      → P (signed_division rest quotient after ra rb)

-- where something holds of an expression and a register, its value may go there, and a word that it is may be read
pub record Room (F : Footprint) (homes : Homes) (Holds : PlainSp → ℕ → Type 0) : Type 0 where
  pub handed : Handed Holds
  pub sets : (e : PlainSp) (rd : ℕ) → Holds e rd → F.sets rd ≡ true
  pub reads : (slot rd : ℕ) → Holds (frame_word slot) rd → in_register homes.first slot ≡ false
      → F.reads (stack_word homes.first slot) ≡ true

-- where it holds of a division's digits by themselves
pub walk_of : {P : PlainParts → Type 0} (F : Footprint) → P no_part → ((x y : PlainParts) → P x → P y → P (joined x y))
    → ((bs : List PlainBundle) → AreIn F bs → P (one (straight bs))) → P (one digits) → Walk P F
walk_of {P} F none both lone itself = record {
  none = none;
  both = both;
  lone = lone;
  unsigned = λ ra rb after last. around_is (operands ra rb) after (operands_in F ra rb) last;
  signed = λ rest quotient ra rb after own other last.
      around_is (operands ra rb ++ without_signs rest quotient) after
      (all_append (is_in F) (operands ra rb) (without_signs rest quotient) (operands_in F ra rb)
      (signs_in F rest quotient own other)) last;
}
  where
    around_is : (before after : List PlainBundle) → AreIn F before → AreIn F after → P (around before after)
    around_is before after first last =
        both (one (straight (before ++ highest_bit ∷ []))) (joined (one digits) (one (straight after)))
        (lone (before ++ highest_bit ∷ []) (all_append (is_in F) before (highest_bit ∷ []) first
        (rw (highest_in F) refl)))
        (both (one digits) (one (straight after)) itself (lone after last))

-- ---- expressions

module _ {P : PlainParts → Type 0} {F : Footprint} (W : Walk P F) where
  pub binary_is : (op : SpBinary) (rd ra rb : ℕ) → F.sets rd ≡ true → P (binary_code op rd ra rb)
  binary_is binary.Divide rd ra rb sets = W.signed TEST SECOND ra rb (signed_quotient_to rd) (omega arith)
      (omega arith) (signed_quotient_in F rd sets)
  binary_is binary.DivideUnsigned rd ra rb sets =
      W.unsigned ra rb (unsigned_quotient_to rd ra) (unsigned_quotient_in F rd ra sets)
  binary_is binary.Remainder rd ra rb sets =
      W.signed SECOND TEST ra rb (signed_rest_to rd) (omega arith) (omega arith) (signed_rest_in F rd sets)
  binary_is binary.RemainderUnsigned rd ra rb sets =
      W.unsigned ra rb (unsigned_rest_to rd ra) (unsigned_rest_in F rd ra sets)
  binary_is _ rd ra rb sets =
      let one = test F in
      let two = second F in
      W.lone _ (grind (arith, sets, one, two))

module _ {P : PlainParts → Type 0} {F : Footprint} (W : Walk P F) (L : F.loads ≡ true) (homes : Homes)
    (Holds : PlainSp → ℕ → Type 0) (reads : (slot rd : ℕ) → Holds (frame_word slot) rd → in_register homes.first slot
    ≡ false → F.reads (stack_word homes.first slot) ≡ true) where
  pub value_is : (e : PlainSp) (rd to : ℕ) → Holds e rd → F.sets to ≡ true → P (value_code homes e rd to)
  value_is (constant n) rd to h sets = W.lone (set_number to n ∷ []) (rw (number_in F to n sets) refl)
  value_is (frame_word slot) rd to h sets =
      W.lone (word_code (flag_of homes.flags slot) homes.first to slot) (word_in F homes to slot sets (reads slot rd h))
  value_is (cell_word cell) rd to h sets = W.lone (cell_code cell to) (cell_in F cell to L sets)
  value_is (array_word array index) rd to h sets = W.lone (element_code array to (value_at homes index rd))
      (element_in F array to (value_at homes index rd) L sets)
  value_is (before_one op of) rd to h sets =
      W.lone (unary_code op to (value_at homes of rd)) (unary_in F op to (value_at homes of rd) sets)
  value_is (between_two op a b) rd to h sets =
      one_of P (is_immediate op b) (nat_lt (need a) (need b))
      (one (straight (held_code op to (value_at homes a rd) (number_of b))))
      (binary_code op to (value_at homes a (rd + 1)) (value_at homes b rd))
      (binary_code op to (value_at homes a rd) (value_at homes b (rd + 1)))
      (W.lone (held_code op to (value_at homes a rd) (number_of b))
      (held_in F op to (value_at homes a rd) (number_of b) sets))
      (λ less. binary_is W op to (value_at homes a (rd + 1)) (value_at homes b rd) sets)
      (λ more. binary_is W op to (value_at homes a rd) (value_at homes b (rd + 1)) sets)

module _ {P : PlainParts → Type 0} {F : Footprint} (W : Walk P F) (L : F.loads ≡ true) {homes : Homes}
    {Holds : PlainSp → ℕ → Type 0} (R : Room F homes Holds) where
  pub operands_is : (e : PlainSp) (rd : ℕ) → Holds e rd → P (operands_code homes e rd)
  operands_is e rd h = operands_are P homes Holds W.none W.both R.handed
      (λ e rd h. value_is W L homes Holds R.reads e rd rd h (R.sets e rd h)) e rd h

  pub expr_is : (e : PlainSp) (rd to : ℕ) → Holds e rd → F.sets to ≡ true → P (expr_to homes e rd to)
  expr_is e rd to h sets = W.both (operands_code homes e rd) (value_code homes e rd to) (operands_is e rd h)
      (value_is W L homes Holds R.reads e rd to h sets)

  -- its value stays in the first register
  pub own_is : (e : PlainSp) (rd : ℕ) → Holds e rd → P (expr_code homes e rd)
  own_is e rd h = expr_is e rd rd h (R.sets e rd h)

  pub truths_are : TruthParts P homes (λ e. Holds e FIRST)
  truths_are = record {
    none = W.none;
    both = W.both;
    first = λ op a b h. R.handed.first op a b FIRST h;
    second = λ op a b h. R.handed.second op a b FIRST h;
    operands = λ e h. operands_is e FIRST h;
    tests = λ bs tests. W.lone bs (tests_in F bs tests);
    bits = λ slot h. W.lone (bit_sought homes.first slot) (bit_in F homes.first slot (R.reads slot FIRST h));
  }

-- ---- what the code of a function's statements needs of a class, where its counters stand up to one

pub record Within (F : Footprint) (homes : Homes) (most : ℕ) : Type 0 where
  pub window : (r : ℕ) → r < homes.first → F.sets r ≡ true
  pub flag : F.sets OVERRUN ≡ true
  pub named : (slot p : ℕ) → flag_of homes.flags slot ≡ Some p → F.tells p ≡ true
  pub here : (slot : ℕ) → slot ≤ most → F.sets (homes.first + slot) ≡ true
  pub reads : (slot : ℕ) → slot ≤ most → in_register homes.first slot ≡ false
      → F.reads (stack_word homes.first slot) ≡ true
  pub stores : (slot : ℕ) → slot ≤ most → in_register homes.first slot ≡ false
      → F.stores (stack_word homes.first slot) ≡ true

-- where no register, and no word of the stack is left out
pub wide_within : {F : Footprint} → IsWide F → (homes : Homes) (most : ℕ) → ((slot p : ℕ) → flag_of homes.flags slot
    ≡ Some p → F.tells p ≡ true) → Within F homes most
wide_within wide homes most named = record {
  window = λ r lt. wide.sets r;
  flag = wide.sets OVERRUN;
  named = named;
  here = λ slot le. wide.sets (homes.first + slot);
  reads = λ slot le out. wide.reads (stack_word homes.first slot);
  stores = λ slot le out. wide.stores (stack_word homes.first slot);
}

-- an expression names words of the frame, and has registers before the window
abbrev pub Fits : Homes → ℕ → PlainSp → ℕ → Type 0
Fits homes slots e rd = (names_words slots e ≡ true) × (rd + need e ≤ min homes.first 21)

pub fits : (homes : Homes) (slots : ℕ) (e : PlainSp) (rd : ℕ) → rd ≤ 9 → expr_formed slots e ≡ true → rd + need e
    ≤ homes.first → Fits homes slots e rd
fits homes slots e rd few formed free =
    let parts = and_parts (names_words slots e) (nat_le (need e) 12) formed in
    (parts.0, omega (arith, few, free, leb-true (need e) 12 parts.1))

pub room_within : {F : Footprint} {homes : Homes} {most : ℕ} (slots : ℕ) → Within F homes most → slots ≤ most + 1
    → Room F homes (Fits homes slots)
room_within {F} {homes} {most} slots x le = record {
  handed = both_handed (names_handed slots) (needs_handed (min homes.first 21));
  sets = λ e rd h. x.window rd (omega (arith, h.1, some_need e));
  reads = λ slot rd h. x.reads slot (omega (arith, le, ltb-true slot slots h.0));
}

pub few_args : (fs : List PlainFunction) (number k count : ℕ) → functions_formed fs number ≡ true
    → callee_formed fs number k count ≡ true → FIRST + count ≤ 10
few_args fs number k count earlier formed =
    let callee = slice_index_or fs k no_function in
    let c = and_parts (nat_lt k number) (count == callee.parameters) formed in
    omega (arith, few_arguments fs k number (ltb-true k number c.0) earlier, eqb-true count callee.parameters c.1)

-- something holds of each function that is called, and of how often each loop is repeated
abbrev mutual
  pub StmtFlows : (ℕ → Type 0) → (ℕ → Type 0) → PlainStmt → Type 0
  StmtFlows Calls Loops (calls mask k args result) = Calls k
  StmtFlows Calls Loops (iterations count body) = Loops count × StmtsFlow Calls Loops body
  StmtFlows Calls Loops _ = Unit {0}

  pub StmtsFlow : (ℕ → Type 0) → (ℕ → Type 0) → PlainStmts → Type 0
  StmtsFlow Calls Loops no_stmt = Unit {0}
  StmtsFlow Calls Loops (stmt t rest) = StmtFlows Calls Loops t × StmtsFlow Calls Loops rest

mutual
  stmt_flows : (t : PlainStmt) → StmtFlows (λ k. Unit {0}) (λ count. Unit {0}) t
  stmt_flows (calls mask k args result) = tt
  stmt_flows (iterations count body) = (tt, stmts_flow body)
  stmt_flows _ = tt

  pub stmts_flow : (ts : PlainStmts) → StmtsFlow (λ k. Unit {0}) (λ count. Unit {0}) ts
  stmts_flow no_stmt = tt
  stmts_flow (stmt t rest) = (stmt_flows t, stmts_flow rest)

-- what holds of calls, and of loops
pub record Flows (P : PlainParts → Type 0) (tops : List ℕ) (homes : Homes) (fs : List PlainFunction)
    (number slots frame most : ℕ) (Calls Loops : ℕ → Type 0) : Type 0 where
  pub called : (mask k : ℕ) (result : Option ℕ) → mask < slots → k < number → slice_index_or tops k 0 ≤ homes.first
      → result_formed slots result ≡ true → Calls k → P (call_code homes frame mask k result)
  pub repeated : (count counter : ℕ) (body : PlainStmts) → 1 ≤ count → 1 ≤ counter → counter ≤ most
      → ArePlaced tops homes fs number slots (counter - 1) body → Loops count
      → P (stmts_code homes frame (counter - 1) body) → P (stmt_code homes frame counter (iterations count body))

module _ {P : PlainParts → Type 0} {F : Footprint} (W : Walk P F) (L : F.loads ≡ true) (S : F.writes ≡ true)
    {homes : Homes}
    {fs : List PlainFunction} {number slots most : ℕ} (h : IsHomed homes fs number slots)
    (x : Within F homes most) (le : slots ≤ most + 1) where
  R : Room F homes (Fits homes slots)
  R = room_within slots x le

  own : (e : PlainSp) (rd : ℕ) → rd ≤ 9 → expr_formed slots e ≡ true → rd + need e ≤ homes.first
      → P (expr_code homes e rd)
  own e rd few formed free = own_is W L R e rd (fits homes slots e rd few formed free)

  mask_read : (mask : ℕ) → mask < slots → in_register homes.first mask ≡ false
      → F.reads (stack_word homes.first mask) ≡ true
  mask_read mask lt = x.reads mask (omega (arith, le, lt))

  set_one : (g : Guard) (slot rs : ℕ) → slot < slots → is_in F (set_word homes.first g slot rs) ≡ true
  set_one g slot rs lt = set_in F homes.first g slot rs (x.here slot (omega (arith, le, lt)))
      (x.stores slot (omega (arith, le, lt)))

  pub args_are : (args : List PlainSp) (rd : ℕ) → rd + length args ≤ 10 → args_formed slots args ≡ true
      → args_least args rd ≤ homes.first → P (args_code homes args rd)
  args_are [] rd few formed free = W.none
  args_are (e ∷ args) rd few formed free =
      let parts = and_parts (expr_formed slots e) (args_formed slots args) formed in
      W.both (expr_code homes e rd) (args_code homes args (rd + 1))
      (own e rd (omega (arith, few)) parts.0 (omega (arith, free)))
      (args_are args (rd + 1) (omega (arith, few)) parts.1 (omega (arith, free)))

  mask_set : (slot : ℕ) (e : PlainSp) → slot < slots → expr_formed slots e ≡ true → FIRST + need e ≤ homes.first
      → P (mask_code homes slot e)
  mask_set slot e lt formed free =
      let f = fits homes slots e FIRST (omega arith) formed free in
      mask_is P homes slot e
      (λ p is. flag_is (truths_are W L R) p (λ func a b. W.lone (combine func p a b ∷ [])
      (rw (x.named slot p is) refl)) e f)
      (λ plain here. expr_is W L R e FIRST (homes.first + slot) f (x.here slot (omega (arith, le, lt))))
      (λ plain there. W.both (expr_code homes e FIRST) (slot_set homes.first slot) (own_is W L R e FIRST f)
      (W.lone (set_word homes.first always slot FIRST ∷ []) (rw (set_one always slot FIRST lt) refl)))

  target_is : (mask : ℕ) (target : PlainSpTarget) → mask < slots → target_formed slots target ≡ true
      → target_least target ≤ homes.first → P (target_write homes mask target)
  target_is mask (to_slot slot) lt formed free = W.lone (slot_write homes mask slot) (rw (
    seek_in F homes mask (mask_read mask lt),
    match_in F homes mask,
    set_one (where_so (told_at homes mask)) slot FIRST (ltb-true slot slots formed),
  ) refl)
  target_is mask (to_cell cell) lt formed free =
      W.lone (cell_write homes mask cell) (cell_write_in F homes mask cell S (mask_read mask lt))
  target_is mask (to_array array index) lt formed free =
      W.both (expr_code homes index (FIRST + 1)) (one (straight (element_write homes mask array)))
      (own index (FIRST + 1) (omega arith) (and_parts (array_formed array) (expr_formed slots index) formed).1 free)
      (W.lone (element_write homes mask array) (element_write_in F homes mask array S
      (x.window (FIRST + 1) (omega (arith, free, some_need index))) (mask_read mask lt)))

  write_has : (mask : ℕ) (target : PlainSpTarget) (e : PlainSp) → mask < slots → target_formed slots target ≡ true
      → expr_formed slots e ≡ true → FIRST + need e ≤ homes.first → target_least target ≤ homes.first
      → P (write_code homes mask target e)
  write_has mask target e lt formed value free least =
      write_is P homes mask target e (W.both (expr_code homes e FIRST) (target_write homes mask target)
      (own e FIRST (omega arith) value free) (target_is mask target lt formed least))
      (λ slot op is gives.
      let named = ltb-true slot slots (subst (λ t. target_formed slots t ≡ true) is formed) in
      let last = mask_test homes mask ++ under (where_so (told_at homes mask)) op ∷ [] in
      W.both (operands_code homes e FIRST) (one (straight last))
      (operands_is W L R e FIRST (fits homes slots e FIRST (omega arith) value free)) (W.lone last (rw (
        seek_in F homes mask (mask_read mask lt),
        match_in F homes mask,
        alu_in F (where_so (told_at homes mask)) (homes.first + slot) op gives.alu
            (x.here slot (omega (arith, le, named))),
      ) refl)))

  -- the code of a function's statements
  module _ {tops : List ℕ} {frame : ℕ} {Calls Loops : ℕ → Type 0}
      (G : Flows P tops homes fs number slots frame most Calls Loops) where
    mutual
      stmt_is : (counter : ℕ) (t : PlainStmt) → counter ≤ most → slots + stmt_levels t ≤ counter + 1
          → stmt_formed fs number slots t ≡ true → stmt_least tops t ≤ homes.first → StmtFlows Calls Loops t
          → P (stmt_code homes frame counter t)
      stmt_is counter (masks slot e) within levels formed free flows =
          let parts = and_parts (nat_lt slot slots) (expr_formed slots e) formed in
          mask_set slot e (ltb-true slot slots parts.0) parts.1 free
      stmt_is counter (writes mask target e) within levels formed free flows =
          let a = and_parts (nat_lt mask slots) (target_formed slots target && expr_formed slots e) formed in
          let b = and_parts (target_formed slots target) (expr_formed slots e) a.1 in
          write_has mask target e (ltb-true mask slots a.0) b.0 b.1 (omega (arith, free)) (omega (arith, free))
      stmt_is counter (calls mask k args result) within levels formed free flows =
          let a = and_parts (nat_lt mask slots) (callee_formed fs number k (length args)
          && (args_formed slots args && result_formed slots result)) formed in
          let b = and_parts (callee_formed fs number k (length args)) (args_formed slots args
          && result_formed slots result) a.1 in
          let c = and_parts (args_formed slots args) (result_formed slots result) b.1 in
          let callee = and_parts (nat_lt k number) (length args == (slice_index_or fs k no_function).parameters) b.0 in
          W.both (args_code homes args FIRST) (call_code homes frame mask k result) (args_are args FIRST
          (few_args fs number k (length args) h.earlier b.0) c.0 (omega (arith, free)))
          (G.called mask k result (ltb-true mask slots a.0) (ltb-true k number callee.0)
          (omega (arith, free)) c.1 flows)
      stmt_is counter (transfers mask core source target count) within levels formed free flows =
          let a = and_parts (nat_lt mask slots) (send_formed slots core source target count) formed in
          let b = and_parts (nat_lt core 16) (expr_formed slots source && (expr_formed slots target
          && expr_formed slots count)) a.1 in
          let c = and_parts (expr_formed slots source) (expr_formed slots target && expr_formed slots count) b.1 in
          let d = and_parts (expr_formed slots target) (expr_formed slots count) c.1 in
          let sent = one (straight (send_code homes mask core)) in
          W.both (expr_code homes source FIRST) (joined (expr_code homes target (FIRST + 1))
          (joined (expr_code homes count (FIRST + 2)) sent)) (own source FIRST (omega arith) c.0 (omega (arith, free)))
          (W.both (expr_code homes target (FIRST + 1)) (joined (expr_code homes count (FIRST + 2)) sent)
          (own target (FIRST + 1) (omega arith) d.0 (omega (arith, free)))
          (W.both (expr_code homes count (FIRST + 2)) sent (own count (FIRST + 2) (omega arith) d.1
          (omega (arith, free))) (W.lone (send_code homes mask core) (send_in F homes mask core S
          (x.window (FIRST + 3) (omega (arith, free))) (mask_read mask (ltb-true mask slots a.0))))))
      stmt_is counter (overruns mask e) within levels formed free flows =
          let parts = and_parts (nat_lt mask slots) (expr_formed slots e) formed in
          W.both (expr_code homes e FIRST) (one (straight (overrun_code homes mask)))
          (own e FIRST (omega arith) parts.1 free) (W.lone (overrun_code homes mask)
          (overrun_in F homes mask x.flag (mask_read mask (ltb-true mask slots parts.0))))
      stmt_is counter (iterations count body) within levels formed free flows =
          let parts = and_parts (nat_lt 0 count) (stmts_formed fs number slots body) formed in
          let placed : ArePlaced tops homes fs number slots (counter - 1) body = record {
            levels = omega (arith, levels, h.some);
            formed = parts.1;
            least = omega (arith, free);
          } in
          G.repeated count counter body (ltb-true 0 count parts.0) (omega (arith, levels, h.some)) within placed flows.0
          (stmts_are (counter - 1) body (omega (arith, within)) placed flows.1)

      pub stmts_are : (counter : ℕ) (ts : PlainStmts) → counter ≤ most
          → ArePlaced tops homes fs number slots counter ts → StmtsFlow Calls Loops ts
          → P (stmts_code homes frame counter ts)
      stmts_are counter no_stmt within p flows = W.none
      stmts_are counter (stmt t rest) within p flows =
          let parts = and_parts (stmt_formed fs number slots t) (stmts_formed fs number slots rest) p.formed in
          W.both (stmt_code homes frame counter t) (stmts_code homes frame counter rest)
          (stmt_is counter t within (omega (arith, p.levels)) parts.0 (omega (arith, p.least)) flows.0)
          (stmts_are counter rest within (record {
            levels = omega (arith, p.levels);
            formed = parts.1;
            least = omega (arith, p.least);
          }) flows.1)

-- and that of its body
pub body_is : {P : PlainParts → Type 0} {F : Footprint} → Walk P F → F.loads ≡ true → F.writes ≡ true
    → {tops : List ℕ} {homes : Homes}
    {fs : List PlainFunction} {number : ℕ} {f : PlainFunction} {Calls Loops : ℕ → Type 0}
    → InWindow homes tops fs number f → Within F homes (first_counter f)
    → Flows P tops homes fs number (slots_of f) (frame_words homes.first f) (first_counter f) Calls Loops
    → StmtsFlow Calls Loops (begun_body homes.flags f) → P (body_code homes f)
body_is W L S {homes = homes} {f = f} w x F flows =
    let p = body_placed w in
    stmts_are W L S w.homed x (omega (arith, p.levels)) F (first_counter f) (begun_body homes.flags f) (omega arith) p
    flows

-- ---- the bundles of loops and calls

counter_sets : {F : Footprint} {homes : Homes} {most : ℕ} → Within F homes most → (counter : ℕ) → counter ≤ most
    → F.sets (fetched_at homes.first counter) ≡ true
counter_sets {F} {homes} x counter within = fetched_is (λ r. F.sets r ≡ true) homes.first counter
    (λ lt. x.here counter within) (F.spare SPARE (omega arith))

pub begins : {F : Footprint} {homes : Homes} {most : ℕ} → Within F homes most → (counter count : ℕ) → counter ≤ most
    → AreIn F (iterations_begin homes.first counter count)
begins {F} {homes} x counter count within =
    begin_in F homes.first counter count (counter_sets x counter within) (x.stores counter within)

pub tails : {F : Footprint} {homes : Homes} {most : ℕ} → Within F homes most → (counter : ℕ) → counter ≤ most
    → F.branches ≡ true → AreIn F (iterations_tail homes.first counter)
tails {F} {homes} x counter within flows = tail_in F homes.first counter (counter_sets x counter within)
    (x.reads counter within) (x.stores counter within) flows

pub hands : {F : Footprint} {homes : Homes} {most : ℕ} → Within F homes most → (mask : ℕ) → mask ≤ most
    → FIRST ≤ homes.first → AreIn F (mask_handed homes mask)
hands {F} {homes} x mask lt own = handed_in F homes mask (x.window MASK (omega (arith, own))) (x.reads mask lt)

-- the result of a call
pub results : {F : Footprint} {homes : Homes} {most : ℕ} → Within F homes most → (slots mask : ℕ) (result : Option ℕ)
    → slots ≤ most + 1 → mask < slots → result_formed slots result ≡ true → AreIn F (result_write homes mask result)
results x slots mask None le lt formed = refl
results {F} {homes} x slots mask (Some slot) le lt formed =
    let named = ltb-true slot slots formed in
    rw (
      seek_in F homes mask (x.reads mask (omega (arith, le, lt))),
      match_in F homes mask,
      set_in F homes.first (where_so (told_at homes mask)) slot RESULT (x.here slot (omega (arith, le, named)))
          (x.stores slot (omega (arith, le, named))),
    ) refl

-- ---- code that keeps to a footprint, and calls functions of a class alone

abbrev pub CodeIn : Footprint → (ℕ → Bool) → PlainParts → Type 0
CodeIn F may ps = parts_have (is_in F) may ps ≡ true

pub in_walk : (F : Footprint) → F.branches ≡ true → (may : ℕ → Bool) → Walk (CodeIn F may) F
in_walk F branches may = walk_of F refl (have_joined (is_in F) may) (have_lone (is_in F) may)
    (rw (digits_in F branches) refl)

-- what holds of bundles within it, and of steps one after another
pub trail_walk : (P : List Step → Type 0) → Composes P → (F : Footprint) → F.branches ≡ true
    → ((bs : List PlainBundle) → AreIn F bs → P (all_done bs)) → (f : ℕ → List Step)
    → Walk (λ ps. P (parts_trail f ps)) F
trail_walk P c F branches done f = walk_of F c.none (joined_has P c f) (λ bs all. lone_has P f bs (done bs all))
    (repeated_has P c f 8 no_part digit_tail c.none (done digit_tail (digits_in F branches)))

-- a footprint in which functions may be called, and loops be repeated
pub record HasFlows (F : Footprint) : Type 0 where
  pub branches : F.branches ≡ true
  pub calls : F.calls ≡ true
  pub brings : (count : ℕ) → F.stacks Sens count ≡ true

pub in_flows : {F : Footprint} → HasFlows F → (may : ℕ → Bool) (tops : List ℕ) {homes : Homes} (fs : List PlainFunction)
    (number slots frame : ℕ) {most : ℕ} {Calls : ℕ → Type 0} → Within F homes most → slots ≤ most + 1
    → FIRST ≤ homes.first → ((k : ℕ) → k < number → slice_index_or tops k 0 ≤ homes.first → Calls k → may k ≡ true)
    → Flows (CodeIn F may) tops homes fs number slots frame most Calls (λ count. Unit {0})
in_flows {F} has may tops {homes} fs number slots frame x le own allowed = record {
  called = λ mask k result lt earlier top formed called. rw (
    hands x mask (omega (arith, le, lt)) own,
    allowed k earlier top called,
    call_tail_in F has.calls,
    has.brings frame,
    results x slots mask result le lt formed,
  ) refl;
  repeated = λ count counter body some one within placed may all.
      rw (begins x counter count within, all, tails x counter within has.branches) refl;
}

pub body_in : {F : Footprint} → HasFlows F → F.loads ≡ true → F.writes ≡ true → (may : ℕ → Bool) {Calls : ℕ → Type 0}
    {tops : List ℕ} {homes : Homes} {fs : List PlainFunction} {number : ℕ} {f : PlainFunction}
    → InWindow homes tops fs number f → Within F homes (first_counter f)
    → ((k : ℕ) → k < number → slice_index_or tops k 0 ≤ homes.first → Calls k → may k ≡ true)
    → StmtsFlow Calls (λ count. Unit {0}) (begun_body homes.flags f) → CodeIn F may (body_code homes f)
body_in {F} has L S may {tops = tops} {homes} {fs} {number} {f} w x allowed flows =
    body_is (in_walk F has.branches may) L S w x (in_flows has may tops fs number (slots_of f)
    (frame_words homes.first f) x (omega (arith, (body_placed w).levels)) w.homed.own allowed) flows

-- a footprint that leaves out no register, no word of the stack and no other memory
pub record IsFull (F : Footprint) : Type 0 where
  pub wide : IsWide F
  pub flows : HasFlows F
  pub loads : F.loads ≡ true
  pub writes : F.writes ≡ true
  pub specials : F.specials ≡ true
  pub returns : F.returns ≡ true

pub function_in : {F : Footprint} → IsFull F → (may : ℕ → Bool) {Calls : ℕ → Type 0} {tops : List ℕ} {homes : Homes}
    {fs : List PlainFunction} {number : ℕ} {f : PlainFunction} → InWindow homes tops fs number f
    → ((slot p : ℕ) → flag_of homes.flags slot ≡ Some p → F.tells p ≡ true)
    → F.stacks Sres (frame_words homes.first f) ≡ true → F.stacks Sfree (frame_words homes.first f) ≡ true
    → ((k : ℕ) → k < number → slice_index_or tops k 0 ≤ homes.first → Calls k → may k ≡ true)
    → StmtsFlow Calls (λ count. Unit {0}) (begun_body homes.flags f) → CodeIn F may (function_code homes f)
function_in {F} full may {homes = homes} {f = f} w named takes frees allowed flows =
    let begin = begins_in (wide_begins full.wide homes f named) w.parts takes in
    let body = body_in full.flows full.loads full.writes may w (wide_within full.wide homes (first_counter f) named)
    allowed flows in
    let end = ends_in (wide_ends full.wide full.specials homes.first f) frees in
    let returns = full.returns in
    and_from _ _ begin (have_joined (is_in F) may (body_code homes f) (function_rest homes.first f) body
    (rw (end, returns, F.zero) refl))
