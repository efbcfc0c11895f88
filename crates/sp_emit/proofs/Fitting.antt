-- What fits, by its parts.
use Rattle.std.proofs.Common.{◌≡◌, ℕ, zero, suc, ◌+◌, ◌-◌, ◌<◌, ◌≤◌, true, List, [], ◌∷◌, length, get_or, slice_index_or, arith, ap, sym, ◌∙◌, IfSome, Option, None, Some}
use Rattle.std.specs.Prelude.{nat_lt, nat_le, nat_eq, ◌&&◌}
use Rattle.std.proofs.lemmas.Bool.{and_parts, ltb-true, leb-true, eqb-true}
use Rattle.sp_tree.specs.Formed.{names_words, expr_formed, args_formed, target_formed, cell_formed, array_formed, result_formed, callee_formed, send_formed, stmts_formed, stmt_levels, stmts_levels, function_formed, functions_formed, slots_of}
use Rattle.sp_tree.specs.Need.{need}
use Rattle.sp_tree.specs.Plain.{PlainSp}
use Rattle.sp_tree.specs.Statements.{PlainSpTarget, to_slot, to_cell, to_array, PlainStmt, masks, writes, calls, transfers, overruns, iterations, PlainStmts, PlainFunction, no_function}
use Rattle.sp_tree.specs.declared.expressions.SpArray.{SpArray}
use Rattle.sp_tree.specs.declared.expressions.SpCell.{SpCell}
use Rattle.sp_tree.proofs.Forms.{FunctionParts, parts_of_function, function_at, earlier_one, earlier_ones, few_arguments, item_part}
use Rattle.sp_tree.specs.Shown.{plain_stmt, plain_function, stmts_of, functions_of}
use Rattle.sp_tree.specs.declared.statements.SpFunction.{SpFunction}
use Rattle.sp_tree.specs.declared.statements.SpStmt.{SpStmt}
use Rattle.sp_emit.specs.Functions.{first_counter}
use Rattle.sp_emit.specs.Flags.{begun_body}
use Rattle.sp_emit.proofs.BegunBody.{begun_formed, begun_levels}
use Rattle.sp_emit.specs.Fits.{ExprFits, ArgsFit, TargetFits, StmtFits, StmtsFit, FunctionFits}
use Rattle.sp_emit.specs.declared.stands.Flags.{Flags}

pub expr_fits : (slots rd : ℕ) (e : PlainSp) → slots ≤ 128 → rd ≤ 9 → expr_formed slots e ≡ true → ExprFits e rd
expr_fits slots rd e most low h =
    let b = and_parts (names_words slots e) (nat_le (need e) 12) h in
    record { slots = slots; most = most; names = b.0; registers = omega (arith, low, leb-true (need e) 12 b.1) }

few_slots : {frame counter : ℕ} {t : PlainStmt} → (f : StmtFits frame counter t) → f.slots ≤ 126
few_slots f = omega (arith, f.counters, f.counted)

word_fits : {frame counter : ℕ} {t : PlainStmt} (f : StmtFits frame counter t) (word : ℕ) → nat_lt word f.slots
    ≡ true → word < 128
word_fits f word h = omega (arith, few_slots f, ltb-true word f.slots h)

-- ---- a word that is set

masks_parts : {frame counter : ℕ} (slot : ℕ) (e : PlainSp) (f : StmtFits frame counter (masks slot e))
    → (nat_lt slot f.slots ≡ true) × (expr_formed f.slots e ≡ true)
masks_parts slot e f = and_parts (nat_lt slot f.slots) (expr_formed f.slots e) f.formed

pub masks_value : {frame counter : ℕ} (slot : ℕ) (e : PlainSp) → StmtFits frame counter (masks slot e) → ExprFits e 3
masks_value slot e f = expr_fits f.slots 3 e (omega (arith, few_slots f)) (omega arith) (masks_parts slot e f).1

pub masks_slot : {frame counter : ℕ} (slot : ℕ) (e : PlainSp) → StmtFits frame counter (masks slot e) → slot < 128
masks_slot slot e f = word_fits f slot (masks_parts slot e f).0

-- ---- a target that is set

writes_parts : {frame counter : ℕ} (mask : ℕ) (target : PlainSpTarget) (e : PlainSp)
    (f : StmtFits frame counter (writes mask target e))
    → (nat_lt mask f.slots ≡ true) × ((target_formed f.slots target ≡ true) × (expr_formed f.slots e ≡ true))
writes_parts mask target e f =
    let a = and_parts (nat_lt mask f.slots) (target_formed f.slots target && expr_formed f.slots e) f.formed in
    (a.0, and_parts (target_formed f.slots target) (expr_formed f.slots e) a.1)

pub writes_value : {frame counter : ℕ} (mask : ℕ) (target : PlainSpTarget) (e : PlainSp)
    → StmtFits frame counter (writes mask target e) → ExprFits e 3
writes_value mask target e f =
    expr_fits f.slots 3 e (omega (arith, few_slots f)) (omega arith) (writes_parts mask target e f).1.1

pub writes_target : {frame counter : ℕ} (mask : ℕ) (target : PlainSpTarget) (e : PlainSp)
    → StmtFits frame counter (writes mask target e) → TargetFits mask target
writes_target mask target e f =
    let parts = writes_parts mask target e f in
    record { slots = f.slots; most = omega (arith, few_slots f); masked = parts.0; formed = parts.1.0 }

pub target_mask : {mask : ℕ} {target : PlainSpTarget} → TargetFits mask target → mask < 128
target_mask {mask} f = omega (arith, f.most, ltb-true mask f.slots f.masked)

pub slot_fits : {mask : ℕ} (slot : ℕ) → TargetFits mask (to_slot slot) → slot < 128
slot_fits slot f = omega (arith, f.most, ltb-true slot f.slots f.formed)

pub index_fits : {mask : ℕ} (array : SpArray) (index : PlainSp) → TargetFits mask (to_array array index)
    → ExprFits index 4
index_fits array index f = expr_fits f.slots 4 index f.most (omega arith) (and_parts (array_formed array)
    (expr_formed f.slots index) f.formed).1

pub cell_fits : {mask : ℕ} (cell : SpCell) → TargetFits mask (to_cell cell) → cell_formed cell ≡ true
cell_fits cell f = f.formed

pub array_fits : {mask : ℕ} (array : SpArray) (index : PlainSp) → TargetFits mask (to_array array index)
    → array_formed array ≡ true
array_fits array index f = (and_parts (array_formed array) (expr_formed f.slots index) f.formed).0

-- ---- calls

calls_parts : {frame counter : ℕ} (mask k : ℕ) (args : List PlainSp) (result : Option ℕ)
    (f : StmtFits frame counter (calls mask k args result))
    → (nat_lt mask f.slots ≡ true) × ((args_formed f.slots args ≡ true) × (result_formed f.slots result ≡ true))
calls_parts mask k args result f =
    let a = and_parts (nat_lt mask f.slots) (callee_formed f.functions f.number k (length args)
    && (args_formed f.slots args && result_formed f.slots result)) f.formed in
    let b = and_parts (callee_formed f.functions f.number k (length args))
    (args_formed f.slots args && result_formed f.slots result) a.1 in
    (a.0, and_parts (args_formed f.slots args) (result_formed f.slots result) b.1)

pub calls_mask : {frame counter : ℕ} (mask k : ℕ) (args : List PlainSp) (result : Option ℕ)
    → StmtFits frame counter (calls mask k args result) → mask < 128
calls_mask mask k args result f = word_fits f mask (calls_parts mask k args result f).0

pub calls_args : {frame counter : ℕ} (mask k : ℕ) (args : List PlainSp) (result : Option ℕ)
    → StmtFits frame counter (calls mask k args result) → ArgsFit args 3
calls_args mask k args result f =
    let callee = slice_index_or f.functions k no_function in
    let a = and_parts (nat_lt mask f.slots) (callee_formed f.functions f.number k (length args)
    && (args_formed f.slots args && result_formed f.slots result)) f.formed in
    let b = and_parts (callee_formed f.functions f.number k (length args))
    (args_formed f.slots args && result_formed f.slots result) a.1 in
    let c = and_parts (nat_lt k f.number) (nat_eq (length args) callee.parameters) b.0 in
    let few = few_arguments f.functions k f.number (ltb-true k f.number c.0) f.earlier in
    record {
      slots = f.slots;
      most = omega (arith, few_slots f);
      formed = (calls_parts mask k args result f).1.0;
      registers = omega (arith, few, eqb-true (length args) callee.parameters c.1);
    }

pub calls_result : {frame counter : ℕ} (mask k : ℕ) (args : List PlainSp) (result : Option ℕ)
    → StmtFits frame counter (calls mask k args result) → IfSome result (λ word. word < 128)
calls_result mask k args None f = tt
calls_result mask k args (Some slot) f = word_fits f slot (calls_parts mask k args (Some slot) f).1.1

-- ---- sends

sends_parts : {frame counter : ℕ} (mask core : ℕ) (source target count : PlainSp)
    (f : StmtFits frame counter (transfers mask core source target count))
    → (nat_lt mask f.slots ≡ true) × ((nat_lt core 16 ≡ true) × ((expr_formed f.slots source ≡ true)
    × ((expr_formed f.slots target ≡ true) × (expr_formed f.slots count ≡ true))))
sends_parts mask core source target count f =
    let a = and_parts (nat_lt mask f.slots) (send_formed f.slots core source target count) f.formed in
    let b = and_parts (nat_lt core 16) (expr_formed f.slots source && (expr_formed f.slots target
    && expr_formed f.slots count)) a.1 in
    let c = and_parts (expr_formed f.slots source) (expr_formed f.slots target && expr_formed f.slots count) b.1 in
    (a.0, (b.0, (c.0, and_parts (expr_formed f.slots target) (expr_formed f.slots count) c.1)))

pub sends_mask : {frame counter : ℕ} (mask core : ℕ) (source target count : PlainSp)
    → StmtFits frame counter (transfers mask core source target count) → mask < 128
sends_mask mask core source target count f = word_fits f mask (sends_parts mask core source target count f).0

pub sends_core : {frame counter : ℕ} (mask core : ℕ) (source target count : PlainSp)
    → StmtFits frame counter (transfers mask core source target count) → core < 16
sends_core mask core source target count f = ltb-true core 16 (sends_parts mask core source target count f).1.0

pub sends_source : {frame counter : ℕ} (mask core : ℕ) (source target count : PlainSp)
    → StmtFits frame counter (transfers mask core source target count) → ExprFits source 3
sends_source mask core source target count f = expr_fits f.slots 3 source (omega (arith, few_slots f)) (omega arith)
    (sends_parts mask core source target count f).1.1.0

pub sends_target : {frame counter : ℕ} (mask core : ℕ) (source target count : PlainSp)
    → StmtFits frame counter (transfers mask core source target count) → ExprFits target 4
sends_target mask core source target count f = expr_fits f.slots 4 target (omega (arith, few_slots f)) (omega arith)
    (sends_parts mask core source target count f).1.1.1.0

pub sends_count : {frame counter : ℕ} (mask core : ℕ) (source target count : PlainSp)
    → StmtFits frame counter (transfers mask core source target count) → ExprFits count 5
sends_count mask core source target count f = expr_fits f.slots 5 count (omega (arith, few_slots f)) (omega arith)
    (sends_parts mask core source target count f).1.1.1.1

-- ---- loops

overruns_parts : {frame counter : ℕ} (mask : ℕ) (e : PlainSp) (f : StmtFits frame counter (overruns mask e))
    → (nat_lt mask f.slots ≡ true) × (expr_formed f.slots e ≡ true)
overruns_parts mask e f = and_parts (nat_lt mask f.slots) (expr_formed f.slots e) f.formed

pub overruns_mask : {frame counter : ℕ} (mask : ℕ) (e : PlainSp) → StmtFits frame counter (overruns mask e) → mask < 128
overruns_mask mask e f = word_fits f mask (overruns_parts mask e f).0

pub overruns_value : {frame counter : ℕ} (mask : ℕ) (e : PlainSp) → StmtFits frame counter (overruns mask e)
    → ExprFits e 3
overruns_value mask e f = expr_fits f.slots 3 e (omega (arith, few_slots f)) (omega arith) (overruns_parts mask e f).1

pub iterations_body : {frame counter : ℕ} (count : ℕ) (body : PlainStmts)
    → StmtFits frame counter (iterations count body) → StmtsFit frame (counter - 1) body
iterations_body count body f = record {
  functions = f.functions;
  number = f.number;
  earlier = f.earlier;
  slots = f.slots;
  some = f.some;
  formed = (and_parts (nat_lt 0 count) (stmts_formed f.functions f.number f.slots body) f.formed).1;
  counters = omega (arith, f.counters, f.some);
  counted = omega (arith, f.counted);
  most = f.most;
}

pub counter_fits : {frame counter : ℕ} (count : ℕ) (body : PlainStmts) → StmtFits frame counter (iterations count body)
    → counter < 128
counter_fits count body f = omega (arith, f.counted)

pub counter_some : {frame counter : ℕ} (count : ℕ) (body : PlainStmts) → StmtFits frame counter (iterations count body)
    → 1 ≤ counter
counter_some count body f = omega (arith, f.counters, f.some)

-- ---- statements one after another

level_within : (body : List SpStmt) (i : ℕ) (t : SpStmt) → i < length body → t ≡ get_or body i t
    → stmt_levels (plain_stmt t) ≤ stmts_levels (stmts_of body)
level_within [] i t within is = absurd (omega (arith, within))
level_within (x ∷ body) zero t within is = let same = ap (λ y. stmt_levels (plain_stmt y)) is in omega (arith, same)
level_within (x ∷ body) (suc i) t within is = omega (arith, level_within body i t (omega (arith, within)) is)

pub item_fits : {frame counter : ℕ} (body : List SpStmt) (i : ℕ) (t : SpStmt) → i < length body → t ≡ get_or body i t
    → StmtsFit frame counter (stmts_of body)
    → StmtFits frame counter (plain_stmt t)
item_fits body i t within is f = record {
  functions = f.functions;
  number = f.number;
  earlier = f.earlier;
  slots = f.slots;
  some = f.some;
  formed = item_part f.functions f.number f.slots body i t within is f.formed;
  counters = omega (arith, f.counters, level_within body i t within is);
  counted = f.counted;
  most = f.most;
}

-- ---- arguments

pub first_argument : {rd : ℕ} (e : PlainSp) (args : List PlainSp) → ArgsFit (e ∷ args) rd → ExprFits e rd
first_argument {rd} e args f =
    let b = and_parts (expr_formed f.slots e) (args_formed f.slots args) f.formed in
    let c = and_parts (names_words f.slots e) (nat_le (need e) 12) b.0 in
    record {
      slots = f.slots;
      most = f.most;
      names = c.0;
      registers = omega (
        arith,
        f.registers,
        leb-true (need e) 12 c.1,
      );
    }

pub other_arguments : {rd : ℕ} (e : PlainSp) (args : List PlainSp) → ArgsFit (e ∷ args) rd → ArgsFit args (rd + 1)
other_arguments {rd} e args f = record {
  slots = f.slots;
  most = f.most;
  formed = (and_parts (expr_formed f.slots e) (args_formed f.slots args) f.formed).1;
  registers = omega (arith, f.registers);
}

pub room_behind : {rd : ℕ} (e : PlainSp) (args : List PlainSp) → ArgsFit (e ∷ args) rd → rd + 1 < 32
room_behind {rd} e args f = omega (arith, f.registers)

-- ---- functions

parts : {f : PlainFunction} (h : FunctionFits f) → FunctionParts h.functions h.number f
parts {f} h = parts_of_function h.functions h.number f h.formed

pub frame_most : {f : PlainFunction} → FunctionFits f → f.frame ≤ 128
frame_most h = (parts h).frame

pub frame_least : {f : PlainFunction} → FunctionFits f → 3 ≤ f.frame
frame_least h = omega (arith, (parts h).mask)

pub few_parameters : {f : PlainFunction} → FunctionFits f → f.parameters ≤ 6
few_parameters h = (parts h).parameters

pub mask_fits : {f : PlainFunction} → FunctionFits f → f.mask < 128
mask_fits h = omega (arith, (parts h).mask, (parts h).frame)

pub result_fits : {f : PlainFunction} → FunctionFits f → f.result < 128
result_fits h = omega (arith, (parts h).result, (parts h).frame)

pub body_fits : {f : PlainFunction} (flags : Flags) {frame : ℕ} → frame ≤ 128 → FunctionFits f
    → StmtsFit frame (first_counter f) (begun_body flags f)
body_fits {f} flags few h = record {
  functions = h.functions;
  number = h.number;
  earlier = h.earlier;
  slots = slots_of f;
  some = omega (arith, (parts h).mask);
  formed = begun_formed flags h.functions h.number (slots_of f) f (parts h).body;
  counters = omega (arith, (parts h).mask, begun_levels flags f);
  counted = omega (arith, (parts h).mask, (parts h).frame);
  most = few;
}

pub function_fits : (functions : List SpFunction) (k : ℕ) (f : SpFunction) → k < length functions → f
    ≡ get_or functions k f
    → functions_formed (functions_of functions) (length functions) ≡ true → FunctionFits (plain_function f)
function_fits functions k f within is h = record {
  functions = functions_of functions;
  number = k;
  earlier = earlier_ones (functions_of functions) k (length functions) (omega (arith, within)) h;
  formed = ap (function_formed (functions_of functions) k) (sym (function_at functions k f within is))
      ∙ earlier_one (functions_of functions) k (length functions) within h;
}
