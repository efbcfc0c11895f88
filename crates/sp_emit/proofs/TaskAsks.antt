-- The code of statements, functions and tasks asks for what their trees name.
use Rattle.std.proofs.Common.{◌≡◌, ℕ, zero, suc, ◌+◌, ◌-◌, ◌<◌, ◌≤◌, ◌==◌, Bool, true, ◌&&◌, List, [], ◌∷◌, ◌++◌, length, slice_index_or, nat_lt, refl, sym, subst, arith}
use Rattle.std.specs.List.{All}
use Rattle.std.proofs.lemmas.Bool.{lt-ltb, and_parts, ltb-true, eqb-true}
use Rattle.patmos_instr.specs.Bundles.{PlainBundle}
use Rattle.sp_tree.proofs.Forms.{earlier_one, parts_of_function}
use Rattle.sp_tree.specs.Formed.{send_formed, target_formed, array_formed, expr_formed, callee_formed, args_formed, result_formed, stmt_formed, stmts_formed, functions_formed, is_formed, slots_of}
use Rattle.sp_tree.specs.Plain.{PlainSp}
use Rattle.sp_tree.specs.Statements.{PlainSpTarget, to_slot, to_cell, to_array, PlainStmt, masks, writes, calls, transfers, overruns, iterations, PlainStmts, no_stmt, stmt, PlainFunction, no_function, PlainUnit}
use Rattle.sp_tree.specs.Uses.{Use, expr_uses, args_uses, target_uses, stmt_uses, stmts_uses, functions_uses, uses_of}
use Rattle.sp_shape.specs.Parts.{straight, one, joined}
use Rattle.sp_shape.specs.Trail.{Step, all_done, parts_trail, trails, trail}
use Rattle.sp_emit.specs.Accesses.{AsksOnly}
use Rattle.sp_emit.specs.Expressions.{operands_code, expr_code}
use Rattle.sp_emit.specs.Functions.{first_counter, function_begin, function_end, function_rest, function_code, return_tail, emitted, frame_words}
use Rattle.sp_emit.specs.Statements.{slot_write, cell_write, element_write, target_write, args_code, call_code, send_code, overrun_code, slot_set, iterations_begin, iterations_tail, stmt_code, stmts_code}
use Rattle.sp_emit.specs.Instructions.{always, where_so, under}
use Rattle.sp_emit.specs.declared.registers.TheConstants.{FIRST, OVERRUN}
use Rattle.sp_emit.proofs.Accessing.{asks_append, asks_nothing, asks_compose, near_asks, near_parts, nearby, near_wide}
use Rattle.sp_emit.proofs.Effects.{AreIn}
use Rattle.sp_shape.proofs.Along.{copied}
use Rattle.sp_emit.proofs.Footprints.{seek_in, match_in, set_in, alu_in}
use Rattle.sp_emit.proofs.Walks.{Within, wide_within, in_flows, begins, tails}
use Rattle.sp_emit.proofs.Windows.{InWindow, each_function, unit_parts}
use Rattle.sp_emit.specs.Flags.{behind_first, begun_body}
use Rattle.sp_emit.specs.Places.{set_word, mask_test, told_at}
use Rattle.sp_emit.specs.Functions.{codes}
use Rattle.sp_emit.proofs.Around.{begins_in, ends_in, wide_begins, wide_ends}
use Rattle.sp_emit.proofs.BegunBody.{begun_is, begun_formed}
use Rattle.sp_emit.proofs.Codes.{codes_length, code_of}
use Rattle.sp_emit.proofs.StoreAsks.{cell_write_asks, element_write_asks, send_asks}
use Rattle.sp_emit.proofs.ValueAsks.{AreNamed, are_named, named_left, named_right, asks_joined, asks_lone, operands_ask, expr_asks, flag_asks}
use Rattle.sp_emit.proofs.Fitting.{expr_fits}
use Rattle.sp_emit.proofs.Lasts.{write_is}
use Rattle.sp_emit.proofs.Operands.{mask_is}
use Rattle.sp_emit.specs.declared.stands.Homes.{Homes}
use Rattle.sp_emit.specs.declared.stands.Flags.{Flags}

-- ---- values

value_asks : (homes : Homes) (Named : Use → Type 0) (f : ℕ → List Step) (slots rd : ℕ) (e : PlainSp) → slots ≤ 128
    → 1 ≤ rd → rd ≤ 9 → expr_formed slots e ≡ true → AreNamed Named (expr_uses e)
    → AsksOnly Named (parts_trail f (expr_code homes e rd))
value_asks homes Named f slots rd e most some few formed named =
    expr_asks homes Named f e rd rd some (omega (arith, few)) some (expr_fits slots rd e most few formed) named

args_ask : (homes : Homes) (Named : Use → Type 0) (f : ℕ → List Step) (slots : ℕ) (args : List PlainSp) (rd : ℕ)
    → slots ≤ 128 → 1 ≤ rd → rd + length args ≤ 10 → args_formed slots args ≡ true → AreNamed Named (args_uses args)
    → AsksOnly Named (parts_trail f (args_code homes args rd))
args_ask homes Named f slots [] rd most some few formed named = asks_nothing Named
args_ask homes Named f slots (e ∷ args) rd most some few formed named =
    let parts = and_parts (expr_formed slots e) (args_formed slots args) formed in
    asks_joined f (expr_code homes e rd) (args_code homes args (rd + 1)) (value_asks homes Named f slots rd e most some
    (omega (arith, few)) parts.0 (named_left Named (expr_uses e) (args_uses args) named))
    (args_ask homes Named f slots args (rd + 1) most (omega arith) (omega (arith, few)) parts.1
    (named_right Named (expr_uses e) (args_uses args) named))

-- bundles that reach the stack alone
near_lone : (Named : Use → Type 0) (f : ℕ → List Step) (bs : List PlainBundle) → AreIn nearby bs
    → AsksOnly Named (parts_trail f (one (straight bs)))
near_lone Named f bs near = asks_lone f bs (near_asks Named bs near)

target_asks : (homes : Homes) (Named : Use → Type 0) (f : ℕ → List Step) (slots mask : ℕ) (target : PlainSpTarget)
    → slots ≤ 128 → target_formed slots target ≡ true → AreNamed Named (target_uses target)
    → AsksOnly Named (parts_trail f (target_write homes mask target))
target_asks homes Named f slots mask (to_slot slot) most formed named =
    near_lone Named f (slot_write homes mask slot) (rw (
      seek_in nearby homes mask (λ out. refl),
      match_in nearby homes mask,
      set_in nearby homes.first (where_so (told_at homes mask)) slot FIRST refl (λ out. refl),
    ) refl)
target_asks homes Named f slots mask (to_cell cell) most formed named =
    asks_lone f (cell_write homes mask cell) (cell_write_asks homes Named mask cell formed named.0)
target_asks homes Named f slots mask (to_array array index) most formed named =
    let parts = and_parts (array_formed array) (expr_formed slots index) formed in
    asks_joined f (expr_code homes index (FIRST + 1)) (one (straight (element_write homes mask array)))
    (value_asks homes Named f slots (FIRST + 1) index most (omega arith) (omega arith) parts.1 named.1)
    (asks_lone f (element_write homes mask array) (element_write_asks homes Named mask array parts.0 named.0))

-- ---- statements, over what earlier functions ask for

everywhere_near : (homes : Homes) (most : ℕ) → Within nearby homes most
everywhere_near homes most = wide_within near_wide homes most (λ slot p is. refl)

-- earlier functions
abbrev nat_gt : ℕ → ℕ → Bool
nat_gt number k = nat_lt k number

mutual
  stmt_asks : (homes : Homes) (Named : Use → Type 0) (f : ℕ → List Step) (fs : List PlainFunction)
      (number slots frame counter : ℕ) → ((k : ℕ) → k < number → AsksOnly Named (f k)) → functions_formed fs number
      ≡ true → slots ≤ 128 → FIRST ≤ homes.first
      → (t : PlainStmt) → stmt_formed fs number slots t ≡ true → AreNamed Named (stmt_uses t)
      → AsksOnly Named (parts_trail f (stmt_code homes frame counter t))
  stmt_asks homes Named f fs number slots frame counter called earlier most own (masks slot e) formed named =
      let parts = and_parts (nat_lt slot slots) (expr_formed slots e) formed in
      mask_is (λ ps. AsksOnly Named (parts_trail f ps)) homes slot e
      (λ p is. flag_asks homes Named f p e (expr_fits slots FIRST e most (omega arith) parts.1) named)
      (λ plain here. expr_asks homes Named f e FIRST (homes.first + slot) (omega (arith, own))
      (ltb-true (homes.first + slot) OVERRUN here) (omega arith) (expr_fits slots FIRST e most
      (omega arith) parts.1) named)
      (λ plain there. asks_joined f (expr_code homes e FIRST) (slot_set homes.first slot)
      (value_asks homes Named f slots FIRST e most (omega arith) (omega arith) parts.1 named)
      (near_lone Named f (set_word homes.first always slot FIRST ∷ [])
      (rw (set_in nearby homes.first always slot FIRST refl (λ out. refl)) refl)))
  stmt_asks homes Named f fs number slots frame counter called earlier most own (writes mask target e) formed named =
      let parts = and_parts (nat_lt mask slots) (target_formed slots target && expr_formed slots e) formed in
      let targets = and_parts (target_formed slots target) (expr_formed slots e) parts.1 in
      let uses = named_right Named (target_uses target) (expr_uses e) named in
      write_is (λ ps. AsksOnly Named (parts_trail f ps)) homes mask target e
      (asks_joined f (expr_code homes e FIRST) (target_write homes mask target)
      (value_asks homes Named f slots FIRST e most (omega arith) (omega arith) targets.1 uses)
      (target_asks homes Named f slots mask target most targets.0 (named_left Named (target_uses target)
      (expr_uses e) named)))
      (λ slot op is gives. let last = mask_test homes mask ++ under (where_so (told_at homes mask)) op ∷ [] in
      asks_joined f (operands_code homes e FIRST) (one (straight last))
      (operands_ask homes Named f e FIRST (omega arith) (expr_fits slots FIRST e most (omega arith) targets.1) uses)
      (near_lone Named f last (rw (
        seek_in nearby homes mask (λ out. refl),
        match_in nearby homes mask,
        alu_in nearby (where_so (told_at homes mask)) (homes.first + slot) op gives.alu refl,
      ) refl)))
  stmt_asks homes Named f fs number slots frame counter called earlier most own
      (calls mask k args result) formed named =
      let a = and_parts (nat_lt mask slots) (callee_formed fs number k (length args)
      && (args_formed slots args && result_formed slots result)) formed in
      let b = and_parts (callee_formed fs number k (length args)) (args_formed slots args && result_formed slots result)
      a.1 in
      let callee = and_parts (nat_lt k number) (length args == (slice_index_or fs k no_function).parameters) b.0 in
      let c = and_parts (args_formed slots args) (result_formed slots result) b.1 in
      let few = (parts_of_function fs k (slice_index_or fs k no_function)
      (earlier_one fs k number (ltb-true k number callee.0) earlier)).parameters in
      asks_joined f (args_code homes args FIRST) (call_code homes frame mask k result)
      (args_ask homes Named f slots args FIRST most (omega arith)
      (omega (arith, few, eqb-true (length args) (slice_index_or fs k no_function).parameters callee.1)) c.0 named)
      (near_parts Named f (nat_gt number) (λ k less. called k (ltb-true k number less))
      (call_code homes frame mask k result)
      ((in_flows (record { branches = refl; calls = refl; brings = λ count. refl }) (nat_gt number) [] fs number slots
      frame {Calls = λ k. Unit {0}} (everywhere_near homes slots) (omega arith) own (λ k less window called. lt-ltb k number less)).called mask k
      result (ltb-true mask slots a.0) (ltb-true k number callee.0) (omega arith) c.1 tt))
  stmt_asks homes Named f fs number slots frame counter called earlier most own
      (transfers mask core source target count) formed named =
      let parts = and_parts (nat_lt mask slots) (send_formed slots core source target count) formed in
      let send = and_parts (nat_lt core 16)
      (expr_formed slots source && (expr_formed slots target && expr_formed slots count)) parts.1 in
      let first = and_parts (expr_formed slots source) (expr_formed slots target && expr_formed slots count) send.1 in
      let rest = and_parts (expr_formed slots target) (expr_formed slots count) first.1 in
      let behind = named_right Named (expr_uses source) (expr_uses target ++ expr_uses count) named.1 in
      let sent = one (straight (send_code homes mask core)) in
      asks_joined f (expr_code homes source FIRST) (joined (expr_code homes target (FIRST + 1))
      (joined (expr_code homes count (FIRST + 2)) sent))
      (value_asks homes Named f slots FIRST source most (omega arith) (omega arith) first.0
      (named_left Named (expr_uses source) (expr_uses target ++ expr_uses count) named.1))
      (asks_joined f (expr_code homes target (FIRST + 1)) (joined (expr_code homes count (FIRST + 2)) sent)
      (value_asks homes Named f slots (FIRST + 1) target most (omega arith) (omega arith) rest.0
      (named_left Named (expr_uses target) (expr_uses count) behind))
      (asks_joined f (expr_code homes count (FIRST + 2)) sent (value_asks homes Named f slots (FIRST + 2) count most
      (omega arith) (omega arith) rest.1 (named_right Named (expr_uses target) (expr_uses count) behind))
      (asks_lone f (send_code homes mask core) (send_asks homes Named mask core (ltb-true core 16 send.0) named.0))))
  stmt_asks homes Named f fs number slots frame counter called earlier most own (overruns mask e) formed named =
      let parts = and_parts (nat_lt mask slots) (expr_formed slots e) formed in
      asks_joined f (expr_code homes e FIRST) (one (straight (overrun_code homes mask)))
      (value_asks homes Named f slots FIRST e most (omega arith) (omega arith) parts.1 named)
      (near_lone Named f (overrun_code homes mask) (rw (seek_in nearby homes mask (λ out. refl), match_in nearby homes mask) refl))
  stmt_asks homes Named f fs number slots frame counter called earlier most own (iterations count body) formed named =
      let parts = and_parts (nat_lt 0 count) (stmts_formed fs number slots body) formed in
      let code = stmts_code homes frame (counter - 1) body in
      let x = everywhere_near homes counter in
      asks_append (near_asks Named (iterations_begin homes.first counter count)
      (begins x counter count (omega arith)))
      (asks_append (copied (AsksOnly Named) (asks_compose Named) count
      (parts_trail f code ++ all_done (iterations_tail homes.first counter)) (asks_append (stmts_ask homes Named f fs number slots frame (counter - 1) called earlier most own body
      parts.1 named) (near_asks Named (iterations_tail homes.first counter)
      (tails x counter (omega arith) refl)))) (asks_nothing Named))

  stmts_ask : (homes : Homes) (Named : Use → Type 0) (f : ℕ → List Step) (fs : List PlainFunction)
      (number slots frame counter : ℕ) → ((k : ℕ) → k < number → AsksOnly Named (f k)) → functions_formed fs number
      ≡ true → slots ≤ 128 → FIRST ≤ homes.first
      → (ts : PlainStmts) → stmts_formed fs number slots ts ≡ true → AreNamed Named (stmts_uses ts)
      → AsksOnly Named (parts_trail f (stmts_code homes frame counter ts))
  stmts_ask homes Named f fs number slots frame counter called earlier most own no_stmt formed named =
      asks_nothing Named
  stmts_ask homes Named f fs number slots frame counter called earlier most own (stmt t rest) formed named =
      let parts = and_parts (stmt_formed fs number slots t) (stmts_formed fs number slots rest) formed in
      asks_joined f (stmt_code homes frame counter t) (stmts_code homes frame counter rest)
      (stmt_asks homes Named f fs number slots frame counter called earlier most own t parts.0
      (named_left Named (stmt_uses t) (stmts_uses rest) named))
      (stmts_ask homes Named f fs number slots frame counter called earlier most own rest parts.1
      (named_right Named (stmt_uses t) (stmts_uses rest) named))

-- ---- functions

begun_named : (Named : Use → Type 0) (flags : Flags) (f : PlainFunction) → AreNamed Named (stmts_uses f.body)
    → AreNamed Named (stmts_uses (begun_body flags f))
begun_named Named flags f named = begun_is (λ ts. AreNamed Named (stmts_uses ts)) flags f named (behind f.body named)
  where
    behind : (ts : PlainStmts) → AreNamed Named (stmts_uses ts) → AreNamed Named (stmts_uses (behind_first ts))
    behind no_stmt named = named
    behind (stmt t rest) named = named_right Named (stmt_uses t) (stmts_uses rest) named

function_asks : {homes : Homes} {tops : List ℕ} (Named : Use → Type 0) (code : ℕ → List Step) (fs : List PlainFunction)
    (number : ℕ) {f : PlainFunction} → InWindow homes tops fs number f → ((k : ℕ) → k < number → AsksOnly Named (code k))
    → AreNamed Named (stmts_uses f.body) → AsksOnly Named (parts_trail code (function_code homes f))
function_asks {homes} Named code fs number {f} w called named =
    let p = w.parts in
    let body = begun_body homes.flags f in
    asks_append (near_asks Named (function_begin homes f)
    (begins_in (wide_begins near_wide homes f (λ slot p is. refl)) p refl))
    (asks_joined code (stmts_code homes (frame_words homes.first f) (first_counter f) body)
    (function_rest homes.first f) (stmts_ask homes Named code fs number (slots_of f) (frame_words homes.first f)
    (first_counter f) called w.homed.earlier w.homed.most w.homed.own body
    (begun_formed homes.flags fs number (slots_of f) f p.body) (begun_named Named homes.flags f named))
    (asks_append (near_asks Named (function_end homes.first f)
    (ends_in (wide_ends near_wide refl homes.first f) refl))
    (asks_append (near_asks Named return_tail refl)
    (asks_nothing Named))))

-- what is said of all uses is said of each function's
function_named : (Named : Use → Type 0) (fs : List PlainFunction) (k : ℕ) → AreNamed Named (functions_uses fs)
    → k < length fs → AreNamed Named (stmts_uses (slice_index_or fs k no_function).body)
function_named Named [] k named less = absurd (omega (arith, less))
function_named Named (f ∷ fs) zero named less = named_left Named (stmts_uses f.body) (functions_uses fs) named
function_named Named (f ∷ fs) (suc k) named less =
    function_named Named fs k (named_right Named (stmts_uses f.body) (functions_uses fs) named) (omega (arith, less))

functions_ask : (Named : Use → Type 0) (fs : List PlainFunction) → AreNamed Named (functions_uses fs) → (n : ℕ)
    → n ≤ length fs → functions_formed fs n ≡ true → (k : ℕ) → k < n → AsksOnly Named (code_of fs n k)
functions_ask Named fs named n within formed k less = (each_function fs (λ k steps. k < length fs → AsksOnly Named steps)
    (λ i w before lies. function_asks Named (code_of fs i) fs i w
    (λ j lower. before j lower (omega (arith, lower, lies))) (function_named Named fs i named lies)) n within formed k
    less) (omega (arith, less, within))

pub task_asks : (Named : Use → Type 0) (u : PlainUnit) → is_formed u ≡ true → All Named (uses_of u)
    → AsksOnly Named (trail (emitted u))
task_asks Named u formed named =
    let p = unit_parts u formed in
    subst (λ n. AsksOnly Named (trails (codes u.functions) n u.entry)) (sym (codes_length u.functions))
    (functions_ask Named u.functions (are_named Named (uses_of u) named) (length u.functions) (omega arith) p.functions u.entry
    p.entry)
