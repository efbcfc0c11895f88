-- The code of a well-formed unit is a well-formed shape.
use Rattle.std.proofs.Common.{false, ◌<◌, ◌≡◌, ℕ, zero, suc, ◌≤◌, Bool, true, List, [], ◌∷◌, length, slice_index_or, refl, ap, ◌∙◌, arith, Option}
use Rattle.std.proofs.lemmas.Bool.{and_parts, and_from, le-leb, lt-ltb}
use Rattle.std.specs.Prelude.{not, nat_lt, nat_le, ◌&&◌}
use Rattle.std.specs.List.{list_all}
use Rattle.patmos_instr.specs.Bundles.{PlainBundle}
use Rattle.patmos_instr.specs.declared.functions.CmpFunc.TheVariants as cmp
use Rattle.patmos_instr.specs.declared.functions.ImmFunc.TheVariants as imm
use Rattle.sp_tree.specs.Formed as tree
use Rattle.sp_tree.specs.Formed.{result_formed}
use Rattle.sp_tree.specs.Statements.{PlainStmts, PlainFunction, no_function, PlainUnit}
use Rattle.sp_tree.specs.declared.operators.SpBinary.{SpBinary}
use Rattle.sp_shape.specs.Formed.{are_calm, part_formed, parts_formed, function_formed, functions_formed, is_formed, is_iteration}
use Rattle.sp_shape.specs.Parts.{straight, repeats, calls_to, leaves, PlainParts, no_part, part, one, joined, PlainShape}
use Rattle.sp_emit.specs.Expressions.{binary_code}
use Rattle.sp_emit.specs.Functions.{first_counter, function_begin, function_end, function_rest, body_code, function_code, emitted, frame_words}
use Rattle.sp_shape.specs.Formed.{is_flow}
use Rattle.sp_emit.specs.Functions.{codes}
use Rattle.sp_emit.specs.Instructions.{always, idle, with_short, compare_short, branch}
use Rattle.sp_emit.specs.Places.{fetched_at, keep_word}
use Rattle.sp_emit.specs.declared.registers.TheConstants.{FIRST, MORE}
use Rattle.sp_emit.proofs.Codes.{codes_at, codes_length}
use Rattle.sp_emit.proofs.WordPlaces.{fetch_is, keep_is}
use Rattle.sp_emit.proofs.Around.{begins_in, ends_in, wide_begins, wide_ends}
use Rattle.sp_emit.proofs.Effects.{Footprint, is_in, AreIn, everything, IsWide}
use Rattle.sp_shape.proofs.Lists.{all_weaker}
use Rattle.sp_emit.proofs.Walks.{wide_within, Walk, walk_of, Within, Flows, binary_is, stmts_flow, stmts_are, body_is, begins, hands, results}
use Rattle.sp_emit.proofs.Windows.{IsHomed, ArePlaced, InWindow, own_window, unit_parts}
use Rattle.sp_emit.specs.Statements.{mask_handed, way_to, after_call, result_write, call_code, stmts_code, iterations_begin, iterations_tail}
use Rattle.sp_emit.specs.Flags.{begun_body}
use Rattle.sp_emit.specs.declared.stands.Homes.{Homes}

-- ---- parts after others

pub both : (n : ℕ) (a b : PlainParts) → parts_formed n a ≡ true → parts_formed n b ≡ true → parts_formed n (joined a b)
    ≡ true
both n no_part b fa fb = fb
both n (part p a) b fa fb =
    let parts = and_parts (part_formed n p) (parts_formed n a) fa in
    and_from (part_formed n p) (parts_formed n (joined a b)) parts.0 (both n a b parts.1 fb)

lone : (n : ℕ) (bs : List PlainBundle) → are_calm bs ≡ true → parts_formed n (one (straight bs)) ≡ true
lone n bs calm = and_from (are_calm bs) true calm refl

-- ---- parts without a flow

abbrev is_still : PlainBundle → Bool
is_still b = not (is_flow b.first.op)

abbrev still : Footprint
still = record everything { branches = false; calls = false; returns = false }

still_wide : IsWide still
still_wide = record { sets = λ r. refl; reads = λ word. refl; stores = λ word. refl }

is_kept : (b : PlainBundle) → is_in still b ≡ true → is_still b ≡ true
is_kept b within = grind (arith, within)

still_within : (homes : Homes) (most : ℕ) → Within still homes most
still_within homes most = wide_within still_wide homes most (λ slot p is. refl)

all_calm : (bs : List PlainBundle) → list_all is_still bs ≡ true → are_calm bs ≡ true
all_calm [] all = refl
all_calm (b ∷ bs) all = let both = and_parts (is_still b) (list_all is_still bs) all in
    and_from (is_still b) (are_calm bs) both.0 (all_calm bs both.1)

are_still : (bs : List PlainBundle) → AreIn still bs → are_calm bs ≡ true
are_still bs all = all_calm bs (all_weaker (is_in still) is_still is_kept bs all)

walk : (n : ℕ) → Walk (λ ps. parts_formed n ps ≡ true) still
walk n = walk_of still refl (both n) (λ bs all. lone n bs (are_still bs all)) refl

pub binary_formed : (n : ℕ) (op : SpBinary) (rd ra rb : ℕ) → parts_formed n (binary_code op rd ra rb) ≡ true
binary_formed n op rd ra rb = binary_is (walk n) op rd ra rb refl

-- ---- statements

tail_formed : (homes counter : ℕ) → is_iteration (iterations_tail homes counter) ≡ true
tail_formed homes counter =
    let left = fetched_at homes counter in
    let last = compare_short cmp.Neq MORE left 0 ∷ branch MORE ∷ idle ∷ idle ∷ [] in
    let kept = keep_is (λ b. is_iteration (b ∷ last) ≡ true) homes counter refl (λ out. refl) in
    fetch_is (λ b. is_iteration (b ∷ with_short always imm.Sub left left 1 ∷ keep_word homes counter ∷ last) ≡ true)
    homes counter kept (λ out. kept)

pub call_formed : (homes : Homes) (n slots frame mask k : ℕ) (result : Option ℕ) → nat_lt k n ≡ true → mask < slots
    → result_formed slots result ≡ true → FIRST ≤ homes.first
    → parts_formed n (call_code homes frame mask k result) ≡ true
call_formed homes n slots frame mask k result earlier lt formed own =
    let x = still_within homes slots in
    let given = are_still (result_write homes mask result) (results x slots mask result (omega arith) lt formed) in
    both n (one (straight (mask_handed homes mask)))
    (joined (one (way_to k)) (one (straight (after_call homes frame mask result))))
    (lone n (mask_handed homes mask) (are_still (mask_handed homes mask) (hands x mask (omega (arith, lt)) own)))
    (rw (earlier, given) refl)

pub formed_flows : (tops : List ℕ) (homes : Homes) (fs : List PlainFunction) (number slots frame most : ℕ)
    → FIRST ≤ homes.first
    → Flows (λ ps. parts_formed number ps ≡ true) tops homes fs number slots frame most (λ k. Unit {0})
    (λ count. Unit {0})
formed_flows tops homes fs number slots frame most own = record {
  called = λ mask k result lt earlier top formed may.
      call_formed homes number slots frame mask k result (lt-ltb k number earlier) lt formed own;
  repeated = λ count counter body some one within placed may all.
      let begun = are_still (iterations_begin homes.first counter count) (begins (still_within homes most) counter count
      within) in
      rw (begun, lt-ltb 0 count some, all, tail_formed homes.first counter) refl;
}

pub stmts_formed : (tops : List ℕ) (homes : Homes) (fs : List PlainFunction) (number slots frame counter : ℕ)
    (ts : PlainStmts) → IsHomed homes fs number slots → ArePlaced tops homes fs number slots counter ts
    → parts_formed number (stmts_code homes frame counter ts) ≡ true
stmts_formed tops homes fs number slots frame counter ts h p =
    stmts_are (walk number) refl refl h (still_within homes counter) (omega (arith, p.levels))
    (formed_flows tops homes fs number slots frame counter h.own) counter ts (omega arith) p (stmts_flow ts)

-- ---- functions

pub body_formed : {tops : List ℕ} {homes : Homes} {fs : List PlainFunction} {number : ℕ} {f : PlainFunction}
    → InWindow homes tops fs number f → parts_formed number (body_code homes f) ≡ true
body_formed {tops} {homes} {fs} {number} {f} w =
    body_is (walk number) refl refl w (still_within homes (first_counter f))
    (formed_flows tops homes fs number (tree.slots_of f) (frame_words homes.first f) (first_counter f) w.homed.own)
    (stmts_flow (begun_body homes.flags f))

begin_calm : {homes : Homes} {tops : List ℕ} {fs : List PlainFunction} {n : ℕ} {f : PlainFunction}
    → InWindow homes tops fs n f → are_calm (function_begin homes f) ≡ true
begin_calm {homes} {f = f} w = are_still (function_begin homes f)
    (begins_in (wide_begins still_wide homes f (λ slot p is. refl)) w.parts refl)

-- a function ends as what stands after parts does
ends : (n : ℕ) (a b : PlainParts) → parts_formed n a ≡ true → function_formed n b ≡ true
    → function_formed n (joined a b) ≡ true
ends n no_part b fa fb = fb
ends n (part (straight bs) a) b fa fb =
    let parts = and_parts (are_calm bs) (parts_formed n a) fa in
    and_from (are_calm bs) (function_formed n (joined a b)) parts.0 (ends n a b parts.1 fb)
ends n (part (repeats count body tail) a) b fa fb =
    let parts = and_parts (part_formed n (repeats count body tail)) (parts_formed n a) fa in
    and_from (part_formed n (repeats count body tail)) (function_formed n (joined a b)) parts.0 (ends n a b parts.1 fb)
ends n (part (calls_to k tail) a) b fa fb =
    let parts = and_parts (part_formed n (calls_to k tail)) (parts_formed n a) fa in
    and_from (part_formed n (calls_to k tail)) (function_formed n (joined a b)) parts.0 (ends n a b parts.1 fb)
ends n (part (leaves tail) a) b fa fb = absurd cc

function_is_formed : {homes : Homes} {tops : List ℕ} (fs : List PlainFunction) (n : ℕ) (f : PlainFunction)
    → InWindow homes tops fs n f → function_formed n (function_code homes f) ≡ true
function_is_formed {homes} {tops} fs n f w =
    and_from (are_calm (function_begin homes f))
    (function_formed n (joined (body_code homes f) (function_rest homes.first f))) (begin_calm w)
    (ends n (body_code homes f) (function_rest homes.first f)
    (body_formed w)
    (rw (are_still (function_end homes.first f) (ends_in (wide_ends still_wide refl homes.first f) refl)) refl))

functions_are_formed : (fs : List PlainFunction) (n : ℕ) → n ≤ length fs → tree.functions_formed fs n ≡ true
    → functions_formed (codes fs) n ≡ true
functions_are_formed fs zero within h = refl
functions_are_formed fs (suc n) within h =
    let b = and_parts (tree.functions_formed fs n) (tree.function_formed fs n (slice_index_or fs n no_function)) h in
    let same = codes_at fs n (omega (arith, within)) in
    and_from (functions_formed (codes fs) n) (function_formed n (slice_index_or (codes fs) n no_part))
    (functions_are_formed fs n (omega (arith, within)) b.0)
    (ap (function_formed n) same ∙ function_is_formed fs n (slice_index_or fs n no_function) (own_window fs n b.0 b.1))

pub emitted_formed : (u : PlainUnit) → tree.is_formed u ≡ true → is_formed (emitted u) ≡ true
emitted_formed u h =
    let p = unit_parts u h in
    let many = codes_length u.functions in
    and_from (nat_le (length (emitted u).functions) 512) _ (ap (λ k. nat_le k 512) many ∙ le-leb (length u.functions) 512 p.few)
    (and_from (functions_formed (emitted u).functions (length (emitted u).functions))
    (nat_lt u.entry (length (emitted u).functions))
    (ap (functions_formed (emitted u).functions) many ∙ functions_are_formed u.functions (length u.functions)
    (omega arith) p.functions)
    (ap (nat_lt u.entry) many ∙ lt-ltb u.entry (length u.functions) p.entry))

pub formed_as : (s : PlainShape) (u : PlainUnit) → s ≡ emitted u → tree.is_formed u ≡ true → is_formed s ≡ true
formed_as s u told h = ap is_formed told ∙ emitted_formed u h
