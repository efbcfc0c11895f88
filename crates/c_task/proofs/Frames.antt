-- The frames on each chain of calls of a valid program's tree fit the stack: each function weighs more than twice its
-- frame.
use Rattle.std.proofs.Common.{ℕ, zero, suc, ◌+◌, ◌*◌, ◌<◌, ◌≤◌, ◌==◌, Bool, true, false, if◌then◌else◌, List, [], ◌∷◌, ◌++◌, length, None, Some, slice_index, slice_index_or, arith}
use Rattle.std.proofs.lemmas.List.Sums.{sum_by-cons}
use Rattle.c_tree.specs.declared.checks.CheckFault.TheVariants as fault
use Rattle.c_tree.specs.declared.limits.TheConstants.{MOST_PARAMETERS}
use Rattle.c_tree.specs.declared.units.Parameter.{Parameter}
use Rattle.c_tree.specs.Frame.{stmt_frame, block_frame, arms_frame, otherwise_frame, body_frame, function_frame}
use Rattle.c_tree.specs.Names.{Named, given}
use Rattle.c_tree.specs.Plain.{PlainHead, PlainStmt, PlainBlock, PlainArms, PlainOtherwise, PlainItem, global, function}
use Rattle.c_tree.specs.Plain as plain
use Rattle.c_tree.specs.Valid.{IsValid, with_item}
use Rattle.c_tree.specs.Weight.{head_weight, stmt_weight, block_weight, arms_weight, otherwise_weight, body_weight, function_weight, item_weight, items_weight}
use Rattle.c_tree.specs.Typed.{ItemsTyped, Typed}
use Rattle.c_tree.proofs.Typing.{typed_of}
use Rattle.stack_cache.specs.declared.stack.TheConstants.{STACK_LOWEST, STACK_END}
use Rattle.sp_tree.specs.Statements.{PlainStmts, no_stmt, stmt, PlainFunction, no_function}
use Rattle.sp_tree.specs.Statements as tree
use Rattle.sp_emit.specs.Chains.{stmt_chain, stmts_chain, chains}
use Rattle.single_path.specs.Single.{frames_in, single}
use Rattle.single_path.proofs.TakenIn.{taken_frames}

-- ---- what a function weighs

head_weighs : (head : PlainHead) → 4 ≤ head_weight head
head_weighs (plain.iterations_while condition) = omega arith
head_weighs (plain.iterations_for first from condition to_set to) = omega arith

mutual
  unfolding stmt_frame block_frame arms_frame otherwise_frame stmt_weight block_weight arms_weight otherwise_weight

  stmt_weighs : (s : PlainStmt) → 2 * stmt_frame s ≤ stmt_weight s
  stmt_weighs (plain.declared kind text None) = omega arith
  stmt_weighs (plain.declared kind text (Some r)) = omega arith
  stmt_weighs (plain.chosen arms otherwise) = omega (arith, arms_weigh arms, otherwise_weighs otherwise)
  stmt_weighs (plain.looped bound head body) = omega (arith, head_weighs head, block_weighs body)
  stmt_weighs (plain.returned None) = omega arith
  stmt_weighs (plain.returned (Some e)) = omega arith
  stmt_weighs (plain.inner body) = let b = block_weighs body in omega (arith, b)
  stmt_weighs _ = omega arith

  block_weighs : (body : PlainBlock) → 2 * block_frame body ≤ block_weight body
  block_weighs plain.no_stmt = omega arith
  block_weighs (plain.stmt s rest) = omega (arith, stmt_weighs s, block_weighs rest)

  arms_weigh : (arms : PlainArms) → 2 * arms_frame arms ≤ arms_weight arms
  arms_weigh plain.no_arm = omega arith
  arms_weigh (plain.arm condition body rest) = omega (arith, block_weighs body, arms_weigh rest)

  otherwise_weighs : (otherwise : PlainOtherwise) → 2 * otherwise_frame otherwise ≤ otherwise_weight otherwise
  otherwise_weighs plain.no_else = omega arith
  otherwise_weighs (plain.or_else body) = let b = block_weighs body in omega (arith, b)

body_weighs : (body : List PlainStmt) → 2 * body_frame body ≤ body_weight body
body_weighs [] = omega arith
body_weighs (s ∷ body) =
    omega (arith, stmt_weighs s, body_weighs body, sum_by-cons stmt_frame s body, sum_by-cons stmt_weight s body)

function_weighs : (parameters : List Parameter) (body : List PlainStmt) → length parameters ≤ MOST_PARAMETERS
    → 2 * function_frame parameters body ≤ function_weight body
function_weighs parameters body few = omega (arith, few, body_weighs body)

-- ---- all functions

abbrev sum : List ℕ → ℕ
sum [] = 0
sum (n ∷ ns) = n + sum ns

frames_weigh : (cores own : ℕ) (names : List Named) (items : List PlainItem) → ItemsTyped cores own names items
    → 2 * sum (frames_in items) ≤ items_weight items
frames_weigh cores own names [] typed = omega arith
frames_weigh cores own names (global of ∷ items) typed =
    let more = frames_weigh cores own (with_item names (global of)) items typed.1 in
    omega (arith, more, sum_by-cons item_weight (global of) items)
frames_weigh cores own names (function kind text void_word parameters body ∷ items) typed =
    let i = function kind text void_word parameters body in
    let more = frames_weigh cores own (with_item names i) items typed.1 in
    omega (arith, more, function_weighs parameters body typed.0.few, sum_by-cons item_weight i items)

-- ---- chains

mutual
  stmt_below : (g : ℕ → ℕ) (most : ℕ) → ((k : ℕ) → g k ≤ most) → (s : tree.PlainStmt) → stmt_chain g s ≤ most
  stmt_below g most below (tree.calls mask k args result) = below k
  stmt_below g most below (tree.iterations count body) = stmts_below g most below body
  stmt_below g most below _ = omega arith

  stmts_below : (g : ℕ → ℕ) (most : ℕ) → ((k : ℕ) → g k ≤ most) → (ss : PlainStmts) → stmts_chain g ss ≤ most
  stmts_below g most below no_stmt = omega arith
  stmts_below g most below (stmt s rest) = omega (arith, stmt_below g most below s, stmts_below g most below rest)

-- the frames of all functions, and of the first ones
abbrev all_frames : List PlainFunction → ℕ
all_frames [] = 0
all_frames (f ∷ fs) = f.frame + all_frames fs

abbrev first_frames : List PlainFunction → ℕ → ℕ
first_frames [] n = 0
first_frames (f ∷ fs) zero = 0
first_frames (f ∷ fs) (suc n) = f.frame + first_frames fs n

one_more : (fs : List PlainFunction) (n : ℕ) → first_frames fs n + (slice_index_or fs n no_function).frame
    ≤ first_frames fs (suc n)
one_more [] n = omega arith
one_more (f ∷ fs) zero = omega arith
one_more (f ∷ fs) (suc n) = omega (arith, one_more fs n)

first_of_all : (fs : List PlainFunction) (n : ℕ) → first_frames fs n ≤ all_frames fs
first_of_all [] n = omega arith
first_of_all (f ∷ fs) zero = omega arith
first_of_all (f ∷ fs) (suc n) = omega (arith, first_of_all fs n)

chains_below : (fs : List PlainFunction) (n k : ℕ) → chains fs n k ≤ first_frames fs n
chains_below fs zero k = omega arith
chains_below fs (suc n) k = by (k == n) (stmts_below (chains fs n) (first_frames fs n) (chains_below fs n)
    (slice_index_or fs n no_function).body) (chains_below fs n k)
  where
    by : (b : Bool) → stmts_chain (chains fs n) (slice_index_or fs n no_function).body ≤ first_frames fs n
        → chains fs n k ≤ first_frames fs n
        → (if b then (slice_index_or fs n no_function).frame + stmts_chain (chains fs n) (slice_index_or fs n
        no_function).body else chains fs n k) ≤ first_frames fs (suc n)
    by true inner other = omega (arith, inner, one_more fs n)
    by false inner other = omega (arith, other, one_more fs n)

-- none has a frame of more words than are counted for it
frames_sum : (fs : List PlainFunction) (most : List ℕ)
    → ((k : ℕ) → k < length fs → (slice_index_or fs k no_function).frame ≤ slice_index most k)
    → all_frames fs ≤ sum most
frames_sum [] most each = omega arith
frames_sum (f ∷ fs) [] each =
    omega (arith, each zero (omega arith), frames_sum fs [] (λ k below. each (suc k) (omega (arith, below))))
frames_sum (f ∷ fs) (n ∷ most) each =
    omega (arith, each zero (omega arith), frames_sum fs most (λ k below. each (suc k) (omega (arith, below))))

-- ---- a valid program

pub chains_fit : (cores own : ℕ) (items : List PlainItem) → cores ≤ 16 → IsValid items cores own
    → STACK_LOWEST + chains (single items).functions (length (single items).functions) (single items).entry ≤ STACK_END
chains_fit cores own items few valid =
    let fs : List PlainFunction = (single items).functions in
    let chain = chains_below fs (length fs) (single items).entry in
    let all = first_of_all fs (length fs) in
    let made = frames_sum fs (frames_in items) (taken_frames cores own items few valid) in
    let typed : Typed cores own items = typed_of cores own items valid in
    let weigh = frames_weigh cores own given items typed.each in
    omega (arith, chain, all, made, weigh, typed.light)
