-- Each valid program is typed: where a list of faults has none, neither part of it has one.
use Rattle.std.proofs.Common.{◌≡◌, ℕ, ◌+◌, ◌<◌, ◌≤◌, ◌==◌, ◌||◌, ◌&&◌, Bool, true, false, not, if◌then◌else◌, List, [], ◌∷◌, ◌++◌, length, Option, None, Some, is_some, refl, sym, subst, arith, eqb-true, ltb-true, eq-eqb, true≢false}
use Rattle.std.specs.Prelude.{IsTrue, nat_lt, sum_by}
use Rattle.std.proofs.lemmas.Bool.Decides.{nat_tests}
use Rattle.c_tree.specs.declared.checks.CheckFault.{CheckFault}
use Rattle.c_tree.specs.declared.checks.CheckFault.TheVariants as fault
use Rattle.c_tree.specs.declared.checks.Fault.{Fault}
use Rattle.c_tree.specs.declared.checks.Meaning.{Meaning}
use Rattle.c_tree.specs.declared.checks.Meaning.TheVariants as meaning
use Rattle.c_tree.specs.declared.checks.Within.{Within}
use Rattle.c_tree.specs.declared.limits.TheConstants.{MOST_DEPTH, MOST_FRAME_WORDS, MOST_FUNCTION_WEIGHT, MOST_PARAMETERS, MOST_PRIVATE_WORDS, MOST_SCRATCH_WORDS, MOST_TASK_WEIGHT}
use Rattle.c_tree.specs.declared.statements.Kind.{Kind}
use Rattle.c_tree.specs.declared.units.Global.{Global}
use Rattle.c_tree.specs.declared.units.Parameter.{Parameter}
use Rattle.c_tree.specs.Checks.{is_scalar, is_array, use_faults, scalar_faults, array_faults, callee_faults, expr_faults, steps_faults, whole_faults, args_faults, call_faults, right_faults, opened, looped, after, twice_faults, declare_faults, assigned_faults, bound_faults, head_faults, target_faults, return_faults, stmt_faults, block_faults, arms_faults, otherwise_faults, body_faults}
use Rattle.c_tree.specs.Depth.{expr_depth}
use Rattle.c_tree.specs.Frame.{function_frame}
use Rattle.c_tree.specs.Least.{where_so}
use Rattle.c_tree.specs.Names.{Named, found, is_declared, declared, given}
use Rattle.c_tree.specs.Plain.{PlainExpr, PlainSteps, PlainRight, PlainHead, PlainStmt, PlainBlock, PlainArms, PlainOtherwise, PlainItem}
use Rattle.c_tree.specs.Plain as plain
use Rattle.c_tree.specs.Sizes.{kind_size, expr_size, argument_size, list_size, bound_size, head_size, stmt_size, block_size, arms_size, item_size}
use Rattle.c_tree.specs.Tokens.{gives_tokens}
use Rattle.c_tree.specs.Typed.{ExprTyped, StepsTyped, WholeTyped, ArgsTyped, CallTyped, RightTyped, FirstTyped, AssignedTyped, HeadTyped, GivenTyped, GlobalTyped, IsTarget, StmtTyped, BlockTyped, ArmsTyped, OtherwiseTyped, BodyTyped, names_inside, FunctionTyped, ItemTyped, ItemsTyped, Typed}
use Rattle.c_tree.specs.Valid.{IsValid, has_none, words_of, global_faults, function_means, parameters_faults, inner_faults, item_faults, with_item, items_faults, words_in, has_main}
use Rattle.c_tree.specs.Weight.{function_weight, items_weight}

-- ---- lists of faults

abbrev Clean : List Fault → Type 0
Clean faults = IsTrue (has_none faults)

left : (xs ys : List Fault) → Clean (xs ++ ys) → Clean xs
left [] ys none = refl
left (x ∷ xs) ys none = none

right : (xs ys : List Fault) → Clean (xs ++ ys) → Clean ys
right [] ys none = none
right (x ∷ xs) ys none = absurd (cc)

not_so : (so : Bool) (at : ℕ) (kind : CheckFault) → Clean (where_so so at kind) → so ≡ false
not_so true at kind none = absurd (cc)
not_so false at kind none = refl

not_past : (most n at : ℕ) (kind : CheckFault) → Clean (where_so (nat_lt most n) at kind) → n ≤ most
not_past most n at kind none = let few = not_so (nat_lt most n) at kind none in grind (arith, nat_tests, few)

denied : (b : Bool) → not b ≡ false → b ≡ true
denied true is = refl
denied false is = absurd (true≢false is)

-- ---- names

scalar_typed : (at : ℕ) (m : Option Meaning) → Clean (use_faults is_scalar at m) → m ≡ Some meaning.Scalar
scalar_typed at (Some meaning.Scalar) none = refl
scalar_typed at _ none = absurd (cc)

array_typed : (at : ℕ) (m : Option Meaning) → Clean (use_faults is_array at m) → m ≡ Some meaning.Array
array_typed at (Some meaning.Array) none = refl
array_typed at _ none = absurd (cc)

callee_typed : (is_right : Bool) (at arguments : ℕ) (m : Option Meaning) → Clean (callee_faults is_right at arguments m)
    → (gives : Bool) × (m ≡ Some (meaning.Function arguments gives false))
callee_typed is_right at arguments (Some (meaning.Function parameters gives inside)) none =
    let typed = where_so (is_right && not gives) at fault.WrongType in
    let again = where_so inside at fault.Recursion in
    let counted = where_so (not (arguments == parameters)) at fault.Params in
    let rest = right typed (again ++ counted) none in (
      gives,
      meant (not_so inside at fault.Recursion (left again counted rest)) (eqb-true arguments parameters (denied
          (arguments == parameters) (not_so (not (arguments == parameters)) at fault.Params
          (right again counted rest)))),
    )
  where
    meant : inside ≡ false → arguments ≡ parameters
        → Some (meaning.Function parameters gives inside) ≡ Some (meaning.Function arguments gives false)
    meant outside same = rw (outside, same) refl
callee_typed is_right at arguments _ none = absurd (cc)

once_typed : (at : ℕ) (text : List ℕ) (names : List Named) → Clean (twice_faults 0 names at text)
    → found text names ≡ None
once_typed at text names none = by (found text names) (not_so (is_declared text 0 names) at fault.Twice none)
  where
    by : (m : Option Meaning) → is_some m ≡ false → m ≡ None
    by None new = refl
    by (Some m) new = absurd (cc)

-- ---- expressions

mutual
  unfolding expr_faults

  expr_typed : (names : List Named) (at : ℕ) (e : PlainExpr) → Clean (expr_faults names at e) → ExprTyped names e
  expr_typed names at (plain.chain level first rest) none =
      let here = expr_faults names at first in
      let later = steps_faults names (at + expr_size first) rest in (
        expr_typed names at first (left here later none),
        steps_typed names (at + expr_size first) rest
            (right here later none),
      )
  expr_typed names at (plain.unary ops of) none = expr_typed names (at + length ops) of none
  expr_typed names at (plain.number n unsigned) none = tt
  expr_typed names at (plain.name text) none = scalar_typed at (found text names) none
  expr_typed names at (plain.element text index) none =
      let here = array_faults names at text in
      let later = expr_faults names (at + 2) index in (
        array_typed at (found text names) (left here later none),
        expr_typed names (at + 2) index
            (right here later none),
      )
  expr_typed names at (plain.paren e) none = expr_typed names (at + 1) e none

  steps_typed : (names : List Named) (at : ℕ) (steps : PlainSteps) → Clean (steps_faults names at steps)
      → StepsTyped names steps
  steps_typed names at plain.no_step none = tt
  steps_typed names at (plain.step op operand rest) none =
      let here = expr_faults names (at + 1) operand in
      let later = steps_faults names (at + (1 + expr_size operand)) rest in (
        expr_typed names (at + 1) operand (left here later none),
        steps_typed names (at + (1 + expr_size operand)) rest
            (right here later none),
      )

whole_typed : (names : List Named) (at : ℕ) (e : PlainExpr) → Clean (whole_faults names at e) → WholeTyped names e
whole_typed names at e none =
    let deep = where_so (nat_lt MOST_DEPTH (expr_depth e)) at fault.Deep in (
      not_past MOST_DEPTH (expr_depth e) at fault.Deep (left deep (expr_faults names at e) none),
      expr_typed names at e (right deep (expr_faults names at e) none),
    )

args_typed : (names : List Named) (at : ℕ) (args : List PlainExpr) → Clean (args_faults names at args)
    → ArgsTyped names args
args_typed names at [] none = tt
args_typed names at (e ∷ args) none =
    let here = whole_faults names at e in
    let later = args_faults names (at + argument_size e) args in (
      whole_typed names at e (left here later none),
      args_typed names (at + argument_size e) args
          (right here later none),
    )

call_typed : (is_right : Bool) (names : List Named) (at : ℕ) (text : List ℕ) (args : List PlainExpr)
    → Clean (call_faults is_right names at text args) → CallTyped names text args
call_typed is_right names at text args none =
    let here = callee_faults is_right at (length args) (found text names) in
    let later = args_faults names (at + 2) args in (
      callee_typed is_right at (length args) (found text names) (left here later none),
      args_typed names (at + 2) args
          (right here later none),
    )

right_typed : (names : List Named) (at : ℕ) (r : PlainRight) → Clean (right_faults names at r) → RightTyped names r
right_typed names at (plain.value e) none = whole_typed names at e none
right_typed names at (plain.call text args) none = call_typed true names at text args none

first_typed : (outer : ℕ) (names : List Named) (at : ℕ) (kind : Kind) (text : List ℕ) (r : Option PlainRight)
    → Clean (declare_faults outer names at kind text r) → FirstTyped names text r
first_typed outer names at kind text None none = tt
first_typed outer names at kind text (Some r) none =
    let known = declared names text meaning.Scalar in
    let r_at = at + kind_size kind + 2 in
    right_typed known r_at r (right (twice_faults outer names (at + kind_size kind) text) (right_faults known r_at r)
    none)

assigned_typed : (names : List Named) (at : ℕ) (text : List ℕ) (e : PlainExpr)
    → Clean (assigned_faults names at text e) → AssignedTyped names text e
assigned_typed names at text e none =
    let here = scalar_faults names at text in
    let later = whole_faults names (at + 2) e in
    (scalar_typed at (found text names) (left here later none), whole_typed names (at + 2) e (right here later none))

head_typed : (names : List Named) (at : ℕ) (head : PlainHead) → Clean (head_faults names at head)
    → HeadTyped names head
head_typed names at (plain.iterations_while condition) none = whole_typed names (at + 2) condition none
head_typed names at (plain.iterations_for first from condition next to) none =
    let second = at + 2 + 2 + expr_size from + 1 in
    let third = second + expr_size condition + 1 in
    let begins = assigned_faults names (at + 2) first from in
    let tests = whole_faults names second condition in
    let steps = assigned_faults names third next to in
    let later = right begins (tests ++ steps) none in (
      assigned_typed names (at + 2) first from (left begins (tests ++ steps) none),
      whole_typed names second condition (left tests steps later),
      assigned_typed names third next to (right tests steps later),
    )

given_typed : (gives : Bool) (names : List Named) (at : ℕ) (e : Option PlainExpr)
    → Clean (return_faults gives names at e) → GivenTyped names e
given_typed gives names at None none = tt
given_typed gives names at (Some e) none =
    whole_typed names (at + 1) e (right (where_so (not gives) at fault.WrongType) (whole_faults names (at + 1) e) none)

-- ---- statements

target_typed : (cores own at core : ℕ) → Clean (target_faults cores own at core) → IsTarget cores own core
target_typed cores own at core none =
    by (nat_lt core cores) (core == own) (not_so (not (nat_lt core cores) || core == own) at fault.Target none)
    (ltb-true core cores) (eq-eqb core own)
  where
    by : (there same : Bool) → (not there || same) ≡ false → (there ≡ true → core < cores)
        → (core ≡ own → same ≡ true) → IsTarget cores own core
    by true false none below is = (below refl, λ e. true≢false (sym (is e)))
    by true true none below is = absurd (true≢false none)
    by false same none below is = absurd (true≢false none)

in_loop_typed : (inside : Bool) (at : ℕ) → Clean (where_so (not inside) at fault.WrongType) → inside ≡ true
in_loop_typed inside at none = denied inside (not_so (not inside) at fault.WrongType none)

mutual
  unfolding stmt_faults

  stmt_typed : (w : Within) (names : List Named) (at : ℕ) (s : PlainStmt) → Clean (stmt_faults w names at s)
      → StmtTyped w.cores w.own w.in_loop names s
  stmt_typed w names at (plain.declared kind text r) none = first_typed w.outer names at kind text r none
  stmt_typed w names at (plain.set text r) none =
      let here = scalar_faults names at text in
      let later = right_faults names (at + 2) r in
      (scalar_typed at (found text names) (left here later none), right_typed names (at + 2) r (right here later none))
  stmt_typed w names at (plain.set_element text index r) none =
      let here = array_faults names at text in
      let indexed = whole_faults names (at + 2) index in
      let r_at = at + 2 + expr_size index + 2 in
      let later = right here (indexed ++ right_faults names r_at r) none in (
        array_typed at (found text names) (left here (indexed ++ right_faults names r_at r) none),
        whole_typed names (at + 2) index (left indexed (right_faults names r_at r) later),
        right_typed names r_at r (right indexed (right_faults names r_at r) later),
      )
  stmt_typed w names at (plain.called text args) none = call_typed false names at text args none
  stmt_typed w names at (plain.sent core core_unsigned source target count) none =
      let here = target_faults w.cores w.own (at + 2) core in
      let args = source ∷ target ∷ count ∷ [] in
      let later = args_faults names (at + 2 + 2) args in (
        target_typed w.cores w.own (at + 2) core (left here later none),
        args_typed names (at + 2 + 2) args
            (right here later none),
      )
  stmt_typed w names at (plain.chosen arms otherwise) none =
      let here = arms_faults w names at arms in
      let later = otherwise_faults w names (at + arms_size arms) otherwise in (
        arms_typed w names at arms (left here later none),
        otherwise_typed w names (at + arms_size arms) otherwise
            (right here later none),
      )
  stmt_typed w names at (plain.looped bound head body) none =
      let heads = head_faults names (at + bound_size bound) head in
      let body_at = at + bound_size bound + head_size head + 1 in
      let inside = block_faults (looped w (length names)) names body_at body in
      let later = right (bound_faults at bound) (heads ++ inside) none in (
        head_typed names (at + bound_size bound) head (left heads inside later),
        block_typed (looped w (length names)) names body_at body (right heads inside later),
      )
  stmt_typed w names at plain.broken none = in_loop_typed w.in_loop at none
  stmt_typed w names at plain.continued none = in_loop_typed w.in_loop at none
  stmt_typed w names at (plain.returned e) none = given_typed w.gives names at e none
  stmt_typed w names at (plain.inner body) none = block_typed (opened w (length names)) names (at + 1) body none

  block_typed : (w : Within) (names : List Named) (at : ℕ) (b : PlainBlock) → Clean (block_faults w names at b)
      → BlockTyped w.cores w.own w.in_loop names b
  block_typed w names at plain.no_stmt none = tt
  block_typed w names at (plain.stmt s rest) none =
      let here = stmt_faults w names at s in
      let later = block_faults w (after names s) (at + stmt_size s) rest in (
        stmt_typed w names at s (left here later none),
        block_typed w (after names s) (at + stmt_size s) rest
            (right here later none),
      )

  arms_typed : (w : Within) (names : List Named) (at : ℕ) (arms : PlainArms) → Clean (arms_faults w names at arms)
      → ArmsTyped w.cores w.own w.in_loop names arms
  arms_typed w names at plain.no_arm none = tt
  arms_typed w names at (plain.arm condition body rest) none =
      let tests = whole_faults names (at + 2) condition in
      let body_at = at + 2 + expr_size condition + 2 in
      let inside = block_faults (opened w (length names)) names body_at body in
      let rest_at = at + (expr_size condition + block_size body + 5 + 1) in
      let later = arms_faults w names rest_at rest in
      let here = left (tests ++ inside) later none in (
        whole_typed names (at + 2) condition (left tests inside here),
        block_typed (opened w (length names)) names body_at body (right tests inside here),
        arms_typed w names rest_at rest (right (tests ++ inside) later none),
      )

  otherwise_typed : (w : Within) (names : List Named) (at : ℕ) (otherwise : PlainOtherwise)
      → Clean (otherwise_faults w names at otherwise) → OtherwiseTyped w.cores w.own w.in_loop names otherwise
  otherwise_typed w names at plain.no_else none = tt
  otherwise_typed w names at (plain.or_else body) none =
      block_typed (opened w (length names)) names (at + 1 + 1) body none

body_typed : (w : Within) (names : List Named) (at : ℕ) (body : List PlainStmt) → w.in_loop ≡ false
    → Clean (body_faults w names at body) → BodyTyped w.cores w.own names body
body_typed w names at [] outside none = tt
body_typed w names at (s ∷ rest) outside none =
    let here = stmt_faults w names at s in
    let later = body_faults w (after names s) (at + stmt_size s) rest in (
      subst (λ b. StmtTyped w.cores w.own b names s) outside (stmt_typed w names at s (left here later none)),
      body_typed w (after names s) (at + stmt_size s) rest outside (right here later none),
    )

-- ---- programs

global_typed : (names : List Named) (at : ℕ) (g : Global) → Clean (global_faults names at g) → GlobalTyped names g
global_typed names at g none =
    let name_at = at + (if g.scratch then 1 else 0) + kind_size g.kind in
    let twice = twice_faults 0 names name_at g.name in
    let typed = where_so (g.scratch && nat_lt 0 (length g.initial)) name_at fault.WrongType in
    let no_room = words_of g == 0 || nat_lt (words_of g) (length g.initial) in
    let sized = where_so no_room name_at fault.Data in
    let room = sizes (words_of g) (length g.initial) (not_so no_room name_at fault.Data
    (right typed sized (right twice (typed ++ sized) none))) in
    record { new = once_typed name_at g.name names (left twice (typed ++ sized) none); some = room.0; enough = room.1 }
  where
    sizes : (words values : ℕ) → (words == 0 || nat_lt words values) ≡ false → (1 ≤ words) × (values ≤ words)
    sizes words values h = (grind (arith, nat_tests, h), grind (arith, nat_tests, h))

function_typed : (cores own : ℕ) (names : List Named) (at : ℕ) (kind : Option Kind) (text : List ℕ) (void_word : Bool)
    (parameters : List Parameter) (body : List PlainStmt)
    → Clean (item_faults cores own names at (plain.function kind text void_word parameters body))
    → FunctionTyped cores own names kind text parameters body
function_typed cores own names at kind text void_word parameters body none =
    let name_at = at + length (gives_tokens kind) in
    let open_names = declared names text (function_means true kind parameters) in
    let within : Within =
    record { cores = cores; own = own; gives = is_some kind; in_loop = false; outer = length open_names } in
    let body_at = name_at + 2 + list_size void_word parameters + 2 in
    let twice = twice_faults 0 names name_at text in
    let many = where_so (nat_lt MOST_PARAMETERS (length parameters)) name_at fault.Params in
    let wide = where_so (nat_lt MOST_FRAME_WORDS (function_frame parameters body)) name_at fault.Frame in
    let heavy = where_so (nat_lt MOST_FUNCTION_WEIGHT (function_weight body)) name_at fault.Heavy in
    let told = twice ++ (many ++ (wide ++ heavy)) in
    let inside = inner_faults cores own open_names name_at kind void_word parameters body in
    let sizes = right twice (many ++ (wide ++ heavy)) (left told inside none) in
    let larger = right many (wide ++ heavy) sizes in
    let named = parameters_faults (length open_names) open_names (name_at + 2) parameters in
    let known = names_inside names kind text parameters in
    record {
      new = once_typed name_at text names (left twice (many ++ (wide ++ heavy)) (left told inside none));
      few = not_past MOST_PARAMETERS (length parameters) name_at fault.Params (left many (wide ++ heavy) sizes);
      framed = not_past MOST_FRAME_WORDS (function_frame parameters body) name_at fault.Frame (left wide heavy larger);
      light = not_past MOST_FUNCTION_WEIGHT (function_weight body) name_at fault.Heavy (right wide heavy larger);
      inside = body_typed within known body_at body refl
          (right named (body_faults within known body_at body) (right told inside none));
    }

items_typed : (cores own : ℕ) (names : List Named) (at : ℕ) (items : List PlainItem)
    → Clean (items_faults cores own names at items) → ItemsTyped cores own names items
items_typed cores own names at [] none = tt
items_typed cores own names at (i ∷ items) none =
    let here = item_faults cores own names at i in
    let later = items_faults cores own (with_item names i) (at + item_size i) items in (
      item_typed i (left here later none),
      items_typed cores own (with_item names i) (at + item_size i) items
          (right here later none),
    )
  where
    item_typed : (i : PlainItem) → Clean (item_faults cores own names at i) → ItemTyped cores own names i
    item_typed (plain.global g) none = global_typed names at g none
    item_typed (plain.function kind text void_word parameters body) none =
        function_typed cores own names at kind text void_word parameters body none

pub typed_of : (cores own : ℕ) (items : List PlainItem) → IsValid items cores own → Typed cores own items
typed_of cores own items valid =
    let at = sum_by item_size items in
    let each = items_faults cores own given 0 items in
    let heavy = where_so (nat_lt MOST_TASK_WEIGHT (items_weight items)) at fault.Heavy in
    let data_ = where_so (nat_lt MOST_PRIVATE_WORDS (words_in false items)) at fault.Data in
    let scratch = where_so (nat_lt MOST_SCRATCH_WORDS (words_in true items)) at fault.Scratch in
    let main = where_so (not (has_main items)) at fault.NoMain in
    let ends = right each (heavy ++ (data_ ++ (scratch ++ main))) valid in
    let words = right heavy (data_ ++ (scratch ++ main)) ends in
    let last = right data_ (scratch ++ main) words in
    record {
      each = items_typed cores own given 0 items (left each (heavy ++ (data_ ++ (scratch ++ main))) valid);
      light = not_past MOST_TASK_WEIGHT (items_weight items) at fault.Heavy
          (left heavy (data_ ++ (scratch ++ main)) ends);
      private = not_past MOST_PRIVATE_WORDS (words_in false items) at fault.Data (left data_ (scratch ++ main) words);
      scratch = not_past MOST_SCRATCH_WORDS (words_in true items) at fault.Scratch (left scratch main last);
      main = denied (has_main items) (not_so (not (has_main items)) at fault.NoMain (right scratch main last));
    }
