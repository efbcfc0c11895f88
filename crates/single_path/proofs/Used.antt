-- What the tree of a program does with memories comes from the uses of the program: what the tree reads the program
-- reads, what it writes the program sets, and where it sends the program sends.
use Rattle.std.proofs.Common.{◌≡◌, inl, inr, ℕ, Bool, true, false, ◌||◌, List, [], ◌∷◌, ◌++◌, length, Option, None, Some, refl, ap, sym, ◌∙◌}
use Rattle.std.specs.List.{AllByRecursion as Each, list_any}
use Rattle.local_store.specs.declared.map.Cell.{Cell}
use Rattle.local_store.specs.declared.map.Cell.TheVariants as cell
use Rattle.shared_order.proofs.Lists.{each_first, each_rest}
use Rattle.c_tree.specs.declared.layout.Slot.{Slot}
use Rattle.c_tree.specs.Layout.{layout_of}
use Rattle.c_tree.specs.Plain.{PlainExpr, PlainSteps, PlainRight, PlainHead, PlainStmt, PlainBlock, PlainArms, PlainOtherwise, PlainItem}
use Rattle.c_tree.specs.Plain as plain
use Rattle.sp_tree.specs.declared.expressions.SpArray.{SpArray}
use Rattle.sp_tree.specs.declared.expressions.SpCell.{SpCell}
use Rattle.sp_tree.specs.Plain.{PlainSp}
use Rattle.sp_tree.specs.Uses.{Use, reads_cell, reads_array, writes_cell, writes_array, uses_of}
use Rattle.sp_tree.specs.Uses as tree
use Rattle.c_meaning.specs.Actions.{PlainTarget, to_level}
use Rattle.c_meaning.specs.Actions as actions
use Rattle.c_meaning.specs.Meaning.{with_variable, names_after, most_iterations, parameter_variables}
use Rattle.c_meaning.specs.Operators.{works_unsigned, gives_unsigned}
use Rattle.c_tree.specs.Names.{number_of}
use Rattle.c_meaning.specs.Resolve.{resolved, resolved_steps, resolved_args, resolved_between, resolved_right, assignment_to, resolved_begin, resolved_condition, resolved_next, resolved_stmt, resolved_block, resolved_arms, resolved_otherwise, resolved_body, resolved_items, maybe_sets, variable_target, element_target, slot_cell, slot_array, parameters_in}
use Rattle.c_meaning.specs.Scope.{outside, slot_region}
use Rattle.c_meaning.specs.Values.{Names, named, expr_unsigned}
use Rattle.c_mentions.specs.Mentions.{Array, comm_array, shared_array, is_at, is_mention, is_assignment, is_send, mentions, assigns, sends_to}
use Rattle.c_mentions.specs.Uses.{reads, sets, sends, expr_uses, steps_uses, args_uses, right_uses, head_uses, stmt_uses, block_uses, arms_uses, otherwise_uses, body_uses, items_uses, program_uses}
use Rattle.c_mentions.specs.Uses as source
use Rattle.single_path.specs.Single.{with_calls}
use Rattle.single_path.specs.Used.{IsMadeTo, ComesFrom, same_region, reads_region, writes_region, is_send_to, memory_of}
use Rattle.single_path.proofs.Acts.{Gives, Steps, AnyDo, joined_do, choice_does, assignment_does, sets_do, call_does}
use Rattle.single_path.proofs.Doing.{ExprDoes, TargetDoes, uses, AllDo, functions_do}
use Rattle.single_path.proofs.Resolving.{Outside, CellRead, ArrayRead, CellWritten, ArrayWritten, variable_does, element_does, variable_target_does, element_target_does, between_does, signs_do}

-- ---- a property of all that a use of the program is made to

abbrev Allows : (Use → Type 0) → source.Use → Type 0
Allows P (reads s) = Outside (CellRead P) s × Outside (ArrayRead P) s
Allows P (sets s) = Outside (CellWritten P) s × Outside (ArrayWritten P) s
Allows P (sends core) = P (tree.sends_to core)

-- ---- expressions and arguments

mutual
  expr_used : (P : Use → Type 0) (names : Names) (fresh : Option ℕ) (e : PlainExpr)
      → Each (Allows P) (expr_uses names e)
      → ExprDoes P (resolved names fresh e)
  expr_used P names fresh (plain.chain at first rest) all =
      steps_used P names fresh (expr_unsigned names first) (resolved names fresh first) rest
      (expr_used P names fresh first (each_first (Allows P) (expr_uses names first) (steps_uses names rest) all))
      (each_rest (Allows P) (expr_uses names first) (steps_uses names rest) all)
  expr_used P names fresh (plain.unary ops of) all =
      signs_do P ops (resolved names fresh of) (expr_used P names fresh of all)
  expr_used P names fresh (plain.number n unsigned) all = tt
  expr_used P names fresh (plain.name text) all = variable_does P fresh (named names text) all.0.0
  expr_used P names fresh (plain.element text index) all =
      element_does P (named names text) (resolved names fresh index) all.0.1 (expr_used P names fresh index all.1)
  expr_used P names fresh (plain.paren of) all = expr_used P names fresh of all

  steps_used : (P : Use → Type 0) (names : Names) (fresh : Option ℕ) (u : Bool) (a : PlainSp) (steps : PlainSteps)
      → ExprDoes P a
      → Each (Allows P) (steps_uses names steps) → ExprDoes P (resolved_steps names fresh u a steps)
  steps_used P names fresh u a plain.no_step does all = does
  steps_used P names fresh u a (plain.step op operand rest) does all =
      let v = works_unsigned op u (expr_unsigned names operand) in
      let b = resolved names fresh operand in
      steps_used P names fresh (gives_unsigned op u (expr_unsigned names operand)) (resolved_between op v a b) rest
      (between_does P op v a b does (expr_used P names fresh operand (each_first (Allows P) (expr_uses names operand)
      (steps_uses names rest) all)))
      (each_rest (Allows P) (expr_uses names operand) (steps_uses names rest) all)

args_used : (P : Use → Type 0) (names : Names) (fresh : Option ℕ) (args : List PlainExpr)
    → Each (Allows P) (args_uses names args)
    → Each (ExprDoes P) (resolved_args names fresh args)
args_used P names fresh [] all = tt
args_used P names fresh (e ∷ args) all = (
  expr_used P names fresh e (each_first (Allows P) (expr_uses names e) (args_uses names args) all),
  args_used P names fresh args (each_rest (Allows P) (expr_uses names e) (args_uses names args) all),
)

-- ---- right sides and heads of loops

right_used : (P : Use → Type 0) (fs : List (List ℕ)) (names : Names) (fresh : Option ℕ) (target : Option PlainTarget)
    (r : PlainRight)
    → Gives (TargetDoes P) target → Each (Allows P) (right_uses names r)
    → AllDo P (resolved_right fs names fresh target r)
right_used P fs names fresh target (plain.value e) may all =
    sets_do (uses P) true (assignment_to target (resolved names fresh e))
    (assignment_does (uses P) target (resolved names fresh e) may (expr_used P names fresh e all))
right_used P fs names fresh target (plain.call text args) may all =
    call_does (uses P) true (number_of text fs) (resolved_args names fresh args) target tt (λ number is. tt)
    (args_used P names fresh args all) may

head_used : (P : Use → Type 0) (names : Names) (head : PlainHead) → Each (Allows P) (head_uses names head)
    → Steps (TargetDoes P) (ExprDoes P) (resolved_begin names head) × ExprDoes P (resolved_condition names head)
    × Steps (TargetDoes P) (ExprDoes P) (resolved_next names head)
head_used P names (plain.iterations_while condition) all = (tt, expr_used P names None condition all, tt)
head_used P names (plain.iterations_for first from condition to_set to) all =
    let last = sets (named names to_set) ∷ expr_uses names to in
    let others = each_rest (Allows P) (expr_uses names from) (expr_uses names condition ++ last) all.1 in
    let stepped = each_rest (Allows P) (expr_uses names condition) last others in (
      assignment_does (uses P) (variable_target (named names first)) (resolved names None from)
          (variable_target_does P (named names first) all.0.0)
          (expr_used P names None from (each_first (Allows P) (expr_uses names from) (expr_uses names condition
          ++ last) all.1)),
      expr_used P names None condition (each_first (Allows P) (expr_uses names condition) last others),
      assignment_does (uses P) (variable_target (named names to_set)) (resolved names None to)
          (variable_target_does P (named names to_set) stepped.0.0)
          (expr_used P names None to stepped.1),
    )

-- ---- statements

mutual
  stmt_used : (P : Use → Type 0) (fs : List (List ℕ)) (names : Names) (s : PlainStmt)
      → Each (Allows P) (stmt_uses names s)
      → AllDo P (resolved_stmt fs names s)
  stmt_used P fs names (plain.declared kind text None) all = ((tt, tt), tt)
  stmt_used P fs names (plain.declared kind text (Some r)) all =
      let at = length names.variables in
      right_used P fs (with_variable names kind text) (Some at) (Some (to_level at)) r tt all
  stmt_used P fs names (plain.set text r) all =
      right_used P fs names None (variable_target (named names text)) r
      (variable_target_does P (named names text) all.0.0) all.1
  stmt_used P fs names (plain.set_element text index r) all =
      let i = resolved names None index in
      let inner = expr_used P names None index (each_first (Allows P) (expr_uses names index)
      (right_uses names r) all.1) in
      right_used P fs names None (element_target (named names text) i) r
      (element_target_does P (named names text) i all.0.1 inner)
      (each_rest (Allows P) (expr_uses names index) (right_uses names r) all.1)
  stmt_used P fs names (plain.called text args) all =
      call_does (uses P) true (number_of text fs) (resolved_args names None args) None tt (λ number is. tt)
      (args_used P names None args all) tt
  stmt_used P fs names (plain.sent core core_unsigned from to count) all =
      let others = each_rest (Allows P) (expr_uses names from) (expr_uses names to ++ expr_uses names count) all.1 in (
        (
          all.0,
          expr_used P names None from (each_first (Allows P) (expr_uses names from) (expr_uses names to
              ++ expr_uses names count) all.1),
          expr_used P names None to (each_first (Allows P) (expr_uses names to) (expr_uses names count) others),
          expr_used P names None count (each_rest (Allows P) (expr_uses names to) (expr_uses names count) others),
        ),
        tt,
      )
  stmt_used P fs names (plain.chosen arms otherwise) all =
      choice_does (uses P) true (resolved_arms fs names arms) (resolved_otherwise fs names otherwise)
      (arms_used P fs names arms (each_first (Allows P) (arms_uses names arms) (otherwise_uses names otherwise) all))
      (otherwise_used P fs names otherwise (each_rest (Allows P) (arms_uses names arms)
      (otherwise_uses names otherwise) all))
  stmt_used P fs names (plain.looped bound head body) all =
      let parts = head_used P names head (each_first (Allows P) (head_uses names head) (block_uses names body) all) in
      joined_do (uses P) true (maybe_sets (resolved_begin names head))
      (actions.one (actions.iterations (most_iterations bound) (resolved_condition names head)
      (resolved_block fs names body) (resolved_next names head)))
      (sets_do (uses P) true (resolved_begin names head) parts.0) (
        (
          parts.1,
          block_used P fs names body (each_rest (Allows P) (head_uses names head) (block_uses names body)
              all),
          parts.2,
        ),
        tt,
      )
  stmt_used P fs names (plain.returned (Some e)) all = (expr_used P names None e all, tt)
  stmt_used P fs names (plain.inner body) all = block_used P fs names body all
  stmt_used P fs names (plain.returned None) all = (tt, tt)
  stmt_used P fs names _ all = (refl, tt)

  block_used : (P : Use → Type 0) (fs : List (List ℕ)) (names : Names) (body : PlainBlock)
      → Each (Allows P) (block_uses names body)
      → AllDo P (resolved_block fs names body)
  block_used P fs names plain.no_stmt all = tt
  block_used P fs names (plain.stmt s rest) all =
      let behind = names_after names s in
      joined_do (uses P) true (resolved_stmt fs names s) (resolved_block fs behind rest)
      (stmt_used P fs names s (each_first (Allows P) (stmt_uses names s) (block_uses behind rest) all))
      (block_used P fs behind rest (each_rest (Allows P) (stmt_uses names s) (block_uses behind rest) all))

  arms_used : (P : Use → Type 0) (fs : List (List ℕ)) (names : Names) (arms : PlainArms)
      → Each (Allows P) (arms_uses names arms)
      → AnyDo (uses P) true (resolved_arms fs names arms)
  arms_used P fs names plain.no_arm all = tt
  arms_used P fs names (plain.arm condition body rest) all =
      let others =
      each_rest (Allows P) (expr_uses names condition) (block_uses names body ++ arms_uses names rest) all in (
        expr_used P names None condition (each_first (Allows P) (expr_uses names condition) (block_uses names body
            ++ arms_uses names rest) all),
        block_used P fs names body (each_first (Allows P) (block_uses names body) (arms_uses names rest) others),
        arms_used P fs names rest (each_rest (Allows P) (block_uses names body) (arms_uses names rest) others),
      )

  otherwise_used : (P : Use → Type 0) (fs : List (List ℕ)) (names : Names) (otherwise : PlainOtherwise)
      → Each (Allows P) (otherwise_uses names otherwise) → AllDo P (resolved_otherwise fs names otherwise)
  otherwise_used P fs names plain.no_else all = tt
  otherwise_used P fs names (plain.or_else body) all = block_used P fs names body all

-- ---- programs

body_used : (P : Use → Type 0) (fs : List (List ℕ)) (names : Names) (body : List PlainStmt)
    → Each (Allows P) (body_uses names body)
    → AllDo P (resolved_body fs names body)
body_used P fs names [] all = tt
body_used P fs names (s ∷ rest) all =
    let behind = names_after names s in
    joined_do (uses P) true (resolved_stmt fs names s) (resolved_body fs behind rest)
    (stmt_used P fs names s (each_first (Allows P) (stmt_uses names s) (body_uses behind rest) all))
    (body_used P fs behind rest (each_rest (Allows P) (stmt_uses names s) (body_uses behind rest) all))

items_used : (P : Use → Type 0) (slots : List Slot) (fs : List (List ℕ)) (items : List PlainItem)
    → Each (Allows P) (items_uses slots items)
    → Each (AllDo P) (resolved_items slots fs items)
items_used P slots fs [] all = tt
items_used P slots fs (plain.global of ∷ items) all = items_used P slots fs items all
items_used P slots fs (plain.function kind its_name void_word parameters body ∷ items) all =
    let names : Names = record { slots = slots; variables = parameter_variables parameters } in (
      body_used P fs names body (each_first (Allows P) (body_uses names body) (items_uses slots items) all),
      items_used P slots (fs ++ its_name ∷ []) items (each_rest (Allows P) (body_uses names body)
          (items_uses slots items) all),
    )

-- ---- each use of the tree comes from one of the program

allowed : (P : Use → Type 0) (s : source.Use) → ((u : Use) → IsMadeTo s u → P u) → Allows P s
allowed P (reads (outside slot)) all =
    (all (reads_cell (slot_cell slot)) (slot, refl, refl), all (reads_array (slot_array slot)) (slot, refl, refl))
allowed P (sets (outside slot)) all =
    (all (writes_cell (slot_cell slot)) (slot, refl, refl), all (writes_array (slot_array slot)) (slot, refl, refl))
allowed P (sends core) all = all (tree.sends_to core) refl
allowed P _ all = (tt, tt)

-- each of some uses allows what comes from them, where all that comes from them has a property
each_allowed : (P : Use → Type 0) (ss : List source.Use) → ((u : Use) → ComesFrom ss u → P u) → Each (Allows P) ss
each_allowed P [] all = tt
each_allowed P (s ∷ ss) all = (allowed P s (λ u made. all u (inl made)), each_allowed P ss (λ u from. all u (inr from)))

pub uses_come_from : (items : List PlainItem) → Each (ComesFrom (program_uses items)) (uses_of (with_calls items))
uses_come_from items =
    let P = ComesFrom (program_uses items) in
    functions_do P (parameters_in items) (resolved_items (layout_of items) [] items)
    (items_used P (layout_of items) [] items (each_allowed P (program_uses items) (λ u from. from)))

-- ---- what the tree reads and writes of the arrays that a task is given, and where it sends

-- where a use of the tree passes a test, so does one of the program that it comes from
one_from : (test : Use → Bool) (other : source.Use → Bool) → ((s : source.Use) (u : Use) → IsMadeTo s u → test u ≡ true
    → other s ≡ true)
    → (ss : List source.Use) (u : Use) → ComesFrom ss u → test u ≡ true → list_any other ss ≡ true
one_from test other each [] u from is = absurd from
one_from test other each (s ∷ ss) u (inl made) is = ap (λ b. b || list_any other ss) (each s u made is)
one_from test other each (s ∷ ss) u (inr from) is = by (other s) (one_from test other each ss u from is)
  where
    by : (b : Bool) → list_any other ss ≡ true → (b || list_any other ss) ≡ true
    by true later = refl
    by false later = later

any_from : (test : Use → Bool) (other : source.Use → Bool) → ((s : source.Use) (u : Use) → IsMadeTo s u → test u ≡ true
    → other s ≡ true)
    → (ss : List source.Use) (us : List Use) → Each (ComesFrom ss) us → list_any test us ≡ true
    → list_any other ss ≡ true
any_from test other each ss [] from is = absurd (cc)
any_from test other each ss (u ∷ us) from is =
    by (test u) refl is (λ later. any_from test other each ss us from.1 later)
  where
    by : (b : Bool) → test u ≡ b → (b || list_any test us) ≡ true → (list_any test us ≡ true → list_any other ss ≡ true)
        → list_any other ss ≡ true
    by true here is rest = one_from test other each ss u from.0 here
    by false here is rest = rest is

-- a slot stands in the memory of an array that is given only where it is the array's
slot_at : (a : Array) (s : Slot) → same_region (memory_of a) (slot_region s) ≡ true → is_at a s.cell ≡ true
slot_at a s is = by a s.cell is
  where
    by : (a : Array) (c : Cell) → same_region (memory_of a) (slot_region (record s { cell = c })) ≡ true
        → is_at a c ≡ true
    by comm_array (cell.Comm word) is = refl
    by shared_array (cell.Shared word) is = refl
    by a c is = absurd (cc)

read_made : (a : Array) (s : source.Use) (u : Use) → IsMadeTo s u → reads_region (memory_of a) u ≡ true
    → is_mention a s ≡ true
read_made a s (reads_cell c) made is =
    ap (is_mention a) made.1 ∙ slot_at a made.0 (ap (λ (x : SpCell). same_region (memory_of a) x.region) (sym made.2)
    ∙ is)
read_made a s (reads_array c) made is =
    ap (is_mention a) made.1 ∙ slot_at a made.0 (ap (λ (x : SpArray). same_region (memory_of a) x.region) (sym made.2)
    ∙ is)
read_made a s u made is = absurd (cc)

write_made : (a : Array) (s : source.Use) (u : Use) → IsMadeTo s u → writes_region (memory_of a) u ≡ true
    → is_assignment a s ≡ true
write_made a s (writes_cell c) made is =
    ap (is_assignment a) made.1 ∙ slot_at a made.0 (ap (λ (x : SpCell). same_region (memory_of a) x.region) (sym made.2)
    ∙ is)
write_made a s (writes_array c) made is =
    ap (is_assignment a) made.1 ∙ slot_at a made.0 (ap (λ (x : SpArray). same_region (memory_of a) x.region)
    (sym made.2) ∙ is)
write_made a s u made is = absurd (cc)

send_made : (core : ℕ) (s : source.Use) (u : Use) → IsMadeTo s u → is_send_to core u ≡ true → is_send core s ≡ true
send_made core s (tree.sends_to to) made is = ap (is_send core) made ∙ is
send_made core s u made is = absurd (cc)

pub reads_only_mentioned : (a : Array) (items : List PlainItem) → list_any (reads_region (memory_of a)) (uses_of
    (with_calls items)) ≡ true
    → mentions a items ≡ true
reads_only_mentioned a items is =
    any_from (reads_region (memory_of a)) (is_mention a) (read_made a) (program_uses items) (uses_of (with_calls items))
    (uses_come_from items) is

pub writes_only_assigned : (a : Array) (items : List PlainItem) → list_any (writes_region (memory_of a)) (uses_of
    (with_calls items)) ≡ true
    → assigns a items ≡ true
writes_only_assigned a items is =
    any_from (writes_region (memory_of a)) (is_assignment a) (write_made a) (program_uses items)
    (uses_of (with_calls items)) (uses_come_from items) is

pub sends_only_sent : (core : ℕ) (items : List PlainItem) → list_any (is_send_to core) (uses_of (with_calls items))
    ≡ true → sends_to core items ≡ true
sends_only_sent core items is =
    any_from (is_send_to core) (is_send core) (send_made core) (program_uses items) (uses_of (with_calls items))
    (uses_come_from items) is
