-- A valid program sends to other cores of its platform alone.
use Rattle.std.proofs.Common.{◌≡◌, ℕ, ◌+◌, ◌<◌, ◌==◌, ◌||◌, Bool, true, false, List, [], ◌∷◌, ◌++◌, Option, None, Some, refl, sym, subst, true≢false}
use Rattle.std.specs.List.{list_any, AllByRecursion as Each}
use Rattle.std.proofs.lemmas.Bool.{eqb-true}
use Rattle.shared_order.proofs.Lists.{each-append}
use Rattle.c_tree.specs.declared.checks.CheckFault.TheVariants as fault
use Rattle.c_tree.specs.declared.layout.Slot.{Slot}
use Rattle.c_tree.specs.Checks.{after}
use Rattle.c_tree.specs.Layout.{layout_of}
use Rattle.c_tree.specs.Names.{Named, given}
use Rattle.c_tree.specs.Plain.{PlainExpr, PlainSteps, PlainRight, PlainHead, PlainStmt, PlainBlock, PlainArms, PlainOtherwise, PlainItem}
use Rattle.c_tree.specs.Plain as plain
use Rattle.c_tree.specs.Valid.{IsValid, with_item}
use Rattle.c_tree.specs.Typed.{IsTarget, StmtTyped, BlockTyped, ArmsTyped, OtherwiseTyped, BodyTyped, names_inside, ItemsTyped}
use Rattle.c_tree.proofs.Typing.{typed_of}
use Rattle.c_meaning.specs.Meaning.{with_variable, names_after, parameter_variables}
use Rattle.c_meaning.specs.Values.{Names, named}
use Rattle.c_mentions.specs.Mentions.{is_send, sends_to}
use Rattle.c_mentions.specs.Uses.{Use, reads, sets, sends, expr_uses, steps_uses, args_uses, right_uses, first_uses, returned_uses, head_uses, stmt_uses, block_uses, arms_uses, otherwise_uses, body_uses, items_uses, program_uses}

module _ (cores own : ℕ) where
  -- words are sent to another core of so many
  abbrev SendsAway : Use → Type 0
  SendsAway (reads s) = Unit {0}
  SendsAway (sets s) = Unit {0}
  SendsAway (sends core) = IsTarget cores own core

  abbrev Away : List Use → Type 0
  Away = Each SendsAway

  both : (xs ys : List Use) → Away xs → Away ys → Away (xs ++ ys)
  both = each-append SendsAway

  -- ---- expressions send nothing

  mutual
    expr_away : (names : Names) (e : PlainExpr) → Away (expr_uses names e)
    expr_away names (plain.chain level first rest) =
        both (expr_uses names first) (steps_uses names rest) (expr_away names first) (steps_away names rest)
    expr_away names (plain.unary ops of) = expr_away names of
    expr_away names (plain.number n unsigned) = tt
    expr_away names (plain.name text) = (tt, tt)
    expr_away names (plain.element text index) = (tt, expr_away names index)
    expr_away names (plain.paren e) = expr_away names e

    steps_away : (names : Names) (steps : PlainSteps) → Away (steps_uses names steps)
    steps_away names plain.no_step = tt
    steps_away names (plain.step op operand rest) =
        both (expr_uses names operand) (steps_uses names rest) (expr_away names operand) (steps_away names rest)

  args_away : (names : Names) (args : List PlainExpr) → Away (args_uses names args)
  args_away names [] = tt
  args_away names (e ∷ args) =
      both (expr_uses names e) (args_uses names args) (expr_away names e) (args_away names args)

  right_away : (names : Names) (r : PlainRight) → Away (right_uses names r)
  right_away names (plain.value e) = expr_away names e
  right_away names (plain.call text args) = args_away names args

  first_away : (names : Names) (r : Option PlainRight) → Away (first_uses names r)
  first_away names None = tt
  first_away names (Some r) = right_away names r

  returned_away : (names : Names) (e : Option PlainExpr) → Away (returned_uses names e)
  returned_away names None = tt
  returned_away names (Some e) = expr_away names e

  head_away : (names : Names) (head : PlainHead) → Away (head_uses names head)
  head_away names (plain.iterations_while condition) = expr_away names condition
  head_away names (plain.iterations_for first from condition to_set to) = (
    tt,
    both (expr_uses names from) (expr_uses names condition ++ sets (named names to_set) ∷ expr_uses names to)
        (expr_away names from)
        (both (expr_uses names condition) (sets (named names to_set) ∷ expr_uses names to) (expr_away names condition)
        (tt, expr_away names to)),
  )

  -- ---- statements

  mutual
    stmt_away : (inside : Bool) (names : List Named) (of : Names) (s : PlainStmt) → StmtTyped cores own inside names s
        → Away (stmt_uses of s)
    stmt_away inside names of (plain.declared kind text r) typed = first_away (with_variable of kind text) r
    stmt_away inside names of (plain.set text r) typed = (tt, right_away of r)
    stmt_away inside names of (plain.set_element text index r) typed =
        (tt, both (expr_uses of index) (right_uses of r) (expr_away of index) (right_away of r))
    stmt_away inside names of (plain.called text args) typed = args_away of args
    stmt_away inside names of (plain.sent core core_unsigned source target count) typed = (
      typed.0,
      both (expr_uses of source) (expr_uses of target ++ expr_uses of count) (expr_away of source)
          (both (expr_uses of target) (expr_uses of count) (expr_away of target) (expr_away of count)),
    )
    stmt_away inside names of (plain.chosen arms otherwise) typed =
        both (arms_uses of arms) (otherwise_uses of otherwise) (arms_away inside names of arms typed.0)
        (otherwise_away inside names of otherwise typed.1)
    stmt_away inside names of (plain.looped bound head body) typed =
        both (head_uses of head) (block_uses of body) (head_away of head) (block_away true names of body typed.1)
    stmt_away inside names of plain.broken typed = tt
    stmt_away inside names of plain.continued typed = tt
    stmt_away inside names of (plain.returned e) typed = returned_away of e
    stmt_away inside names of (plain.inner body) typed = block_away inside names of body typed

    block_away : (inside : Bool) (names : List Named) (of : Names) (body : PlainBlock)
        → BlockTyped cores own inside names body → Away (block_uses of body)
    block_away inside names of plain.no_stmt typed = tt
    block_away inside names of (plain.stmt s rest) typed =
        both (stmt_uses of s) (block_uses (names_after of s) rest) (stmt_away inside names of s typed.0)
        (block_away inside (after names s) (names_after of s) rest typed.1)

    arms_away : (inside : Bool) (names : List Named) (of : Names) (arms : PlainArms)
        → ArmsTyped cores own inside names arms → Away (arms_uses of arms)
    arms_away inside names of plain.no_arm typed = tt
    arms_away inside names of (plain.arm condition body rest) typed =
        both (expr_uses of condition) (block_uses of body ++ arms_uses of rest) (expr_away of condition)
        (both (block_uses of body) (arms_uses of rest) (block_away inside names of body typed.1)
        (arms_away inside names of rest typed.2))

    otherwise_away : (inside : Bool) (names : List Named) (of : Names) (otherwise : PlainOtherwise)
        → OtherwiseTyped cores own inside names otherwise → Away (otherwise_uses of otherwise)
    otherwise_away inside names of plain.no_else typed = tt
    otherwise_away inside names of (plain.or_else body) typed = block_away inside names of body typed

  body_away : (names : List Named) (of : Names) (body : List PlainStmt) → BodyTyped cores own names body
      → Away (body_uses of body)
  body_away names of [] typed = tt
  body_away names of (s ∷ rest) typed =
      both (stmt_uses of s) (body_uses (names_after of s) rest) (stmt_away false names of s typed.0)
      (body_away (after names s) (names_after of s) rest typed.1)

  -- ---- programs

  items_away : (slots : List Slot) (names : List Named) (items : List PlainItem) → ItemsTyped cores own names items
      → Away (items_uses slots items)
  items_away slots names [] typed = tt
  items_away slots names (plain.global g ∷ items) typed =
      items_away slots (with_item names (plain.global g)) items typed.1
  items_away slots names (plain.function kind text void_word parameters body ∷ items) typed =
      let of : Names = record { slots = slots; variables = parameter_variables parameters } in
      both (body_uses of body) (items_uses slots items)
      (body_away (names_inside names kind text parameters) of body typed.0.inside)
      (items_away slots (with_item names (plain.function kind text void_word parameters body)) items typed.1)

  found_away : (core : ℕ) (us : List Use) → Away us → list_any (is_send core) us ≡ true → (core < cores)
      × (core ≡ own → ⊥)
  found_away core [] away is = absurd (true≢false (sym is))
  found_away core (reads s ∷ us) away is = found_away core us away.1 is
  found_away core (sets s ∷ us) away is = found_away core us away.1 is
  found_away core (sends to ∷ us) away is = by (to == core) refl is (found_away core us away.1)
    where
      by : (b : Bool) → (to == core) ≡ b → (b || list_any (is_send core) us) ≡ true → (list_any (is_send core) us ≡ true
          → (core < cores) × (core ≡ own → ⊥)) → (core < cores) × (core ≡ own → ⊥)
      by true same is more = subst (λ k. (k < cores) × (k ≡ own → ⊥)) (eqb-true to core same) away.0
      by false same is more = more is

  pub sends_away : (items : List PlainItem) → IsValid items cores own → (core : ℕ) → sends_to core items ≡ true
      → (core < cores) × (core ≡ own → ⊥)
  sends_away items valid core is = found_away core (program_uses items) (items_away (layout_of items) given items
      (typed_of cores own items valid).each) is
