-- What typed statements are resolved to keeps to rules, where what is known of names gives that their names do.
use Rattle.std.proofs.Common.{◌≡◌, ℕ, Bool, true, false, List, [], ◌∷◌, length, Option, None, Some, sym, subst, true≢false}
use Rattle.std.proofs.lemmas.List.{length-map}
use Rattle.std.specs.List.{AllByRecursion as Each}
use Rattle.c_tree.specs.declared.checks.Meaning.TheVariants as means
use Rattle.c_tree.specs.declared.statements.Kind.{Kind}
use Rattle.c_tree.specs.Checks.{after}
use Rattle.c_tree.specs.Names.{Named, declared, number_of}
use Rattle.c_tree.specs.Plain.{PlainExpr, PlainRight, PlainHead, PlainStmt, PlainBlock, PlainArms, PlainOtherwise}
use Rattle.c_tree.specs.Plain as plain
use Rattle.c_tree.specs.Typed.{IsScalar, IsArray, IsCallable, WholeTyped, ArgsTyped, CallTyped, RightTyped, FirstTyped, AssignedTyped, HeadTyped, GivenTyped, IsTarget, StmtTyped, BlockTyped, ArmsTyped, OtherwiseTyped, BodyTyped}
use Rattle.sp_tree.specs.Plain.{PlainSp, constant}
use Rattle.c_meaning.specs.Actions.{PlainTarget, to_level, one, iterations}
use Rattle.c_meaning.specs.Meaning.{with_variable, names_after, most_iterations}
use Rattle.c_meaning.specs.Resolve.{resolved, resolved_args, resolved_right, resolved_declaration, resolved_stmt, resolved_block, resolved_arms, resolved_otherwise, resolved_body, resolved_begin, resolved_condition, resolved_next, resolved_return, maybe_sets, assignment_to, variable_target, element_target, numbered_call}
use Rattle.c_meaning.specs.Values.{Names, named}
use Rattle.single_path.proofs.Acts.{Rules, Gives, Steps, Do, AnyDo, joined_do, choice_does, assignment_does, sets_do, call_does}

-- where names are known, what their parts are resolved to keeps to the rules; and a variable more is known too
pub record Grounds (r : Rules) (cores own : ℕ) (fs : List (List ℕ)) (Known : List Named → Names → Type 0)
    : Type 0 where
  pub zero : r.Expr (constant 0)
  pub level : (at : ℕ) → r.Target (to_level at)
  pub expr : (names : List Named) (of : Names) → Known names of → (fresh : Option ℕ) (e : PlainExpr)
      → WholeTyped names e → r.Expr (resolved of fresh e)
  pub variable : (names : List Named) (of : Names) → Known names of → (text : List ℕ) → IsScalar names text
      → Gives r.Target (variable_target (named of text))
  pub element : (names : List Named) (of : Names) → Known names of → (text : List ℕ) (index : PlainSp)
      → IsArray names text → r.Expr index → Gives r.Target (element_target (named of text) index)
  pub call : (names : List Named) (of : Names) → Known names of → (text : List ℕ) (arguments : ℕ)
      → IsCallable names text arguments → (number : ℕ) → number_of text fs ≡ Some number → r.Call number arguments
  pub send : (names : List Named) (of : Names) → Known names of → (core : ℕ) → IsTarget cores own core → r.Send core
  pub more : (names : List Named) (of : Names) → Known names of → (kind : Kind) (text : List ℕ)
      → Known (declared names text means.Scalar) (with_variable of kind text)

module _ (r : Rules) (cores own : ℕ) (fs : List (List ℕ)) (Known : List Named → Names → Type 0)
    (g : Grounds r cores own fs Known) where
  args_do : (names : List Named) (of : Names) → Known names of → (fresh : Option ℕ) (args : List PlainExpr)
      → ArgsTyped names args → Each r.Expr (resolved_args of fresh args)
  args_do names of k fresh [] typed = tt
  args_do names of k fresh (e ∷ args) typed =
      (g.expr names of k fresh e typed.0, args_do names of k fresh args typed.1)

  called_do : (inside : Bool) (names : List Named) (of : Names) → Known names of → (fresh : Option ℕ) (text : List ℕ)
      (args : List PlainExpr) (target : Option PlainTarget) → CallTyped names text args → Gives r.Target target
      → Do r inside (numbered_call (number_of text fs) (resolved_args of fresh args) target)
  called_do inside names of k fresh text args target typed to =
      call_does r inside (number_of text fs) (resolved_args of fresh args) target g.zero
      (λ number is. subst (r.Call number) (sym (length-map args (resolved of fresh)))
      (g.call names of k text (length args) typed.0 number is))
      (args_do names of k fresh args typed.1) to

  right_does : (inside : Bool) (names : List Named) (of : Names) → Known names of → (fresh : Option ℕ)
      (target : Option PlainTarget) (side : PlainRight) → RightTyped names side → Gives r.Target target
      → Do r inside (resolved_right fs of fresh target side)
  right_does inside names of k fresh target (plain.value e) typed to =
      sets_do r inside (assignment_to target (resolved of fresh e))
      (assignment_does r target (resolved of fresh e) to (g.expr names of k fresh e typed))
  right_does inside names of k fresh target (plain.call text args) typed to =
      called_do inside names of k fresh text args target typed to

  -- a variable that is declared, at its level, with its first value
  first_does : (inside : Bool) (names : List Named) (of : Names) → Known names of → (kind : Kind) (text : List ℕ)
      (side : Option PlainRight) (level : ℕ) → FirstTyped names text side
      → Do r inside (resolved_declaration fs (with_variable of kind text) level side)
  first_does inside names of k kind text None level typed = ((g.level level, g.zero), tt)
  first_does inside names of k kind text (Some side) level typed =
      right_does inside (declared names text means.Scalar) (with_variable of kind text) (g.more names of k kind text)
      (Some level) (Some (to_level level)) side typed (g.level level)

  assigned_does : (names : List Named) (of : Names) → Known names of → (text : List ℕ) (e : PlainExpr)
      → AssignedTyped names text e
      → Steps r.Target r.Expr (assignment_to (variable_target (named of text)) (resolved of None e))
  assigned_does names of k text e typed =
      assignment_does r (variable_target (named of text)) (resolved of None e) (g.variable names of k text typed.0)
      (g.expr names of k None e typed.1)

  head_does : (names : List Named) (of : Names) → Known names of → (head : PlainHead) → HeadTyped names head
      → Steps r.Target r.Expr (resolved_begin of head) × r.Expr (resolved_condition of head)
      × Steps r.Target r.Expr (resolved_next of head)
  head_does names of k (plain.iterations_while condition) typed = (tt, g.expr names of k None condition typed, tt)
  head_does names of k (plain.iterations_for first from condition next to) typed = (
    assigned_does names of k first from typed.0,
    g.expr names of k None condition typed.1,
    assigned_does names of k next to typed.2,
  )

  return_does : (names : List Named) (of : Names) → Known names of → (e : Option PlainExpr) → GivenTyped names e
      → r.Expr (resolved_return of e)
  return_does names of k None typed = g.zero
  return_does names of k (Some e) typed = g.expr names of k None e typed

  known_after : (names : List Named) (of : Names) → Known names of → (s : PlainStmt)
      → Known (after names s) (names_after of s)
  known_after names of k (plain.declared kind text side) = g.more names of k kind text
  known_after names of k _ = k

  -- where a loop is left there is one for the rules too
  mutual
    stmt_does : (here inside : Bool) → (here ≡ true → inside ≡ true) → (names : List Named) (of : Names)
        → Known names of → (s : PlainStmt) → StmtTyped cores own here names s → Do r inside (resolved_stmt fs of s)
    stmt_does here inside may names of k (plain.declared kind text side) typed =
        first_does inside names of k kind text side (length of.variables) typed
    stmt_does here inside may names of k (plain.set text side) typed =
        right_does inside names of k None (variable_target (named of text)) side typed.1
        (g.variable names of k text typed.0)
    stmt_does here inside may names of k (plain.set_element text index side) typed =
        let i = resolved of None index in
        right_does inside names of k None (element_target (named of text) i) side typed.2
        (g.element names of k text i typed.0 (g.expr names of k None index typed.1))
    stmt_does here inside may names of k (plain.called text args) typed =
        called_do inside names of k None text args None typed tt
    stmt_does here inside may names of k (plain.sent core core_unsigned source target count) typed =
        let each = args_do names of k None (source ∷ target ∷ count ∷ []) typed.1 in
        ((g.send names of k core typed.0, each.0, each.1.0, each.1.1.0), tt)
    stmt_does here inside may names of k (plain.chosen arms otherwise) typed =
        choice_does r inside (resolved_arms fs of arms) (resolved_otherwise fs of otherwise)
        (arms_do here inside may names of k arms typed.0) (otherwise_does here inside may names of k otherwise typed.1)
    stmt_does here inside may names of k (plain.looped bound head body) typed =
        let parts = head_does names of k head typed.0 in
        joined_do r inside (maybe_sets (resolved_begin of head))
        (one (iterations (most_iterations bound) (resolved_condition of head) (resolved_block fs of body)
        (resolved_next of head)))
        (sets_do r inside (resolved_begin of head) parts.0)
        ((parts.1, block_does true true (λ is. is) names of k body typed.1, parts.2), tt)
    stmt_does here inside may names of k plain.broken typed = (may typed, tt)
    stmt_does here inside may names of k plain.continued typed = (may typed, tt)
    stmt_does here inside may names of k (plain.returned e) typed = (return_does names of k e typed, tt)
    stmt_does here inside may names of k (plain.inner body) typed = block_does here inside may names of k body typed

    block_does : (here inside : Bool) → (here ≡ true → inside ≡ true) → (names : List Named) (of : Names)
        → Known names of → (b : PlainBlock) → BlockTyped cores own here names b → Do r inside (resolved_block fs of b)
    block_does here inside may names of k plain.no_stmt typed = tt
    block_does here inside may names of k (plain.stmt s rest) typed =
        joined_do r inside (resolved_stmt fs of s) (resolved_block fs (names_after of s) rest)
        (stmt_does here inside may names of k s typed.0)
        (block_does here inside may (after names s) (names_after of s) (known_after names of k s) rest typed.1)

    arms_do : (here inside : Bool) → (here ≡ true → inside ≡ true) → (names : List Named) (of : Names)
        → Known names of → (arms : PlainArms) → ArmsTyped cores own here names arms
        → AnyDo r inside (resolved_arms fs of arms)
    arms_do here inside may names of k plain.no_arm typed = tt
    arms_do here inside may names of k (plain.arm condition body rest) typed = (
      g.expr names of k None condition typed.0,
      block_does here inside may names of k body typed.1,
      arms_do here inside may names of k rest typed.2,
    )

    otherwise_does : (here inside : Bool) → (here ≡ true → inside ≡ true) → (names : List Named) (of : Names)
        → Known names of → (otherwise : PlainOtherwise) → OtherwiseTyped cores own here names otherwise
        → Do r inside (resolved_otherwise fs of otherwise)
    otherwise_does here inside may names of k plain.no_else typed = tt
    otherwise_does here inside may names of k (plain.or_else body) typed =
        block_does here inside may names of k body typed

  pub body_does : (inside : Bool) (names : List Named) (of : Names) → Known names of → (body : List PlainStmt)
      → BodyTyped cores own names body → Do r inside (resolved_body fs of body)
  body_does inside names of k [] typed = tt
  body_does inside names of k (s ∷ rest) typed =
      joined_do r inside (resolved_stmt fs of s) (resolved_body fs (names_after of s) rest)
      (stmt_does false inside (λ is. absurd (true≢false (sym is))) names of k s typed.0)
      (body_does inside (after names s) (names_after of s) (known_after names of k s) rest typed.1)
