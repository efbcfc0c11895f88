-- To be believed. The tree of tokens, by a reader that goes through them once: what is still to come, and how it goes on
-- with what that will be. Of tokens that are no program it may read anything. That trees are so read is a law.
use Rattle.std.specs.Prelude.{ℕ, suc, zero, ◌-◌, ◌==◌, Bool, true, false, List, [], ◌∷◌, Option, None, Some, if◌then◌else◌}
use Rattle.c_tree.specs.declared.tokens.Token.{Token}
use Rattle.c_tree.specs.declared.tokens.Token.TheVariants as token
use Rattle.c_tree.specs.declared.tokens.Keyword.TheVariants as keyword
use Rattle.c_tree.specs.declared.tokens.Sign.{Sign}
use Rattle.c_tree.specs.declared.tokens.Sign.TheVariants as sign
use Rattle.c_tree.specs.declared.expressions.UnaryOp.{UnaryOp}
use Rattle.c_tree.specs.declared.expressions.UnaryOp.TheVariants as unary_op
use Rattle.c_tree.specs.declared.expressions.BinaryOp.{BinaryOp}
use Rattle.c_tree.specs.declared.expressions.BinaryOp.TheVariants as binary
use Rattle.c_tree.specs.declared.statements.Kind.{Kind}
use Rattle.c_tree.specs.declared.statements.Kind.TheVariants as kind
use Rattle.c_tree.specs.declared.statements.Bound.{Bound}
use Rattle.c_tree.specs.declared.units.Const.{Const}
use Rattle.c_tree.specs.declared.units.Length.{Length}
use Rattle.c_tree.specs.declared.units.Parameter.{Parameter}
use Rattle.c_tree.specs.Plain.{PlainExpr, PlainSteps, chain, unary, number, name, element, paren, no_step, step, PlainRight, value, call, PlainHead, iterations_while, iterations_for, PlainStmt, PlainBlock, PlainArms, PlainOtherwise, declared, set, set_element, called, sent, chosen, looped, broken, continued, returned, inner, no_stmt, stmt, no_arm, arm, no_else, or_else, PlainItem, global, function}
use Rattle.c_parse.specs.Answers.{place_of}
use Rattle.c_parse.specs.Sorts.{is_sign, is_keyword, level_at}

-- ---- operators

abbrev pub prefix_of : Sign → UnaryOp
prefix_of s = elim s as (λ _. UnaryOp) [
  | sign.Minus ↦ unary_op.Minus
  | sign.Tilde ↦ unary_op.Complement
  | sign.Exclamation ↦ unary_op.Not
  | _ ↦ unary_op.Plus
]

abbrev pub operator_of : Sign → BinaryOp
operator_of s = elim s as (λ _. BinaryOp) [
  | sign.And ↦ binary.And
  | sign.BitOr ↦ binary.BitOr
  | sign.BitXor ↦ binary.BitXor
  | sign.BitAnd ↦ binary.BitAnd
  | sign.Equal ↦ binary.Equal
  | sign.NotEqual ↦ binary.NotEqual
  | sign.Less ↦ binary.Less
  | sign.Greater ↦ binary.Greater
  | sign.LessEqual ↦ binary.LessEqual
  | sign.GreaterEqual ↦ binary.GreaterEqual
  | sign.ShiftLeft ↦ binary.ShiftLeft
  | sign.ShiftRight ↦ binary.ShiftRight
  | sign.Plus ↦ binary.Plus
  | sign.Minus ↦ binary.Minus
  | sign.Star ↦ binary.Times
  | sign.Slash ↦ binary.Divide
  | sign.Percent ↦ binary.Remainder
  | _ ↦ binary.Or
]

abbrev pub operator_at : Token → BinaryOp
operator_at t = elim t as (λ _. BinaryOp) [ token.Sign s ↦ operator_of s | _ ↦ binary.Or ]

-- ---- what is still to come

pub data Reader : Type 0 where
  -- any token; or, if it is such a one, on with it, and else by that reader
  ask : (Token → Reader) → Reader
  look : (Token → Bool) → (Token → Reader) → Reader → Reader
  -- an operand, or the call of a function with these arguments
  operand : (PlainExpr → Reader) → (List ℕ → List PlainExpr → Reader) → Reader
  -- further steps of a chain with so many levels above it, further arguments
  further_steps : ℕ → (PlainSteps → Reader) → Reader
  further_arguments : (List PlainExpr → Reader) → Reader
  -- statements and the brace after them, further arms
  statements : (PlainBlock → Reader) → Reader
  further_arms : (PlainArms → PlainOtherwise → Reader) → Reader
  -- further constants and parameters
  further_constants : (List Const → Reader) → Reader
  further_parameters : (List Parameter → Reader) → Reader
  -- declarations, after these
  items : (List PlainItem → List PlainItem) → Reader

-- ---- single tokens

abbrev pub skip : Reader → Reader
skip r = ask (λ t. r)

abbrev pub a_name : (List ℕ → Reader) → Reader
a_name k = ask (λ t. elim t as (λ _. Reader) [ token.Word w ↦ k w | _ ↦ k [] ])

abbrev pub a_number : (ℕ → Bool → Reader) → Reader
a_number k = ask (λ t. elim t as (λ _. Reader) [ token.Number v u ↦ k v u | _ ↦ k 0 true ])

-- ---- expressions

abbrev pub with_sign : UnaryOp → PlainExpr → PlainExpr
with_sign op (unary ops e) = unary (op ∷ ops) e
with_sign op e = unary (op ∷ []) e

-- an expression and the steps after it
abbrev pub chained : ℕ → PlainExpr → PlainSteps → PlainExpr
chained level e no_step = e
chained level e (step op d row) = chain level e (step op d row)

-- after an operand, with so many levels of operators
unfoldable pub levels : ℕ → (PlainExpr → Reader) → PlainExpr → Reader
levels zero k = k
levels (suc c) k = levels c (λ e. further_steps c (λ row. k (chained (10 - c) e row)))

-- where no call of a function may stand
abbrev pub no_calls : List ℕ → List PlainExpr → Reader
no_calls w args = items (λ is. is)

abbrev pub expression : ℕ → (PlainExpr → Reader) → Reader
expression c k = operand (levels c k) no_calls

unfoldable pub arguments : (List PlainExpr → Reader) → Reader
arguments k =
    look (is_sign sign.CloseParenthesis) (λ t. k [])
    (expression 10 (λ e. further_arguments (λ args. k (e ∷ args))))

unfoldable pub right : (PlainRight → Reader) → Reader
right k = operand (levels 10 (λ e. k (value e))) (λ w args. k (call w args))

abbrev pub operand_at : Token → (PlainExpr → Reader) → (List ℕ → List PlainExpr → Reader) → Reader
operand_at (token.Number v u) k calls = k (number v u)
operand_at (token.Word w) k calls =
    look (is_sign sign.OpenBracket) (λ t. expression 10 (λ index. skip (k (element w index))))
    (look (is_sign sign.OpenParenthesis) (λ t. arguments (calls w)) (k (name w)))
operand_at (token.Sign sign.OpenParenthesis) k calls = expression 10 (λ e. skip (k (paren e)))
operand_at (token.Sign s) k calls = operand (λ e. k (with_sign (prefix_of s) e)) calls
operand_at t k calls = k (name [])

-- ---- statements

unfoldable pub kind_at : Token → (Kind → Reader) → Reader
kind_at t k =
    if is_keyword keyword.Int t
    then k kind.Int
    else look (is_keyword keyword.Int) (λ t. k kind.UnsignedInt) (k kind.Unsigned)

-- after `if`
unfoldable pub an_arm : (PlainArms → PlainOtherwise → Reader) → Reader
an_arm k =
    skip (expression 10 (λ c. skip (skip (statements (λ body. further_arms (λ arms o. k (arm c body arms) o))))))

-- the head of a loop, after `while` and after `for`
abbrev pub while_head : (PlainHead → Reader) → Reader
while_head k = skip (expression 10 (λ c. skip (k (iterations_while c))))

abbrev pub for_head : (PlainHead → Reader) → Reader
for_head k =
    skip (a_name (λ v. skip (expression 10 (λ from. skip (expression 10 (λ c. skip
    (a_name (λ w. skip (expression 10 (λ to. skip (k (iterations_for v from c w to))))))))))))

unfoldable pub head_at : Token → (PlainHead → Reader) → Reader
head_at t k = if is_keyword keyword.While t then while_head k else for_head k

abbrev pub loop_at : Option Bound → Token → (PlainStmt → Reader) → Reader
loop_at bound t k = head_at t (λ h. skip (statements (λ body. k (looped bound h body))))

abbrev pub after_name : List ℕ → Token → (PlainStmt → Reader) → Reader
after_name w (token.Sign sign.Assign) k = right (λ r. skip (k (set w r)))
after_name w (token.Sign sign.OpenBracket) k =
    expression 10 (λ i. skip (skip (right (λ r. skip (k (set_element w i r))))))
after_name w t k = arguments (λ args. skip (k (called w args)))

abbrev pub statement_at : Token → (PlainStmt → Reader) → Reader
statement_at (token.Word w) k = ask (λ t. after_name w t k)
statement_at (token.Keyword keyword.Send) k =
    skip (a_number (λ v u. skip (expression 10 (λ source. skip (expression 10 (λ target. skip
    (expression 10 (λ count. skip (skip (k (sent v u source target count)))))))))))
statement_at (token.Keyword keyword.If) k = an_arm (λ arms o. k (chosen arms o))
statement_at (token.Bound low high) k = ask (λ t. loop_at (Some (record { min = low; max = high })) t k)
statement_at (token.Keyword keyword.While) k = loop_at None (token.Keyword keyword.While) k
statement_at (token.Keyword keyword.For) k = loop_at None (token.Keyword keyword.For) k
statement_at (token.Keyword keyword.Break) k = skip (k broken)
statement_at (token.Keyword keyword.Continue) k = skip (k continued)
statement_at (token.Keyword keyword.Return) k =
    look (is_sign sign.Semicolon) (λ t. k (returned None)) (expression 10 (λ e. skip (k (returned (Some e)))))
statement_at (token.Sign s) k = statements (λ body. k (inner body))
statement_at t k =
    kind_at t (λ q. a_name (λ w. ask (λ t.
    if is_sign sign.Assign t then right (λ r. skip (k (declared q w (Some r)))) else k (declared q w None))))

abbrev pub a_statement : (PlainStmt → Reader) → Reader
a_statement k = ask (λ t. statement_at t k)

-- ---- declarations

abbrev pub constant : (Const → Reader) → Reader
constant k =
    look (is_sign sign.Minus) (λ t. a_number (λ v u. k (record { negative = true; value = v; unsigned = u })))
    (a_number (λ v u. k (record { negative = false; value = v; unsigned = u })))

-- constants and the brace after them
unfoldable pub constants : (List Const → Reader) → Reader
constants k = constant (λ c. further_constants (λ cs. k (c ∷ cs)))

-- what is after an array's length, and after the name of a variable
abbrev pub elements : (List Const → Reader) → Reader
elements k = ask (λ t. if is_sign sign.Assign t then skip (constants (λ cs. skip (k cs))) else k [])

abbrev pub shape_at : Token → (Option Length → List Const → Reader) → Reader
shape_at (token.Sign sign.Assign) k = constant (λ c. skip (k None (c ∷ [])))
shape_at (token.Sign sign.OpenBracket) k =
    a_number (λ v u. skip (elements (k (Some (record { value = v; unsigned = u })))))
shape_at t k = k None []

unfoldable pub parameters_at : Token → (List Parameter → Reader) → Reader
parameters_at t k =
    kind_at t (λ q. a_name (λ w. further_parameters (λ ps. k (record { kind = q; name = w } ∷ ps))))

abbrev pub statements_of : PlainBlock → List PlainStmt
statements_of no_stmt = []
statements_of (stmt s body) = s ∷ statements_of body

-- parameters, or `void` for none
unfoldable pub parameters : (Bool → List Parameter → Reader) → Reader
parameters k =
    ask (λ t.
    if is_sign sign.CloseParenthesis t then k false []
    else if is_keyword keyword.Void t then skip (k true []) else parameters_at t (k false))

-- a function, after its name and the parenthesis there
abbrev pub function_of : Option Kind → List ℕ → (PlainItem → Reader) → Reader
function_of gives w k =
    parameters (λ void_word ps. skip (statements (λ body. k (function gives w void_word ps (statements_of body)))))

abbrev pub variable_of : Bool → Kind → List ℕ → Token → (PlainItem → Reader) → Reader
variable_of scratch q w t k =
    shape_at t (λ l cs. k (global (record { scratch = scratch; kind = q; name = w; length = l; initial = cs })))

abbrev pub item_at : Token → (PlainItem → Reader) → Reader
item_at (token.Keyword keyword.Void) k = a_name (λ w. skip (function_of None w k))
item_at (token.Keyword keyword.Scratchpad) k =
    ask (λ t. kind_at t (λ q. a_name (λ w. ask (λ t. variable_of true q w t k))))
item_at t k =
    kind_at t (λ q. a_name (λ w. ask (λ t.
    if is_sign sign.OpenParenthesis t then function_of (Some q) w k else variable_of false q w t k)))

-- ---- token after token

unfoldable pub on : Reader → Token → Reader
on (ask k) t = k t
on (look f k r) t = if f t then k t else on r t
on (operand k calls) t = operand_at t k calls
on (further_steps c k) t =
    if level_at t == 10 - c
    then expression c (λ d. further_steps c (λ row. k (step (operator_at t) d row)))
    else on (k no_step) t
on (further_arguments k) t =
    if is_sign sign.Comma t then expression 10 (λ e. further_arguments (λ args. k (e ∷ args))) else k []
on (statements k) t =
    if is_sign sign.CloseBrace t then k no_stmt else statement_at t (λ s. statements (λ body. k (stmt s body)))
on (further_arms k) t =
    if is_keyword keyword.Else t
    then look (is_keyword keyword.If) (λ t. an_arm k) (skip (statements (λ body. k no_arm (or_else body))))
    else on (k no_arm no_else) t
on (further_constants k) t =
    if is_sign sign.Comma t then constant (λ c. further_constants (λ cs. k (c ∷ cs))) else k []
on (further_parameters k) t = if is_sign sign.Comma t then ask (λ t. parameters_at t k) else k []
on (items k) t = item_at t (λ i. items (λ is. k (i ∷ is)))

-- what it has read where the tokens end
unfoldable pub read_to_end : Reader → List PlainItem
read_to_end (look f k r) = read_to_end r
read_to_end (further_steps c k) = read_to_end (k no_step)
read_to_end (further_arms k) = read_to_end (k no_arm no_else)
read_to_end (items k) = k []
read_to_end r = []

unfoldable pub read : Reader → List Token → List PlainItem
read r [] = read_to_end r
read r (t ∷ ts) = read (on r t) ts

-- The tree that the tokens are written by. Of tokens that are no program it is empty.
unfoldable pub tree_of : List Token → List PlainItem
tree_of ts = elim (place_of ts) [ None ↦ read (items (λ is. is)) ts | Some at ↦ [] ]
