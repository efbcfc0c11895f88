-- To be believed. The tokens of a tree, as it is written.
use Rattle.std.specs.Prelude.{ℕ, List, [], ◌∷◌, ◌++◌, map, Option, None, Some, if◌then◌else◌}
use Rattle.c_tree.specs.declared.tokens.Token.{Token}
use Rattle.c_tree.specs.declared.tokens.Token.TheVariants as token
use Rattle.c_tree.specs.declared.tokens.Keyword.{Keyword}
use Rattle.c_tree.specs.declared.tokens.Keyword.TheVariants as keyword
use Rattle.c_tree.specs.declared.tokens.Sign.{Sign}
use Rattle.c_tree.specs.declared.tokens.Sign.TheVariants as sign
use Rattle.c_tree.specs.declared.expressions.UnaryOp.{UnaryOp}
use Rattle.c_tree.specs.declared.expressions.UnaryOp.TheVariants as unary
use Rattle.c_tree.specs.declared.expressions.BinaryOp.{BinaryOp}
use Rattle.c_tree.specs.declared.expressions.BinaryOp.TheVariants as binary
use Rattle.c_tree.specs.declared.expressions.Expr.{Expr, Chain', Unary', Element', Paren', Number, Name}
use Rattle.c_tree.specs.declared.expressions.Expr.TheBlock.{Row_of-Step, end_of-Step, more_of-Step}
use Rattle.c_tree.specs.declared.statements.Kind.{Kind}
use Rattle.c_tree.specs.declared.statements.Kind.TheVariants as kind
use Rattle.c_tree.specs.declared.statements.Bound.{Bound}
use Rattle.c_tree.specs.declared.statements.Head.{Head}
use Rattle.c_tree.specs.declared.statements.Head.TheVariants as head
use Rattle.c_tree.specs.declared.statements.Right.{Right}
use Rattle.c_tree.specs.declared.statements.Right.TheVariants as right
use Rattle.c_tree.specs.declared.statements.Stmt.{Stmt, Declare, Set, SetElement, Call, Send, If', Loop', Break, Continue, Return, Inner'}
use Rattle.c_tree.specs.declared.statements.Stmt.TheBlock.{Held-Stmt-If-1, None', Some', Row_of-Stmt, end_of-Stmt, more_of-Stmt, Row_of-Arm, end_of-Arm, more_of-Arm}
use Rattle.c_tree.specs.declared.units.Const.{Const}
use Rattle.c_tree.specs.declared.units.Length.{Length}
use Rattle.c_tree.specs.declared.units.Global.{Global}
use Rattle.c_tree.specs.declared.units.Parameter.{Parameter}
use Rattle.c_tree.specs.declared.units.Function.{Function}
use Rattle.c_tree.specs.declared.units.Item.{Item}
use Rattle.c_tree.specs.declared.units.Item.TheVariants as item
use Rattle.c_tree.specs.declared.units.Unit.{Unit as Program}

-- ---- single tokens

abbrev pub one : Sign → Token
one s = token.Sign s

abbrev pub word : Keyword → Token
word k = token.Keyword k

-- the sign of an operator before an operand
abbrev pub unary_sign : UnaryOp → Sign
unary_sign op = elim op [
  | unary.Minus ↦ sign.Minus
  | unary.Complement ↦ sign.Tilde
  | unary.Not ↦ sign.Exclamation
  | unary.Plus ↦ sign.Plus
]

-- the sign of an operator between operands
abbrev pub binary_sign : BinaryOp → Sign
binary_sign op = elim op [
  | binary.Or ↦ sign.Or
  | binary.And ↦ sign.And
  | binary.BitOr ↦ sign.BitOr
  | binary.BitXor ↦ sign.BitXor
  | binary.BitAnd ↦ sign.BitAnd
  | binary.Equal ↦ sign.Equal
  | binary.NotEqual ↦ sign.NotEqual
  | binary.Less ↦ sign.Less
  | binary.Greater ↦ sign.Greater
  | binary.LessEqual ↦ sign.LessEqual
  | binary.GreaterEqual ↦ sign.GreaterEqual
  | binary.ShiftLeft ↦ sign.ShiftLeft
  | binary.ShiftRight ↦ sign.ShiftRight
  | binary.Plus ↦ sign.Plus
  | binary.Minus ↦ sign.Minus
  | binary.Times ↦ sign.Star
  | binary.Divide ↦ sign.Slash
  | binary.Remainder ↦ sign.Percent
]

-- ---- expressions

-- The children in a list stand in a row. After each box its place in memory comes first, which says nothing.
unfoldable mutual
  pub expr_tokens : Expr → List Token
  expr_tokens (Chain' level p first l rest) = expr_tokens first ++ steps_tokens rest
  expr_tokens (Unary' ops p of) = map (λ op. one (unary_sign op)) ops ++ expr_tokens of
  expr_tokens (Number value unsigned) = token.Number value unsigned ∷ []
  expr_tokens (Name name) = token.Word name ∷ []
  expr_tokens (Element' name p index) =
      token.Word name ∷ one sign.OpenBracket ∷ (expr_tokens index ++ one sign.CloseBracket ∷ [])
  expr_tokens (Paren' p inner) = one sign.OpenParenthesis ∷ (expr_tokens inner ++ one sign.CloseParenthesis ∷ [])

  pub steps_tokens : {n : _} → Row_of-Step n → List Token
  steps_tokens end_of-Step = []
  steps_tokens (more_of-Step op operand rest) = one (binary_sign op) ∷ (expr_tokens operand ++ steps_tokens rest)

-- arguments, with commas between them
abbrev pub args_tokens : List Expr → List Token
args_tokens [] = []
args_tokens (e ∷ []) = expr_tokens e
args_tokens (e ∷ f ∷ args) = expr_tokens e ++ one sign.Comma ∷ args_tokens (f ∷ args)

-- the call of a function
abbrev pub call_tokens : List ℕ → List Expr → List Token
call_tokens name args =
    token.Word name ∷ one sign.OpenParenthesis ∷ (args_tokens args ++ one sign.CloseParenthesis ∷ [])

-- ---- statements

abbrev pub kind_tokens : Kind → List Token
kind_tokens k = elim k [
  | kind.Int ↦ word keyword.Int ∷ []
  | kind.Unsigned ↦ word keyword.Unsigned ∷ []
  | kind.UnsignedInt ↦ word keyword.Unsigned ∷ word keyword.Int ∷ []
]

abbrev pub right_tokens : Right → List Token
right_tokens r = elim r [
  | right.Value of ↦ expr_tokens of
  | right.Call name args ↦ call_tokens name args
]

-- a variable and what is assigned to it
abbrev pub assigned_tokens : List ℕ → List Token → List Token
assigned_tokens name of = token.Word name ∷ one sign.Assign ∷ of

-- a bound and the head of a loop
abbrev pub bound_tokens : Option Bound → List Token
bound_tokens bound = elim bound [ None ↦ [] | Some b ↦ token.Bound b.min b.max ∷ [] ]

abbrev pub head_tokens : Head → List Token
head_tokens h = elim h [
  | head.While condition ↦ word keyword.While ∷ one sign.OpenParenthesis
      ∷ (expr_tokens condition ++ one sign.CloseParenthesis ∷ [])
  | head.For first from condition step to ↦
      word keyword.For ∷ one sign.OpenParenthesis
      ∷ (assigned_tokens first (expr_tokens from) ++ one sign.Semicolon ∷ (expr_tokens condition
      ++ one sign.Semicolon ∷ (assigned_tokens step (expr_tokens to) ++ one sign.CloseParenthesis ∷ [])))
]

-- a condition, and under it a block of these
abbrev pub arm_tokens : Expr → List Token → List Token
arm_tokens condition body =
    word keyword.If ∷ one sign.OpenParenthesis
    ∷ (expr_tokens condition ++ one sign.CloseParenthesis ∷ one sign.OpenBrace ∷ (body ++ one sign.CloseBrace ∷ []))

-- these, in braces
abbrev pub braced : List Token → List Token
braced ts = one sign.OpenBrace ∷ (ts ++ one sign.CloseBrace ∷ [])

-- these, and a semicolon
abbrev pub ended : List Token → List Token
ended ts = ts ++ one sign.Semicolon ∷ []

unfoldable mutual
  pub stmt_tokens : Stmt → List Token
  stmt_tokens (Declare kind name None) = ended (kind_tokens kind ++ token.Word name ∷ [])
  stmt_tokens (Declare kind name (Some r)) = ended (kind_tokens kind ++ assigned_tokens name (right_tokens r))
  stmt_tokens (Set name r) = ended (assigned_tokens name (right_tokens r))
  stmt_tokens (SetElement name index r) =
      ended (token.Word name ∷ one sign.OpenBracket
      ∷ (expr_tokens index ++ one sign.CloseBracket ∷ one sign.Assign ∷ right_tokens r))
  stmt_tokens (Call name args) = ended (call_tokens name args)
  stmt_tokens (Send core core_unsigned source target count) =
      ended (word keyword.Send ∷ one sign.OpenParenthesis ∷ token.Number core core_unsigned ∷ one sign.Comma
      ∷ (expr_tokens source ++ one sign.Comma
      ∷ (expr_tokens target ++ one sign.Comma ∷ (expr_tokens count ++ one sign.CloseParenthesis ∷ []))))
  stmt_tokens (If' l arms otherwise) = arms_tokens arms ++ otherwise_tokens otherwise
  stmt_tokens (Loop' bound head l body) = bound_tokens bound ++ (head_tokens head ++ braced (block_tokens body))
  stmt_tokens Break = ended (word keyword.Break ∷ [])
  stmt_tokens Continue = ended (word keyword.Continue ∷ [])
  stmt_tokens (Return None) = ended (word keyword.Return ∷ [])
  stmt_tokens (Return (Some value)) = ended (word keyword.Return ∷ expr_tokens value)
  stmt_tokens (Inner' l body) = braced (block_tokens body)

  -- statements one after another
  pub block_tokens : {n : _} → Row_of-Stmt n → List Token
  block_tokens end_of-Stmt = []
  block_tokens (more_of-Stmt s rest) = stmt_tokens s ++ block_tokens rest

  -- the first arm, and each further one after `else`
  pub arms_tokens : {n : _} → Row_of-Arm n → List Token
  arms_tokens end_of-Arm = []
  arms_tokens (more_of-Arm condition l body rest) = arm_tokens condition (block_tokens body) ++ further_tokens rest

  pub further_tokens : {n : _} → Row_of-Arm n → List Token
  further_tokens end_of-Arm = []
  further_tokens (more_of-Arm condition l body rest) =
      word keyword.Else ∷ (arm_tokens condition (block_tokens body) ++ further_tokens rest)

  pub otherwise_tokens : Held-Stmt-If-1 → List Token
  otherwise_tokens None' = []
  otherwise_tokens (Some' l body) = word keyword.Else ∷ braced (block_tokens body)

-- a function's block
abbrev pub body_tokens : List Stmt → List Token
body_tokens [] = []
body_tokens (s ∷ rest) = stmt_tokens s ++ body_tokens rest

-- ---- units

abbrev pub const_tokens : Const → List Token
const_tokens c = (if c.negative then one sign.Minus ∷ [] else []) ++ token.Number c.value c.unsigned ∷ []

abbrev pub consts_tokens : List Const → List Token
consts_tokens [] = []
consts_tokens (c ∷ []) = const_tokens c
consts_tokens (c ∷ d ∷ cs) = const_tokens c ++ one sign.Comma ∷ consts_tokens (d ∷ cs)

-- what a variable has first, and what an array has
abbrev pub initial_tokens : List Const → List Token
initial_tokens [] = []
initial_tokens (c ∷ cs) = one sign.Assign ∷ consts_tokens (c ∷ cs)

abbrev pub initials_tokens : List Const → List Token
initials_tokens [] = []
initials_tokens (c ∷ cs) = one sign.Assign ∷ braced (consts_tokens (c ∷ cs))

abbrev pub shape_tokens : Option Length → List Const → List Token
shape_tokens length initial = elim length [
  | None ↦ initial_tokens initial
  | Some l ↦ one sign.OpenBracket ∷ token.Number l.value l.unsigned ∷ one sign.CloseBracket ∷ initials_tokens initial
]

abbrev pub global_tokens : Global → List Token
global_tokens g =
    (if g.scratch then word keyword.Scratchpad ∷ [] else [])
    ++ (kind_tokens g.kind ++ token.Word g.name ∷ ended (shape_tokens g.length g.initial))

abbrev pub parameters_tokens : List Parameter → List Token
parameters_tokens [] = []
parameters_tokens (p ∷ []) = kind_tokens p.kind ++ token.Word p.name ∷ []
parameters_tokens (p ∷ q ∷ ps) = kind_tokens p.kind ++ token.Word p.name ∷ one sign.Comma ∷ parameters_tokens (q ∷ ps)

abbrev pub gives_tokens : Option Kind → List Token
gives_tokens k = elim k [ None ↦ word keyword.Void ∷ [] | Some kind ↦ kind_tokens kind ]

abbrev pub function_tokens : Function → List Token
function_tokens f =
    gives_tokens f.kind ++ token.Word f.name ∷ one sign.OpenParenthesis
    ∷ ((if f.void_word then word keyword.Void ∷ [] else parameters_tokens f.parameters)
    ++ one sign.CloseParenthesis ∷ braced (body_tokens f.body))

abbrev pub item_tokens : Item → List Token
item_tokens i = elim i [ item.Global global ↦ global_tokens global | item.Function function ↦ function_tokens function ]

abbrev pub items_tokens : List Item → List Token
items_tokens [] = []
items_tokens (i ∷ items) = item_tokens i ++ items_tokens items

abbrev pub tokens_of : Program → List Token
tokens_of u = items_tokens u.items
