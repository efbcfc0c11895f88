-- To be believed. Which trees fit our subset: the grammar with its levels of
-- operators, and a limit of brackets open at once.
use Rattle.std.specs.Prelude.{◌≡◌, ℕ, ◌+◌, ◌-◌, ◌≤◌, max, IsTrue, List, [], ◌∷◌, length, None, Some, IfSome, ⊤}
use Rattle.std.specs.List.{AllByRecursion as Each}
use Rattle.c_tree.specs.declared.limits.TheConstants.{MOST_BRACKETS}
use Rattle.c_tree.specs.declared.tokens.Token.{Token}
use Rattle.c_tree.specs.declared.tokens.Token.TheVariants.{Word, Number as NumberToken, Bound, Keyword, Sign as SignToken}
use Rattle.c_tree.specs.declared.tokens.Sign.{Sign}
use Rattle.c_tree.specs.declared.tokens.Sign.TheVariants as sign
use Rattle.c_tree.specs.declared.expressions.BinaryOp.{BinaryOp}
use Rattle.c_tree.specs.declared.expressions.BinaryOp.TheVariants as binary
use Rattle.c_tree.specs.declared.expressions.Expr.{Expr, Chain', Unary', Element', Paren', Number, Name}
use Rattle.c_tree.specs.declared.expressions.Expr.TheBlock.{Row_of-Step, end_of-Step, more_of-Step}
use Rattle.c_tree.specs.declared.statements.Head.{Head}
use Rattle.c_tree.specs.declared.statements.Head.TheVariants as head
use Rattle.c_tree.specs.declared.statements.Right.{Right}
use Rattle.c_tree.specs.declared.statements.Right.TheVariants as right
use Rattle.c_tree.specs.declared.statements.Stmt.{Stmt, Declare, Set, SetElement, Call, Send, If', Loop', Break, Continue, Return, Inner'}
use Rattle.c_tree.specs.declared.statements.Stmt.TheBlock.{Held-Stmt-If-1, None', Some', Row_of-Stmt, end_of-Stmt, more_of-Stmt, Row_of-Arm, end_of-Arm, more_of-Arm}
use Rattle.c_tree.specs.declared.units.Global.{Global}
use Rattle.c_tree.specs.declared.units.Function.{Function}
use Rattle.c_tree.specs.declared.units.Item.{Item}
use Rattle.c_tree.specs.declared.units.Item.TheVariants as item
use Rattle.c_tree.specs.declared.units.Unit.{Unit as Program}
use Rattle.c_tree.specs.Tokens.{tokens_of}

-- the level of an operator: the higher, the closer it binds
abbrev pub level_of : BinaryOp → ℕ
level_of op = elim op [
  | binary.Or ↦ 1
  | binary.And ↦ 2
  | binary.BitOr ↦ 3
  | binary.BitXor ↦ 4
  | binary.BitAnd ↦ 5
  | binary.Equal ↦ 6
  | binary.NotEqual ↦ 6
  | binary.Less ↦ 7
  | binary.Greater ↦ 7
  | binary.LessEqual ↦ 7
  | binary.GreaterEqual ↦ 7
  | binary.ShiftLeft ↦ 8
  | binary.ShiftRight ↦ 8
  | binary.Plus ↦ 9
  | binary.Minus ↦ 9
  | binary.Times ↦ 10
  | binary.Divide ↦ 10
  | binary.Remainder ↦ 10
]

-- A chain's rank is its level, a unary expression's 11, a primary expression's 12. An operand of a chain is of a
-- greater rank than the chain's level, what signs stand before is primary, and all else may be anything.
abbrev pub rank : Expr → ℕ
rank (Chain' level p first l rest) = level
rank (Unary' ops p of) = 11
rank (Number value unsigned) = 12
rank (Name name) = 12
rank (Element' name p index) = 12
rank (Paren' p inner) = 12

abbrev pub has_step : {n : _} → Row_of-Step n → Type 0
has_step end_of-Step = ⊥
has_step (more_of-Step op operand rest) = ⊤

unfoldable mutual
  pub ExprFits : Expr → Type 0
  ExprFits (Chain' level p first l rest) =
      (1 ≤ level) × (level ≤ 10) × has_step rest × (level + 1 ≤ rank first) × ExprFits first × StepsFit level rest
  ExprFits (Unary' ops p of) = (1 ≤ length ops) × (12 ≤ rank of) × ExprFits of
  ExprFits (Number value unsigned) = ⊤
  ExprFits (Name name) = ⊤
  ExprFits (Element' name p index) = ExprFits index
  ExprFits (Paren' p inner) = ExprFits inner

  -- operators of one level, with operands of a greater rank
  pub StepsFit : ℕ → {n : _} → Row_of-Step n → Type 0
  StepsFit level end_of-Step = ⊤
  StepsFit level (more_of-Step op operand rest) =
      (level_of op ≡ level) × (level + 1 ≤ rank operand) × ExprFits operand × StepsFit level rest

abbrev pub RightFits : Right → Type 0
RightFits r = elim r [
  | right.Value of ↦ ExprFits of
  | right.Call name args ↦ Each ExprFits args
]

abbrev pub HeadFits : Head → Type 0
HeadFits h = elim h [
  | head.While condition ↦ ExprFits condition
  | head.For first from condition step to ↦ ExprFits from × ExprFits condition × ExprFits to
]

abbrev pub has_arm : {n : _} → Row_of-Arm n → Type 0
has_arm end_of-Arm = ⊥
has_arm (more_of-Arm condition l body rest) = ⊤

unfoldable mutual
  pub StmtFits : Stmt → Type 0
  StmtFits (Declare kind name r) = IfSome r RightFits
  StmtFits (Set name r) = RightFits r
  StmtFits (SetElement name index r) = ExprFits index × RightFits r
  StmtFits (Call name args) = Each ExprFits args
  StmtFits (Send core core_unsigned source target count) = ExprFits source × ExprFits target × ExprFits count
  StmtFits (If' l arms otherwise) = has_arm arms × ArmsFit arms × OtherwiseFits otherwise
  StmtFits (Loop' bound head l body) = HeadFits head × BlockFits body
  StmtFits Break = ⊤
  StmtFits Continue = ⊤
  StmtFits (Return value) = IfSome value ExprFits
  StmtFits (Inner' l body) = BlockFits body

  pub BlockFits : {n : _} → Row_of-Stmt n → Type 0
  BlockFits end_of-Stmt = ⊤
  BlockFits (more_of-Stmt s rest) = StmtFits s × BlockFits rest

  pub ArmsFit : {n : _} → Row_of-Arm n → Type 0
  ArmsFit end_of-Arm = ⊤
  ArmsFit (more_of-Arm condition l body rest) = ExprFits condition × BlockFits body × ArmsFit rest

  pub OtherwiseFits : Held-Stmt-If-1 → Type 0
  OtherwiseFits None' = ⊤
  OtherwiseFits (Some' l body) = BlockFits body

-- a variable has one constant at most
abbrev pub GlobalFits : Global → Type 0
GlobalFits g = elim g.length [ None ↦ length g.initial ≤ 1 | Some l ↦ ⊤ ]

-- `void` stands for no parameters
abbrev pub FunctionFits : Function → Type 0
FunctionFits f = (IsTrue f.void_word → f.parameters ≡ []) × Each StmtFits f.body

abbrev pub ItemFits : Item → Type 0
ItemFits i = elim i [ item.Global global ↦ GlobalFits global | item.Function function ↦ FunctionFits function ]

-- how many brackets are open at once at most, where so many are open before
abbrev pub opens : Sign → ℕ → ℕ
opens s so_far = elim s as (λ _. ℕ) [
  | sign.OpenParenthesis ↦ so_far + 1
  | sign.OpenBracket ↦ so_far + 1
  | sign.OpenBrace ↦ so_far + 1
  | sign.CloseParenthesis ↦ so_far - 1
  | sign.CloseBracket ↦ so_far - 1
  | sign.CloseBrace ↦ so_far - 1
  | _ ↦ so_far
]

abbrev pub open_after : Token → ℕ → ℕ
open_after (SignToken s) so_far = opens s so_far
open_after (Word text) so_far = so_far
open_after (NumberToken value unsigned) so_far = so_far
open_after (Bound low high) so_far = so_far
open_after (Keyword word) so_far = so_far

abbrev pub most_open : ℕ → List Token → ℕ
most_open so_far [] = so_far
most_open so_far (t ∷ ts) = max so_far (most_open (open_after t so_far) ts)

-- the tree fits the grammar and the levels, however many brackets it opens
abbrev pub GrammarFits : Program → Type 0
GrammarFits u = Each ItemFits u.items

-- so many brackets are open at once, at most
abbrev pub BracketsFit : List Token → Type 0
BracketsFit ts = most_open 0 ts ≤ MOST_BRACKETS

-- the tree fits
pub record Fits (u : Program) : Type 0 where
  pub grammar : GrammarFits u
  pub brackets : BracketsFit (tokens_of u)
