-- What each place is written as: the tokens up to a rest are those of a fitting part of a tree.
use Rattle.std.proofs.Common.{◌≡◌, ℕ, ◌≤◌, Bool, List, [], ◌∷◌, ◌++◌, length, Option, None, IsTrue}
use Rattle.std.specs.List.{AllByRecursion as Each}
use Rattle.c_tree.specs.declared.tokens.Token.{Token}
use Rattle.c_tree.specs.declared.tokens.Token.TheVariants as token
use Rattle.c_tree.specs.declared.tokens.Keyword.TheVariants as keyword
use Rattle.c_tree.specs.declared.tokens.Sign.TheVariants as sign
use Rattle.c_tree.specs.declared.expressions.Expr.{Expr}
use Rattle.c_tree.specs.declared.statements.Kind.{Kind as KindOf}
use Rattle.c_tree.specs.declared.statements.Head.{Head}
use Rattle.c_tree.specs.declared.statements.Right.{Right as RightSide}
use Rattle.c_tree.specs.declared.statements.Stmt.{Stmt}
use Rattle.c_tree.specs.declared.statements.Arm.{Arm}
use Rattle.c_tree.specs.declared.units.Const.{Const}
use Rattle.c_tree.specs.declared.units.Length.{Length}
use Rattle.c_tree.specs.declared.units.Parameter.{Parameter}
use Rattle.c_tree.specs.declared.units.Item.{Item}
use Rattle.c_tree.specs.Tokens.{expr_tokens, right_tokens, args_tokens, stmt_tokens, body_tokens, head_tokens, kind_tokens, assigned_tokens, braced, const_tokens, consts_tokens, initials_tokens, shape_tokens, parameters_tokens, item_tokens, items_tokens, one, word}
use Rattle.c_tree.specs.Fits.{ExprFits, RightFits, HeadFits, StmtFits, ItemFits, rank}
use Rattle.c_tree.proofs.Blocks.{tokens_of_further, tokens_otherwise, ArmFits, OtherwiseFitting}
use Rattle.c_parse.specs.Expected.{Expected, Only, Name, Number, Operand, Index, Tail, Right, RightName, Arguments, MoreArguments, Statements, Statement, PerhapsInt, Initial, AfterName, Condition, Block, Assigned, Test, Further, Loop, Given, Else, Branch, Items, Kind, Outside, Variable, Elements, Constant, MoreConstants, Parameters, MoreParameters}
use Rattle.c_parse.specs.Readers.{listed}

-- ---- parts of trees, and the tokens up to a rest

pub record IsExpr (least : ℕ) (ts rest : List Token) : Type 0 where
  pub expr : Expr
  pub above : least ≤ rank expr
  pub fits : ExprFits expr
  pub written : ts ≡ expr_tokens expr ++ rest

pub record IsRight (ts rest : List Token) : Type 0 where
  pub right : RightSide
  pub fits : RightFits right
  pub written : ts ≡ right_tokens right ++ rest

-- arguments and the parenthesis after them
pub record IsArguments (ts rest : List Token) : Type 0 where
  pub args : List Expr
  pub fits : Each ExprFits args
  pub written : ts ≡ args_tokens args ++ one sign.CloseParenthesis ∷ rest

pub record IsMoreArguments (first : Expr) (ts rest : List Token) : Type 0 where
  pub args : List Expr
  pub fits : Each ExprFits args
  pub written : expr_tokens first ++ ts ≡ args_tokens (first ∷ args) ++ one sign.CloseParenthesis ∷ rest

pub record IsStmt (ts rest : List Token) : Type 0 where
  pub stmt : Stmt
  pub fits : StmtFits stmt
  pub written : ts ≡ stmt_tokens stmt ++ rest

-- statements and the brace after them
pub record IsBody (ts rest : List Token) : Type 0 where
  pub body : List Stmt
  pub fits : Each StmtFits body
  pub written : ts ≡ body_tokens body ++ one sign.CloseBrace ∷ rest

pub record IsKind (ts rest : List Token) : Type 0 where
  pub kind : KindOf
  pub written : ts ≡ kind_tokens kind ++ rest

-- a loop without its bound
pub record IsLoop (ts rest : List Token) : Type 0 where
  pub head : Head
  pub body : List Stmt
  pub head_fits : HeadFits head
  pub body_fits : Each StmtFits body
  pub written : ts ≡ head_tokens head ++ (braced (body_tokens body) ++ rest)

-- further arms of an `if`
pub record IsElse (ts rest : List Token) : Type 0 where
  pub arms : List Arm
  pub otherwise : Option (List Stmt)
  pub arms_fit : Each ArmFits arms
  pub otherwise_fits : OtherwiseFitting otherwise
  pub written : ts ≡ tokens_of_further arms ++ (tokens_otherwise otherwise ++ rest)

pub record IsItem (ts rest : List Token) : Type 0 where
  pub item : Item
  pub fits : ItemFits item
  pub written : ts ≡ item_tokens item ++ rest

pub record IsItems (ts rest : List Token) : Type 0 where
  pub items : List Item
  pub fits : Each ItemFits items
  pub written : ts ≡ items_tokens items ++ rest

-- what is after a variable's name, with the semicolon
pub record IsShape (ts rest : List Token) : Type 0 where
  pub size : Option Length
  pub values : List Const
  pub fits : size ≡ None → length values ≤ 1
  pub written : ts ≡ shape_tokens size values ++ one sign.Semicolon ∷ rest

pub record IsElements (ts rest : List Token) : Type 0 where
  pub values : List Const
  pub written : ts ≡ initials_tokens values ++ one sign.Semicolon ∷ rest

pub record IsConstant (ts rest : List Token) : Type 0 where
  pub value : Const
  pub written : ts ≡ const_tokens value ++ rest

pub record IsMoreConstants (first : Const) (ts rest : List Token) : Type 0 where
  pub values : List Const
  pub written : const_tokens first ++ ts ≡ consts_tokens (first ∷ values) ++ one sign.CloseBrace ∷ rest

-- parameters and the parenthesis after them
pub record IsParameters (ts rest : List Token) : Type 0 where
  pub void_word : Bool
  pub parameters : List Parameter
  pub none : IsTrue void_word → parameters ≡ []
  pub written : ts ≡ listed void_word parameters ++ one sign.CloseParenthesis ∷ rest

pub record IsMoreParameters (kind : KindOf) (name : List ℕ) (ts rest : List Token) : Type 0 where
  pub parameters : List Parameter
  pub written : kind_tokens kind ++ token.Word name ∷ ts ≡ parameters_tokens (record { kind = kind; name = name }
      ∷ parameters) ++ one sign.CloseParenthesis ∷ rest

-- ---- places

-- What stands in a place up to a rest. After what was read before, it is a part of a tree with that.
abbrev pub Written : Expected → List Token → List Token → Type 0
Written (Only s) ts rest = ts ≡ one s ∷ rest
Written Name ts rest = (w : List ℕ) × (ts ≡ token.Word w ∷ rest)
Written Number ts rest = (v : ℕ) × (u : Bool) × (ts ≡ token.Number v u ∷ rest)
Written Operand ts rest = IsExpr 11 ts rest
Written Index ts rest = (w : List ℕ) → IsExpr 12 (token.Word w ∷ ts) rest
Written Tail ts rest = (e : Expr) → ExprFits e → IsExpr 0 (expr_tokens e ++ ts) rest
Written Right ts rest = IsRight ts rest
Written RightName ts rest = (w : List ℕ) → IsRight (token.Word w ∷ ts) rest
Written Arguments ts rest = IsArguments ts rest
Written MoreArguments ts rest = (e : Expr) → ExprFits e → IsMoreArguments e ts rest
Written Statements ts rest = IsBody ts rest
Written Statement ts rest = IsStmt ts rest
Written PerhapsInt ts rest = IsKind (word keyword.Unsigned ∷ ts) rest
Written Initial ts rest = (k : KindOf) (w : List ℕ) → IsStmt (kind_tokens k ++ token.Word w ∷ ts) rest
Written AfterName ts rest = (w : List ℕ) → IsStmt (token.Word w ∷ ts) rest
Written Condition ts rest =
    (e : Expr) × ExprFits e × (ts ≡ one sign.OpenParenthesis ∷ (expr_tokens e ++ one sign.CloseParenthesis ∷ rest))
Written Block ts rest = (body : List Stmt) × Each StmtFits body × (ts ≡ braced (body_tokens body) ++ rest)
Written Assigned ts rest = (w : List ℕ) × (e : Expr) × ExprFits e × (ts ≡ assigned_tokens w (expr_tokens e) ++ rest)
Written Test ts rest =
    (e : Expr) × ExprFits e × (ts ≡ one sign.Semicolon ∷ (expr_tokens e ++ one sign.Semicolon ∷ rest))
Written Further ts rest = (e : Expr) × ExprFits e × (ts ≡ one sign.Comma ∷ (expr_tokens e ++ rest))
Written Loop ts rest = IsLoop ts rest
Written Given ts rest = IsStmt (word keyword.Return ∷ ts) rest
Written Else ts rest = IsElse ts rest
Written Branch ts rest = IsElse (word keyword.Else ∷ ts) rest
Written Items ts rest = IsItems ts rest
Written Kind ts rest = IsKind ts rest
Written Outside ts rest = (k : KindOf) (w : List ℕ) → IsItem (kind_tokens k ++ token.Word w ∷ ts) rest
Written Variable ts rest = IsShape ts rest
Written Elements ts rest = IsElements ts rest
Written Constant ts rest = IsConstant ts rest
Written MoreConstants ts rest = (c : Const) → IsMoreConstants c ts rest
Written Parameters ts rest = IsParameters ts rest
Written MoreParameters ts rest = (k : KindOf) (w : List ℕ) → IsMoreParameters k w ts rest

-- one place after another
abbrev pub Through : List Expected → List Token → List Token → Type 0
Through [] ts rest = ts ≡ rest
Through (x ∷ xs) ts rest = (mid : List Token) × Written x ts mid × Through xs mid rest
