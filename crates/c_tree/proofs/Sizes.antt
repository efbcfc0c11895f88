-- The size of a part is the number of tokens that it is written as.
use Rattle.std.proofs.Common.{◌≡◌, ℕ, ◌+◌, Bool, true, false, List, [], ◌∷◌, ◌++◌, length, map, Option, None, Some, refl, sym, ap, ◌∙◌, length-append, arith}
use Rattle.std.specs.Prelude.{sum_by, if◌then◌else◌}
use Rattle.std.proofs.Math.ListN.{length-map}
use Rattle.std.proofs.lemmas.List.Sums.{sum_by-cons}
use Rattle.c_tree.specs.declared.tokens.Token.{Token}
use Rattle.c_tree.specs.declared.tokens.Token.TheVariants as token
use Rattle.c_tree.specs.declared.tokens.Keyword.TheVariants as keyword
use Rattle.c_tree.specs.declared.tokens.Sign.TheVariants as sign
use Rattle.c_tree.specs.declared.expressions.Expr.{Expr, Chain', Unary', Element', Paren', Number, Name}
use Rattle.c_tree.specs.declared.expressions.Expr.TheBlock.{Row_of-Step, end_of-Step, more_of-Step}
use Rattle.c_tree.specs.declared.statements.Bound.{Bound}
use Rattle.c_tree.specs.declared.statements.Head.{Head}
use Rattle.c_tree.specs.declared.statements.Head.TheVariants as head
use Rattle.c_tree.specs.declared.statements.Right.{Right}
use Rattle.c_tree.specs.declared.statements.Right.TheVariants as right
use Rattle.c_tree.specs.declared.statements.Stmt.{Stmt, Declare, Set, SetElement, Call, Send, If', Loop', Return, Inner'}
use Rattle.c_tree.specs.declared.statements.Stmt.TheBlock.{Held-Stmt-If-1, None', Some', Row_of-Stmt, end_of-Stmt, more_of-Stmt, Row_of-Arm, end_of-Arm, more_of-Arm}
use Rattle.c_tree.specs.declared.units.Function.{Function}
use Rattle.c_tree.specs.declared.units.Item.{Item}
use Rattle.c_tree.specs.declared.units.Item.TheVariants as item
use Rattle.c_tree.specs.declared.units.Unit.{Unit as Program}
use Rattle.c_tree.specs.Plain.{plain_expr, plain_steps, plain_right, plain_head, plain_stmt, plain_block, plain_arms, plain_otherwise, plain_item, plain}
use Rattle.c_tree.specs.Tokens.{one, unary_sign, word, expr_tokens, steps_tokens, args_tokens, call_tokens, right_tokens, kind_tokens, assigned_tokens, bound_tokens, head_tokens, arm_tokens, braced, ended, stmt_tokens, block_tokens, arms_tokens, further_tokens, otherwise_tokens, body_tokens, gives_tokens, parameters_tokens, item_tokens, items_tokens, tokens_of}
use Rattle.c_tree.specs.Sizes.{expr_size, steps_size, argument_size, call_size, right_size, bound_size, head_size, stmt_size, block_size, arms_size, further_size, otherwise_size, list_size, item_size}

pub braced_size : (ts : List Token) → length (braced ts) ≡ 2 + length ts
braced_size ts = simp length-append (omega arith)

pub ended_size : (ts : List Token) → length (ended ts) ≡ length ts + 1
ended_size ts = simp length-append (omega arith)

-- ---- expressions

mutual
  unfolding plain_expr plain_steps expr_size steps_size expr_tokens steps_tokens

  pub size_of_expr : (e : Expr) → length (expr_tokens e) ≡ expr_size (plain_expr e)
  size_of_expr (Chain' level p first l rest) =
      length-append (expr_tokens first) (steps_tokens rest) ∙ omega (arith, size_of_expr first, size_of_steps rest)
  size_of_expr (Unary' ops p of) =
      length-append (map (λ op. one (unary_sign op)) ops) (expr_tokens of)
      ∙ ap (λ n. n + length (expr_tokens of)) (length-map ops (λ op. one (unary_sign op)))
      ∙ ap (λ n. length ops + n) (size_of_expr of)
  size_of_expr (Number value unsigned) = refl
  size_of_expr (Name text) = refl
  size_of_expr (Element' text p index) =
      omega (arith, length-append (expr_tokens index) (one sign.CloseBracket ∷ []), size_of_expr index)
  size_of_expr (Paren' p inner) =
      omega (arith, length-append (expr_tokens inner) (one sign.CloseParenthesis ∷ []), size_of_expr inner)

  size_of_steps : {n : _} (row : Row_of-Step n) → length (steps_tokens row) ≡ steps_size (plain_steps row)
  size_of_steps end_of-Step = refl
  size_of_steps (more_of-Step op operand rest) =
      omega (arith, length-append (expr_tokens operand) (steps_tokens rest), size_of_expr operand, size_of_steps rest)

-- arguments, with one token after each
size_of_args : (e : Expr) (args : List Expr) → length (args_tokens (e ∷ args)) + 1
    ≡ sum_by argument_size (map plain_expr (e ∷ args))
size_of_args e [] = omega (arith, size_of_expr e) ∙ sym (sum_by-cons argument_size (plain_expr e) [])
size_of_args e (f ∷ args) =
    omega (
      arith,
      length-append (expr_tokens e) (one sign.Comma ∷ args_tokens (f ∷ args)),
      size_of_expr e,
      size_of_args f args,
    )
    ∙ sym (sum_by-cons argument_size (plain_expr e) (map plain_expr (f ∷ args)))

size_of_call : (text : List ℕ) (args : List Expr) → length (call_tokens text args) ≡ call_size (map plain_expr args)
size_of_call text [] = refl
size_of_call text (e ∷ args) =
    omega (arith, size_of_args e args, length-append (args_tokens (e ∷ args)) (one sign.CloseParenthesis ∷ []))

size_of_right : (r : Right) → length (right_tokens r) ≡ right_size (plain_right r)
size_of_right (right.Value of) = size_of_expr of
size_of_right (right.Call text args) = size_of_call text args

-- ---- statements

pub size_of_bound : (b : Option Bound) → length (bound_tokens b) ≡ bound_size b
size_of_bound None = refl
size_of_bound (Some b) = refl

pub size_of_head : (h : Head) → length (head_tokens h) ≡ head_size (plain_head h)
size_of_head (head.While condition) =
    omega (arith, length-append (expr_tokens condition) (one sign.CloseParenthesis ∷ []), size_of_expr condition)
size_of_head (head.For first from condition next to) =
    omega (
      arith,
      length-append (expr_tokens from) (one sign.Semicolon ∷ (expr_tokens condition ++ one sign.Semicolon
          ∷ (assigned_tokens next (expr_tokens to) ++ one sign.CloseParenthesis ∷ []))),
      length-append (expr_tokens condition) (one sign.Semicolon ∷ (assigned_tokens next (expr_tokens to)
          ++ one sign.CloseParenthesis ∷ [])),
      length-append (expr_tokens to) (one sign.CloseParenthesis ∷ []),
      size_of_expr from,
      size_of_expr condition,
      size_of_expr to,
    )

pub size_of_arm : (c : Expr) (ts : List Token) → length (arm_tokens c ts) ≡ expr_size (plain_expr c) + length ts + 5
size_of_arm c ts = omega (
  arith,
  size_of_expr c,
  length-append (expr_tokens c) (one sign.CloseParenthesis ∷ braced ts),
  braced_size ts,
)

mutual
  unfolding plain_stmt plain_block plain_arms plain_otherwise stmt_size block_size arms_size further_size otherwise_size
      stmt_tokens block_tokens arms_tokens further_tokens otherwise_tokens

  pub size_of_stmt : (s : Stmt) → length (stmt_tokens s) ≡ stmt_size (plain_stmt s)
  size_of_stmt (Declare kind text None) = ended_size (kind_tokens kind ++ token.Word text ∷ [])
      ∙ omega (arith, length-append (kind_tokens kind) (token.Word text ∷ []))
  size_of_stmt (Declare kind text (Some r)) =
      ended_size (kind_tokens kind ++ assigned_tokens text (right_tokens r))
      ∙ omega (arith, length-append (kind_tokens kind) (assigned_tokens text (right_tokens r)), size_of_right r)
  size_of_stmt (Set text r) = ended_size (assigned_tokens text (right_tokens r)) ∙ omega (arith, size_of_right r)
  size_of_stmt (SetElement text index r) =
      ended_size (token.Word text ∷ one sign.OpenBracket ∷ (expr_tokens index ++ one sign.CloseBracket ∷ one sign.Assign
      ∷ right_tokens r)) ∙ omega (
        arith,
        length-append (expr_tokens index) (one sign.CloseBracket ∷ one sign.Assign
            ∷ right_tokens r),
        size_of_expr index,
        size_of_right r,
      )
  size_of_stmt (Call text args) = ended_size (call_tokens text args) ∙ omega (arith, size_of_call text args)
  size_of_stmt (Send core u a b c) =
      ended_size (word keyword.Send ∷ one sign.OpenParenthesis ∷ token.Number core u ∷ one sign.Comma ∷ (expr_tokens a
      ++ one sign.Comma
      ∷ (expr_tokens b ++ one sign.Comma ∷ (expr_tokens c ++ one sign.CloseParenthesis ∷ [])))) ∙ omega (
        arith,
        length-append (expr_tokens a)
            (one sign.Comma ∷ (expr_tokens b ++ one sign.Comma ∷ (expr_tokens c ++ one sign.CloseParenthesis ∷ []))),
        length-append (expr_tokens b) (one sign.Comma ∷ (expr_tokens c ++ one sign.CloseParenthesis ∷ [])),
        length-append (expr_tokens c) (one sign.CloseParenthesis ∷ []),
        size_of_expr a,
        size_of_expr b,
        size_of_expr c,
      )
  size_of_stmt (If' l arms otherwise) = length-append (arms_tokens arms) (otherwise_tokens otherwise)
      ∙ omega (arith, size_of_arms arms, size_of_otherwise otherwise)
  size_of_stmt (Loop' bound h l body) =
      omega (
        arith,
        length-append (bound_tokens bound) (head_tokens h ++ braced (block_tokens body)),
        length-append (head_tokens h) (braced (block_tokens body)),
        braced_size (block_tokens body),
        size_of_bound bound,
        size_of_head h,
        size_of_block body,
      )
  size_of_stmt (Return (Some e)) = ended_size (word keyword.Return ∷ expr_tokens e) ∙ omega (arith, size_of_expr e)
  size_of_stmt (Inner' l body) = omega (arith, braced_size (block_tokens body), size_of_block body)
  size_of_stmt _ = refl

  pub size_of_block : {n : _} (row : Row_of-Stmt n) → length (block_tokens row) ≡ block_size (plain_block row)
  size_of_block end_of-Stmt = refl
  size_of_block (more_of-Stmt s rest) =
      length-append (stmt_tokens s) (block_tokens rest) ∙ omega (arith, size_of_stmt s, size_of_block rest)

  pub size_of_arms : {n : _} (row : Row_of-Arm n) → length (arms_tokens row) ≡ arms_size (plain_arms row)
  size_of_arms end_of-Arm = refl
  size_of_arms (more_of-Arm c l body rest) =
      length-append (arm_tokens c (block_tokens body)) (further_tokens rest)
      ∙ omega (arith, size_of_arm c (block_tokens body), size_of_block body, size_of_further rest)

  size_of_further : {n : _} (row : Row_of-Arm n) → length (further_tokens row) ≡ further_size (plain_arms row)
  size_of_further end_of-Arm = refl
  size_of_further (more_of-Arm c l body rest) =
      omega (
        arith,
        length-append (arm_tokens c (block_tokens body)) (further_tokens rest),
        size_of_arm c (block_tokens body),
        size_of_block body,
        size_of_further rest,
      )

  size_of_otherwise : (o : Held-Stmt-If-1) → length (otherwise_tokens o) ≡ otherwise_size (plain_otherwise o)
  size_of_otherwise None' = refl
  size_of_otherwise (Some' l body) = omega (arith, braced_size (block_tokens body), size_of_block body)

size_of_body : (body : List Stmt) → length (body_tokens body) ≡ sum_by stmt_size (map plain_stmt body)
size_of_body [] = refl
size_of_body (s ∷ body) = length-append (stmt_tokens s) (body_tokens body) ∙ omega (
  arith,
  size_of_stmt s,
  size_of_body body,
) ∙ sym (sum_by-cons stmt_size (plain_stmt s) (map plain_stmt body))

-- ---- units

size_of_list : (void_word : Bool) (f : Function) → length (if void_word then word keyword.Void
    ∷ [] else parameters_tokens f.parameters) ≡ list_size void_word f.parameters
size_of_list true f = refl
size_of_list false f = refl

pub size_of_item : (i : Item) → length (item_tokens i) ≡ item_size (plain_item i)
size_of_item (item.Global of) = refl
size_of_item (item.Function f) =
    omega (
      arith,
      length-append (gives_tokens f.kind) (token.Word f.name ∷ one sign.OpenParenthesis
          ∷ ((if f.void_word then word keyword.Void ∷ [] else parameters_tokens f.parameters)
          ++ one sign.CloseParenthesis ∷ braced (body_tokens f.body))),
      length-append (if f.void_word then word keyword.Void ∷ [] else parameters_tokens f.parameters)
          (one sign.CloseParenthesis ∷ braced (body_tokens f.body)),
      size_of_list f.void_word f,
      braced_size (body_tokens f.body),
      size_of_body f.body,
    )

size_of_items : (items : List Item) → length (items_tokens items) ≡ sum_by item_size (map plain_item items)
size_of_items [] = refl
size_of_items (i ∷ items) = length-append (item_tokens i) (items_tokens items) ∙ omega (
  arith,
  size_of_item i,
  size_of_items items,
) ∙ sym (sum_by-cons item_size (plain_item i) (map plain_item items))

-- all tokens of a program
pub size_of_unit : (u : Program) → length (tokens_of u) ≡ sum_by item_size (plain u)
size_of_unit u = size_of_items u.items
