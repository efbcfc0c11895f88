-- The tokens of a fitting statement are read where a statement is to come, as its plain tree.
use Rattle.std.proofs.Common.{◌≡◌, ℕ, ◌+◌, ◌-◌, ◌≤◌, Bool, ◌||◌, true, false, List, [], ◌∷◌, ◌++◌, if◌then◌else◌, None, Some, refl, ap, ◌∙◌, append_assoc, arith}
use Rattle.c_tree.specs.declared.tokens.Token.{Token}
use Rattle.c_tree.specs.declared.tokens.Token.TheVariants as token
use Rattle.c_tree.specs.declared.tokens.Keyword.TheVariants as keyword
use Rattle.c_tree.specs.declared.tokens.Sign.{Sign}
use Rattle.c_tree.specs.declared.tokens.Sign.TheVariants as sign
use Rattle.c_tree.specs.declared.expressions.Expr.{Expr}
use Rattle.c_tree.specs.declared.statements.Head.{Head}
use Rattle.c_tree.specs.declared.statements.Head.TheVariants as head
use Rattle.c_tree.specs.declared.statements.Kind.{Kind as KindOf}
use Rattle.c_tree.specs.declared.statements.Kind.TheVariants as kind
use Rattle.c_tree.specs.declared.statements.Right.{Right as RightSide}
use Rattle.c_tree.specs.declared.statements.Stmt.{Stmt, Declare, Set, SetElement, Call, Send, If', Loop', Break, Continue, Return, Inner'}
use Rattle.c_tree.specs.declared.statements.Stmt.TheBlock.{Held-Stmt-If-1, None', Some', Row_of-Stmt, end_of-Stmt, more_of-Stmt, Row_of-Arm, end_of-Arm, more_of-Arm}
use Rattle.c_tree.specs.Tokens.{expr_tokens, stmt_tokens, block_tokens, arms_tokens, further_tokens, otherwise_tokens, right_tokens, assigned_tokens, head_tokens, kind_tokens, braced, one, word}
use Rattle.c_tree.specs.Fits.{ExprFits, RightFits, HeadFits, StmtFits, BlockFits, ArmsFit, OtherwiseFits, has_arm, open_after, most_open}
use Rattle.c_parse.specs.Expected.{Expected, Only, Operand, Tail, Right, Statements, Statement, Initial, Condition, Block, Assigned, Test, Further, Loop, Else, drive_to}
use Rattle.c_parse.specs.Readers.{begins, KindEnds}
use Rattle.c_parse.specs.Sorts.{is_sign, is_keyword, opens_none}
use Rattle.c_parse.proofs.Steps.{sign_read, bracket_read, name_read, number_read}
use Rattle.c_parse.proofs.Starts.{statements_end, statements_statement, statement_kind, statement_name, statement_send, statement_if, statement_bound, statement_break, statement_continue, statement_return, statement_while, statement_for, statement_brace, loop_while, loop_for, initial_assign, initial_end, after_name_assign, after_name_bracket, after_name_call, given_none, given_operand, else_more, branch_if, branch_brace, condition_open, block_open, assigned_name, test_semicolon, further_comma, no_else}
use Rattle.c_parse.proofs.Driven.{Goes, and_on, along, stay, as_by, renamed, step, open_step, open_again, closes, back, Ends, ends_parenthesis, ends_bracket, ends_semicolon, ends_comma, given_begins, neither}
use Rattle.c_tree.specs.Plain.{PlainExpr, plain_expr, PlainRight, plain_right, PlainHead, iterations_while, plain_head, PlainStmt, PlainBlock, PlainArms, PlainOtherwise, no_stmt, stmt, no_arm, no_else as no_branch, or_else, chosen, plain_stmt, plain_block, plain_arms, plain_otherwise}
use Rattle.c_parse.specs.Tree.{Reader, skip, a_name, look, expression, right, statements, further_arms, kind_at, an_arm, for_head, head_at, statement_at, a_statement, on, read, read_to_end}
use Rattle.c_parse.proofs.ReadExpressions.{look_past, whole_goes, right_goes, args_go}

-- one sign that opens no bracket
pub sign_step : (limit n : ℕ) (s : Sign) (xs : List Expected) {r : Reader} (ts : List Token) → open_after (one s) n ≡ n
    → opens_none s ≡ true
    → Goes limit n (Only s ∷ xs) r (one s ∷ ts) n xs (on r (one s)) ts
sign_step limit n s xs {r} ts e o = open_again e (step (sign_read limit n s ts xs o))

-- the end of a statement
pub semicolon : (limit n : ℕ) (xs : List Expected) {r : Reader} (ts : List Token)
    → Goes limit n (Only sign.Semicolon ∷ xs) r (one sign.Semicolon ∷ ts) n xs (on r (one sign.Semicolon)) ts
semicolon limit n xs ts = sign_step limit n sign.Semicolon xs ts refl refl

-- a right side and the end of its statement
right_ends : (r : RightSide) → RightFits r → (limit n : ℕ) (xs : List Expected) (k : PlainRight → Reader)
    (ts : List Token)
    → Goes limit n (Right ∷ Only sign.Semicolon ∷ xs) (right (λ r. skip (k r))) (right_tokens r ++ one sign.Semicolon
    ∷ ts) n xs (k (plain_right r)) ts
unfolding on
right_ends r f limit n xs k ts = and_on (right_goes r f limit n (Only sign.Semicolon ∷ xs) (λ r. skip (k r)) _
    (ends_semicolon ts)) (semicolon limit n xs ts)

condition_goes : (e : Expr) → ExprFits e → (limit n : ℕ) (xs : List Expected) (k : PlainExpr → Reader) (ts : List Token)
    → Goes limit n (Condition ∷ xs) (skip (expression 10 (λ c. skip (k c)))) (one sign.OpenParenthesis ∷ (expr_tokens e
    ++ one sign.CloseParenthesis ∷ ts)) n xs (k (plain_expr e)) ts
unfolding on
condition_goes e f limit n xs k ts =
    and_on (open_step (one sign.OpenParenthesis) refl (condition_open limit n _ xs))
    (and_on (whole_goes e f limit (n + 1) (Only sign.CloseParenthesis ∷ xs) (λ c. skip (k c)) _ (ends_parenthesis ts))
    (closes limit n sign.CloseParenthesis xs ts (back n) refl))

assigned_goes : (name : List ℕ) (e : Expr) → ExprFits e → (limit n : ℕ) (xs : List Expected)
    (k : List ℕ → PlainExpr → Reader) (ts : List Token) → Ends ts
    → Goes limit n (Assigned ∷ xs) (a_name (λ w. skip (expression 10 (k w)))) (assigned_tokens name (expr_tokens e)
    ++ ts) n xs (k name (plain_expr e)) ts
unfolding on
assigned_goes name e f limit n xs k ts ends =
    and_on (step (assigned_name limit n name _ xs))
    (and_on (sign_step limit n sign.Assign (Operand ∷ Tail ∷ xs) _ refl refl)
    (whole_goes e f limit n xs (k name) ts ends))

further_goes : (e : Expr) → ExprFits e → (limit n : ℕ) (xs : List Expected) (k : PlainExpr → Reader) (ts : List Token)
    → Ends ts
    → Goes limit n (Further ∷ xs) (skip (expression 10 k)) (one sign.Comma ∷ (expr_tokens e ++ ts)) n xs (k
    (plain_expr e)) ts
unfolding on
further_goes e f limit n xs k ts ends = and_on (step (further_comma limit n _ xs)) (whole_goes e f limit n xs k ts ends)

-- the head of a `for`, after that word
for_goes : (first last : List ℕ) (from condition to : Expr) → ExprFits from → ExprFits condition → ExprFits to
    → (limit n : ℕ) (xs : List Expected) (k : PlainHead → Reader) (ts : List Token)
    → Goes limit n (Only sign.OpenParenthesis ∷ Assigned ∷ Test ∷ Assigned ∷ Only sign.CloseParenthesis
    ∷ xs) (for_head k)
    (one sign.OpenParenthesis ∷ (assigned_tokens first (expr_tokens from) ++ one sign.Semicolon ∷ (expr_tokens condition
    ++ one sign.Semicolon ∷ (assigned_tokens last (expr_tokens to) ++ one sign.CloseParenthesis ∷ ts)))) n xs
    (k (plain_head (head.For first from condition last to))) ts
unfolding on
for_goes first last from condition to a b c limit n xs k ts =
    and_on (open_step (one sign.OpenParenthesis) refl (bracket_read limit n sign.OpenParenthesis _ _ refl))
    (and_on (assigned_goes first from a limit (n + 1) _ _ _ (ends_semicolon _))
    (and_on (step (test_semicolon limit (n + 1) _ _))
    (and_on (whole_goes condition b limit (n + 1) _ _ _ (ends_semicolon _))
    (and_on (semicolon limit (n + 1) _ _)
    (and_on (assigned_goes last to c limit (n + 1) _ _ _ (ends_parenthesis ts))
    (closes limit n sign.CloseParenthesis xs ts (back n) refl))))))

-- the head of a loop, where one may come
head_goes : (limit n : ℕ) (x : Expected) (xs : List Expected) (r : Reader) (k : PlainHead → Reader)
    → ((ts : List Token) → drive_to limit n (x ∷ xs) (word keyword.While ∷ ts)
    ≡ drive_to limit n (Condition ∷ Block ∷ xs) ts)
    → ((ts : List Token) → drive_to limit n (x ∷ xs) (word keyword.For ∷ ts)
    ≡ drive_to limit n (Only sign.OpenParenthesis ∷ Assigned ∷ Test ∷ Assigned ∷ Only sign.CloseParenthesis
    ∷ Block ∷ xs) ts)
    → on r (word keyword.While) ≡ head_at (word keyword.While) k → on r (word keyword.For)
    ≡ head_at (word keyword.For) k
    → (h : Head) → HeadFits h → (ts : List Token) → Goes limit n (x ∷ xs) r (head_tokens h ++ ts) n (Block ∷ xs) (k
    (plain_head h)) ts
unfolding is_keyword head_at
head_goes limit n x xs r k a b c d (head.While condition) f ts =
    and_on (step (a _))
    (and_on (renamed c) (along (ap (λ l. one sign.OpenParenthesis ∷ l) (append_assoc (expr_tokens condition)
    (one sign.CloseParenthesis ∷ []) ts))
    (condition_goes condition f limit n (Block ∷ xs) (λ e. k (iterations_while e)) ts)))
head_goes limit n x xs r k a b c d (head.For first from condition last to) f ts =
    and_on (step (b _))
    (and_on (renamed d) (along (simp append_assoc) (for_goes first last from condition to f.0 f.1 f.2 limit n
    (Block ∷ xs) k ts)))

pub kind_ends : (k : KindOf) (w : List ℕ) (ts : List Token) → KindEnds k (token.Word w ∷ ts)
unfolding is_keyword
kind_ends kind.Int w ts = tt
kind_ends kind.Unsigned w ts = refl
kind_ends kind.UnsignedInt w ts = tt

-- a kind and the name after it
pub kind_go : {limit n : ℕ} {xs ys : List Expected} (r : Reader) (k : KindOf → Reader) → on r (word keyword.Int)
    ≡ kind_at (word keyword.Int) k → on r (word keyword.Unsigned) ≡ kind_at (word keyword.Unsigned) k
    → (q : KindOf) (w : List ℕ) (ts : List Token)
    → (KindEnds q (token.Word w ∷ ts) → drive_to limit n xs (kind_tokens q ++ token.Word w ∷ ts)
    ≡ drive_to limit n ys (token.Word w ∷ ts))
    → Goes limit n xs r (kind_tokens q ++ token.Word w ∷ ts) n ys (k q) (token.Word w ∷ ts)
unfolding on read is_keyword kind_at
kind_go {limit} {n} r k i u q w ts e = record { drives = λ h. e (kind_ends q w ts); fits = fits q; reads = reads q }
  where
    fits : (q : KindOf) → most_open n (kind_tokens q ++ token.Word w ∷ ts) ≤ limit
        → most_open n (token.Word w ∷ ts) ≤ limit
    fits kind.Int h = omega arith
    fits kind.Unsigned h = omega arith
    fits kind.UnsignedInt h = omega arith

    reads : (q : KindOf) → read r (kind_tokens q ++ token.Word w ∷ ts) ≡ read (k q) (token.Word w ∷ ts)
    reads kind.Int = ap (λ r. read r (token.Word w ∷ ts)) i
    reads kind.Unsigned = ap (λ r. read r (token.Word w ∷ ts)) u
    reads kind.UnsignedInt = ap (λ r. read r (word keyword.Int ∷ token.Word w ∷ ts)) u

-- What is after a statement: no `else`.
abbrev pub NoElse : List Token → Type 0
NoElse ts = begins (is_keyword keyword.Else) ts ≡ false

-- A block does not end where a statement begins, and a statement does not begin with `else`.
abbrev closes_or_else : Token → Bool
closes_or_else t = is_sign sign.CloseBrace t || is_keyword keyword.Else t

stmt_first : (s : Stmt) → StmtFits s → (rest : List Token) → begins closes_or_else (stmt_tokens s ++ rest) ≡ false
unfolding stmt_tokens StmtFits is_sign is_keyword arms_tokens
stmt_first (Declare kind.Int name (Some r)) f rest = refl
stmt_first (Declare kind.Unsigned name (Some r)) f rest = refl
stmt_first (Declare _ name None) f rest = refl
stmt_first (Declare kind.UnsignedInt name (Some r)) f rest = refl
stmt_first (If' l arms otherwise) f rest = arms_first arms f.0
  where
    arms_first : {j : _} (row : Row_of-Arm j) → has_arm row
        → begins closes_or_else ((arms_tokens row ++ otherwise_tokens otherwise) ++ rest) ≡ false
    arms_first end_of-Arm some = absurd some
    arms_first (more_of-Arm condition l body row) some = refl
stmt_first (Loop' None (head.While condition) l body) f rest = refl
stmt_first (Loop' None (head.For first from condition step_name to) l body) f rest = refl
stmt_first (Loop' (Some b) h l body) f rest = refl
stmt_first (Return None) f rest = refl
stmt_first (Return (Some value)) f rest = refl
stmt_first _ f rest = refl

pub stmt_begins : (s : Stmt) → StmtFits s → (rest : List Token) → begins (is_sign sign.CloseBrace) (stmt_tokens s
    ++ rest) ≡ false
stmt_begins s f rest =
    (neither (is_sign sign.CloseBrace) (is_keyword keyword.Else) (stmt_tokens s ++ rest) (stmt_first s f rest)).0

pub stmt_no_else : (s : Stmt) → StmtFits s → (rest : List Token) → NoElse (stmt_tokens s ++ rest)
stmt_no_else s f rest =
    (neither (is_sign sign.CloseBrace) (is_keyword keyword.Else) (stmt_tokens s ++ rest) (stmt_first s f rest)).1

pub block_no_else : {j : _} (row : Row_of-Stmt j) → BlockFits row → (rest : List Token) → NoElse rest
    → NoElse (block_tokens row ++ rest)
unfolding stmt_tokens block_tokens StmtFits BlockFits
block_no_else end_of-Stmt f rest h = h
block_no_else (more_of-Stmt s row) f rest h =
    ap (begins (is_keyword keyword.Else)) (append_assoc (stmt_tokens s) (block_tokens row) rest)
    ∙ stmt_no_else s f.0 (block_tokens row ++ rest)

pub closing_no_else : (rest : List Token) → NoElse (one sign.CloseBrace ∷ rest)
unfolding is_keyword
closing_no_else rest = refl

-- what reads statements or arms, where one more comes and where none does
pub statements_past : (k : PlainBlock → Reader) (ts : List Token) → begins (is_sign sign.CloseBrace) ts ≡ false
    → read (statements k) ts ≡ read (a_statement (λ s. statements (λ body. k (stmt s body)))) ts
unfolding on read read_to_end
statements_past k [] h = refl
statements_past k (t ∷ ts) h =
    ap (λ b. read (if b then k no_stmt else statement_at t (λ s. statements (λ body. k (stmt s body)))) ts) h

arms_past : (k : PlainArms → PlainOtherwise → Reader) (ts : List Token) → NoElse ts → read (further_arms k) ts
    ≡ read (k no_arm no_branch) ts
unfolding on read read_to_end
arms_past k [] h = refl
arms_past k (t ∷ ts) h =
    ap (λ b. read (if b then look (is_keyword keyword.If) (λ t. an_arm k)
    (skip (statements (λ body. k no_arm (or_else body)))) else on (k no_arm no_branch) t) ts) h

-- a block, by its statements
pub block_from : {limit n : ℕ} {xs : List Expected} {r s : Reader} {ts rest : List Token}
    → Goes limit (n + 1) (Statements ∷ xs) r ts (n + 1 - 1) xs s rest
    → Goes limit n (Block ∷ xs) (skip r) (one sign.OpenBrace ∷ ts) n xs s rest
unfolding on
block_from {limit} {n} {xs} {r} {s} {ts} {rest} g =
    and_on (open_step (one sign.OpenBrace) refl (block_open limit n ts xs)) (open_again (back n) g)

-- what is after the arms
abbrev pub LastGoes : Held-Stmt-If-1 → ℕ → ℕ → List Expected → List Token → Type 0
LastGoes o limit n xs rest = (k : PlainArms → PlainOtherwise → Reader) → Goes limit n (Else ∷ xs) (further_arms k)
    (otherwise_tokens o ++ rest) n xs (k no_arm (plain_otherwise o)) rest

mutual
  unfolding stmt_tokens block_tokens arms_tokens further_tokens otherwise_tokens StmtFits BlockFits ArmsFit
      OtherwiseFits plain_stmt plain_block plain_arms plain_otherwise on is_sign is_keyword an_arm

  pub stmt_goes : (s : Stmt) → StmtFits s → (limit n : ℕ) (xs : List Expected) (k : PlainStmt → Reader)
      (rest : List Token) → NoElse rest
      → Goes limit n (Statement ∷ xs) (a_statement k) (stmt_tokens s ++ rest) n xs (k (plain_stmt s)) rest
  stmt_goes (Declare q w None) f limit n xs k rest h =
      along (simp append_assoc) (and_on (kind_go _ _ refl refl q w _ (statement_kind limit n q _ xs))
      (and_on (step (name_read limit n w _ (Initial ∷ xs))) (step (initial_end limit n rest xs))))
  stmt_goes (Declare q w (Some r)) f limit n xs k rest h =
      along (simp append_assoc) (and_on (kind_go _ _ refl refl q w _ (statement_kind limit n q _ xs))
      (and_on (step (name_read limit n w _ (Initial ∷ xs)))
      (and_on (step (initial_assign limit n _ xs)) (right_ends r f limit n xs _ rest))))
  stmt_goes (Set w r) f limit n xs k rest h =
      along (simp append_assoc) (and_on (step (statement_name limit n w _ xs))
      (and_on (step (after_name_assign limit n _ xs)) (right_ends r f limit n xs _ rest)))
  stmt_goes (SetElement w index r) f limit n xs k rest h =
      along (simp append_assoc) (and_on (step (statement_name limit n w _ xs))
      (and_on (open_step (one sign.OpenBracket) refl (after_name_bracket limit n _ xs))
      (and_on (whole_goes index f.0 limit (n + 1) _ _ _ (ends_bracket _))
      (and_on (closes limit n sign.CloseBracket _ _ (back n) refl)
      (and_on (sign_step limit n sign.Assign _ _ refl refl) (right_ends r f.1 limit n xs _ rest))))))
  stmt_goes (Call w args) f limit n xs k rest h =
      along (simp append_assoc) (and_on (step (statement_name limit n w _ xs))
      (and_on (open_step (one sign.OpenParenthesis) refl (after_name_call limit n _ xs))
      (and_on (args_go args f limit n (Only sign.Semicolon ∷ xs) _ _) (semicolon limit n xs rest))))
  stmt_goes (Send core u source target count) f limit n xs k rest h =
      along (simp append_assoc) (and_on (step (statement_send limit n _ xs))
      (and_on (open_step (one sign.OpenParenthesis) refl (bracket_read limit n sign.OpenParenthesis _ _ refl))
      (and_on (step (number_read limit (n + 1) core u _ _))
      (and_on (further_goes source f.0 limit (n + 1) _ _ _ (ends_comma _))
      (and_on (further_goes target f.1 limit (n + 1) _ _ _ (ends_comma _))
      (and_on (further_goes count f.2 limit (n + 1) _ _ _ (ends_parenthesis _))
      (and_on (closes limit n sign.CloseParenthesis _ _ (back n) refl) (semicolon limit n xs rest))))))))
  stmt_goes (If' l arms otherwise) f limit n xs k rest h =
      along (append_assoc (arms_tokens arms) (otherwise_tokens otherwise) rest)
      (arms_go arms f.0 f.1 otherwise limit n xs rest (otherwise_goes otherwise f.2 limit n xs rest h) k)
  stmt_goes (Loop' None h l body) f limit n xs k rest e =
      along (append_assoc (head_tokens h) (braced (block_tokens body)) rest)
      (and_on (head_goes limit n Statement xs _ _ (λ ts. statement_while limit n ts xs)
      (λ ts. statement_for limit n ts xs) refl refl h f.0 _)
      (along (simp append_assoc) (block_from (statements_go body f.1 limit (n + 1) xs _ rest))))
  stmt_goes (Loop' (Some b) h l body) f limit n xs k rest e =
      and_on (step (statement_bound limit n b.min b.max _ xs))
      (along (append_assoc (head_tokens h) (braced (block_tokens body)) rest)
      (and_on (head_goes limit n Loop xs _ _ (λ ts. loop_while limit n ts xs) (λ ts. loop_for limit n ts xs)
      refl refl h f.0 _)
      (along (simp append_assoc) (block_from (statements_go body f.1 limit (n + 1) xs _ rest)))))
  stmt_goes Break f limit n xs k rest h = and_on (step (statement_break limit n _ xs)) (semicolon limit n xs rest)
  stmt_goes Continue f limit n xs k rest h = and_on (step (statement_continue limit n _ xs)) (semicolon limit n xs rest)
  stmt_goes (Return None) f limit n xs k rest h =
      and_on (step (statement_return limit n _ xs)) (step (given_none limit n rest xs))
  stmt_goes (Return (Some value)) f limit n xs k rest h =
      let first : begins (is_sign sign.Semicolon) (expr_tokens value ++ one sign.Semicolon ∷ rest) ≡ false =
      given_begins value f (one sign.Semicolon ∷ rest) in
      along (simp append_assoc) (and_on (step (statement_return limit n _ xs))
      (and_on (stay (given_operand limit n _ xs first)) (and_on (as_by (look_past _ _ _ _ first))
      (and_on (whole_goes value f limit n (Only sign.Semicolon ∷ xs) _ _ (ends_semicolon rest))
      (semicolon limit n xs rest)))))
  stmt_goes (Inner' l body) f limit n xs k rest h =
      along (simp append_assoc) (and_on (open_step (one sign.OpenBrace) refl (statement_brace limit n _ xs))
      (open_again (back n) (statements_go body f limit (n + 1) xs _ rest)))

  -- statements and the brace after them
  statements_go : {j : _} (row : Row_of-Stmt j) → BlockFits row → (limit n : ℕ) (xs : List Expected)
      (k : PlainBlock → Reader) (rest : List Token)
      → Goes limit n (Statements ∷ xs) (statements k) (block_tokens row ++ one sign.CloseBrace ∷ rest) (n - 1) xs (k
      (plain_block row)) rest
  statements_go end_of-Stmt f limit n xs k rest = step (statements_end limit n rest xs)
  statements_go (more_of-Stmt s row) f limit n xs k rest =
      along (append_assoc (stmt_tokens s) (block_tokens row) (one sign.CloseBrace ∷ rest))
      (and_on (stay (statements_statement limit n _ xs (stmt_begins s f.0 _)))
      (and_on (as_by (statements_past k _ (stmt_begins s f.0 _)))
      (and_on (stmt_goes s f.0 limit n (Statements ∷ xs) _ _ (block_no_else row f.1 (one sign.CloseBrace ∷ rest)
      (closing_no_else rest))) (statements_go row f.1 limit n xs _ rest))))

  -- the arms of an `if`, and what is after them
  arms_go : {j : _} (row : Row_of-Arm j) → has_arm row → ArmsFit row → (o : Held-Stmt-If-1) (limit n : ℕ)
      (xs : List Expected) (rest : List Token) → LastGoes o limit n xs rest → (k : PlainStmt → Reader)
      → Goes limit n (Statement ∷ xs) (a_statement k) (arms_tokens row ++ (otherwise_tokens o ++ rest)) n xs (k
      (chosen (plain_arms row) (plain_otherwise o))) rest
  arms_go end_of-Arm some f o limit n xs rest last k = absurd some
  arms_go (more_of-Arm condition l body row) some f o limit n xs rest last k =
      along (simp append_assoc) (and_on (step (statement_if limit n _ xs))
      (and_on (condition_goes condition f.0 limit n (Block ∷ Else ∷ xs) _ _)
      (and_on (block_from (statements_go body f.1 limit (n + 1) (Else ∷ xs) _ _))
      (further_arms_go row f.2 o limit n xs rest last _))))

  further_arms_go : {j : _} (row : Row_of-Arm j) → ArmsFit row → (o : Held-Stmt-If-1) (limit n : ℕ) (xs : List Expected)
      (rest : List Token) → LastGoes o limit n xs rest → (k : PlainArms → PlainOtherwise → Reader)
      → Goes limit n (Else ∷ xs) (further_arms k) (further_tokens row ++ (otherwise_tokens o ++ rest)) n xs (k
      (plain_arms row) (plain_otherwise o)) rest
  further_arms_go end_of-Arm f o limit n xs rest last k = last k
  further_arms_go (more_of-Arm condition l body row) f o limit n xs rest last k =
      along (simp append_assoc) (and_on (step (else_more limit n _ xs)) (and_on (step (branch_if limit n _ xs))
      (and_on (condition_goes condition f.0 limit n (Block ∷ Else ∷ xs) _ _)
      (and_on (block_from (statements_go body f.1 limit (n + 1) (Else ∷ xs) _ _))
      (further_arms_go row f.2 o limit n xs rest last _)))))

  otherwise_goes : (o : Held-Stmt-If-1) → OtherwiseFits o → (limit n : ℕ) (xs : List Expected) (rest : List Token)
      → NoElse rest → LastGoes o limit n xs rest
  otherwise_goes None' f limit n xs rest h = λ k. and_on (stay (no_else limit n rest xs h)) (as_by (arms_past k rest h))
  otherwise_goes (Some' l body) f limit n xs rest h = λ k.
      along (simp append_assoc) (and_on (step (else_more limit n _ xs))
      (and_on (open_step (one sign.OpenBrace) refl (branch_brace limit n _ xs))
      (open_again (back n) (statements_go body f limit (n + 1) xs _ rest))))
