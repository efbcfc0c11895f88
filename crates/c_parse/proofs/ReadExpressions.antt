-- The tokens of a fitting expression are read where an expression is to come, as its plain tree.
use Rattle.std.proofs.Common.{◌≡◌, ℕ, suc, zero, ◌+◌, ◌-◌, ◌<◌, ◌≤◌, ◌==◌, Bool, true, false, List, [], ◌∷◌, ◌++◌, map, refl, ap, sym, subst, ◌∙◌, append_assoc, length, arith, lit≤, if◌then◌else◌}
use Rattle.std.proofs.lemmas.Grind.{common_steps}
use Rattle.c_tree.specs.declared.tokens.Token.{Token}
use Rattle.c_tree.specs.declared.tokens.Token.TheVariants as token
use Rattle.std.specs.List.{AllByRecursion as Each}
use Rattle.c_tree.specs.declared.tokens.Sign.{Sign}
use Rattle.c_tree.specs.declared.tokens.Sign.TheVariants as sign
use Rattle.c_tree.specs.declared.expressions.UnaryOp.{UnaryOp}
use Rattle.c_tree.specs.declared.expressions.UnaryOp.TheVariants as unary_op
use Rattle.c_tree.specs.declared.expressions.BinaryOp.{BinaryOp}
use Rattle.c_tree.specs.declared.expressions.BinaryOp.TheVariants as binary
use Rattle.c_tree.specs.declared.expressions.Expr.{Expr, Chain', Unary', Element', Paren', Number, Name}
use Rattle.c_tree.specs.declared.expressions.Expr.TheBlock.{Row_of-Step, end_of-Step, more_of-Step}
use Rattle.c_tree.specs.declared.statements.Right.{Right as RightSide}
use Rattle.c_tree.specs.declared.statements.Right.TheVariants as right_side
use Rattle.c_tree.specs.Tokens.{args_tokens, right_tokens, expr_tokens, steps_tokens, one, unary_sign, binary_sign}
use Rattle.c_tree.specs.Fits.{open_after, ExprFits, RightFits, StepsFit, has_step, rank, level_of}
use Rattle.c_tree.specs.Plain.{PlainExpr, PlainSteps, chain, unary, number, name, element, paren, no_step, step as plain_step, plain_expr, plain_steps, plain_right, PlainRight, value, call}
use Rattle.c_parse.specs.Expected.{Expected, Operand, Tail, Only, Right, Arguments, MoreArguments, drive_to}
use Rattle.c_parse.specs.Readers.{begins, level_ahead}
use Rattle.c_parse.specs.Sorts.{is_sign, is_name, level_at, opens_none}
use Rattle.c_parse.proofs.Steps.{operand_number, operand_name, operand_paren, operand_prefix, index_bracket, no_index, tail_operator, no_tail}
use Rattle.c_parse.proofs.Starts.{right_name, right_call, right_read, right_operand, arguments_end, arguments_next, arguments_done, arguments_operand}
use Rattle.c_parse.proofs.Driven.{Goes, and_on, along, stay, as_by, renamed, step, open_step, closes, back, open_again, Behind, Ends, args_begin, ends_comma, ends_bracket, ends_parenthesis}
use Rattle.c_parse.proofs.Tests.{may_not_open}
use Rattle.c_parse.specs.Tree.{Reader, look, further_arguments, arguments, right, operand, skip, further_steps, with_sign, chained, levels, no_calls, expression, on, read, read_to_end, operator_at}

-- the operator again, the level that its sign has, and that this is no bracket
operator_again : (op : BinaryOp) → (operator_at (one (binary_sign op)) ≡ op)
    × (level_at (one (binary_sign op)) ≡ level_of op)
    × (is_sign sign.OpenBracket (one (binary_sign op)) ≡ false)
    × (is_sign sign.OpenParenthesis (one (binary_sign op)) ≡ false)
unfolding level_at is_sign
operator_again binary.Or = (refl, refl, refl, refl)
operator_again _ = (refl, refl, refl, refl)

-- ---- what is after an expression

fewer : (b c : ℕ) (ts : List Token) → b ≤ c → Behind c ts → Behind b ts
fewer b c ts h x = record { no_index = x.no_index; no_call = x.no_call; lower = omega (arith, h, x.lower) }

-- operators of a level, with so many levels above it
abbrev pub IsLevel : ℕ → ℕ → Type 0
IsLevel c level = level + c ≡ 10

row_after : {n : _} (c level : ℕ) (row : Row_of-Step n) → IsLevel c level → StepsFit level row → (rest : List Token)
    → Behind c rest
    → Behind c (steps_tokens row ++ rest)
unfolding steps_tokens StepsFit
row_after c level end_of-Step i f rest b = b
row_after c level (more_of-Step op of row) i f rest b =
    let h : level_at (one (binary_sign op)) ≡ level_of op = (operator_again op).1 in
    record { no_index = (operator_again op).2; no_call = (operator_again op).3; lower = omega (arith, h, i, f.0) }

pub look_past : (f : Token → Bool) (k : Token → Reader) (r : Reader) (ts : List Token) → begins f ts ≡ false
    → read (look f k r) ts ≡ read r ts
unfolding on read read_to_end
look_past f k r [] h = refl
look_past f k r (t ∷ ts) h = ap (λ b. read (if b then k t else on r t) ts) h

-- how it goes on after the first operand of a chain, and after a further one
abbrev first_given : ℕ → (PlainExpr → Reader) → PlainExpr → Reader
first_given c k e = further_steps c (λ row. k (chained (10 - c) e row))

abbrev step_given : ℕ → BinaryOp → (PlainSteps → Reader) → PlainExpr → Reader
step_given c op k d = further_steps c (λ row. k (plain_step op d row))

-- no operator of the level is next
steps_past : (c : ℕ) (k : PlainSteps → Reader) (ts : List Token) → level_ahead ts + c < 10 → read (further_steps c k) ts
    ≡ read (k no_step) ts
unfolding on read read_to_end
steps_past c k [] h = refl
steps_past c k (t ∷ ts) h =
    let other : (level_at t == 10 - c) ≡ false = grind (arith, common_steps) in
    ap (λ b. read (if b then expression c (step_given c (operator_at t) k) else on (k no_step) t) ts) other

-- an operator of the level is next
operator_go : (c level : ℕ) (op : BinaryOp) → IsLevel c level → level_of op ≡ level → (limit n : ℕ) (xs : List Expected)
    (k : PlainSteps → Reader) (ts : List Token)
    → Goes limit n (Tail ∷ xs) (further_steps c k) (one (binary_sign op) ∷ ts) n (Operand ∷ Tail ∷ xs) (expression c
    (step_given c op k)) ts
unfolding on
operator_go c level op i f limit n xs k ts =
    let h : level_at (one (binary_sign op)) ≡ level_of op = (operator_again op).1 in
    let this : (level_at (one (binary_sign op)) == 10 - c) ≡ true = grind (arith, common_steps) in
    and_on (operator_step op)
    (renamed (ap (λ b. if b then expression c (step_given c (operator_at (one (binary_sign op))) k) else on
    (k no_step) (one (binary_sign op))) this
    ∙ ap (λ o. expression c (step_given c o k)) (operator_again op).0))
  where
    operator_step : (op : BinaryOp) → Goes limit n (Tail ∷ xs) (further_steps c k) (one (binary_sign op) ∷ ts) n
        (Operand ∷ Tail ∷ xs) (on (further_steps c k) (one (binary_sign op))) ts
    operator_step binary.Or = step (tail_operator limit n binary.Or ts xs)
    operator_step other = step (tail_operator limit n other ts xs)

levels_past : (c : ℕ) (k : PlainExpr → Reader) (e : PlainExpr) (ts : List Token) → level_ahead ts + c < 11
    → read (levels c k e) ts ≡ read (k e) ts
unfolding levels
levels_past zero k e ts h = refl
levels_past (suc c) k e ts h = levels_past c _ e ts (omega (arith, h)) ∙ steps_past c _ ts (omega (arith, h))

-- ---- one expression

-- Where there are so many levels of operators, the expression is read.
abbrev pub GoesAt : ℕ → Expr → Type 0
GoesAt c e = (limit n : ℕ) (xs : List Expected) (k : PlainExpr → Reader) (calls : List ℕ → List PlainExpr → Reader)
    (rest : List Token) → Behind c rest
    → Goes limit n (Operand ∷ Tail ∷ xs) (operand (levels c k) calls) (expr_tokens e ++ rest) n (Tail ∷ xs) (k
    (plain_expr e)) rest

raised : (e : Expr) (b c j : ℕ) → c ≡ b + j → GoesAt b e → GoesAt c e
unfolding levels
raised e b c zero same h =
    let P : ℕ → Type 0 = λ n. GoesAt n e in let here : b ≡ c = omega (arith, same) in subst P here h
raised e b zero (suc j) same h = absurd (omega (arith, same))
raised e b (suc c) (suc j) same h = λ limit n xs k calls rest x.
    and_on (raised e b c j (omega (arith, same)) h limit n xs _ calls rest (fewer c (suc c) rest (omega arith) x))
    (as_by (steps_past c _ rest (omega (arith, x.lower))))

-- from the fewest levels at which it can be read
from_least : (e : Expr) (b c : ℕ) → b ≤ c → GoesAt b e → GoesAt c e
from_least e b c h r = raised e b c (c - b) (omega (arith, h)) r

-- with signs before it
signs_before : List UnaryOp → PlainExpr → PlainExpr
signs_before [] e = e
signs_before (op ∷ ops) e = with_sign op (signs_before ops e)

prefixes_go : (limit n : ℕ) (ops : List UnaryOp) (xs : List Expected) (k : PlainExpr → Reader)
    (calls : List ℕ → List PlainExpr → Reader) (ts : List Token)
    → Goes limit n (Operand ∷ xs) (operand k calls) (map (λ op. one (unary_sign op)) ops ++ ts) n (Operand ∷ xs)
    (operand (λ e. k (signs_before ops e)) calls) ts
unfolding on signs_before
prefixes_go limit n [] xs k calls ts = stay refl
prefixes_go limit n (unary_op.Minus ∷ ops) xs k calls ts =
    and_on (step (operand_prefix limit n unary_op.Minus _ xs)) (prefixes_go limit n ops xs _ calls ts)
prefixes_go limit n (op ∷ ops) xs k calls ts =
    and_on (step (operand_prefix limit n op _ xs)) (prefixes_go limit n ops xs _ calls ts)

sign_again : (op : UnaryOp) (e : Expr) → 12 ≤ rank e → with_sign op (plain_expr e) ≡ unary (op ∷ []) (plain_expr e)
unfolding plain_expr
sign_again op (Unary' ops p of) h = absurd (omega (arith, h))
sign_again op _ h = refl

signs_again : (ops : List UnaryOp) (e : Expr) → 1 ≤ length ops → 12 ≤ rank e → signs_before ops (plain_expr e)
    ≡ unary ops (plain_expr e)
unfolding signs_before
signs_again [] e some h = absurd (omega (arith, some))
signs_again (op ∷ []) e some h = sign_again op e h
signs_again (op ∷ o ∷ ops) e some h = ap (with_sign op) (signs_again (o ∷ ops) e (omega arith) h)

-- a chain by its first operand and its steps
chained_again : {n : _} (level : ℕ) (row : Row_of-Step n) → level ≤ 10 → has_step row → (e : PlainExpr)
    → chained (10 - (10 - level)) e (plain_steps row) ≡ chain level e (plain_steps row)
unfolding plain_steps
chained_again level end_of-Step h some e = absurd some
chained_again level (more_of-Step op of row) h some e =
    let same : 10 - (10 - level) ≡ level =
    omega (arith, h) in ap (λ n. chain n e (plain_step op (plain_expr of) (plain_steps row))) same

-- every fitting expression has a rank
some_rank : (e : Expr) → ExprFits e → 11 ≤ rank e + 10
unfolding ExprFits
some_rank (Chain' level p first l row) f = omega (arith, f.0)
some_rank _ f = lit≤ tt

-- a whole expression, with nothing after it that could belong to it
ended : (e : Expr) → GoesAt 10 e → (limit n : ℕ) (xs : List Expected) (k : PlainExpr → Reader)
    (calls : List ℕ → List PlainExpr → Reader) (rest : List Token) → Ends rest
    → Goes limit n (Operand ∷ Tail ∷ xs) (operand (levels 10 k) calls) (expr_tokens e ++ rest) n xs (k
    (plain_expr e)) rest
ended e g limit n xs k calls rest ends =
    and_on (g limit n xs k calls rest ends) (stay (no_tail limit n rest xs (omega (arith, ends.lower))))

-- an expression and the sign that closes its brackets
closed : (e : Expr) → GoesAt 10 e → (limit n : ℕ) (s : Sign) (xs : List Expected) (k : PlainExpr → Reader)
    (rest : List Token) → open_after (one s) (n + 1) ≡ n → opens_none s ≡ true → Ends (one s ∷ rest)
    → Goes limit (n + 1) (Operand ∷ Tail ∷ Only s ∷ xs) (expression 10 k) ((expr_tokens e ++ one s ∷ [])
    ++ rest) n xs (on (k (plain_expr e)) (one s)) rest
closed e g limit n s xs k rest b o ends = along (append_assoc (expr_tokens e) (one s ∷ []) rest)
    (and_on (ended e g limit (n + 1) (Only s ∷ xs) k no_calls _ ends) (closes limit n s xs rest b o))

mutual
  unfolding expr_tokens steps_tokens ExprFits StepsFit plain_expr plain_steps on levels is_sign

  pub expr_goes : (e : Expr) → ExprFits e → (c : ℕ) → 11 ≤ rank e + c → GoesAt c e
  expr_goes (Chain' level p first l row) f c h = from_least (Chain' level p first l row) (suc (10 - level)) c
      (omega (arith, h, f.1)) (λ limit n xs k calls rest b.
      along (append_assoc (expr_tokens first) (steps_tokens row) rest)
      (and_on (expr_goes first f.4 (10 - level) (omega (arith, f.1, f.3)) limit n xs (first_given (10 - level) k) calls
      (steps_tokens row ++ rest)
      (row_after (10 - level) level row (omega (arith, f.1)) f.5 rest (fewer _ _ rest (omega arith) b)))
      (and_on (steps_go (10 - level) level row (omega (arith, f.1)) f.5 limit n xs
      (λ row. k (chained (10 - (10 - level)) (plain_expr first) row)) rest b)
      (renamed (ap k (chained_again level row f.1 f.2 (plain_expr first)))))))
  expr_goes (Unary' ops p of) f c h = from_least (Unary' ops p of) 0 c (omega arith) (λ limit n xs k calls rest b.
      along (append_assoc (map (λ op. one (unary_sign op)) ops) (expr_tokens of) rest)
      (and_on (prefixes_go limit n ops (Tail ∷ xs) k calls (expr_tokens of ++ rest))
      (and_on (expr_goes of f.2 0 (omega (arith, f.1)) limit n xs (λ e. k (signs_before ops e)) calls rest b)
      (renamed (ap k (signs_again ops of f.0 f.1))))))
  expr_goes (Number v u) f c h = λ limit n xs k calls rest b. and_on
      (step (operand_number limit n v u rest (Tail ∷ xs))) (as_by (levels_past c k (number v u) rest b.lower))
  expr_goes (Name w) f c h = λ limit n xs k calls rest b.
      and_on (step (operand_name limit n w rest (Tail ∷ xs)))
      (and_on (stay (no_index limit n rest (Tail ∷ xs) (may_not_open limit n sign.OpenBracket rest b.no_index)))
      (as_by (look_past _ _ _ rest b.no_index ∙ look_past _ _ _ rest b.no_call
      ∙ levels_past c k (name w) rest b.lower)))
  expr_goes (Element' w p index) f c h = λ limit n xs k calls rest b.
      and_on (step (operand_name limit n w _ (Tail ∷ xs)))
      (and_on (open_step (one sign.OpenBracket) refl (index_bracket limit n _ (Tail ∷ xs)))
      (and_on (closed index (expr_goes index f 10 (some_rank index f)) limit n sign.CloseBracket (Tail ∷ xs)
      (λ i. skip (levels c k (element w i))) rest (back n) refl (ends_bracket rest))
      (as_by (levels_past c k (element w (plain_expr index)) rest b.lower))))
  expr_goes (Paren' p inner) f c h = λ limit n xs k calls rest b.
      and_on (open_step (one sign.OpenParenthesis) refl (operand_paren limit n _ (Tail ∷ xs)))
      (and_on (closed inner (expr_goes inner f 10 (some_rank inner f)) limit n sign.CloseParenthesis (Tail ∷ xs)
      (λ e. skip (levels c k (paren e))) rest (back n) refl (ends_parenthesis rest))
      (as_by (levels_past c k (paren (plain_expr inner)) rest b.lower)))

  steps_go : {n : _} (c level : ℕ) (row : Row_of-Step n) → IsLevel c level → StepsFit level row → (limit n : ℕ)
      (xs : List Expected) (k : PlainSteps → Reader) (rest : List Token) → Behind (suc c) rest
      → Goes limit n (Tail ∷ xs) (further_steps c k) (steps_tokens row ++ rest) n (Tail ∷ xs) (k (plain_steps row)) rest
  steps_go c level end_of-Step i f limit n xs k rest b = as_by (steps_past c k rest (omega (arith, b.lower)))
  steps_go c level (more_of-Step op of row) i f limit n xs k rest b =
      and_on (operator_go c level op i f.0 limit n xs k ((expr_tokens of ++ steps_tokens row) ++ rest))
      (along (append_assoc (expr_tokens of) (steps_tokens row) rest)
      (and_on (expr_goes of f.2 c (omega (arith, i, f.1)) limit n xs (step_given c op k) no_calls (steps_tokens row
      ++ rest) (row_after c level row i f.3 rest (fewer _ _ rest (omega arith) b)))
      (steps_go c level row i f.3 limit n xs (λ row. k (plain_step op (plain_expr of) row)) rest b)))

pub whole_goes : (e : Expr) → ExprFits e → (limit n : ℕ) (xs : List Expected) (k : PlainExpr → Reader)
    (rest : List Token) → Ends rest
    → Goes limit n (Operand ∷ Tail ∷ xs) (expression 10 k) (expr_tokens e ++ rest) n xs (k (plain_expr e)) rest
whole_goes e f limit n xs k rest ends = ended e (expr_goes e f 10 (some_rank e f)) limit n xs k no_calls rest ends

-- ---- arguments and right sides

args_more_go : (args : List Expr) → Each ExprFits args → (e : Expr) → ExprFits e → (limit n : ℕ) (xs : List Expected)
    (k : List PlainExpr → Reader) (rest : List Token)
    → Goes limit (n + 1) (Operand ∷ Tail ∷ MoreArguments ∷ xs) (expression 10
    (λ e. further_arguments (λ args. k (e ∷ args)))) (args_tokens (e ∷ args) ++ one sign.CloseParenthesis ∷ rest)
    n xs (k (map plain_expr (e ∷ args))) rest
unfolding on is_sign
args_more_go [] all e f limit n xs k rest =
    and_on (whole_goes e f limit (n + 1) (MoreArguments ∷ xs) _ (one sign.CloseParenthesis ∷ rest)
    (ends_parenthesis rest)) (open_again (back n) (step (arguments_done limit (n + 1) rest xs)))
args_more_go (a ∷ args) all e f limit n xs k rest =
    along (append_assoc (expr_tokens e) (one sign.Comma ∷ args_tokens (a ∷ args)) (one sign.CloseParenthesis ∷ rest))
    (and_on (whole_goes e f limit (n + 1) (MoreArguments ∷ xs) _ _ (ends_comma _))
    (and_on (step (arguments_next limit (n + 1) _ xs)) (args_more_go args all.1 a all.0 limit n xs
    (λ args. k (plain_expr e ∷ args)) rest)))

-- the arguments of a call, after its parenthesis
pub args_go : (args : List Expr) → Each ExprFits args → (limit n : ℕ) (xs : List Expected) (k : List PlainExpr → Reader)
    (rest : List Token)
    → Goes limit (n + 1) (Arguments ∷ xs) (arguments k) (args_tokens args ++ one sign.CloseParenthesis ∷ rest) n xs (k
    (map plain_expr args)) rest
unfolding on is_sign arguments
args_go [] all limit n xs k rest = open_again (back n) (step (arguments_end limit (n + 1) rest xs))
args_go (e ∷ args) all limit n xs k rest =
    let first : begins (is_sign sign.CloseParenthesis) (args_tokens (e ∷ args) ++ one sign.CloseParenthesis ∷ rest)
    ≡ false = args_begin args e all.0 rest in
    and_on (stay (arguments_operand limit (n + 1) _ xs first)) (and_on (as_by (look_past _ _ _ _ first))
    (args_more_go args all.1 e all.0 limit n xs k rest))

steps_no_call : {k : _} (row : Row_of-Step k) (rest : List Token) → begins (is_sign sign.OpenParenthesis) rest ≡ false
    → begins (is_sign sign.OpenParenthesis) (steps_tokens row ++ rest) ≡ false
unfolding steps_tokens
steps_no_call end_of-Step rest h = h
steps_no_call (more_of-Step op of row) rest h = (operator_again op).3

-- an expression is read as a right side as where an expression is to come
name_alike : (limit n : ℕ) (w : List ℕ) (ts : List Token) (xs : List Expected)
    → begins (is_sign sign.OpenParenthesis) ts ≡ false
    → drive_to limit n (Right ∷ xs) (token.Word w ∷ ts) ≡ drive_to limit n (Operand ∷ Tail ∷ xs) (token.Word w ∷ ts)
name_alike limit n w ts xs h =
    right_name limit n w ts xs ∙ right_read limit n ts xs (may_not_open limit n sign.OpenParenthesis ts h)
    ∙ sym (operand_name limit n w ts (Tail ∷ xs))

right_alike : (e : Expr) → ExprFits e → (limit n : ℕ) (xs : List Expected) (rest : List Token)
    → begins (is_sign sign.OpenParenthesis) rest ≡ false
    → drive_to limit n (Right ∷ xs) (expr_tokens e ++ rest)
    ≡ drive_to limit n (Operand ∷ Tail ∷ xs) (expr_tokens e ++ rest)
unfolding expr_tokens ExprFits is_name is_sign
right_alike (Chain' level p first l row) f limit n xs rest h =
    ap (drive_to limit n (Right ∷ xs)) (append_assoc (expr_tokens first) (steps_tokens row) rest)
    ∙ right_alike first f.4 limit n xs (steps_tokens row ++ rest) (steps_no_call row rest h)
    ∙ ap (drive_to limit n (Operand ∷ Tail ∷ xs)) (sym (append_assoc (expr_tokens first) (steps_tokens row) rest))
right_alike (Unary' [] p of) f limit n xs rest h = absurd (omega (arith, f.0))
right_alike (Unary' (op ∷ ops) p of) f limit n xs rest h = right_operand limit n _ xs refl
right_alike (Name w) f limit n xs rest h = name_alike limit n w rest xs h
right_alike (Element' w p index) f limit n xs rest h = name_alike limit n w _ xs refl
right_alike _ f limit n xs rest h = right_operand limit n _ xs refl

pub right_goes : (r : RightSide) → RightFits r → (limit n : ℕ) (xs : List Expected) (k : PlainRight → Reader)
    (rest : List Token) → Ends rest
    → Goes limit n (Right ∷ xs) (right k) (right_tokens r ++ rest) n xs (k (plain_right r)) rest
unfolding on is_sign right
right_goes (right_side.Value of) f limit n xs k rest ends =
    and_on (stay (right_alike of f limit n xs rest ends.no_call))
    (ended of (expr_goes of f 10 (some_rank of f)) limit n xs (λ e. k (value e)) (λ w args. k (call w args)) rest ends)
right_goes (right_side.Call w args) f limit n xs k rest ends =
    and_on (step (right_name limit n w _ xs))
    (and_on (open_step (one sign.OpenParenthesis) refl (right_call limit n _ xs))
    (along (append_assoc (args_tokens args) (one sign.CloseParenthesis ∷ []) rest)
    (args_go args f limit n xs (λ args. k (call w args)) rest)))
