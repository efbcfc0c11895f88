-- The faults of a program point at tokens of their kind.
use Rattle.std.proofs.Common.{◌≡◌, ℕ, ◌+◌, Bool, true, false, List, [], ◌∷◌, ◌++◌, length, map, Option, None, Some, refl, sym, ap, ◌∙◌, subst, append_assoc, append-nil, length-append, arith}
use Rattle.std.specs.Prelude.{⊤, IsTrue, not, nat_lt, ◌==◌, ◌&&◌, ◌||◌, if◌then◌else◌, is_some, sum_by}
use Rattle.std.specs.List.{All, AllByRecursion as Each}
use Rattle.std.proofs.Math.ListN.{length-map}
use Rattle.std.proofs.lemmas.List.Elements.{All-append, All-cons, All-nil}
use Rattle.c_tree.specs.declared.checks.CheckFault.{CheckFault}
use Rattle.c_tree.specs.declared.checks.CheckFault.TheVariants as fault
use Rattle.c_tree.specs.declared.checks.Meaning.{Meaning}
use Rattle.c_tree.specs.declared.checks.Meaning.TheVariants as meaning
use Rattle.c_tree.specs.declared.checks.Within.{Within}
use Rattle.c_tree.specs.declared.expressions.Expr.{Expr, Chain', Unary', Element', Paren', Number, Name}
use Rattle.c_tree.specs.declared.expressions.Expr.TheBlock.{Row_of-Step, end_of-Step, more_of-Step}
use Rattle.c_tree.specs.declared.limits.TheConstants.{MOST_DEPTH, MOST_FRAME_WORDS, MOST_FUNCTION_WEIGHT, MOST_PARAMETERS, MOST_PRIVATE_WORDS, MOST_SCRATCH_WORDS, MOST_TASK_WEIGHT, MOST_ITERATIONS}
use Rattle.c_tree.specs.declared.statements.Bound.{Bound}
use Rattle.c_tree.specs.declared.statements.Head.{Head}
use Rattle.c_tree.specs.declared.statements.Head.TheVariants as head
use Rattle.c_tree.specs.declared.statements.Kind.{Kind}
use Rattle.c_tree.specs.declared.statements.Right.{Right}
use Rattle.c_tree.specs.declared.statements.Right.TheVariants as right
use Rattle.c_tree.specs.declared.statements.Stmt.{Stmt, Declare, Set, SetElement, Call, Send, If', Loop', Break, Continue, Return, Inner'}
use Rattle.c_tree.specs.declared.statements.Stmt.TheBlock.{Held-Stmt-If-1, None', Some', Row_of-Stmt, end_of-Stmt, more_of-Stmt, Row_of-Arm, end_of-Arm, more_of-Arm}
use Rattle.c_tree.specs.declared.tokens.Keyword.TheVariants as keyword
use Rattle.c_tree.specs.declared.tokens.Sign.TheVariants as sign
use Rattle.c_tree.specs.declared.tokens.Token.{Token}
use Rattle.c_tree.specs.declared.tokens.Token.TheVariants as token
use Rattle.c_tree.specs.declared.units.Function.{Function}
use Rattle.c_tree.specs.declared.units.Global.{Global}
use Rattle.c_tree.specs.declared.units.Item.{Item}
use Rattle.c_tree.specs.declared.units.Item.TheVariants as item
use Rattle.c_tree.specs.declared.units.Parameter.{Parameter}
use Rattle.c_tree.specs.declared.units.Unit.{Unit as Program}
use Rattle.c_tree.specs.Checks.{is_scalar, is_array, use_faults, scalar_faults, array_faults, callee_faults, expr_faults, steps_faults, whole_faults, args_faults, call_faults, right_faults, opened, looped, after, twice_faults, declare_faults, set_faults, set_element_faults, assigned_faults, bound_faults, head_faults, target_faults, send_faults, return_faults, stmt_faults, block_faults, arms_faults, otherwise_faults, body_faults}
use Rattle.c_tree.specs.Depth.{expr_depth}
use Rattle.c_tree.specs.Fits.{ItemFits, GrammarFits}
use Rattle.c_tree.specs.Frame.{function_frame}
use Rattle.c_tree.specs.Least.{where_so}
use Rattle.c_tree.specs.Names.{Named, found, is_declared, declared, given}
use Rattle.c_tree.specs.Plain.{PlainStmt, PlainItem, plain_expr, plain_steps, plain_right, plain_head, plain_stmt, plain_block, plain_arms, plain_otherwise, plain_item, plain}
use Rattle.c_tree.specs.Sizes.{kind_size, parameter_size, expr_size, steps_size, argument_size, bound_size, head_size, stmt_size, block_size, arms_size, list_size, item_size}
use Rattle.c_tree.specs.Tokens.{one, word, unary_sign, binary_sign, expr_tokens, steps_tokens, args_tokens, call_tokens, right_tokens, kind_tokens, assigned_tokens, bound_tokens, head_tokens, arm_tokens, braced, ended, stmt_tokens, block_tokens, arms_tokens, further_tokens, otherwise_tokens, body_tokens, shape_tokens, global_tokens, parameters_tokens, gives_tokens, function_tokens, item_tokens, items_tokens, tokens_of}
use Rattle.c_tree.specs.Valid.{words_of, global_faults, function_means, parameters_faults, with_parameters, named_faults, function_faults, item_faults, with_item, items_faults, words_in, has_main, end_faults, faults_of}
use Rattle.c_tree.specs.Weight.{function_weight, items_weight}
use Rattle.c_tree.proofs.Sizes.{size_of_expr, size_of_bound, size_of_head, size_of_arm, size_of_stmt, size_of_block, size_of_arms, size_of_item}
use Rattle.c_check.specs.Pointed.{token_at, is_name, is_number, is_bound, is_loop, PointsAmong}

-- ---- tokens that stand among others

-- these tokens stand among all, after so many
record Stands (all : List Token) (at : ℕ) (ts : List Token) : Type 0 where
  pub first : List Token
  pub more : List Token
  pub is : all ≡ first ++ (ts ++ more)
  pub place : at ≡ length first

behind_first : (first : List Token) (t : Token) (rest : List Token) → token_at (first ++ (t ∷ rest)) (length first)
    ≡ Some t
behind_first [] t rest = refl
behind_first (x ∷ first) t rest = behind_first first t rest

token_here : (all : List Token) (at : ℕ) (t : Token) (ts : List Token) → Stands all at (t ∷ ts)
    → token_at all at ≡ Some t
token_here all at t ts s =
    ap (λ xs. token_at xs at) s.is ∙ ap (token_at (s.first ++ (t ∷ (ts ++ s.more)))) s.place
    ∙ behind_first s.first t (ts ++ s.more)

first_of : (all : List Token) (at : ℕ) (xs ys : List Token) → Stands all at (xs ++ ys) → Stands all at xs
first_of all at xs ys s = record {
  first = s.first;
  more = ys ++ s.more;
  is = s.is
      ∙ ap (λ r. s.first ++ r) (append_assoc xs ys s.more);
  place = s.place;
}

rest_of : (all : List Token) (at n : ℕ) (xs ys : List Token) → n ≡ at + length xs → Stands all at (xs ++ ys)
    → Stands all n ys
rest_of all at n xs ys e s = record {
  first = s.first ++ xs;
  more = s.more;
  is = s.is ∙ ap (λ r. s.first ++ r) (append_assoc xs ys s.more) ∙ sym (append_assoc s.first xs (ys ++ s.more));
  place = omega (arith, e, s.place, length-append s.first xs);
}

name_here : (all : List Token) (at : ℕ) (text : List ℕ) (ts : List Token) → Stands all at (token.Word text ∷ ts)
    → IsTrue (is_name (token_at all at))
name_here all at text ts s = subst (λ t. IsTrue (is_name t)) (sym (token_here all at (token.Word text) ts s)) refl

-- ---- single faults

-- a fault where it holds, if it would point there
where_pointed : (all : List Token) (so : Bool) (at : ℕ) (kind : CheckFault)
    → PointsAmong all (record { at = at; kind = kind })
    → All (PointsAmong all) (where_so so at kind)
where_pointed all true at kind here =
    All-cons (PointsAmong all) (record { at = at; kind = kind }) [] here (All-nil (PointsAmong all))
where_pointed all false at kind here = All-nil (PointsAmong all)

use_pointed : (all : List Token) (fits : Meaning → Bool) (at : ℕ) (m : Option Meaning)
    → IsTrue (is_name (token_at all at))
    → All (PointsAmong all) (use_faults fits at m)
use_pointed all fits at None here = where_pointed all true at fault.Unknown here
use_pointed all fits at (Some m) here = where_pointed all (not (fits m)) at fault.WrongType refl

callee_pointed : (all : List Token) (is_right : Bool) (at arguments : ℕ) (m : Option Meaning)
    → IsTrue (is_name (token_at all at))
    → All (PointsAmong all) (callee_faults is_right at arguments m)
callee_pointed all is_right at arguments None here = where_pointed all true at fault.Unknown here
callee_pointed all is_right at arguments (Some meaning.Scalar) here = where_pointed all true at fault.WrongType refl
callee_pointed all is_right at arguments (Some meaning.Array) here = where_pointed all true at fault.WrongType refl
callee_pointed all is_right at arguments (Some (meaning.Function parameters gives inside)) here =
    let P = PointsAmong all in
    let typed = where_so (is_right && not gives) at fault.WrongType in
    let again = where_so inside at fault.Recursion in
    let counted = where_so (not (arguments == parameters)) at fault.Params in
    All-append P typed (again ++ counted) (where_pointed all (is_right && not gives) at fault.WrongType refl)
    (All-append P again counted (where_pointed all inside at fault.Recursion here)
    (where_pointed all (not (arguments == parameters)) at fault.Params here))

-- ---- expressions

mutual
  unfolding plain_expr plain_steps expr_size steps_size expr_tokens steps_tokens expr_faults steps_faults

  expr_pointed : (all : List Token) (names : List Named) (at : ℕ) (e : Expr) → Stands all at (expr_tokens e)
      → All (PointsAmong all) (expr_faults names at (plain_expr e))
  expr_pointed all names at (Chain' level p first l rest) s =
      let behind = at + expr_size (plain_expr first) in
      All-append (PointsAmong all) (expr_faults names at (plain_expr first))
      (steps_faults names behind (plain_steps rest))
      (expr_pointed all names at first (first_of all at (expr_tokens first) (steps_tokens rest) s))
      (steps_pointed all names behind rest (rest_of all at behind (expr_tokens first) (steps_tokens rest)
      (omega (arith, size_of_expr first)) s))
  expr_pointed all names at (Unary' ops p of) s =
      let signs = map (λ op. one (unary_sign op)) ops in
      expr_pointed all names (at + length ops) of
      (rest_of all at (at + length ops) signs (expr_tokens of)
      (omega (arith, length-map ops (λ op. one (unary_sign op)))) s)
  expr_pointed all names at (Number value unsigned) s = All-nil (PointsAmong all)
  expr_pointed all names at (Name text) s = use_pointed all is_scalar at (found text names) (name_here all at text [] s)
  expr_pointed all names at (Element' text p index) s =
      let behind = expr_tokens index ++ one sign.CloseBracket ∷ [] in
      All-append (PointsAmong all) (array_faults names at text) (expr_faults names (at + 2) (plain_expr index))
      (use_pointed all is_array at (found text names) (name_here all at text (one sign.OpenBracket ∷ behind) s))
      (expr_pointed all names (at + 2) index (first_of all (at + 2) (expr_tokens index) (one sign.CloseBracket ∷ [])
      (rest_of all at (at + 2) (token.Word text ∷ one sign.OpenBracket ∷ []) behind refl s)))
  expr_pointed all names at (Paren' p inner) s =
      let behind = expr_tokens inner ++ one sign.CloseParenthesis ∷ [] in
      expr_pointed all names (at + 1) inner (first_of all (at + 1) (expr_tokens inner) (one sign.CloseParenthesis ∷ [])
      (rest_of all at (at + 1) (one sign.OpenParenthesis ∷ []) behind refl s))

  steps_pointed : {n : _} (all : List Token) (names : List Named) (at : ℕ) (row : Row_of-Step n)
      → Stands all at (steps_tokens row)
      → All (PointsAmong all) (steps_faults names at (plain_steps row))
  steps_pointed all names at end_of-Step s = All-nil (PointsAmong all)
  steps_pointed all names at (more_of-Step op operand rest) s =
      let next = at + (1 + expr_size (plain_expr operand)) in
      let behind : Stands all (at + 1) (expr_tokens operand ++ steps_tokens rest) =
      rest_of all at (at + 1) (one (binary_sign op) ∷ []) (expr_tokens operand ++ steps_tokens rest) refl s in
      All-append (PointsAmong all) (expr_faults names (at + 1) (plain_expr operand))
      (steps_faults names next (plain_steps rest))
      (expr_pointed all names (at + 1) operand (first_of all (at + 1) (expr_tokens operand) (steps_tokens rest) behind))
      (steps_pointed all names next rest (rest_of all (at + 1) next (expr_tokens operand) (steps_tokens rest)
      (omega (arith, size_of_expr operand)) behind))

whole_pointed : (all : List Token) (names : List Named) (at : ℕ) (e : Expr) → Stands all at (expr_tokens e)
    → All (PointsAmong all) (whole_faults names at (plain_expr e))
whole_pointed all names at e s =
    All-append (PointsAmong all) (where_so (nat_lt MOST_DEPTH (expr_depth (plain_expr e))) at fault.Deep)
    (expr_faults names at (plain_expr e))
    (where_pointed all (nat_lt MOST_DEPTH (expr_depth (plain_expr e))) at fault.Deep refl)
    (expr_pointed all names at e s)

args_pointed : (all : List Token) (names : List Named) (at : ℕ) (args : List Expr) → Stands all at (args_tokens args)
    → All (PointsAmong all) (args_faults names at (map plain_expr args))
args_pointed all names at [] s = All-nil (PointsAmong all)
args_pointed all names at (e ∷ []) s =
    All-append (PointsAmong all) (whole_faults names at (plain_expr e)) [] (whole_pointed all names at e s)
    (All-nil (PointsAmong all))
args_pointed all names at (e ∷ f ∷ args) s =
    let behind = one sign.Comma ∷ args_tokens (f ∷ args) in
    let comma_at = at + expr_size (plain_expr e) in
    let next = at + argument_size (plain_expr e) in
    let comma : Stands all comma_at behind =
    rest_of all at comma_at (expr_tokens e) behind (omega (arith, size_of_expr e)) s in
    All-append (PointsAmong all) (whole_faults names at (plain_expr e))
    (args_faults names next (map plain_expr (f ∷ args)))
    (whole_pointed all names at e (first_of all at (expr_tokens e) behind s))
    (args_pointed all names next (f ∷ args) (rest_of all comma_at next (one sign.Comma ∷ []) (args_tokens (f ∷ args))
    (omega arith) comma))

call_pointed : (all : List Token) (is_right : Bool) (names : List Named) (at : ℕ) (text : List ℕ) (args : List Expr)
    → Stands all at (call_tokens text args)
    → All (PointsAmong all) (call_faults is_right names at text (map plain_expr args))
call_pointed all is_right names at text args s =
    let close = one sign.CloseParenthesis ∷ [] in
    let count = length (map plain_expr args) in
    All-append (PointsAmong all) (callee_faults is_right at count (found text names))
    (args_faults names (at + 2) (map plain_expr args))
    (callee_pointed all is_right at count (found text names)
    (name_here all at text (one sign.OpenParenthesis ∷ (args_tokens args ++ close)) s))
    (args_pointed all names (at + 2) args (first_of all (at + 2) (args_tokens args) close
    (rest_of all at (at + 2) (token.Word text ∷ one sign.OpenParenthesis ∷ []) (args_tokens args ++ close) refl s)))

right_pointed : (all : List Token) (names : List Named) (at : ℕ) (r : Right) → Stands all at (right_tokens r)
    → All (PointsAmong all) (right_faults names at (plain_right r))
right_pointed all names at (right.Value of) s = whole_pointed all names at of s
right_pointed all names at (right.Call text args) s = call_pointed all true names at text args s

-- ---- parts of statements

-- what stands after a first token
next_of : (all : List Token) (at n : ℕ) (t : Token) (ts : List Token) → n ≡ at + 1 → Stands all at (t ∷ ts)
    → Stands all n ts
next_of all at n t ts e s = rest_of all at n (t ∷ []) ts e s

twice_pointed : (all : List Token) (outer : ℕ) (names : List Named) (at : ℕ) (text : List ℕ)
    → IsTrue (is_name (token_at all at))
    → All (PointsAmong all) (twice_faults outer names at text)
twice_pointed all outer names at text here = where_pointed all (is_declared text outer names) at fault.Twice here

-- a variable, and what it is set to
set_pointed : (all : List Token) (names : List Named) (at : ℕ) (text : List ℕ) (r : Right)
    → Stands all at (assigned_tokens text (right_tokens r))
    → All (PointsAmong all) (set_faults names at text (plain_right r))
set_pointed all names at text r s =
    All-append (PointsAmong all) (scalar_faults names at text) (right_faults names (at + 2) (plain_right r))
    (use_pointed all is_scalar at (found text names) (name_here all at text (one sign.Assign ∷ right_tokens r) s))
    (right_pointed all names (at + 2) r (rest_of all at (at + 2) (token.Word text ∷ one sign.Assign ∷ [])
    (right_tokens r) refl s))

assigned_pointed : (all : List Token) (names : List Named) (at : ℕ) (text : List ℕ) (e : Expr)
    → Stands all at (assigned_tokens text (expr_tokens e))
    → All (PointsAmong all) (assigned_faults names at text (plain_expr e))
assigned_pointed all names at text e s =
    All-append (PointsAmong all) (scalar_faults names at text) (whole_faults names (at + 2) (plain_expr e))
    (use_pointed all is_scalar at (found text names) (name_here all at text (one sign.Assign ∷ expr_tokens e) s))
    (whole_pointed all names (at + 2) e (rest_of all at (at + 2) (token.Word text ∷ one sign.Assign ∷ [])
    (expr_tokens e) refl s))

declare_pointed : (all : List Token) (outer : ℕ) (names : List Named) (at : ℕ) (kind : Kind) (text : List ℕ) (r : Right)
    → Stands all at (kind_tokens kind ++ assigned_tokens text (right_tokens r))
    → All (PointsAmong all) (declare_faults outer names at kind text (Some (plain_right r)))
declare_pointed all outer names at kind text r s =
    let name_at = at + kind_size kind in
    let known = declared names text meaning.Scalar in
    let named : Stands all name_at (assigned_tokens text (right_tokens r)) =
    rest_of all at name_at (kind_tokens kind) (assigned_tokens text (right_tokens r)) refl s in
    All-append (PointsAmong all) (twice_faults outer names name_at text) (right_faults known (name_at + 2)
    (plain_right r))
    (twice_pointed all outer names name_at text (name_here all name_at text (one sign.Assign ∷ right_tokens r) named))
    (right_pointed all known (name_at + 2) r
    (rest_of all name_at (name_at + 2) (token.Word text ∷ one sign.Assign ∷ []) (right_tokens r) refl named))

set_element_pointed : (all : List Token) (names : List Named) (at : ℕ) (text : List ℕ) (index : Expr) (r : Right)
    → Stands all at (token.Word text ∷ one sign.OpenBracket ∷ (expr_tokens index ++ one sign.CloseBracket
    ∷ one sign.Assign ∷ right_tokens r))
    → All (PointsAmong all) (set_element_faults names at text (plain_expr index) (plain_right r))
set_element_pointed all names at text index r s =
    let P = PointsAmong all in
    let behind = one sign.CloseBracket ∷ one sign.Assign ∷ right_tokens r in
    let close_at = at + 2 + expr_size (plain_expr index) in
    let right_at = at + 2 + expr_size (plain_expr index) + 2 in
    let inside : Stands all (at + 2) (expr_tokens index ++ behind) =
    rest_of all at (at + 2) (token.Word text ∷ one sign.OpenBracket ∷ []) (expr_tokens index ++ behind) refl s in
    let close : Stands all close_at behind =
    rest_of all (at + 2) close_at (expr_tokens index) behind (omega (arith, size_of_expr index)) inside in
    let given = right_faults names right_at (plain_right r) in
    let held = whole_faults names (at + 2) (plain_expr index) in
    All-append P (array_faults names at text) (held ++ given)
    (use_pointed all is_array at (found text names)
    (name_here all at text (one sign.OpenBracket ∷ (expr_tokens index ++ behind)) s))
    (All-append P held given (whole_pointed all names (at + 2) index (first_of all (at + 2) (expr_tokens index)
    behind inside))
    (right_pointed all names right_at r (rest_of all close_at right_at (one sign.CloseBracket ∷ one sign.Assign ∷ [])
    (right_tokens r) refl close)))

send_pointed : (all : List Token) (cores own : ℕ) (names : List Named) (at core : ℕ) (u : Bool) (a b c : Expr)
    → Stands all at (word keyword.Send ∷ one sign.OpenParenthesis ∷ token.Number core u ∷ one sign.Comma
    ∷ (expr_tokens a ++ one sign.Comma
    ∷ (expr_tokens b ++ one sign.Comma ∷ (expr_tokens c ++ one sign.CloseParenthesis ∷ []))))
    → All (PointsAmong all) (send_faults cores own names at core (plain_expr a) (plain_expr b) (plain_expr c))
send_pointed all cores own names at core u a b c s =
    let P = PointsAmong all in
    let third = expr_tokens c ++ one sign.CloseParenthesis ∷ [] in
    let second = expr_tokens b ++ one sign.Comma ∷ third in
    let first = expr_tokens a ++ one sign.Comma ∷ second in
    let a_at = at + 2 + 2 in
    let b_at = a_at + argument_size (plain_expr a) in
    let c_at = b_at + argument_size (plain_expr b) in
    let number : Stands all (at + 2) (token.Number core u ∷ one sign.Comma ∷ first) =
    rest_of all at (at + 2) (word keyword.Send ∷ one sign.OpenParenthesis ∷ []) (token.Number core u ∷ one sign.Comma
    ∷ first) refl s in
    let sa : Stands all a_at first =
    rest_of all (at + 2) a_at (token.Number core u ∷ one sign.Comma ∷ []) first refl number in
    let sb : Stands all b_at second =
    next_of all (a_at + expr_size (plain_expr a)) b_at (one sign.Comma) second (omega arith)
    (rest_of all a_at (a_at + expr_size (plain_expr a)) (expr_tokens a) (one sign.Comma ∷ second)
    (omega (arith, size_of_expr a)) sa) in
    let sc : Stands all c_at third =
    next_of all (b_at + expr_size (plain_expr b)) c_at (one sign.Comma) third (omega arith)
    (rest_of all b_at (b_at + expr_size (plain_expr b)) (expr_tokens b) (one sign.Comma ∷ third)
    (omega (arith, size_of_expr b)) sb) in
    let here : IsTrue (is_number (token_at all (at + 2))) =
    subst (λ t. IsTrue (is_number t)) (sym (token_here all (at + 2) (token.Number core u) (one sign.Comma ∷ first)
    number)) refl in
    let wa = whole_faults names a_at (plain_expr a) in
    let wb = whole_faults names b_at (plain_expr b) in
    let wc = whole_faults names c_at (plain_expr c) in
    All-append P (target_faults cores own (at + 2) core) (wa ++ (wb ++ (wc ++ [])))
    (where_pointed all (not (nat_lt core cores) || core == own) (at + 2) fault.Target here)
    (All-append P wa (wb ++ (wc ++ [])) (whole_pointed all names a_at a (first_of all a_at (expr_tokens a)
    (one sign.Comma ∷ second) sa))
    (All-append P wb (wc ++ []) (whole_pointed all names b_at b (first_of all b_at (expr_tokens b)
    (one sign.Comma ∷ third) sb))
    (All-append P wc [] (whole_pointed all names c_at c (first_of all c_at (expr_tokens c)
    (one sign.CloseParenthesis ∷ []) sc)) (All-nil P))))

return_pointed : (all : List Token) (gives : Bool) (names : List Named) (at : ℕ) (e : Expr)
    → Stands all at (word keyword.Return ∷ expr_tokens e)
    → All (PointsAmong all) (return_faults gives names at (Some (plain_expr e)))
return_pointed all gives names at e s =
    All-append (PointsAmong all) (where_so (not gives) at fault.WrongType) (whole_faults names (at + 1) (plain_expr e))
    (where_pointed all (not gives) at fault.WrongType refl) (whole_pointed all names (at + 1) e
    (next_of all at (at + 1) (word keyword.Return) (expr_tokens e) refl s))

-- ---- loops

loop_here : (all : List Token) (at : ℕ) (h : Head) (ts : List Token) → Stands all at (head_tokens h ++ ts)
    → IsTrue (is_loop (token_at all at))
loop_here all at (head.While condition) ts s =
    subst (λ t. IsTrue (is_loop t)) (sym (token_here all at (word keyword.While) _ s)) refl
loop_here all at (head.For first from condition next to) ts s =
    subst (λ t. IsTrue (is_loop t)) (sym (token_here all at (word keyword.For) _ s)) refl

bound_pointed : (all : List Token) (at : ℕ) (bound : Option Bound) (h : Head) (ts : List Token)
    → Stands all at (bound_tokens bound ++ (head_tokens h ++ ts))
    → All (PointsAmong all) (bound_faults at bound)
bound_pointed all at None h ts s = where_pointed all true at fault.NoBound (loop_here all at h ts s)
bound_pointed all at (Some b) h ts s =
    where_pointed all (nat_lt b.max b.min || nat_lt MOST_ITERATIONS b.max) at fault.BoundRange
    (subst (λ t. IsTrue (is_bound t)) (sym (token_here all at (token.Bound b.min b.max) (head_tokens h ++ ts) s)) refl)

head_pointed : (all : List Token) (names : List Named) (at : ℕ) (h : Head) → Stands all at (head_tokens h)
    → All (PointsAmong all) (head_faults names at (plain_head h))
head_pointed all names at (head.While condition) s =
    let close = one sign.CloseParenthesis ∷ [] in
    whole_pointed all names (at + 2) condition (first_of all (at + 2) (expr_tokens condition) close
    (rest_of all at (at + 2) (word keyword.While ∷ one sign.OpenParenthesis ∷ []) (expr_tokens condition
    ++ close) refl s))
head_pointed all names at (head.For first from condition next to) s =
    let P = PointsAmong all in
    let close = one sign.CloseParenthesis ∷ [] in
    let step_tokens = assigned_tokens next (expr_tokens to) ++ close in
    let test_tokens = expr_tokens condition ++ one sign.Semicolon ∷ step_tokens in
    let begin_tokens = assigned_tokens first (expr_tokens from) ++ one sign.Semicolon ∷ test_tokens in
    let second = at + 2 + 2 + expr_size (plain_expr from) + 1 in
    let third = second + expr_size (plain_expr condition) + 1 in
    let begun : Stands all (at + 2) begin_tokens =
    rest_of all at (at + 2) (word keyword.For ∷ one sign.OpenParenthesis ∷ []) begin_tokens refl s in
    let tested : Stands all second test_tokens =
    next_of all (at + 2 + 2 + expr_size (plain_expr from)) second (one sign.Semicolon) test_tokens refl
    (rest_of all (at + 2) (at + 2 + 2 + expr_size (plain_expr from)) (assigned_tokens first (expr_tokens from))
    (one sign.Semicolon ∷ test_tokens) (omega (arith, size_of_expr from)) begun) in
    let stepped : Stands all third step_tokens =
    next_of all (second + expr_size (plain_expr condition)) third (one sign.Semicolon) step_tokens refl
    (rest_of all second (second + expr_size (plain_expr condition)) (expr_tokens condition)
    (one sign.Semicolon ∷ step_tokens) (omega (arith, size_of_expr condition)) tested) in
    let begins = assigned_faults names (at + 2) first (plain_expr from) in
    let tests = whole_faults names second (plain_expr condition) in
    let steps = assigned_faults names third next (plain_expr to) in
    All-append P begins (tests ++ steps)
    (assigned_pointed all names (at + 2) first from (first_of all (at + 2) (assigned_tokens first (expr_tokens from))
    (one sign.Semicolon ∷ test_tokens) begun))
    (All-append P tests steps (whole_pointed all names second condition (first_of all second (expr_tokens condition)
    (one sign.Semicolon ∷ step_tokens) tested))
    (assigned_pointed all names third next to (first_of all third (assigned_tokens next (expr_tokens to))
    close stepped)))

-- what stands in braces
in_braces : (all : List Token) (at n : ℕ) (ts : List Token) → n ≡ at + 1 → Stands all at (braced ts) → Stands all n ts
in_braces all at n ts e st =
    first_of all n ts (one sign.CloseBrace ∷ []) (next_of all at n (one sign.OpenBrace)
    (ts ++ one sign.CloseBrace ∷ []) e st)

-- arms, if there are any, stand among all
abbrev ArmsStand : {n : _} → List Token → ℕ → Row_of-Arm n → Type 0
ArmsStand all at end_of-Arm = ⊤
ArmsStand all at (more_of-Arm condition l body rest) =
    Stands all at (arm_tokens condition (block_tokens body) ++ further_tokens rest)

first_arms : {n : _} (all : List Token) (at : ℕ) (row : Row_of-Arm n) → Stands all at (arms_tokens row)
    → ArmsStand all at row
unfolding arms_tokens
first_arms all at end_of-Arm st = tt
first_arms all at (more_of-Arm condition l body rest) st = st

further_arms : {n : _} (all : List Token) (at next : ℕ) (row : Row_of-Arm n) → next ≡ at + 1
    → Stands all at (further_tokens row) → ArmsStand all next row
unfolding further_tokens
further_arms all at next end_of-Arm e st = tt
further_arms all at next (more_of-Arm condition l body rest) e st =
    next_of all at next (word keyword.Else) (arm_tokens condition (block_tokens body) ++ further_tokens rest) e st

-- ---- statements

mutual
  unfolding plain_stmt plain_block plain_arms plain_otherwise stmt_tokens block_tokens arms_tokens further_tokens
      otherwise_tokens stmt_faults block_faults arms_faults otherwise_faults

  stmt_pointed : (all : List Token) (w : Within) (names : List Named) (at : ℕ) (s : Stmt)
      → Stands all at (stmt_tokens s)
      → All (PointsAmong all) (stmt_faults w names at (plain_stmt s))
  stmt_pointed all w names at (Declare kind text None) st =
      let name_at = at + kind_size kind in
      let named : Stands all name_at (token.Word text ∷ []) =
      rest_of all at name_at (kind_tokens kind) (token.Word text ∷ []) refl
      (first_of all at (kind_tokens kind ++ token.Word text ∷ []) (one sign.Semicolon ∷ []) st) in
      twice_pointed all w.outer names name_at text (name_here all name_at text [] named)
  stmt_pointed all w names at (Declare kind text (Some r)) st =
      declare_pointed all w.outer names at kind text r
      (first_of all at (kind_tokens kind ++ assigned_tokens text (right_tokens r)) (one sign.Semicolon ∷ []) st)
  stmt_pointed all w names at (Set text r) st =
      set_pointed all names at text r (first_of all at (assigned_tokens text (right_tokens r))
      (one sign.Semicolon ∷ []) st)
  stmt_pointed all w names at (SetElement text index r) st =
      set_element_pointed all names at text index r (first_of all at _ (one sign.Semicolon ∷ []) st)
  stmt_pointed all w names at (Call text args) st =
      call_pointed all false names at text args (first_of all at (call_tokens text args) (one sign.Semicolon ∷ []) st)
  stmt_pointed all w names at (Send core u a b c) st =
      send_pointed all w.cores w.own names at core u a b c (first_of all at _ (one sign.Semicolon ∷ []) st)
  stmt_pointed all w names at (If' l arms otherwise) st =
      let behind = at + arms_size (plain_arms arms) in
      All-append (PointsAmong all) (arms_faults w names at (plain_arms arms)) (otherwise_faults w names behind
      (plain_otherwise otherwise))
      (arms_pointed all w names at arms (first_arms all at arms (first_of all at (arms_tokens arms)
      (otherwise_tokens otherwise) st)))
      (otherwise_pointed all w names behind otherwise (rest_of all at behind (arms_tokens arms)
      (otherwise_tokens otherwise) (omega (arith, size_of_arms arms)) st))
  stmt_pointed all w names at (Loop' bound head l body) st =
      let P = PointsAmong all in
      let block = braced (block_tokens body) in
      let head_at = at + bound_size bound in
      let open_at = at + bound_size bound + head_size (plain_head head) in
      let headed : Stands all head_at (head_tokens head ++ block) =
      rest_of all at head_at (bound_tokens bound) (head_tokens head ++ block) (omega (arith, size_of_bound bound)) st in
      let braces : Stands all open_at block =
      rest_of all head_at open_at (head_tokens head) block (omega (arith, size_of_head head)) headed in
      let heads = head_faults names head_at (plain_head head) in
      let inside = block_faults (looped w (length names)) names (open_at + 1) (plain_block body) in
      All-append P (bound_faults at bound) (heads ++ inside) (bound_pointed all at bound head block st)
      (All-append P heads inside (head_pointed all names head_at head
      (first_of all head_at (head_tokens head) block headed))
      (block_pointed all (looped w (length names)) names (open_at + 1) body (in_braces all open_at (open_at + 1)
      (block_tokens body) refl braces)))
  stmt_pointed all w names at Break st = where_pointed all (not w.in_loop) at fault.WrongType refl
  stmt_pointed all w names at Continue st = where_pointed all (not w.in_loop) at fault.WrongType refl
  stmt_pointed all w names at (Return None) st = where_pointed all w.gives at fault.WrongType refl
  stmt_pointed all w names at (Return (Some e)) st =
      return_pointed all w.gives names at e (first_of all at (word keyword.Return ∷ expr_tokens e)
      (one sign.Semicolon ∷ []) st)
  stmt_pointed all w names at (Inner' l body) st =
      block_pointed all (opened w (length names)) names (at + 1) body
      (in_braces all at (at + 1) (block_tokens body) refl st)

  block_pointed : {n : _} (all : List Token) (w : Within) (names : List Named) (at : ℕ) (row : Row_of-Stmt n)
      → Stands all at (block_tokens row)
      → All (PointsAmong all) (block_faults w names at (plain_block row))
  block_pointed all w names at end_of-Stmt st = All-nil (PointsAmong all)
  block_pointed all w names at (more_of-Stmt s rest) st =
      let behind = at + stmt_size (plain_stmt s) in
      let names_behind = after names (plain_stmt s) in
      All-append (PointsAmong all) (stmt_faults w names at (plain_stmt s)) (block_faults w names_behind behind
      (plain_block rest))
      (stmt_pointed all w names at s (first_of all at (stmt_tokens s) (block_tokens rest) st))
      (block_pointed all w names_behind behind rest (rest_of all at behind (stmt_tokens s) (block_tokens rest)
      (omega (arith, size_of_stmt s)) st))

  arms_pointed : {n : _} (all : List Token) (w : Within) (names : List Named) (at : ℕ) (row : Row_of-Arm n)
      → ArmsStand all at row
      → All (PointsAmong all) (arms_faults w names at (plain_arms row))
  arms_pointed all w names at end_of-Arm st = All-nil (PointsAmong all)
  arms_pointed all w names at (more_of-Arm condition l body rest) st =
      let P = PointsAmong all in
      let n = expr_size (plain_expr condition) in
      let close = one sign.CloseParenthesis ∷ braced (block_tokens body) in
      let arm = arm_tokens condition (block_tokens body) in
      let end_at = at + (n + block_size (plain_block body) + 5) in
      let next = at + (n + block_size (plain_block body) + 5 + 1) in
      let first : Stands all at arm = first_of all at arm (further_tokens rest) st in
      let held : Stands all (at + 2) (expr_tokens condition ++ close) =
      rest_of all at (at + 2) (word keyword.If ∷ one sign.OpenParenthesis ∷ []) (expr_tokens condition
      ++ close) refl first in
      let block_here : Stands all (at + 2 + n + 1) (braced (block_tokens body)) =
      next_of all (at + 2 + n) (at + 2 + n + 1) (one sign.CloseParenthesis) (braced (block_tokens body)) refl
      (rest_of all (at + 2) (at + 2 + n) (expr_tokens condition) close (omega (arith, size_of_expr condition)) held) in
      let tests = whole_faults names (at + 2) (plain_expr condition) in
      let block = block_faults (opened w (length names)) names (at + 2 + n + 2) (plain_block body) in
      All-append P (tests ++ block) (arms_faults w names next (plain_arms rest))
      (All-append P tests block (whole_pointed all names (at + 2) condition
      (first_of all (at + 2) (expr_tokens condition) close held))
      (block_pointed all (opened w (length names)) names (at + 2 + n + 2) body
      (in_braces all (at + 2 + n + 1) (at + 2 + n + 2) (block_tokens body) (omega arith) block_here)))
      (arms_pointed all w names next rest (further_arms all end_at next rest (omega arith)
      (rest_of all at end_at arm (further_tokens rest) (omega (
        arith,
        size_of_arm condition (block_tokens body),
        size_of_block body,
      )) st)))

  otherwise_pointed : (all : List Token) (w : Within) (names : List Named) (at : ℕ) (otherwise : Held-Stmt-If-1)
      → Stands all at (otherwise_tokens otherwise)
      → All (PointsAmong all) (otherwise_faults w names at (plain_otherwise otherwise))
  otherwise_pointed all w names at None' st = All-nil (PointsAmong all)
  otherwise_pointed all w names at (Some' l body) st =
      block_pointed all (opened w (length names)) names (at + 1 + 1) body
      (in_braces all (at + 1) (at + 1 + 1) (block_tokens body) refl (next_of all at (at + 1) (word keyword.Else)
      (braced (block_tokens body)) refl st))

body_pointed : (all : List Token) (w : Within) (names : List Named) (at : ℕ) (body : List Stmt)
    → Stands all at (body_tokens body)
    → All (PointsAmong all) (body_faults w names at (map plain_stmt body))
body_pointed all w names at [] st = All-nil (PointsAmong all)
body_pointed all w names at (s ∷ rest) st =
    let behind = at + stmt_size (plain_stmt s) in
    let names_behind = after names (plain_stmt s) in
    All-append (PointsAmong all) (stmt_faults w names at (plain_stmt s)) (body_faults w names_behind behind
    (map plain_stmt rest))
    (stmt_pointed all w names at s (first_of all at (stmt_tokens s) (body_tokens rest) st))
    (body_pointed all w names_behind behind rest (rest_of all at behind (stmt_tokens s) (body_tokens rest)
    (omega (arith, size_of_stmt s)) st))

-- ---- units

global_pointed : (all : List Token) (names : List Named) (at : ℕ) (g : Global) → Stands all at (global_tokens g)
    → All (PointsAmong all) (global_faults names at g)
global_pointed all names at g st =
    let P = PointsAmong all in
    let before = if g.scratch then word keyword.Scratchpad ∷ [] else [] in
    let behind = token.Word g.name ∷ ended (shape_tokens g.length g.initial) in
    let kind_at = at + (if g.scratch then 1 else 0) in
    let name_at = at + (if g.scratch then 1 else 0) + kind_size g.kind in
    let named : Stands all name_at behind = rest_of all kind_at name_at (kind_tokens g.kind) behind refl
    (rest_of all at kind_at before (kind_tokens g.kind ++ behind) (ap (λ n. at + n) (one_word g.scratch)) st) in
    let twice = twice_faults 0 names name_at g.name in
    let typed = where_so (g.scratch && nat_lt 0 (length g.initial)) name_at fault.WrongType in
    let sized = where_so (words_of g == 0 || nat_lt (words_of g) (length g.initial)) name_at fault.Data in
    All-append P twice (typed ++ sized) (twice_pointed all 0 names name_at g.name (name_here all name_at g.name
    (ended (shape_tokens g.length g.initial)) named))
    (All-append P typed sized (where_pointed all (g.scratch && nat_lt 0 (length g.initial)) name_at
    fault.WrongType refl)
    (where_pointed all (words_of g == 0 || nat_lt (words_of g) (length g.initial)) name_at fault.Data refl))
  where
    one_word : (scratch : Bool) → (if scratch then 1 else 0)
        ≡ length (if scratch then word keyword.Scratchpad ∷ [] else [])
    one_word true = refl
    one_word false = refl

parameters_pointed : (all : List Token) (outer : ℕ) (names : List Named) (at : ℕ) (ps : List Parameter)
    → Stands all at (parameters_tokens ps)
    → All (PointsAmong all) (parameters_faults outer names at ps)
parameters_pointed all outer names at [] st = All-nil (PointsAmong all)
parameters_pointed all outer names at (p ∷ []) st =
    let name_at = at + kind_size p.kind in
    All-append (PointsAmong all) (twice_faults outer names name_at p.name) []
    (twice_pointed all outer names name_at p.name (name_here all name_at p.name []
    (rest_of all at name_at (kind_tokens p.kind) (token.Word p.name ∷ []) refl st)))
    (All-nil (PointsAmong all))
parameters_pointed all outer names at (p ∷ q ∷ ps) st =
    let name_at = at + kind_size p.kind in
    let next = at + parameter_size p in
    let known = declared names p.name meaning.Scalar in
    let behind = one sign.Comma ∷ parameters_tokens (q ∷ ps) in
    let named : Stands all name_at (token.Word p.name ∷ behind) =
    rest_of all at name_at (kind_tokens p.kind) (token.Word p.name ∷ behind) refl st in
    All-append (PointsAmong all) (twice_faults outer names name_at p.name) (parameters_faults outer known next (q ∷ ps))
    (twice_pointed all outer names name_at p.name (name_here all name_at p.name behind named))
    (parameters_pointed all outer known next (q ∷ ps)
    (rest_of all name_at next (token.Word p.name ∷ one sign.Comma ∷ []) (parameters_tokens (q ∷ ps))
    (omega arith) named))

list_pointed : (all : List Token) (outer : ℕ) (names : List Named) (at : ℕ) (void_word : Bool) (ps : List Parameter)
    → (IsTrue void_word → ps ≡ [])
    → Stands all at (if void_word then word keyword.Void ∷ [] else parameters_tokens ps)
    → All (PointsAmong all) (parameters_faults outer names at ps)
list_pointed all outer names at true ps none st =
    subst (λ qs. All (PointsAmong all) (parameters_faults outer names at qs)) (sym (none refl))
    (All-nil (PointsAmong all))
list_pointed all outer names at false ps none st = parameters_pointed all outer names at ps st

list_sized : (void_word : Bool) (ps : List Parameter) → length (if void_word then word keyword.Void
    ∷ [] else parameters_tokens ps) ≡ list_size void_word ps
list_sized true ps = refl
list_sized false ps = refl

named_pointed : (all : List Token) (names : List Named) (at : ℕ) (text : List ℕ) (ps : List Parameter)
    (body : List PlainStmt) → IsTrue (is_name (token_at all at))
    → All (PointsAmong all) (named_faults names at text ps body)
named_pointed all names at text ps body here =
    let P = PointsAmong all in
    let twice = twice_faults 0 names at text in
    let many = where_so (nat_lt MOST_PARAMETERS (length ps)) at fault.Params in
    let large = where_so (nat_lt MOST_FRAME_WORDS (function_frame ps body)) at fault.Frame in
    let heavy = where_so (nat_lt MOST_FUNCTION_WEIGHT (function_weight body)) at fault.Heavy in
    All-append P twice (many ++ (large ++ heavy)) (twice_pointed all 0 names at text here)
    (All-append P many (large ++ heavy) (where_pointed all (nat_lt MOST_PARAMETERS (length ps)) at fault.Params here)
    (All-append P large heavy (where_pointed all (nat_lt MOST_FRAME_WORDS (function_frame ps body)) at fault.Frame refl)
    (where_pointed all (nat_lt MOST_FUNCTION_WEIGHT (function_weight body)) at fault.Heavy refl)))

function_pointed : (all : List Token) (cores own : ℕ) (names : List Named) (at : ℕ) (f : Function)
    → (IsTrue f.void_word → f.parameters ≡ [])
    → Stands all at (function_tokens f)
    → All (PointsAmong all) (function_faults cores own names at f.kind f.name f.void_word f.parameters
    (map plain_stmt f.body))
function_pointed all cores own names at f none st =
    let P = PointsAmong all in
    let body = map plain_stmt f.body in
    let list = if f.void_word then word keyword.Void ∷ [] else parameters_tokens f.parameters in
    let block = braced (body_tokens f.body) in
    let close = one sign.CloseParenthesis ∷ block in
    let name_at = at + length (gives_tokens f.kind) in
    let list_at = name_at + 2 in
    let close_at = name_at + 2 + list_size f.void_word f.parameters in
    let body_at = name_at + 2 + list_size f.void_word f.parameters + 2 in
    let known = declared names f.name (function_means true f.kind f.parameters) in
    let within : Within =
    record { cores = cores; own = own; gives = is_some f.kind; in_loop = false; outer = length known } in
    let named : Stands all name_at (token.Word f.name ∷ one sign.OpenParenthesis ∷ (list ++ close)) =
    rest_of all at name_at (gives_tokens f.kind) (token.Word f.name ∷ one sign.OpenParenthesis ∷ (list ++ close)) refl
    st in
    let listed : Stands all list_at (list ++ close) =
    rest_of all name_at list_at (token.Word f.name ∷ one sign.OpenParenthesis ∷ []) (list ++ close) refl named in
    let closed : Stands all close_at close =
    rest_of all list_at close_at list close (omega (arith, list_sized f.void_word f.parameters)) listed in
    let inside : Stands all body_at (body_tokens f.body) =
    first_of all body_at (body_tokens f.body) (one sign.CloseBrace ∷ [])
    (rest_of all close_at body_at (one sign.CloseParenthesis ∷ one sign.OpenBrace ∷ []) (body_tokens f.body
    ++ one sign.CloseBrace ∷ []) refl closed) in
    let told = named_faults names name_at f.name f.parameters body in
    let ps = parameters_faults (length known) known list_at f.parameters in
    let statements = body_faults within (with_parameters known f.parameters) body_at body in
    All-append P told (ps ++ statements)
    (named_pointed all names name_at f.name f.parameters body (name_here all name_at f.name
    (one sign.OpenParenthesis ∷ (list ++ close)) named))
    (All-append P ps statements (list_pointed all (length known) known list_at f.void_word f.parameters none
    (first_of all list_at list close listed))
    (body_pointed all within (with_parameters known f.parameters) body_at f.body inside))

item_pointed : (all : List Token) (cores own : ℕ) (names : List Named) (at : ℕ) (i : Item) → ItemFits i
    → Stands all at (item_tokens i)
    → All (PointsAmong all) (item_faults cores own names at (plain_item i))
item_pointed all cores own names at (item.Global g) fits st = global_pointed all names at g st
item_pointed all cores own names at (item.Function f) fits st = function_pointed all cores own names at f fits.0 st

items_pointed : (all : List Token) (cores own : ℕ) (names : List Named) (at : ℕ) (items : List Item)
    → Each ItemFits items → Stands all at (items_tokens items)
    → All (PointsAmong all) (items_faults cores own names at (map plain_item items))
items_pointed all cores own names at [] fits st = All-nil (PointsAmong all)
items_pointed all cores own names at (i ∷ items) fits st =
    let behind = at + item_size (plain_item i) in
    let known = with_item names (plain_item i) in
    All-append (PointsAmong all) (item_faults cores own names at (plain_item i)) (items_faults cores own known behind
    (map plain_item items))
    (item_pointed all cores own names at i fits.0 (first_of all at (item_tokens i) (items_tokens items) st))
    (items_pointed all cores own known behind items fits.1 (rest_of all at behind (item_tokens i) (items_tokens items)
    (omega (arith, size_of_item i)) st))

end_pointed : (all : List Token) (at : ℕ) (items : List PlainItem) → All (PointsAmong all) (end_faults at items)
end_pointed all at items =
    let P = PointsAmong all in
    let heavy = where_so (nat_lt MOST_TASK_WEIGHT (items_weight items)) at fault.Heavy in
    let data_ = where_so (nat_lt MOST_PRIVATE_WORDS (words_in false items)) at fault.Data in
    let scratch = where_so (nat_lt MOST_SCRATCH_WORDS (words_in true items)) at fault.Scratch in
    let main = where_so (not (has_main items)) at fault.NoMain in
    All-append P heavy (data_ ++ (scratch ++ main)) (where_pointed all (nat_lt MOST_TASK_WEIGHT (items_weight items)) at
    fault.Heavy refl)
    (All-append P data_ (scratch ++ main) (where_pointed all (nat_lt MOST_PRIVATE_WORDS (words_in false items)) at
    fault.Data refl)
    (All-append P scratch main (where_pointed all (nat_lt MOST_SCRATCH_WORDS (words_in true items)) at
    fault.Scratch refl)
    (where_pointed all (not (has_main items)) at fault.NoMain refl)))

pub faults_pointed : (u : Program) (cores own : ℕ) → GrammarFits u → All (PointsAmong (tokens_of u)) (faults_of
    (plain u) cores own)
faults_pointed u cores own fits =
    let all = tokens_of u in
    let st : Stands all 0 (tokens_of u) =
    record { first = []; more = []; is = sym (append-nil (tokens_of u)); place = refl } in
    All-append (PointsAmong all) (items_faults cores own given 0 (plain u))
    (end_faults (sum_by item_size (plain u)) (plain u))
    (items_pointed all cores own given 0 u.items fits st) (end_pointed all (sum_by item_size (plain u)) (plain u))
