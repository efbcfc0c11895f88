-- One token of a declaration or a statement: what is to come, before and after it.
use Rattle.std.proofs.Common.{◌≡◌, ℕ, ◌+◌, ◌-◌, ◌<◌, Bool, true, false, nat_lt, List, [], ◌∷◌, ◌++◌, length, Option, Some, if◌then◌else◌, refl, ap, sym, ◌∙◌, append_assoc, append-nil}
use Rattle.c_tree.specs.declared.tokens.Token.{Token}
use Rattle.c_tree.specs.declared.tokens.Token.TheVariants as token
use Rattle.c_tree.specs.declared.tokens.Keyword.TheVariants as keyword
use Rattle.c_tree.specs.declared.tokens.Sign.TheVariants as sign
use Rattle.c_tree.specs.Tokens.{one, word}
use Rattle.c_tree.specs.Fits.{open_after}
use Rattle.c_parse.specs.Expected.{AfterName, Arguments, Assigned, Block, Branch, Condition, Constant, Elements, Else, Expected, Further, Given, Index, Initial, Items, Kind, Loop, MoreArguments, MoreConstants, MoreParameters, Move, Name, Number, Only, Operand, Outside, Parameters, PerhapsInt, Right, RightName, Rule, Statement, Statements, Tail, Test, Variable, and_then, as_in, drive_to, empty_by, followed, may_end, may_be_empty, moved, moved_by, next, nothing_else, or_empty, passed, read_on, refused, rule, taken, ◌⇒◌∣◌}
use Rattle.c_parse.specs.Readers.{KindEnds, begins}
use Rattle.c_parse.specs.Sorts.{is_a, is_bound, is_keyword, is_name, is_number, is_sign, level_at, may_open, room_to}
use Rattle.c_parse.proofs.Tests.{opens_itself}
use Rattle.c_tree.specs.declared.statements.Kind.{Kind as KindOf}
use Rattle.c_tree.specs.declared.statements.Kind.TheVariants as kind
use Rattle.c_tree.specs.Tokens.{kind_tokens}
use Rattle.c_parse.proofs.Steps.{refuses, passes, takes, is_short, stays_out, tests, tests_of_room}

-- a parenthesis is no bracket
other_bracket : (limit n : ℕ) → may_open (room_to limit n) sign.OpenBracket (one sign.OpenParenthesis) ≡ false
unfolding may_open is_sign
other_bracket limit n = refl

-- something comes of the place
abbrev pub stays : Move → Type 0
stays m = elim m as (λ _. Type 0) [ taken xs ↦ Unit {0} | passed ↦ ⊥ | refused ↦ Unit {0} ]

gone : (m : Move) (zs xs : List Expected) (a b : Option (List Expected)) → stays m → followed (and_then m zs) xs a
    ≡ followed m (zs ++ xs) b
gone (taken ys) zs xs a b s = ap Some (append_assoc ys zs xs)
gone passed zs xs a b s = absurd s
gone refused zs xs a b s = refl

pub arguments_end : (limit n : ℕ) (ts : List Token) (xs : List Expected)
    → drive_to limit n (Arguments ∷ xs) (one sign.CloseParenthesis ∷ ts) ≡ drive_to limit (n - 1) xs ts
arguments_end limit n ts xs = takes limit n Arguments (one sign.CloseParenthesis) ts xs [] (unfold tests in refl)

pub arguments_next : (limit n : ℕ) (ts : List Token) (xs : List Expected)
    → drive_to limit n (MoreArguments ∷ xs) (one sign.Comma ∷ ts)
    ≡ drive_to limit n (Operand ∷ Tail ∷ MoreArguments ∷ xs) ts
arguments_next limit n ts xs =
    takes limit n MoreArguments (one sign.Comma) ts xs (Operand ∷ Tail ∷ MoreArguments ∷ []) (unfold tests in refl)

pub arguments_done : (limit n : ℕ) (ts : List Token) (xs : List Expected)
    → drive_to limit n (MoreArguments ∷ xs) (one sign.CloseParenthesis ∷ ts) ≡ drive_to limit (n - 1) xs ts
arguments_done limit n ts xs = takes limit n MoreArguments (one sign.CloseParenthesis) ts xs [] (unfold tests in refl)

pub right_name : (limit n : ℕ) (w : List ℕ) (ts : List Token) (xs : List Expected)
    → drive_to limit n (Right ∷ xs) (token.Word w ∷ ts) ≡ drive_to limit n (RightName ∷ xs) ts
right_name limit n w ts xs = takes limit n Right (token.Word w) ts xs (RightName ∷ []) (unfold tests in refl)

pub right_call : (limit n : ℕ) (ts : List Token) (xs : List Expected) → n < limit
    → drive_to limit n (RightName ∷ xs) (one sign.OpenParenthesis ∷ ts) ≡ drive_to limit (n + 1) (Arguments ∷ xs) ts
right_call limit n ts xs h = takes limit n RightName (one sign.OpenParenthesis) ts xs (Arguments ∷ [])
    (unfold tests_of_room in (rw opens_itself))

pub statements_end : (limit n : ℕ) (ts : List Token) (xs : List Expected)
    → drive_to limit n (Statements ∷ xs) (one sign.CloseBrace ∷ ts) ≡ drive_to limit (n - 1) xs ts
statements_end limit n ts xs = takes limit n Statements (one sign.CloseBrace) ts xs [] (unfold tests in refl)

pub statement_name : (limit n : ℕ) (w : List ℕ) (ts : List Token) (xs : List Expected)
    → drive_to limit n (Statement ∷ xs) (token.Word w ∷ ts) ≡ drive_to limit n (AfterName ∷ xs) ts
statement_name limit n w ts xs = takes limit n Statement (token.Word w) ts xs (AfterName ∷ []) (unfold tests in refl)

pub statement_send : (limit n : ℕ) (ts : List Token) (xs : List Expected)
    → drive_to limit n (Statement ∷ xs) (word keyword.Send ∷ ts) ≡ drive_to limit n (Only sign.OpenParenthesis ∷ Number
    ∷ Further ∷ Further ∷ Further ∷ Only sign.CloseParenthesis ∷ Only sign.Semicolon ∷ xs) ts
statement_send limit n ts xs = takes limit n Statement (word keyword.Send) ts xs (Only sign.OpenParenthesis ∷ Number
    ∷ Further ∷ Further ∷ Further ∷ Only sign.CloseParenthesis ∷ Only sign.Semicolon ∷ []) (unfold tests in refl)

pub statement_if : (limit n : ℕ) (ts : List Token) (xs : List Expected)
    → drive_to limit n (Statement ∷ xs) (word keyword.If ∷ ts) ≡ drive_to limit n (Condition ∷ Block ∷ Else ∷ xs) ts
statement_if limit n ts xs =
    takes limit n Statement (word keyword.If) ts xs (Condition ∷ Block ∷ Else ∷ []) (unfold tests in refl)

pub statement_bound : (limit n : ℕ) (a b : ℕ) (ts : List Token) (xs : List Expected)
    → drive_to limit n (Statement ∷ xs) (token.Bound a b ∷ ts) ≡ drive_to limit n (Loop ∷ xs) ts
statement_bound limit n a b ts xs = takes limit n Statement (token.Bound a b) ts xs (Loop ∷ []) (unfold tests in refl)

pub statement_break : (limit n : ℕ) (ts : List Token) (xs : List Expected)
    → drive_to limit n (Statement ∷ xs) (word keyword.Break ∷ ts) ≡ drive_to limit n (Only sign.Semicolon ∷ xs) ts
statement_break limit n ts xs =
    takes limit n Statement (word keyword.Break) ts xs (Only sign.Semicolon ∷ []) (unfold tests in refl)

pub statement_continue : (limit n : ℕ) (ts : List Token) (xs : List Expected)
    → drive_to limit n (Statement ∷ xs) (word keyword.Continue ∷ ts) ≡ drive_to limit n (Only sign.Semicolon ∷ xs) ts
statement_continue limit n ts xs =
    takes limit n Statement (word keyword.Continue) ts xs (Only sign.Semicolon ∷ []) (unfold tests in refl)

pub statement_return : (limit n : ℕ) (ts : List Token) (xs : List Expected)
    → drive_to limit n (Statement ∷ xs) (word keyword.Return ∷ ts) ≡ drive_to limit n (Given ∷ xs) ts
statement_return limit n ts xs = takes limit n Statement (word keyword.Return) ts xs (Given ∷ []) (unfold tests in refl)

pub statement_while : (limit n : ℕ) (ts : List Token) (xs : List Expected)
    → drive_to limit n (Statement ∷ xs) (word keyword.While ∷ ts) ≡ drive_to limit n (Condition ∷ Block ∷ xs) ts
statement_while limit n ts xs =
    takes limit n Statement (word keyword.While) ts xs (Condition ∷ Block ∷ []) (unfold tests in refl)

pub statement_for : (limit n : ℕ) (ts : List Token) (xs : List Expected)
    → drive_to limit n (Statement ∷ xs) (word keyword.For ∷ ts) ≡ drive_to limit n (Only sign.OpenParenthesis ∷ Assigned
    ∷ Test ∷ Assigned ∷ Only sign.CloseParenthesis ∷ Block ∷ xs) ts
statement_for limit n ts xs = takes limit n Statement (word keyword.For) ts xs (Only sign.OpenParenthesis ∷ Assigned
    ∷ Test ∷ Assigned ∷ Only sign.CloseParenthesis ∷ Block ∷ []) (unfold tests in refl)

pub statement_brace : (limit n : ℕ) (ts : List Token) (xs : List Expected) → n < limit
    → drive_to limit n (Statement ∷ xs) (one sign.OpenBrace ∷ ts) ≡ drive_to limit (n + 1) (Statements ∷ xs) ts
statement_brace limit n ts xs h =
    takes limit n Statement (one sign.OpenBrace) ts xs (Statements ∷ []) (unfold tests_of_room in (rw opens_itself))

pub loop_while : (limit n : ℕ) (ts : List Token) (xs : List Expected) → drive_to limit n (Loop ∷ xs) (word keyword.While
    ∷ ts) ≡ drive_to limit n (Condition ∷ Block ∷ xs) ts
loop_while limit n ts xs = takes limit n Loop (word keyword.While) ts xs (Condition ∷ Block ∷ []) (unfold tests in refl)

pub loop_for : (limit n : ℕ) (ts : List Token) (xs : List Expected) → drive_to limit n (Loop ∷ xs) (word keyword.For
    ∷ ts) ≡ drive_to limit n (Only sign.OpenParenthesis ∷ Assigned ∷ Test ∷ Assigned ∷ Only sign.CloseParenthesis
    ∷ Block ∷ xs) ts
loop_for limit n ts xs = takes limit n Loop (word keyword.For) ts xs (Only sign.OpenParenthesis ∷ Assigned ∷ Test
    ∷ Assigned ∷ Only sign.CloseParenthesis ∷ Block ∷ []) (unfold tests in refl)

pub initial_assign : (limit n : ℕ) (ts : List Token) (xs : List Expected)
    → drive_to limit n (Initial ∷ xs) (one sign.Assign ∷ ts) ≡ drive_to limit n (Right ∷ Only sign.Semicolon ∷ xs) ts
initial_assign limit n ts xs =
    takes limit n Initial (one sign.Assign) ts xs (Right ∷ Only sign.Semicolon ∷ []) (unfold tests in refl)

pub initial_end : (limit n : ℕ) (ts : List Token) (xs : List Expected)
    → drive_to limit n (Initial ∷ xs) (one sign.Semicolon ∷ ts) ≡ drive_to limit n xs ts
initial_end limit n ts xs = takes limit n Initial (one sign.Semicolon) ts xs [] (unfold tests in refl)

pub after_name_assign : (limit n : ℕ) (ts : List Token) (xs : List Expected)
    → drive_to limit n (AfterName ∷ xs) (one sign.Assign ∷ ts) ≡ drive_to limit n (Right ∷ Only sign.Semicolon ∷ xs) ts
after_name_assign limit n ts xs =
    takes limit n AfterName (one sign.Assign) ts xs (Right ∷ Only sign.Semicolon ∷ []) (unfold tests in refl)

pub after_name_bracket : (limit n : ℕ) (ts : List Token) (xs : List Expected) → n < limit
    → drive_to limit n (AfterName ∷ xs) (one sign.OpenBracket ∷ ts)
    ≡ drive_to limit (n + 1) (Operand ∷ Tail ∷ Only sign.CloseBracket ∷ Only sign.Assign ∷ Right
    ∷ Only sign.Semicolon ∷ xs) ts
after_name_bracket limit n ts xs h = takes limit n AfterName (one sign.OpenBracket) ts xs
    (Operand ∷ Tail ∷ Only sign.CloseBracket ∷ Only sign.Assign ∷ Right ∷ Only sign.Semicolon ∷ [])
    (unfold tests_of_room in (rw opens_itself))

pub after_name_call : (limit n : ℕ) (ts : List Token) (xs : List Expected) → n < limit
    → drive_to limit n (AfterName ∷ xs) (one sign.OpenParenthesis ∷ ts)
    ≡ drive_to limit (n + 1) (Arguments ∷ Only sign.Semicolon ∷ xs) ts
after_name_call limit n ts xs h = takes limit n AfterName (one sign.OpenParenthesis) ts xs
    (Arguments ∷ Only sign.Semicolon ∷ []) (unfold tests_of_room in (rw (other_bracket, opens_itself)))

pub given_none : (limit n : ℕ) (ts : List Token) (xs : List Expected)
    → drive_to limit n (Given ∷ xs) (one sign.Semicolon ∷ ts) ≡ drive_to limit n xs ts
given_none limit n ts xs = takes limit n Given (one sign.Semicolon) ts xs [] (unfold tests in refl)

pub else_more : (limit n : ℕ) (ts : List Token) (xs : List Expected) → drive_to limit n (Else ∷ xs) (word keyword.Else
    ∷ ts) ≡ drive_to limit n (Branch ∷ xs) ts
else_more limit n ts xs = takes limit n Else (word keyword.Else) ts xs (Branch ∷ []) (unfold tests in refl)

pub branch_if : (limit n : ℕ) (ts : List Token) (xs : List Expected) → drive_to limit n (Branch ∷ xs) (word keyword.If
    ∷ ts) ≡ drive_to limit n (Condition ∷ Block ∷ Else ∷ xs) ts
branch_if limit n ts xs =
    takes limit n Branch (word keyword.If) ts xs (Condition ∷ Block ∷ Else ∷ []) (unfold tests in refl)

pub branch_brace : (limit n : ℕ) (ts : List Token) (xs : List Expected) → n < limit
    → drive_to limit n (Branch ∷ xs) (one sign.OpenBrace ∷ ts) ≡ drive_to limit (n + 1) (Statements ∷ xs) ts
branch_brace limit n ts xs h =
    takes limit n Branch (one sign.OpenBrace) ts xs (Statements ∷ []) (unfold tests_of_room in (rw opens_itself))

pub items_scratch : (limit n : ℕ) (ts : List Token) (xs : List Expected)
    → drive_to limit n (Items ∷ xs) (word keyword.Scratchpad ∷ ts) ≡ drive_to limit n (Kind ∷ Name ∷ Variable
    ∷ Items ∷ xs) ts
items_scratch limit n ts xs =
    takes limit n Items (word keyword.Scratchpad) ts xs (Kind ∷ Name ∷ Variable ∷ Items ∷ []) (unfold tests in refl)

pub items_void : (limit n : ℕ) (ts : List Token) (xs : List Expected) → drive_to limit n (Items ∷ xs) (word keyword.Void
    ∷ ts) ≡ drive_to limit n (Name ∷ Only sign.OpenParenthesis ∷ Parameters ∷ Block ∷ Items ∷ xs) ts
items_void limit n ts xs = takes limit n Items (word keyword.Void) ts xs (Name ∷ Only sign.OpenParenthesis ∷ Parameters
    ∷ Block ∷ Items ∷ []) (unfold tests in refl)

pub outside_function : (limit n : ℕ) (ts : List Token) (xs : List Expected) → n < limit
    → drive_to limit n (Outside ∷ xs) (one sign.OpenParenthesis ∷ ts)
    ≡ drive_to limit (n + 1) (Parameters ∷ Block ∷ xs) ts
outside_function limit n ts xs h = takes limit n Outside (one sign.OpenParenthesis) ts xs (Parameters ∷ Block ∷ [])
    (unfold tests_of_room in (rw opens_itself))

pub variable_array : (limit n : ℕ) (ts : List Token) (xs : List Expected) → n < limit
    → drive_to limit n (Variable ∷ xs) (one sign.OpenBracket ∷ ts)
    ≡ drive_to limit (n + 1) (Number ∷ Only sign.CloseBracket ∷ Elements ∷ xs) ts
variable_array limit n ts xs h = takes limit n Variable (one sign.OpenBracket) ts xs (Number ∷ Only sign.CloseBracket
    ∷ Elements ∷ []) (unfold tests_of_room in (rw opens_itself))

pub variable_assign : (limit n : ℕ) (ts : List Token) (xs : List Expected)
    → drive_to limit n (Variable ∷ xs) (one sign.Assign ∷ ts)
    ≡ drive_to limit n (Constant ∷ Only sign.Semicolon ∷ xs) ts
variable_assign limit n ts xs =
    takes limit n Variable (one sign.Assign) ts xs (Constant ∷ Only sign.Semicolon ∷ []) (unfold tests in refl)

pub variable_end : (limit n : ℕ) (ts : List Token) (xs : List Expected)
    → drive_to limit n (Variable ∷ xs) (one sign.Semicolon ∷ ts) ≡ drive_to limit n xs ts
variable_end limit n ts xs = takes limit n Variable (one sign.Semicolon) ts xs [] (unfold tests in refl)

pub elements_assign : (limit n : ℕ) (ts : List Token) (xs : List Expected)
    → drive_to limit n (Elements ∷ xs) (one sign.Assign ∷ ts) ≡ drive_to limit n (Only sign.OpenBrace ∷ Constant
    ∷ MoreConstants ∷ Only sign.Semicolon ∷ xs) ts
elements_assign limit n ts xs = takes limit n Elements (one sign.Assign) ts xs (Only sign.OpenBrace ∷ Constant
    ∷ MoreConstants ∷ Only sign.Semicolon ∷ []) (unfold tests in refl)

pub elements_end : (limit n : ℕ) (ts : List Token) (xs : List Expected)
    → drive_to limit n (Elements ∷ xs) (one sign.Semicolon ∷ ts) ≡ drive_to limit n xs ts
elements_end limit n ts xs = takes limit n Elements (one sign.Semicolon) ts xs [] (unfold tests in refl)

pub constant_number : (limit n : ℕ) (v : ℕ) (u : Bool) (ts : List Token) (xs : List Expected)
    → drive_to limit n (Constant ∷ xs) (token.Number v u ∷ ts) ≡ drive_to limit n xs ts
constant_number limit n v u ts xs = takes limit n Constant (token.Number v u) ts xs [] (unfold tests in refl)

pub constant_minus : (limit n : ℕ) (ts : List Token) (xs : List Expected)
    → drive_to limit n (Constant ∷ xs) (one sign.Minus ∷ ts) ≡ drive_to limit n (Number ∷ xs) ts
constant_minus limit n ts xs = takes limit n Constant (one sign.Minus) ts xs (Number ∷ []) (unfold tests in refl)

pub constants_next : (limit n : ℕ) (ts : List Token) (xs : List Expected)
    → drive_to limit n (MoreConstants ∷ xs) (one sign.Comma ∷ ts) ≡ drive_to limit n (Constant ∷ MoreConstants ∷ xs) ts
constants_next limit n ts xs =
    takes limit n MoreConstants (one sign.Comma) ts xs (Constant ∷ MoreConstants ∷ []) (unfold tests in refl)

pub constants_done : (limit n : ℕ) (ts : List Token) (xs : List Expected)
    → drive_to limit n (MoreConstants ∷ xs) (one sign.CloseBrace ∷ ts) ≡ drive_to limit (n - 1) xs ts
constants_done limit n ts xs = takes limit n MoreConstants (one sign.CloseBrace) ts xs [] (unfold tests in refl)

pub parameters_end : (limit n : ℕ) (ts : List Token) (xs : List Expected)
    → drive_to limit n (Parameters ∷ xs) (one sign.CloseParenthesis ∷ ts) ≡ drive_to limit (n - 1) xs ts
parameters_end limit n ts xs = takes limit n Parameters (one sign.CloseParenthesis) ts xs [] (unfold tests in refl)

pub parameters_void : (limit n : ℕ) (ts : List Token) (xs : List Expected)
    → drive_to limit n (Parameters ∷ xs) (word keyword.Void ∷ ts)
    ≡ drive_to limit n (Only sign.CloseParenthesis ∷ xs) ts
parameters_void limit n ts xs =
    takes limit n Parameters (word keyword.Void) ts xs (Only sign.CloseParenthesis ∷ []) (unfold tests in refl)

pub parameters_next : (limit n : ℕ) (ts : List Token) (xs : List Expected)
    → drive_to limit n (MoreParameters ∷ xs) (one sign.Comma ∷ ts)
    ≡ drive_to limit n (Kind ∷ Name ∷ MoreParameters ∷ xs) ts
parameters_next limit n ts xs =
    takes limit n MoreParameters (one sign.Comma) ts xs (Kind ∷ Name ∷ MoreParameters ∷ []) (unfold tests in refl)

pub parameters_done : (limit n : ℕ) (ts : List Token) (xs : List Expected)
    → drive_to limit n (MoreParameters ∷ xs) (one sign.CloseParenthesis ∷ ts) ≡ drive_to limit (n - 1) xs ts
parameters_done limit n ts xs = takes limit n MoreParameters (one sign.CloseParenthesis) ts xs [] (unfold tests in refl)

pub condition_open : (limit n : ℕ) (ts : List Token) (xs : List Expected) → n < limit
    → drive_to limit n (Condition ∷ xs) (one sign.OpenParenthesis ∷ ts)
    ≡ drive_to limit (n + 1) (Operand ∷ Tail ∷ Only sign.CloseParenthesis ∷ xs) ts
condition_open limit n ts xs h = takes limit n Condition (one sign.OpenParenthesis) ts xs
    (Operand ∷ Tail ∷ Only sign.CloseParenthesis ∷ []) (unfold tests_of_room in (rw opens_itself))

pub block_open : (limit n : ℕ) (ts : List Token) (xs : List Expected) → n < limit
    → drive_to limit n (Block ∷ xs) (one sign.OpenBrace ∷ ts) ≡ drive_to limit (n + 1) (Statements ∷ xs) ts
block_open limit n ts xs h =
    takes limit n Block (one sign.OpenBrace) ts xs (Statements ∷ []) (unfold tests_of_room in (rw opens_itself))

pub assigned_name : (limit n : ℕ) (w : List ℕ) (ts : List Token) (xs : List Expected)
    → drive_to limit n (Assigned ∷ xs) (token.Word w ∷ ts) ≡ drive_to limit n (Only sign.Assign ∷ Operand
    ∷ Tail ∷ xs) ts
assigned_name limit n w ts xs =
    takes limit n Assigned (token.Word w) ts xs (Only sign.Assign ∷ Operand ∷ Tail ∷ []) (unfold tests in refl)

pub test_semicolon : (limit n : ℕ) (ts : List Token) (xs : List Expected)
    → drive_to limit n (Test ∷ xs) (one sign.Semicolon ∷ ts)
    ≡ drive_to limit n (Operand ∷ Tail ∷ Only sign.Semicolon ∷ xs) ts
test_semicolon limit n ts xs =
    takes limit n Test (one sign.Semicolon) ts xs (Operand ∷ Tail ∷ Only sign.Semicolon ∷ []) (unfold tests in refl)

pub further_comma : (limit n : ℕ) (ts : List Token) (xs : List Expected)
    → drive_to limit n (Further ∷ xs) (one sign.Comma ∷ ts) ≡ drive_to limit n (Operand ∷ Tail ∷ xs) ts
further_comma limit n ts xs = takes limit n Further (one sign.Comma) ts xs (Operand ∷ Tail ∷ []) (unfold tests in refl)

pub no_condition : (limit n : ℕ) (ts : List Token) (xs : List Expected)
    → begins (may_open (room_to limit n) sign.OpenParenthesis) ts ≡ false → drive_to limit n (Condition ∷ xs) ts
    ≡ Some (length ts)
no_condition limit n [] xs a = is_short limit n Condition xs refl
no_condition limit n (t ∷ ts) xs a = refuses limit n Condition t ts xs (rw a)

pub no_block : (limit n : ℕ) (ts : List Token) (xs : List Expected)
    → begins (may_open (room_to limit n) sign.OpenBrace) ts ≡ false → drive_to limit n (Block ∷ xs) ts
    ≡ Some (length ts)
no_block limit n [] xs a = is_short limit n Block xs refl
no_block limit n (t ∷ ts) xs a = refuses limit n Block t ts xs (rw a)

pub no_assigned : (limit n : ℕ) (ts : List Token) (xs : List Expected) → begins is_name ts ≡ false
    → drive_to limit n (Assigned ∷ xs) ts ≡ Some (length ts)
no_assigned limit n [] xs a = is_short limit n Assigned xs refl
no_assigned limit n (t ∷ ts) xs a = refuses limit n Assigned t ts xs (rw a)

pub no_test : (limit n : ℕ) (ts : List Token) (xs : List Expected) → begins (is_sign sign.Semicolon) ts ≡ false
    → drive_to limit n (Test ∷ xs) ts ≡ Some (length ts)
no_test limit n [] xs a = is_short limit n Test xs refl
no_test limit n (t ∷ ts) xs a = refuses limit n Test t ts xs (rw a)

pub no_further : (limit n : ℕ) (ts : List Token) (xs : List Expected) → begins (is_sign sign.Comma) ts ≡ false
    → drive_to limit n (Further ∷ xs) ts ≡ Some (length ts)
no_further limit n [] xs a = is_short limit n Further xs refl
no_further limit n (t ∷ ts) xs a = refuses limit n Further t ts xs (rw a)

-- ---- the kinds of numbers

no_int : (limit n : ℕ) (ts : List Token) (xs : List Expected) → begins (is_keyword keyword.Int) ts ≡ false
    → drive_to limit n (PerhapsInt ∷ xs) ts ≡ drive_to limit n xs ts
no_int limit n [] xs h = stays_out limit n PerhapsInt xs refl
no_int limit n (t ∷ ts) xs h = passes limit n PerhapsInt t ts xs (rw h)

-- where a kind may come, and then these
kind_taken : (limit n : ℕ) (x : Expected) (k : KindOf) (ts : List Token) (xs ys : List Expected)
    → moved_by (room_to limit n) (rule x) (word keyword.Int) ≡ taken ys
    → moved_by (room_to limit n) (rule x) (word keyword.Unsigned) ≡ taken (PerhapsInt ∷ ys) → KindEnds k ts
    → drive_to limit n (x ∷ xs) (kind_tokens k ++ ts) ≡ drive_to limit n (ys ++ xs) ts
kind_taken limit n x kind.Int ts xs ys i u h = takes limit n x (word keyword.Int) ts xs ys i
kind_taken limit n x kind.Unsigned ts xs ys i u h =
    takes limit n x (word keyword.Unsigned) ts xs (PerhapsInt ∷ ys) u ∙ no_int limit n ts (ys ++ xs) h
kind_taken limit n x kind.UnsignedInt ts xs ys i u h =
    takes limit n x (word keyword.Unsigned) (word keyword.Int ∷ ts) xs (PerhapsInt ∷ ys) u
    ∙ takes limit n PerhapsInt (word keyword.Int) ts (ys ++ xs) [] (unfold tests in refl)

pub statement_kind : (limit n : ℕ) (k : KindOf) (ts : List Token) (xs : List Expected) → KindEnds k ts
    → drive_to limit n (Statement ∷ xs) (kind_tokens k ++ ts) ≡ drive_to limit n (Name ∷ Initial ∷ xs) ts
statement_kind limit n k ts xs =
    kind_taken limit n Statement k ts xs (Name ∷ Initial ∷ []) (unfold tests in refl) (unfold tests in refl)

pub items_kind : (limit n : ℕ) (k : KindOf) (ts : List Token) (xs : List Expected) → KindEnds k ts
    → drive_to limit n (Items ∷ xs) (kind_tokens k ++ ts) ≡ drive_to limit n (Name ∷ Outside ∷ Items ∷ xs) ts
items_kind limit n k ts xs =
    kind_taken limit n Items k ts xs (Name ∷ Outside ∷ Items ∷ []) (unfold tests in refl) (unfold tests in refl)

pub kind_kind : (limit n : ℕ) (k : KindOf) (ts : List Token) (xs : List Expected) → KindEnds k ts
    → drive_to limit n (Kind ∷ xs) (kind_tokens k ++ ts) ≡ drive_to limit n xs ts
kind_kind limit n k ts xs = kind_taken limit n Kind k ts xs [] (unfold tests in refl) (unfold tests in refl)

pub parameters_kind : (limit n : ℕ) (k : KindOf) (ts : List Token) (xs : List Expected) → KindEnds k ts
    → drive_to limit n (Parameters ∷ xs) (kind_tokens k ++ ts) ≡ drive_to limit n (Name ∷ MoreParameters ∷ xs) ts
parameters_kind limit n k ts xs =
    kind_taken limit n Parameters k ts xs (Name ∷ MoreParameters ∷ []) (unfold tests in refl) (unfold tests in refl)

-- ---- what cannot come, and what need not

pub no_more_arguments : (limit n : ℕ) (ts : List Token) (xs : List Expected) → begins (is_sign sign.Comma) ts ≡ false
    → begins (is_sign sign.CloseParenthesis) ts ≡ false → drive_to limit n (MoreArguments ∷ xs) ts ≡ Some (length ts)
no_more_arguments limit n [] xs a b = is_short limit n MoreArguments xs refl
no_more_arguments limit n (t ∷ ts) xs a b = refuses limit n MoreArguments t ts xs (rw (a, b))

pub no_statement : (limit n : ℕ) (ts : List Token) (xs : List Expected) → begins (is_keyword keyword.Int) ts ≡ false
    → begins (is_keyword keyword.Unsigned) ts ≡ false → begins is_name ts ≡ false → begins (is_keyword keyword.Send) ts
    ≡ false → begins (is_keyword keyword.If) ts ≡ false → begins is_bound ts ≡ false
    → begins (is_keyword keyword.Break) ts ≡ false → begins (is_keyword keyword.Continue) ts ≡ false
    → begins (is_keyword keyword.Return) ts ≡ false → begins (may_open (room_to limit n) sign.OpenBrace) ts
    ≡ false → begins (is_keyword keyword.While) ts ≡ false → begins (is_keyword keyword.For) ts ≡ false
    → drive_to limit n (Statement ∷ xs) ts ≡ Some (length ts)
no_statement limit n [] xs a b c d e f g h i j k l = is_short limit n Statement xs refl
no_statement limit n (t ∷ ts) xs a b c d e f g h i j k l =
    refuses limit n Statement t ts xs (rw (a, b, c, d, e, f, g, h, i, j, k, l))

pub no_loop : (limit n : ℕ) (ts : List Token) (xs : List Expected) → begins (is_keyword keyword.While) ts ≡ false
    → begins (is_keyword keyword.For) ts ≡ false → drive_to limit n (Loop ∷ xs) ts ≡ Some (length ts)
no_loop limit n [] xs a b = is_short limit n Loop xs refl
no_loop limit n (t ∷ ts) xs a b = refuses limit n Loop t ts xs (rw (a, b))

pub no_initial : (limit n : ℕ) (ts : List Token) (xs : List Expected) → begins (is_sign sign.Assign) ts ≡ false
    → begins (is_sign sign.Semicolon) ts ≡ false → drive_to limit n (Initial ∷ xs) ts ≡ Some (length ts)
no_initial limit n [] xs a b = is_short limit n Initial xs refl
no_initial limit n (t ∷ ts) xs a b = refuses limit n Initial t ts xs (rw (a, b))

pub no_after_name : (limit n : ℕ) (ts : List Token) (xs : List Expected) → begins (is_sign sign.Assign) ts ≡ false
    → begins (may_open (room_to limit n) sign.OpenBracket) ts ≡ false
    → begins (may_open (room_to limit n) sign.OpenParenthesis) ts ≡ false → drive_to limit n (AfterName ∷ xs) ts
    ≡ Some (length ts)
no_after_name limit n [] xs a b c = is_short limit n AfterName xs refl
no_after_name limit n (t ∷ ts) xs a b c = refuses limit n AfterName t ts xs (rw (a, b, c))

pub no_else : (limit n : ℕ) (ts : List Token) (xs : List Expected) → begins (is_keyword keyword.Else) ts ≡ false
    → drive_to limit n (Else ∷ xs) ts ≡ drive_to limit n xs ts
no_else limit n [] xs a = stays_out limit n Else xs refl
no_else limit n (t ∷ ts) xs a = passes limit n Else t ts xs (rw a)

pub no_items : (limit n : ℕ) (ts : List Token) (xs : List Expected) → begins (is_keyword keyword.Int) ts ≡ false
    → begins (is_keyword keyword.Unsigned) ts ≡ false → begins (is_keyword keyword.Scratchpad) ts ≡ false
    → begins (is_keyword keyword.Void) ts ≡ false → drive_to limit n (Items ∷ xs) ts ≡ drive_to limit n xs ts
no_items limit n [] xs a b c d = stays_out limit n Items xs refl
no_items limit n (t ∷ ts) xs a b c d = passes limit n Items t ts xs (rw (a, b, c, d))

pub no_kind : (limit n : ℕ) (ts : List Token) (xs : List Expected) → begins (is_keyword keyword.Int) ts ≡ false
    → begins (is_keyword keyword.Unsigned) ts ≡ false → drive_to limit n (Kind ∷ xs) ts ≡ Some (length ts)
no_kind limit n [] xs a b = is_short limit n Kind xs refl
no_kind limit n (t ∷ ts) xs a b = refuses limit n Kind t ts xs (rw (a, b))

pub no_variable : (limit n : ℕ) (ts : List Token) (xs : List Expected)
    → begins (may_open (room_to limit n) sign.OpenBracket) ts ≡ false → begins (is_sign sign.Assign) ts ≡ false
    → begins (is_sign sign.Semicolon) ts ≡ false → drive_to limit n (Variable ∷ xs) ts ≡ Some (length ts)
no_variable limit n [] xs a b c = is_short limit n Variable xs refl
no_variable limit n (t ∷ ts) xs a b c = refuses limit n Variable t ts xs (rw (a, b, c))

pub no_elements : (limit n : ℕ) (ts : List Token) (xs : List Expected) → begins (is_sign sign.Assign) ts ≡ false
    → begins (is_sign sign.Semicolon) ts ≡ false → drive_to limit n (Elements ∷ xs) ts ≡ Some (length ts)
no_elements limit n [] xs a b = is_short limit n Elements xs refl
no_elements limit n (t ∷ ts) xs a b = refuses limit n Elements t ts xs (rw (a, b))

pub no_constant : (limit n : ℕ) (ts : List Token) (xs : List Expected) → begins is_number ts ≡ false
    → begins (is_sign sign.Minus) ts ≡ false → drive_to limit n (Constant ∷ xs) ts ≡ Some (length ts)
no_constant limit n [] xs a b = is_short limit n Constant xs refl
no_constant limit n (t ∷ ts) xs a b = refuses limit n Constant t ts xs (rw (a, b))

pub no_more_constants : (limit n : ℕ) (ts : List Token) (xs : List Expected) → begins (is_sign sign.Comma) ts ≡ false
    → begins (is_sign sign.CloseBrace) ts ≡ false → drive_to limit n (MoreConstants ∷ xs) ts ≡ Some (length ts)
no_more_constants limit n [] xs a b = is_short limit n MoreConstants xs refl
no_more_constants limit n (t ∷ ts) xs a b = refuses limit n MoreConstants t ts xs (rw (a, b))

pub no_more_parameters : (limit n : ℕ) (ts : List Token) (xs : List Expected) → begins (is_sign sign.Comma) ts ≡ false
    → begins (is_sign sign.CloseParenthesis) ts ≡ false → drive_to limit n (MoreParameters ∷ xs) ts ≡ Some (length ts)
no_more_parameters limit n [] xs a b = is_short limit n MoreParameters xs refl
no_more_parameters limit n (t ∷ ts) xs a b = refuses limit n MoreParameters t ts xs (rw (a, b))

pub no_parameters : (limit n : ℕ) (ts : List Token) (xs : List Expected) → begins (is_sign sign.CloseParenthesis) ts
    ≡ false → begins (is_keyword keyword.Void) ts ≡ false → begins (is_keyword keyword.Int) ts ≡ false
    → begins (is_keyword keyword.Unsigned) ts ≡ false → drive_to limit n (Parameters ∷ xs) ts ≡ Some (length ts)
no_parameters limit n [] xs a b c d = is_short limit n Parameters xs refl
no_parameters limit n (t ∷ ts) xs a b c d = refuses limit n Parameters t ts xs (rw (a, b, c, d))

-- ---- places where another may stand

stays_then : (m : Move) (xs : List Expected) → stays m → stays (and_then m xs)
stays_then (taken ys) xs s = tt
stays_then passed xs s = s
stays_then refused xs s = tt

stays_if : (b : Bool) (xs : List Expected) (m : Move) → stays m → stays (if b then taken xs else m)
stays_if true xs m h = tt
stays_if false xs m h = h

-- where the place may not stay empty
pub stays_by : (room : Bool) (r : Rule) (t : Token) → empty_by r ≡ false → stays (moved_by room r t)
stays_by room (sort ⇒ xs ∣ r) t e = stays_if (is_a room sort t) xs (moved_by room r t) (stays_by room r t e)
stays_by room (as_in r xs) t e = stays_then (moved_by room r t) xs (stays_by room r t e)
stays_by room or_empty t e = absurd (cc)
stays_by room nothing_else t e = tt

-- Two places that no token tells apart, but those of a test, are alike: the one is as the other and these.
alike : (f : Token → Bool) (limit n : ℕ) (x y : Expected) (xs zs : List Expected) → may_be_empty x ≡ false
    → may_be_empty y ≡ false
    → ((t : Token) → f t ≡ false → moved_by (room_to limit n) (rule x) t
    ≡ and_then (moved_by (room_to limit n) (rule y) t) zs)
    → (ts : List Token) → begins f ts ≡ false → drive_to limit n (x ∷ xs) ts ≡ drive_to limit n (y ∷ (zs ++ xs)) ts
unfolding drive_to next moved
alike f limit n x y xs zs a b e [] h = is_short limit n x xs a ∙ sym (is_short limit n y (zs ++ xs) b)
alike f limit n x y xs zs a b e (t ∷ ts) h =
    ap (λ m. read_on (length ts) (λ ys. drive_to limit (open_after t n) ys ts)
    (followed m xs (next (room_to limit n) xs t))) (e t h)
    ∙ ap (read_on (length ts) (λ ys. drive_to limit (open_after t n) ys ts)) (gone
    (moved_by (room_to limit n) (rule y) t) zs xs (next (room_to limit n) xs t)
    (next (room_to limit n) (zs ++ xs) t)
    (stays_by (room_to limit n) (rule y) t b))

pub right_operand : (limit n : ℕ) (ts : List Token) (xs : List Expected) → begins is_name ts ≡ false
    → drive_to limit n (Right ∷ xs) ts ≡ drive_to limit n (Operand ∷ Tail ∷ xs) ts
right_operand limit n ts xs = alike is_name limit n Right Operand xs (Tail ∷ []) refl refl (λ t h. rw h refl) ts

pub arguments_operand : (limit n : ℕ) (ts : List Token) (xs : List Expected) → begins (is_sign sign.CloseParenthesis) ts
    ≡ false → drive_to limit n (Arguments ∷ xs) ts ≡ drive_to limit n (Operand ∷ Tail ∷ MoreArguments ∷ xs) ts
arguments_operand limit n ts xs = alike (is_sign sign.CloseParenthesis) limit n Arguments Operand xs
    (Tail ∷ MoreArguments ∷ []) refl refl (λ t h. rw h refl) ts

pub given_operand : (limit n : ℕ) (ts : List Token) (xs : List Expected) → begins (is_sign sign.Semicolon) ts ≡ false
    → drive_to limit n (Given ∷ xs) ts ≡ drive_to limit n (Operand ∷ Tail ∷ Only sign.Semicolon ∷ xs) ts
given_operand limit n ts xs = alike (is_sign sign.Semicolon) limit n Given Operand xs (Tail ∷ Only sign.Semicolon ∷ [])
    refl refl (λ t h. rw h refl) ts

pub statements_statement : (limit n : ℕ) (ts : List Token) (xs : List Expected) → begins (is_sign sign.CloseBrace) ts
    ≡ false → drive_to limit n (Statements ∷ xs) ts ≡ drive_to limit n (Statement ∷ Statements ∷ xs) ts
statements_statement limit n ts xs =
    alike (is_sign sign.CloseBrace) limit n Statements Statement xs (Statements ∷ []) refl refl (λ t h. rw h refl) ts

right_chosen : (a b : Bool) (xs : List Expected) (later : Option (List Expected))
    → followed (if a then taken (Operand ∷ Tail ∷ Only sign.CloseBracket ∷ Tail ∷ []) else
    (if b then taken (Operand ∷ Tail ∷ []) else passed)) xs later
    ≡ followed (if a then taken (Operand ∷ Tail ∷ Only sign.CloseBracket ∷ []) else passed) (Tail ∷ xs) (followed
    (if b then taken (Operand ∷ Tail ∷ []) else passed) xs later)
right_chosen true b xs later = refl
right_chosen false true xs later = refl
right_chosen false false xs later = refl

pub right_read : (limit n : ℕ) (ts : List Token) (xs : List Expected)
    → begins (may_open (room_to limit n) sign.OpenParenthesis) ts ≡ false
    → drive_to limit n (RightName ∷ xs) ts ≡ drive_to limit n (Index ∷ Tail ∷ xs) ts
unfolding drive_to next moved may_end
right_read limit n [] xs h = refl
right_read limit n (t ∷ ts) xs h = rw h (ap (read_on (length ts) (λ ys. drive_to limit (open_after t n) ys ts))
    (right_chosen (may_open (room_to limit n) sign.OpenBracket t) (nat_lt 0 (level_at t)) xs
    (next (room_to limit n) xs t)))

-- and alike with nothing more
same_move : (f : Token → Bool) (limit n : ℕ) (x y : Expected) (xs : List Expected) → may_be_empty x ≡ false
    → may_be_empty y ≡ false
    → ((t : Token) → f t ≡ false → moved_by (room_to limit n) (rule x) t ≡ moved_by (room_to limit n) (rule y) t)
    → (ts : List Token) → begins f ts ≡ false
    → drive_to limit n (x ∷ xs) ts ≡ drive_to limit n (y ∷ xs) ts
same_move f limit n x y xs a b e =
    alike f limit n x y xs [] a b (λ t h. e t h ∙ sym (whole (moved_by (room_to limit n) (rule y) t)))
  where
    whole : (m : Move) → and_then m [] ≡ m
    whole (taken ys) = ap taken (append-nil ys)
    whole passed = refl
    whole refused = refl

pub outside_variable : (limit n : ℕ) (ts : List Token) (xs : List Expected)
    → begins (may_open (room_to limit n) sign.OpenParenthesis) ts ≡ false
    → drive_to limit n (Outside ∷ xs) ts ≡ drive_to limit n (Variable ∷ xs) ts
outside_variable limit n ts xs = same_move (may_open (room_to limit n) sign.OpenParenthesis) limit n Outside Variable xs
    refl refl (λ t h. rw h refl) ts

pub branch_block : (limit n : ℕ) (ts : List Token) (xs : List Expected) → begins (is_keyword keyword.If) ts ≡ false
    → drive_to limit n (Branch ∷ xs) ts ≡ drive_to limit n (Block ∷ xs) ts
branch_block limit n ts xs = same_move (is_keyword keyword.If) limit n Branch Block xs refl refl (λ t h. rw h refl) ts

-- ---- the starts that each reader asks for

pub ruleset parameters_starts = (parameters_end, parameters_void, parameters_kind, no_parameters)

pub ruleset constant_starts = (constant_number, constant_minus, no_constant)

pub ruleset constants_starts = (constants_next, constants_done, no_more_constants)

pub ruleset shape_starts = (variable_array, variable_assign, variable_end, no_variable)

pub ruleset elements_starts = (elements_assign, elements_end, no_elements)

pub ruleset assigned_starts = (assigned_name, no_assigned)

pub ruleset head_starts = (loop_while, loop_for, no_loop)

pub ruleset at_loop_starts = (statement_while, loop_while, statement_for, loop_for)

pub ruleset arguments_starts = (arguments_end, arguments_next, arguments_done, arguments_operand, no_more_arguments)

pub ruleset right_starts = (right_name, right_call, right_operand, right_read)

pub ruleset simple_starts = (
  statement_kind,
  statement_name,
  statement_send,
  statement_break,
  statement_continue,
  statement_return,
  no_statement,
)

pub ruleset declaration_starts = (initial_assign, initial_end, no_initial)

pub ruleset named_starts = (after_name_assign, after_name_bracket, after_name_call, no_after_name)

pub ruleset given_starts = (given_none, given_operand)

pub ruleset conditional_starts = (else_more, branch_if, branch_block, no_else)

pub ruleset statement_starts = (statement_if, statement_bound, statement_brace)

pub ruleset item_starts = (items_kind, items_scratch, items_void, no_items)

pub ruleset outside_starts = (outside_function, outside_variable)
