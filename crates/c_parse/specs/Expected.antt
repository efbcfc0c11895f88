-- To be believed. What comes next: what a program may go on with, as a stack of places that are still to be filled.
--
-- A text of our subset is read from left to right, and one token decides how it goes on. `Expected` has the places of
-- the grammar, and `rule` what each is written as: by the token that comes next, what is to come after it.
-- `next` is what one token makes of all that is to come, and `drive` reads token after token.
use Rattle.std.specs.Prelude.{ℕ, suc, Bool, true, false, ◌&&◌, List, [], ◌∷◌, ◌++◌, length, Option, None, Some, if◌then◌else◌}
use Rattle.c_tree.specs.declared.tokens.Token.{Token}
use Rattle.c_tree.specs.declared.tokens.Keyword.TheVariants as keyword
use Rattle.c_tree.specs.declared.tokens.Sign.{Sign}
use Rattle.c_tree.specs.declared.tokens.Sign.TheVariants.{OpenParenthesis, CloseParenthesis, OpenBracket, CloseBracket, OpenBrace, CloseBrace, Semicolon, Comma, Assign, Minus}
use Rattle.c_tree.specs.Fits.{open_after}
use Rattle.c_parse.specs.Sorts.{Sort, a_sign, a_word, a_name, a_number, a_bound, a_prefix, an_operator, is_a, room_to}

-- ---- the places

pub data Expected : Type 0 where
  -- this sign; a name; a number
  Only : Sign → Expected
  Name : Expected
  Number : Expected
  -- an operand, an index after a name, and further operands
  Operand : Expected
  Index : Expected
  Tail : Expected
  -- a right side, and what is after its name
  Right : Expected
  RightName : Expected
  -- arguments and the parenthesis that ends them, and that after an argument
  Arguments : Expected
  MoreArguments : Expected
  -- statements and the brace that ends them, and one statement
  Statements : Expected
  Statement : Expected
  -- what is after the name of a variable in a block, after a name that begins a statement, and after `return`; one of
  -- the words of a sending after the first
  Initial : Expected
  AfterName : Expected
  Given : Expected
  Further : Expected
  -- a condition in parentheses, and a block in braces; `else`, and what is after it
  Condition : Expected
  Block : Expected
  Else : Expected
  Branch : Expected
  -- a loop; in a `for` an assignment, and the test between its semicolons
  Loop : Expected
  Assigned : Expected
  Test : Expected
  -- all declarations; what is after the name of a function or a variable outside functions
  Items : Expected
  Outside : Expected
  -- a kind, and `int` after `unsigned`
  Kind : Expected
  PerhapsInt : Expected
  -- what is after the name of a variable or an array, and after an array's length
  Variable : Expected
  Elements : Expected
  -- a constant with its sign, and what is after one in braces
  Constant : Expected
  MoreConstants : Expected
  -- parameters and the parenthesis that ends them, and that after a parameter
  Parameters : Expected
  MoreParameters : Expected

-- ---- the rules

infixr 4 ◌⇒◌∣◌
pub data Rule : Type 0 where
  -- a token of this sort, and then these are to come; or else by that rule
  ◌⇒◌∣◌ : Sort → List Expected → Rule → Rule
  -- by that rule, and then these are to come
  as_in : Rule → List Expected → Rule
  -- the place may stay empty, and the token is after it
  or_empty : Rule
  -- no other token can stand here
  nothing_else : Rule

abbrev pub operand : Rule
operand =
    a_number ⇒ []
    ∣ a_name ⇒ Index ∷ []
    ∣ a_sign OpenParenthesis ⇒ Operand ∷ Tail ∷ Only CloseParenthesis ∷ []
    ∣ a_prefix ⇒ Operand ∷ []
    ∣ nothing_else

abbrev pub loop : Rule
loop =
    a_word keyword.While ⇒ Condition ∷ Block ∷ []
    ∣ a_word keyword.For ⇒ Only OpenParenthesis ∷ Assigned ∷ Test ∷ Assigned ∷ Only CloseParenthesis ∷ Block ∷ []
    ∣ nothing_else

abbrev pub statement : Rule
statement =
    a_word keyword.Int ⇒ Name ∷ Initial ∷ []
    ∣ a_word keyword.Unsigned ⇒ PerhapsInt ∷ Name ∷ Initial ∷ []
    ∣ a_name ⇒ AfterName ∷ []
    ∣ a_word keyword.Send ⇒ Only OpenParenthesis ∷ Number ∷ Further ∷ Further ∷ Further
    ∷ Only CloseParenthesis ∷ Only Semicolon ∷ []
    ∣ a_word keyword.If ⇒ Condition ∷ Block ∷ Else ∷ []
    ∣ a_bound ⇒ Loop ∷ []
    ∣ a_word keyword.Break ⇒ Only Semicolon ∷ []
    ∣ a_word keyword.Continue ⇒ Only Semicolon ∷ []
    ∣ a_word keyword.Return ⇒ Given ∷ []
    ∣ a_sign OpenBrace ⇒ Statements ∷ []
    ∣ loop

abbrev pub block : Rule
block = a_sign OpenBrace ⇒ Statements ∷ [] ∣ nothing_else

abbrev pub kind : Rule
kind = a_word keyword.Int ⇒ [] ∣ a_word keyword.Unsigned ⇒ PerhapsInt ∷ [] ∣ nothing_else

abbrev pub variable : Rule
variable =
    a_sign OpenBracket ⇒ Number ∷ Only CloseBracket ∷ Elements ∷ []
    ∣ a_sign Assign ⇒ Constant ∷ Only Semicolon ∷ []
    ∣ a_sign Semicolon ⇒ []
    ∣ nothing_else

abbrev pub rule : Expected → Rule
-- single tokens
rule (Only s) = a_sign s ⇒ [] ∣ nothing_else
rule Name = a_name ⇒ [] ∣ nothing_else
rule Number = a_number ⇒ [] ∣ nothing_else
-- expressions
rule Operand = operand
rule Index = a_sign OpenBracket ⇒ Operand ∷ Tail ∷ Only CloseBracket ∷ [] ∣ or_empty
rule Tail = an_operator ⇒ Operand ∷ Tail ∷ [] ∣ or_empty
-- right sides and arguments
rule Right = a_name ⇒ RightName ∷ [] ∣ as_in operand (Tail ∷ [])
rule RightName =
    a_sign OpenParenthesis ⇒ Arguments ∷ []
    ∣ a_sign OpenBracket ⇒ Operand ∷ Tail ∷ Only CloseBracket ∷ Tail ∷ []
    ∣ an_operator ⇒ Operand ∷ Tail ∷ []
    ∣ or_empty
rule Arguments = a_sign CloseParenthesis ⇒ [] ∣ as_in operand (Tail ∷ MoreArguments ∷ [])
rule MoreArguments =
    a_sign Comma ⇒ Operand ∷ Tail ∷ MoreArguments ∷ [] ∣ a_sign CloseParenthesis ⇒ [] ∣ nothing_else
-- statements
rule Statements = a_sign CloseBrace ⇒ [] ∣ as_in statement (Statements ∷ [])
rule Statement = statement
rule Initial =
    a_sign Assign ⇒ Right ∷ Only Semicolon ∷ [] ∣ a_sign Semicolon ⇒ [] ∣ nothing_else
rule AfterName =
    a_sign Assign ⇒ Right ∷ Only Semicolon ∷ []
    ∣ a_sign OpenBracket ⇒ Operand ∷ Tail ∷ Only CloseBracket ∷ Only Assign ∷ Right ∷ Only Semicolon ∷ []
    ∣ a_sign OpenParenthesis ⇒ Arguments ∷ Only Semicolon ∷ []
    ∣ nothing_else
rule Given = a_sign Semicolon ⇒ [] ∣ as_in operand (Tail ∷ Only Semicolon ∷ [])
rule Further = a_sign Comma ⇒ Operand ∷ Tail ∷ [] ∣ nothing_else
-- `if` and loops
rule Condition = a_sign OpenParenthesis ⇒ Operand ∷ Tail ∷ Only CloseParenthesis ∷ [] ∣ nothing_else
rule Block = block
rule Else = a_word keyword.Else ⇒ Branch ∷ [] ∣ or_empty
rule Branch = a_word keyword.If ⇒ Condition ∷ Block ∷ Else ∷ [] ∣ block
rule Loop = loop
rule Assigned = a_name ⇒ Only Assign ∷ Operand ∷ Tail ∷ [] ∣ nothing_else
rule Test = a_sign Semicolon ⇒ Operand ∷ Tail ∷ Only Semicolon ∷ [] ∣ nothing_else
-- declarations outside functions
rule Items =
    a_word keyword.Int ⇒ Name ∷ Outside ∷ Items ∷ []
    ∣ a_word keyword.Unsigned ⇒ PerhapsInt ∷ Name ∷ Outside ∷ Items ∷ []
    ∣ a_word keyword.Scratchpad ⇒ Kind ∷ Name ∷ Variable ∷ Items ∷ []
    ∣ a_word keyword.Void ⇒ Name ∷ Only OpenParenthesis ∷ Parameters ∷ Block ∷ Items ∷ []
    ∣ or_empty
rule Outside = a_sign OpenParenthesis ⇒ Parameters ∷ Block ∷ [] ∣ variable
rule Kind = kind
rule PerhapsInt = a_word keyword.Int ⇒ [] ∣ or_empty
rule Variable = variable
rule Elements =
    a_sign Assign ⇒ Only OpenBrace ∷ Constant ∷ MoreConstants ∷ Only Semicolon ∷ []
    ∣ a_sign Semicolon ⇒ []
    ∣ nothing_else
rule Constant = a_number ⇒ [] ∣ a_sign Minus ⇒ Number ∷ [] ∣ nothing_else
rule MoreConstants =
    a_sign Comma ⇒ Constant ∷ MoreConstants ∷ [] ∣ a_sign CloseBrace ⇒ [] ∣ nothing_else
rule Parameters =
    a_sign CloseParenthesis ⇒ []
    ∣ a_word keyword.Void ⇒ Only CloseParenthesis ∷ []
    ∣ as_in kind (Name ∷ MoreParameters ∷ [])
rule MoreParameters =
    a_sign Comma ⇒ Kind ∷ Name ∷ MoreParameters ∷ [] ∣ a_sign CloseParenthesis ⇒ [] ∣ nothing_else

-- ---- one token

-- What a token makes of a place: it is taken, and these are to come; the place stays empty and the token is after it;
-- or it cannot stand there.
pub data Move : Type 0 where
  taken : List Expected → Move
  passed : Move
  refused : Move

-- with these to come after what the token makes
abbrev pub and_then : Move → List Expected → Move
and_then m S = elim m as (λ _. Move) [ taken xs ↦ taken (xs ++ S) | passed ↦ passed | refused ↦ refused ]

-- what the token makes by a rule, where there is room for one more bracket or not
abbrev pub moved_by : Bool → Rule → Token → Move
moved_by room (sort ⇒ xs ∣ r) t = if is_a room sort t then taken xs else moved_by room r t
moved_by room (as_in r xs) t = and_then (moved_by room r t) xs
moved_by room or_empty t = passed
moved_by room nothing_else t = refused

unfoldable pub moved : Bool → Expected → Token → Move
moved room x t = moved_by room (rule x) t

-- what a token has made of the first place, with these after it, of which it would make that
abbrev pub followed : Move → List Expected → Option (List Expected) → Option (List Expected)
followed m xs later =
    elim m as (λ _. Option (List Expected)) [ taken ys ↦ Some (ys ++ xs) | passed ↦ later | refused ↦ None ]

-- what a token makes of all that is to come: nothing, if it cannot come next
unfoldable pub next : Bool → List Expected → Token → Option (List Expected)
next room [] t = None
next room (x ∷ xs) t = followed (moved room x t) xs (next room xs t)

-- ---- token after token

-- by the rule the place may stay empty
abbrev pub empty_by : Rule → Bool
empty_by (sort ⇒ xs ∣ r) = empty_by r
empty_by (as_in r xs) = empty_by r
empty_by or_empty = true
empty_by nothing_else = false

abbrev pub may_be_empty : Expected → Bool
may_be_empty x = empty_by (rule x)

-- the tokens may end: all that is to come may stay empty
unfoldable pub may_end : List Expected → Bool
may_end [] = true
may_end (x ∷ xs) = may_be_empty x && may_end xs

-- what is left, if the token before so many cannot come next, and else what comes of the rest
abbrev pub read_on : ℕ → (List Expected → Option ℕ) → Option (List Expected) → Option ℕ
read_on left rest now = elim now as (λ _. Option ℕ) [ None ↦ Some (suc left) | Some ys ↦ rest ys ]

-- Reads the tokens where this is to come, with so many brackets open, of as many as may be: nothing, if the tokens can
-- all come and end there, else how many are left where the next of them cannot come (none, if more would have to come).
unfoldable pub drive_to : ℕ → ℕ → List Expected → List Token → Option ℕ
drive_to limit n xs [] = if may_end xs then None else Some 0
drive_to limit n xs (t ∷ ts) =
    read_on (length ts) (λ ys. drive_to limit (open_after t n) ys ts) (next (room_to limit n) xs t)

-- How many tokens are left, where at most 64 brackets may be open at once.
abbrev pub drive : ℕ → List Expected → List Token → Option ℕ
drive n xs ts = drive_to 64 n xs ts
