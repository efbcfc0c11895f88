-- Each place has a text, whatever is after it.
use Rattle.std.proofs.Common.{◌≡◌, true, false, List, [], ◌∷◌, refl, subst}
use Rattle.c_tree.specs.declared.tokens.Token.{Token}
use Rattle.c_tree.specs.declared.tokens.Token.TheVariants as token
use Rattle.c_tree.specs.declared.tokens.Keyword.TheVariants as keyword
use Rattle.c_tree.specs.declared.tokens.Sign.TheVariants as sign
use Rattle.c_tree.specs.Tokens.{one, word}
use Rattle.c_parse.specs.Expected.{Expected, Only, Name, Number, Operand, Index, Tail, Right, RightName, Arguments, MoreArguments, Statements, Statement, PerhapsInt, Initial, AfterName, Condition, Block, Assigned, Test, Further, Loop, Given, Else, Branch, Items, Kind, Outside, Variable, Elements, Constant, MoreConstants, Parameters, MoreParameters, Move, taken, passed, moved, may_be_empty}
use Rattle.c_parse.specs.Sorts.{may_open, is_sign, is_keyword, is_name, is_number, is_bound, is_prefix, level_at}
use Rattle.c_parse.proofs.Written.{Written, Through}
use Rattle.c_parse.proofs.Gives.{Gives}
use Rattle.c_parse.proofs.Kept.{kept}

-- a text of the place, and of places one after another
abbrev Text : Expected → Type 0
Text x = (rest : List Token) → (ts : List Token) × Written x ts rest

abbrev Texts : List Expected → Type 0
Texts xs = (rest : List Token) → (ts : List Token) × Through xs ts rest

nothing : Texts []
nothing rest = (rest, refl)

behind : (x : Expected) (xs : List Expected) → Text x → Texts xs → Texts (x ∷ xs)
behind x xs f g rest =
    let later : (ts : List Token) × Through xs ts rest = g rest in
    let here : (ts : List Token) × Written x ts later.0 = f later.0 in
    (here.0, (later.0, here.1, later.1))

-- the place begins with this token
by : (x : Expected) (t : Token) (xs : List Expected) → moved true x t ≡ taken xs → Texts xs → Text x
by x t xs e f rest =
    let P : Move → Type 0 = λ m. Gives (Written x) t m in
    let g : Gives (Written x) t (taken xs) = subst P e (kept true x t) in
    let h : (ts : List Token) × Through xs ts rest = f rest in
    (t ∷ h.0, g.given h.0 rest h.1)

-- the place stays empty
stays : (x : Expected) (t : Token) → moved true x t ≡ passed → (rest : List Token) → Written x rest rest
stays x t e rest =
    let P : Move → Type 0 = λ m. Gives (Written x) t m in
    let g : Gives (Written x) t passed = subst P e (kept true x t) in
    g.given rest

empty : (x : Expected) (t : Token) → moved true x t ≡ passed → Text x
empty x t e rest = (rest, stays x t e rest)

nought : Token
nought = token.Number 0 false

only : (s : _) → Text (Only s)
only s rest = (one s ∷ rest, refl)

operand : Text Operand
unfolding moved is_number nought
operand = by Operand nought [] refl nothing

tail : Text Tail
unfolding moved level_at nought
tail = empty Tail nought refl

-- an expression, and these
expression : (xs : List Expected) → Texts xs → Texts (Operand ∷ Tail ∷ xs)
expression xs f = behind Operand (Tail ∷ xs) operand (behind Tail xs tail f)

signed : (s : _) → Texts (Only s ∷ [])
signed s = behind (Only s) [] (only s) nothing

condition : Text Condition
unfolding moved may_open is_sign
condition = by Condition (one sign.OpenParenthesis) (Operand ∷ Tail ∷ Only sign.CloseParenthesis ∷ []) refl
    (expression (Only sign.CloseParenthesis ∷ []) (signed sign.CloseParenthesis))

statements : Texts (Statements ∷ [])
unfolding moved is_sign
statements = behind Statements [] (by Statements (one sign.CloseBrace) [] refl nothing) nothing

block : Text Block
unfolding moved may_open is_sign
block = by Block (one sign.OpenBrace) (Statements ∷ []) refl statements

called : Texts (Arguments ∷ Only sign.Semicolon ∷ [])
unfolding moved is_sign
called = behind Arguments (Only sign.Semicolon ∷ []) (by Arguments (one sign.CloseParenthesis) [] refl nothing)
    (signed sign.Semicolon)

pub shortest : (x : Expected) → (rest : List Token) → (ts : List Token) × Written x ts rest
unfolding moved may_open is_sign is_keyword is_name is_number is_bound is_prefix level_at nought
shortest (Only s) = only s
shortest Name = λ rest. (token.Word [] ∷ rest, ([], refl))
shortest Number = λ rest. (nought ∷ rest, (0, false, refl))
shortest Operand = operand
shortest Tail = tail
shortest Right = by Right nought (Tail ∷ []) refl (behind Tail [] tail nothing)
shortest Arguments = by Arguments (one sign.CloseParenthesis) [] refl nothing
shortest MoreArguments = by MoreArguments (one sign.CloseParenthesis) [] refl nothing
shortest Statements = by Statements (one sign.CloseBrace) [] refl nothing
shortest Statement = by Statement (word keyword.Break) (Only sign.Semicolon ∷ []) refl (signed sign.Semicolon)
shortest Initial = by Initial (one sign.Semicolon) [] refl nothing
shortest AfterName = by AfterName (one sign.OpenParenthesis) (Arguments ∷ Only sign.Semicolon ∷ []) refl called
shortest Condition = condition
shortest Block = block
shortest Assigned = by Assigned (token.Word []) (Only sign.Assign ∷ Operand ∷ Tail ∷ []) refl
    (behind (Only sign.Assign) (Operand ∷ Tail ∷ []) (only sign.Assign) (expression [] nothing))
shortest Test = by Test (one sign.Semicolon) (Operand ∷ Tail ∷ Only sign.Semicolon ∷ []) refl
    (expression (Only sign.Semicolon ∷ []) (signed sign.Semicolon))
shortest Further = by Further (one sign.Comma) (Operand ∷ Tail ∷ []) refl (expression [] nothing)
shortest Loop = by Loop (word keyword.While) (Condition ∷ Block ∷ []) refl (behind Condition (Block ∷ []) condition
    (behind Block [] block nothing))
shortest Given = by Given (one sign.Semicolon) [] refl nothing
shortest Branch = by Branch (one sign.OpenBrace) (Statements ∷ []) refl statements
shortest Kind = by Kind (word keyword.Int) [] refl nothing
shortest Outside = by Outside (one sign.Semicolon) [] refl nothing
shortest Variable = by Variable (one sign.Semicolon) [] refl nothing
shortest Elements = by Elements (one sign.Semicolon) [] refl nothing
shortest Constant = by Constant nought [] refl nothing
shortest MoreConstants = by MoreConstants (one sign.CloseBrace) [] refl nothing
shortest Parameters = by Parameters (one sign.CloseParenthesis) [] refl nothing
shortest MoreParameters = by MoreParameters (one sign.CloseParenthesis) [] refl nothing
shortest other = empty other nought refl

-- what may stay empty, does
pub stays_empty : (x : Expected) (rest : List Token) → may_be_empty x ≡ true → Written x rest rest
unfolding moved may_open is_sign is_keyword level_at nought
stays_empty x rest = elim x as (λ x. may_be_empty x ≡ true → Written x rest rest) [
  | Index ↦ λ e. stays Index nought refl rest
  | Tail ↦ λ e. stays Tail nought refl rest
  | RightName ↦ λ e. stays RightName nought refl rest
  | PerhapsInt ↦ λ e. stays PerhapsInt nought refl rest
  | Else ↦ λ e. stays Else nought refl rest
  | Items ↦ λ e. stays Items nought refl rest
  | _ ↦ λ e. absurd (cc)
]
