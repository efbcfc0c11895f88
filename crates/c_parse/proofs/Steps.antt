-- One token more: what is to come, before and after it.
use Rattle.std.proofs.Common.{◌≡◌, ◌≢◌, ℕ, suc, ◌+◌, ◌<◌, Bool, true, false, nat_lt, List, [], ◌∷◌, ◌++◌, length, Some, None, ◌&&◌, refl, ap, arith, lit<, if◌then◌else◌}
use Rattle.std.proofs.lemmas.Grind.{common_steps}
use Rattle.c_tree.specs.declared.tokens.Token.{Token}
use Rattle.c_tree.specs.declared.tokens.Token.TheVariants as token
use Rattle.c_tree.specs.declared.tokens.Sign.{Sign}
use Rattle.c_tree.specs.declared.tokens.Sign.TheVariants as sign
use Rattle.c_tree.specs.declared.expressions.BinaryOp.{BinaryOp}
use Rattle.c_tree.specs.declared.expressions.BinaryOp.TheVariants as binary
use Rattle.c_tree.specs.declared.expressions.UnaryOp.{UnaryOp}
use Rattle.c_tree.specs.declared.expressions.UnaryOp.TheVariants as unary
use Rattle.c_tree.specs.Tokens.{one, binary_sign, unary_sign}
use Rattle.c_tree.specs.Fits.{open_after}
use Rattle.c_parse.proofs.Tests.{opens_itself, not_this, not_opened, this_sign, this_bracket}
use Rattle.c_parse.specs.Expected.{Expected, Only, Name, Number, Operand, Index, Tail, taken, passed, refused, may_be_empty, moved, moved_by, rule, next, followed, read_on, drive_to, may_end}
use Rattle.c_parse.specs.Readers.{level_ahead, begins}
use Rattle.c_parse.specs.Sorts.{is_sign, is_keyword, is_bound, is_name, is_number, is_prefix, may_open, opens_none, room_to, level_at, sign_level}

-- What cannot stand here, and where nothing cannot, is refused.
pub refuses : (limit n : ℕ) (x : Expected) (t : Token) (ts : List Token) (xs : List Expected)
    → moved_by (room_to limit n) (rule x) t ≡ refused → drive_to limit n (x ∷ xs) (t ∷ ts) ≡ Some (suc (length ts))
unfolding drive_to next moved
refuses limit n x t ts xs h = ap (λ m. read_on (length ts) (λ ys. drive_to limit (open_after t n) ys ts)
    (followed m xs (next (room_to limit n) xs t))) h

-- a place stays empty
pub passes : (limit n : ℕ) (x : Expected) (t : Token) (ts : List Token) (xs : List Expected)
    → moved_by (room_to limit n) (rule x) t ≡ passed → drive_to limit n (x ∷ xs) (t ∷ ts) ≡ drive_to limit n xs (t ∷ ts)
unfolding drive_to next moved
passes limit n x t ts xs h = ap (λ m. read_on (length ts) (λ ys. drive_to limit (open_after t n) ys ts)
    (followed m xs (next (room_to limit n) xs t))) h

-- a token is taken
pub takes : (limit n : ℕ) (x : Expected) (t : Token) (ts : List Token) (xs ys : List Expected)
    → moved_by (room_to limit n) (rule x) t ≡ taken ys → drive_to limit n (x ∷ xs) (t ∷ ts)
    ≡ drive_to limit (open_after t n) (ys ++ xs) ts
unfolding drive_to next moved
takes limit n x t ts xs ys h = ap (λ m. read_on (length ts) (λ zs. drive_to limit (open_after t n) zs ts)
    (followed m xs (next (room_to limit n) xs t))) h

-- No token is there: a place that may stay empty does.
pub is_short : (limit n : ℕ) (x : Expected) (xs : List Expected) → may_be_empty x ≡ false → drive_to limit n (x ∷ xs) []
    ≡ Some 0
unfolding drive_to may_end
is_short limit n x xs h = ap (λ b. if b && may_end xs then None else Some 0) h

pub stays_out : (limit n : ℕ) (x : Expected) (xs : List Expected) → may_be_empty x ≡ true → drive_to limit n (x ∷ xs) []
    ≡ drive_to limit n xs []
unfolding drive_to may_end
stays_out limit n x xs h = ap (λ b. if b && may_end xs then None else Some 0) h

-- what a token that is known is asked
unfoldable pub tests : ℕ
unfolding is_keyword is_sign is_name is_number is_bound may_open is_prefix level_at
tests = 0

-- and where it opens a bracket, if there is room
unfoldable pub tests_of_room : ℕ
unfolding is_keyword is_sign is_name is_number is_bound
tests_of_room = 0

-- ---- single tokens

pub no_sign : (limit n : ℕ) (s : Sign) (ts : List Token) (xs : List Expected) → begins (is_sign s) ts ≡ false
    → drive_to limit n (Only s ∷ xs) ts ≡ Some (length ts)
no_sign limit n s [] xs h = is_short limit n (Only s) xs refl
no_sign limit n s (t ∷ ts) xs h =
    refuses limit n (Only s) t ts xs (ap (λ b. if b then taken [] else refused) (not_this (room_to limit n) s t h))

pub no_bracket : (limit n : ℕ) (s : Sign) (ts : List Token) (xs : List Expected) → opens_none s ≡ false
    → begins (may_open (room_to limit n) s) ts ≡ false → drive_to limit n (Only s ∷ xs) ts ≡ Some (length ts)
no_bracket limit n s [] xs o h = is_short limit n (Only s) xs refl
no_bracket limit n s (t ∷ ts) xs o h =
    refuses limit n (Only s) t ts xs (ap (λ b. if b then taken [] else refused) (not_opened (room_to limit n) s t o h))

pub no_name : (limit n : ℕ) (ts : List Token) (xs : List Expected) → begins is_name ts ≡ false
    → drive_to limit n (Name ∷ xs) ts ≡ Some (length ts)
no_name limit n [] xs h = is_short limit n Name xs refl
no_name limit n (t ∷ ts) xs h = refuses limit n Name t ts xs (rw h)

pub no_number : (limit n : ℕ) (ts : List Token) (xs : List Expected) → begins is_number ts ≡ false
    → drive_to limit n (Number ∷ xs) ts ≡ Some (length ts)
no_number limit n [] xs h = is_short limit n Number xs refl
no_number limit n (t ∷ ts) xs h = refuses limit n Number t ts xs (rw h)

pub sign_read : (limit n : ℕ) (s : Sign) (ts : List Token) (xs : List Expected) → opens_none s ≡ true
    → drive_to limit n (Only s ∷ xs) (one s ∷ ts) ≡ drive_to limit (open_after (one s) n) xs ts
sign_read limit n s ts xs o = takes limit n (Only s) (one s) ts xs [] (ap (λ b. if b then taken [] else refused)
    (this_sign (room_to limit n) s o))

pub bracket_read : (limit n : ℕ) (s : Sign) (ts : List Token) (xs : List Expected) → opens_none s ≡ false → n < limit
    → drive_to limit n (Only s ∷ xs) (one s ∷ ts) ≡ drive_to limit (open_after (one s) n) xs ts
bracket_read limit n s ts xs o h =
    takes limit n (Only s) (one s) ts xs [] (ap (λ b. if b then taken [] else refused) (this_bracket limit n s o h))

pub name_read : (limit n : ℕ) (w : List ℕ) (ts : List Token) (xs : List Expected)
    → drive_to limit n (Name ∷ xs) (token.Word w ∷ ts) ≡ drive_to limit n xs ts
name_read limit n w ts xs = takes limit n Name (token.Word w) ts xs [] (unfold tests in refl)

pub number_read : (limit n v : ℕ) (u : Bool) (ts : List Token) (xs : List Expected)
    → drive_to limit n (Number ∷ xs) (token.Number v u ∷ ts) ≡ drive_to limit n xs ts
number_read limit n v u ts xs = takes limit n Number (token.Number v u) ts xs [] (unfold tests in refl)

-- ---- operands

pub operand_number : (limit n v : ℕ) (u : Bool) (ts : List Token) (xs : List Expected)
    → drive_to limit n (Operand ∷ xs) (token.Number v u ∷ ts) ≡ drive_to limit n xs ts
operand_number limit n v u ts xs = takes limit n Operand (token.Number v u) ts xs [] (unfold tests in refl)

pub operand_name : (limit n : ℕ) (w : List ℕ) (ts : List Token) (xs : List Expected)
    → drive_to limit n (Operand ∷ xs) (token.Word w ∷ ts) ≡ drive_to limit n (Index ∷ xs) ts
operand_name limit n w ts xs = takes limit n Operand (token.Word w) ts xs (Index ∷ []) (unfold tests in refl)

pub operand_paren : (limit n : ℕ) (ts : List Token) (xs : List Expected) → n < limit
    → drive_to limit n (Operand ∷ xs) (one sign.OpenParenthesis ∷ ts)
    ≡ drive_to limit (n + 1) (Operand ∷ Tail ∷ Only sign.CloseParenthesis ∷ xs) ts
operand_paren limit n ts xs h = takes limit n Operand (one sign.OpenParenthesis) ts xs
    (Operand ∷ Tail ∷ Only sign.CloseParenthesis ∷ []) (unfold tests_of_room in (rw opens_itself))

pub operand_prefix : (limit n : ℕ) (op : UnaryOp) (ts : List Token) (xs : List Expected)
    → drive_to limit n (Operand ∷ xs) (one (unary_sign op) ∷ ts) ≡ drive_to limit n (Operand ∷ xs) ts
unfolding moved is_number is_name may_open is_sign is_prefix
operand_prefix limit n unary.Minus ts xs = takes limit n Operand (one sign.Minus) ts xs (Operand ∷ []) refl
operand_prefix limit n op ts xs = takes limit n Operand (one (unary_sign op)) ts xs (Operand ∷ []) refl

pub no_operand : (limit n : ℕ) (ts : List Token) (xs : List Expected) → begins is_number ts ≡ false
    → begins is_name ts ≡ false
    → begins (may_open (room_to limit n) sign.OpenParenthesis) ts ≡ false → begins is_prefix ts ≡ false
    → drive_to limit n (Operand ∷ xs) ts ≡ Some (length ts)
no_operand limit n [] xs a b c d = is_short limit n Operand xs refl
no_operand limit n (t ∷ ts) xs a b c d = refuses limit n Operand t ts xs (rw (a, b, c, d))

-- ---- after an operand

pub index_bracket : (limit n : ℕ) (ts : List Token) (xs : List Expected) → n < limit
    → drive_to limit n (Index ∷ xs) (one sign.OpenBracket ∷ ts)
    ≡ drive_to limit (n + 1) (Operand ∷ Tail ∷ Only sign.CloseBracket ∷ xs) ts
index_bracket limit n ts xs h = takes limit n Index (one sign.OpenBracket) ts xs
    (Operand ∷ Tail ∷ Only sign.CloseBracket ∷ []) (unfold tests_of_room in (rw opens_itself))

pub no_index : (limit n : ℕ) (ts : List Token) (xs : List Expected)
    → begins (may_open (room_to limit n) sign.OpenBracket) ts ≡ false → drive_to limit n (Index ∷ xs) ts
    ≡ drive_to limit n xs ts
no_index limit n [] xs h = stays_out limit n Index xs refl
no_index limit n (t ∷ ts) xs h = passes limit n Index t ts xs (rw h)

pub tail_operator : (limit n : ℕ) (op : BinaryOp) (ts : List Token) (xs : List Expected)
    → drive_to limit n (Tail ∷ xs) (one (binary_sign op) ∷ ts) ≡ drive_to limit n (Operand ∷ Tail ∷ xs) ts
unfolding moved level_at
tail_operator limit n binary.Or ts xs = takes limit n Tail (one sign.Or) ts xs (Operand ∷ Tail ∷ []) refl
tail_operator limit n op ts xs = takes limit n Tail (one (binary_sign op)) ts xs (Operand ∷ Tail ∷ []) refl

pub no_tail : (limit n : ℕ) (ts : List Token) (xs : List Expected) → level_ahead ts < 1
    → drive_to limit n (Tail ∷ xs) ts ≡ drive_to limit n xs ts
no_tail limit n [] xs h = stays_out limit n Tail xs refl
no_tail limit n (t ∷ ts) xs h =
    let none : nat_lt 0 (level_at t) ≡ false = grind (arith, common_steps) in passes limit n Tail t ts xs (rw none)

-- levels are at most 10
pub level_small : (ts : List Token) → level_ahead ts < 11
unfolding level_at
level_small [] = lit< tt
level_small (token.Sign s ∷ ts) = sign_small s
  where
    sign_small : (s : Sign) → sign_level s < 11
    sign_small sign.OpenParenthesis = lit< tt
    sign_small _ = lit< tt
level_small (t ∷ ts) = lit< tt

-- nothing is to come any more
pub none_behind : (limit n : ℕ) (ts : List Token) → ts ≢ [] → drive_to limit n [] ts ≡ Some (length ts)
unfolding drive_to next
none_behind limit n [] h = absurd (h refl)
none_behind limit n (t ∷ ts) h = refl

-- ---- a token that is read, and one that is refused

pub ruleset sign_steps = (sign_read, no_sign)

pub ruleset primary_steps = (operand_number, operand_name, operand_paren, no_operand)

pub ruleset number_steps = (number_read, no_number)

pub ruleset bracket_steps = (bracket_read, no_bracket)

pub ruleset name_steps = (name_read, no_name)
