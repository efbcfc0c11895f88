-- The tokens of a fitting tree are read as a program, and as its plain tree.
use Rattle.std.proofs.Common.{◌≡◌, ℕ, ◌+◌, ◌-◌, ◌≤◌, Bool, true, false, List, [], ◌∷◌, ◌++◌, length, map, Option, None, Some, IsTrue, refl, ap, sym, ◌∙◌, append_assoc, arith}
use Rattle.std.specs.List.{AllByRecursion as Each}
use Rattle.c_tree.specs.declared.tokens.Token.{Token}
use Rattle.c_tree.specs.declared.tokens.Token.TheVariants as token
use Rattle.c_tree.specs.declared.tokens.Keyword.TheVariants as keyword
use Rattle.c_tree.specs.declared.tokens.Sign.TheVariants as sign
use Rattle.c_tree.specs.declared.statements.Kind.{Kind as KindOf}
use Rattle.c_tree.specs.declared.statements.Stmt.{Stmt}
use Rattle.c_tree.specs.declared.units.Const.{Const}
use Rattle.c_tree.specs.declared.units.Length.{Length}
use Rattle.c_tree.specs.declared.units.Global.{Global}
use Rattle.c_tree.specs.declared.units.Parameter.{Parameter}
use Rattle.c_tree.specs.declared.units.Function.{Function}
use Rattle.c_tree.specs.declared.units.Item.{Item}
use Rattle.c_tree.specs.declared.units.Item.TheVariants as item
use Rattle.c_tree.specs.declared.units.Unit.{Unit as Program}
use Rattle.c_tree.specs.Tokens.{kind_tokens, const_tokens, consts_tokens, initials_tokens, shape_tokens, parameters_tokens, gives_tokens, body_tokens, stmt_tokens, global_tokens, item_tokens, items_tokens, tokens_of, one}
use Rattle.c_tree.specs.Fits.{StmtFits, GlobalFits, FunctionFits, ItemFits, GrammarFits, most_open}
use Rattle.c_parse.specs.Expected.{Expected, Only, Name, Statements, Block, Items, Variable, Elements, Constant, MoreConstants, Parameters, MoreParameters, drive_to, may_end}
use Rattle.c_parse.specs.Expected as expected
use Rattle.c_parse.specs.Readers.{begins, KindEnds, listed}
use Rattle.c_parse.specs.Sorts.{is_sign, is_keyword}
use Rattle.std.specs.Prelude.{⊤}
use Rattle.c_tree.specs.Plain.{PlainBlock, PlainItem, global, function, plain_stmt, plain_item}
use Rattle.c_tree.specs.Plains.{block_of}
use Rattle.c_parse.specs.Tree.{Reader, skip, statements, constant, constants, further_constants, elements, shape_at, parameters_at, parameters, function_of, statements_of, items, on}
use Rattle.c_parse.proofs.Tests.{may_not_open}
use Rattle.c_parse.proofs.Steps.{sign_read, bracket_read, name_read, number_read}
use Rattle.c_parse.proofs.Starts.{statements_end, statements_statement, items_kind, items_scratch, items_void, kind_kind, outside_function, outside_variable, variable_array, variable_assign, variable_end, elements_assign, elements_end, constant_number, constant_minus, constants_next, constants_done, parameters_end, parameters_void, parameters_kind, parameters_next, parameters_done}
use Rattle.c_parse.proofs.Driven.{Goes, and_on, along, stay, as_by, renamed, step, open_step, open_again, closes, back}
use Rattle.c_parse.proofs.Stated.{semicolon, kind_go, block_from, statements_past, stmt_goes, stmt_begins, stmt_no_else, closing_no_else, NoElse}

-- ---- variables

constant_goes : (c : Const) (limit n : ℕ) (xs : List Expected) (k : Const → Reader) (rest : List Token)
    → Goes limit n (Constant ∷ xs) (constant k) (const_tokens c ++ rest) n xs (k c) rest
unfolding on is_sign
constant_goes c limit n xs k rest = signed c.negative c.value c.unsigned
  where
    signed : (b : Bool) (v : ℕ) (u : Bool)
        → Goes limit n (Constant ∷ xs) (constant k) (const_tokens (record { negative = b; value = v; unsigned = u })
        ++ rest) n xs (k (record { negative = b; value = v; unsigned = u })) rest
    signed true v u = and_on (step (constant_minus limit n _ xs)) (step (number_read limit n v u rest xs))
    signed false v u = step (constant_number limit n v u rest xs)

constants_go : (c : Const) (cs : List Const) (limit n : ℕ) (xs : List Expected) (k : List Const → Reader)
    (rest : List Token)
    → Goes limit n (Constant ∷ MoreConstants ∷ xs) (constants k) (consts_tokens (c ∷ cs) ++ one sign.CloseBrace ∷ rest)
    (n - 1) xs (k (c ∷ cs)) rest
unfolding constants on is_sign
constants_go c [] limit n xs k rest = and_on (constant_goes c limit n (MoreConstants ∷ xs)
    (λ c. further_constants (λ cs. k (c ∷ cs))) _) (step (constants_done limit n rest xs))
constants_go c (d ∷ cs) limit n xs k rest =
    along (append_assoc (const_tokens c) (one sign.Comma ∷ consts_tokens (d ∷ cs)) (one sign.CloseBrace ∷ rest))
    (and_on (constant_goes c limit n (MoreConstants ∷ xs) (λ c. further_constants (λ cs. k (c ∷ cs))) _)
    (and_on (step (constants_next limit n _ xs)) (constants_go d cs limit n xs (λ cs. k (c ∷ cs)) rest)))

elements_go : (cs : List Const) (limit n : ℕ) (xs : List Expected) (k : List Const → Reader) (rest : List Token)
    → Goes limit n (Elements ∷ xs) (elements k) (initials_tokens cs ++ one sign.Semicolon ∷ rest) n xs (k cs) rest
unfolding on is_sign
elements_go [] limit n xs k rest = step (elements_end limit n rest xs)
elements_go (c ∷ cs) limit n xs k rest =
    along (simp append_assoc) (and_on (step (elements_assign limit n _ xs))
    (and_on (open_step (one sign.OpenBrace) refl (bracket_read limit n sign.OpenBrace _ _ refl))
    (and_on (open_again (back n) (constants_go c cs limit (n + 1) (Only sign.Semicolon ∷ xs) _ _))
    (semicolon limit n xs rest))))

shape_goes : (r : Reader) (k : Option Length → List Const → Reader) → ((t : Token) → is_sign sign.OpenParenthesis t
    ≡ false → on r t ≡ shape_at t k)
    → (l : Option Length) (cs : List Const) → (elim l as (λ _. Type 0) [ None ↦ length cs ≤ 1 | Some l ↦ ⊤ ])
    → (limit n : ℕ) (xs : List Expected) (rest : List Token)
    → Goes limit n (Variable ∷ xs) r (shape_tokens l cs ++ one sign.Semicolon ∷ rest) n xs (k l cs) rest
unfolding on is_sign
shape_goes r k is None [] f limit n xs rest = and_on (step (variable_end limit n rest xs)) (renamed (is _ refl))
shape_goes r k is None (c ∷ []) f limit n xs rest =
    and_on (step (variable_assign limit n _ xs)) (and_on (renamed (is _ refl))
    (and_on (constant_goes c limit n (Only sign.Semicolon ∷ xs) (λ c. skip (k None (c ∷ []))) _)
    (semicolon limit n xs rest)))
shape_goes r k is None (c ∷ d ∷ cs) f limit n xs rest = absurd (omega (arith, f))
shape_goes r k is (Some l) cs f limit n xs rest =
    and_on (open_step (one sign.OpenBracket) refl (variable_array limit n _ xs)) (and_on (renamed (is _ refl))
    (and_on (step (number_read limit (n + 1) l.value l.unsigned _ _))
    (and_on (closes limit n sign.CloseBracket _ _ (back n) refl) (elements_go cs limit n xs (k (Some l)) rest))))

shape_no_call : (l : Option Length) (cs : List Const) (rest : List Token)
    → begins (is_sign sign.OpenParenthesis) (shape_tokens l cs ++ one sign.Semicolon ∷ rest) ≡ false
unfolding is_sign
shape_no_call None [] rest = refl
shape_no_call None (c ∷ cs) rest = refl
shape_no_call (Some l) cs rest = refl

-- ---- functions

-- parameters, where their kinds may come
some_parameters_go : (p : Parameter) (ps : List Parameter) (limit n : ℕ) (ws xs : List Expected) (r : Reader)
    (k : List Parameter → Reader)
    → ((q : KindOf) (ts : List Token) → KindEnds q ts → drive_to limit n ws (kind_tokens q ++ ts)
    ≡ drive_to limit n (Name ∷ MoreParameters ∷ xs) ts)
    → ((t : Token) → is_sign sign.CloseParenthesis t ≡ false → is_keyword keyword.Void t ≡ false → on r t
    ≡ parameters_at t k)
    → (rest : List Token) → Goes limit n ws r (parameters_tokens (p ∷ ps) ++ one sign.CloseParenthesis ∷ rest) (n
    - 1) xs (k (p ∷ ps)) rest
unfolding on is_sign is_keyword parameters_at
some_parameters_go p [] limit n ws xs r k a is rest =
    along (append_assoc (kind_tokens p.kind) (token.Word p.name ∷ []) (one sign.CloseParenthesis ∷ rest))
    (and_on (kind_go r _ (is _ refl refl) (is _ refl refl) p.kind p.name _ (a p.kind _))
    (and_on (step (name_read limit n p.name _ _)) (step (parameters_done limit n rest xs))))
some_parameters_go p (q ∷ ps) limit n ws xs r k a is rest =
    along (append_assoc (kind_tokens p.kind) (token.Word p.name ∷ one sign.Comma ∷ parameters_tokens (q ∷ ps))
    (one sign.CloseParenthesis ∷ rest))
    (and_on (kind_go r _ (is _ refl refl) (is _ refl refl) p.kind p.name _ (a p.kind _))
    (and_on (step (name_read limit n p.name _ _)) (and_on (step (parameters_next limit n _ xs))
    (some_parameters_go q ps limit n (expected.Kind ∷ Name ∷ MoreParameters ∷ xs) xs _ (λ ps. k (p ∷ ps))
    (λ q ts. kind_kind limit n q ts (Name ∷ MoreParameters ∷ xs)) (λ t a b. refl) rest))))

-- parameters, or `void` for none
listed_go : (b : Bool) (ps : List Parameter) → (IsTrue b → ps ≡ []) → (limit n : ℕ) (xs : List Expected)
    (k : Bool → List Parameter → Reader) (rest : List Token)
    → Goes limit n (Parameters ∷ xs) (parameters k) (listed b ps ++ one sign.CloseParenthesis ∷ rest) (n
    - 1) xs (k b ps) rest
unfolding on is_sign is_keyword parameters
listed_go true ps none limit n xs k rest =
    and_on (step (parameters_void limit n _ xs)) (and_on (step (sign_read limit n sign.CloseParenthesis rest xs refl))
    (renamed (ap (k true) (sym (none refl)))))
listed_go false [] none limit n xs k rest = step (parameters_end limit n rest xs)
listed_go false (p ∷ ps) none limit n xs k rest =
    some_parameters_go p ps limit n (Parameters ∷ xs) xs _ (k false) (λ q ts. parameters_kind limit n q ts xs)
    (λ t a b. rw (a, b) refl) rest

body_no_else : (body : List Stmt) → Each StmtFits body → (rest : List Token)
    → NoElse (body_tokens body ++ one sign.CloseBrace ∷ rest)
body_no_else [] f rest = closing_no_else rest
body_no_else (s ∷ body) f rest =
    ap (begins (is_keyword keyword.Else)) (append_assoc (stmt_tokens s) (body_tokens body) (one sign.CloseBrace ∷ rest))
    ∙ stmt_no_else s f.0 _

body_goes : (body : List Stmt) → Each StmtFits body → (limit n : ℕ) (xs : List Expected) (k : PlainBlock → Reader)
    (rest : List Token)
    → Goes limit n (Statements ∷ xs) (statements k) (body_tokens body ++ one sign.CloseBrace ∷ rest) (n - 1) xs (k
    (block_of body)) rest
unfolding on is_sign
body_goes [] f limit n xs k rest = step (statements_end limit n rest xs)
body_goes (s ∷ body) f limit n xs k rest =
    along (append_assoc (stmt_tokens s) (body_tokens body) (one sign.CloseBrace ∷ rest))
    (and_on (stay (statements_statement limit n _ xs (stmt_begins s f.0 _)))
    (and_on (as_by (statements_past k _ (stmt_begins s f.0 _)))
    (and_on (stmt_goes s f.0 limit n (Statements ∷ xs) _ _ (body_no_else body f.1 rest))
    (body_goes body f.1 limit n xs _ rest))))

same_body : (body : List Stmt) → statements_of (block_of body) ≡ map plain_stmt body
same_body [] = refl
same_body (s ∷ body) = ap (λ l. plain_stmt s ∷ l) (same_body body)

-- a function after its name and the parenthesis there
function_goes : (gives : Option KindOf) (f : Function) → FunctionFits f → (limit n : ℕ) (xs : List Expected)
    (k : PlainItem → Reader) (rest : List Token)
    → Goes limit (n + 1) (Parameters ∷ Block ∷ xs) (function_of gives f.name k) (listed f.void_word f.parameters
    ++ one sign.CloseParenthesis ∷ one sign.OpenBrace ∷ (body_tokens f.body ++ one sign.CloseBrace ∷ rest)) n xs
    (k (function gives f.name f.void_word f.parameters (map plain_stmt f.body))) rest
function_goes gives f fits limit n xs k rest =
    and_on (open_again (back n) (listed_go f.void_word f.parameters fits.0 limit (n + 1) (Block ∷ xs) _ _))
    (and_on (block_from (body_goes f.body fits.1 limit (n + 1) xs _ rest))
    (renamed (ap (λ body. k (function gives f.name f.void_word f.parameters body)) (same_body f.body))))

-- ---- declarations

abbrev variable_of : Bool → KindOf → List ℕ → Option Length → List Const → Global
variable_of b q w l cs = record { scratch = b; kind = q; name = w; length = l; initial = cs }

item_goes : (limit : ℕ) (i : Item) → ItemFits i → (k : List PlainItem → List PlainItem) (rest : List Token)
    → Goes limit 0 (Items ∷ []) (items k) (item_tokens i ++ rest) 0 (Items ∷ []) (items
    (λ is. k (plain_item i ∷ is))) rest
unfolding on is_sign is_keyword
item_goes limit (item.Global g) f k rest = scratch g.scratch g.kind g.name g.length g.initial f
  where
    given : Bool → KindOf → List ℕ → Option Length → List Const → Reader
    given b q w l cs = items (λ is. k (global (variable_of b q w l cs) ∷ is))

    scratch : (b : Bool) (q : KindOf) (w : List ℕ) (l : Option Length) (cs : List Const)
        → GlobalFits (variable_of b q w l cs)
        → Goes limit 0 (Items ∷ []) (items k) (global_tokens (variable_of b q w l cs) ++ rest) 0 (Items ∷ [])
        (given b q w l cs) rest
    scratch true q w l cs f = along (simp append_assoc) (and_on (step (items_scratch limit 0 _ []))
        (and_on (kind_go _ _ refl refl q w _ (kind_kind limit 0 q _ (Name ∷ Variable ∷ Items ∷ [])))
        (and_on (step (name_read limit 0 w _ _)) (shape_goes _ (given true q w) (λ t n. refl) l cs f limit 0
        (Items ∷ []) rest))))
    scratch false q w l cs f =
        along (simp append_assoc) (and_on (kind_go _ _ refl refl q w _ (items_kind limit 0 q _ []))
        (and_on (step (name_read limit 0 w _ _))
        (and_on (stay (outside_variable limit 0 _ (Items ∷ []) (may_not_open limit 0 sign.OpenParenthesis _
        (shape_no_call l cs rest))))
        (shape_goes _ (given false q w) (λ t n. rw n refl) l cs f limit 0 (Items ∷ []) rest))))
item_goes limit (item.Function g) f k rest = along (simp append_assoc) (gives g.kind)
  where
    next : PlainItem → Reader
    next i = items (λ is. k (i ∷ is))

    gives : (q : Option KindOf) → Goes limit 0 (Items ∷ []) (items k) (gives_tokens q ++ token.Word g.name
        ∷ one sign.OpenParenthesis ∷ (listed g.void_word g.parameters
        ++ one sign.CloseParenthesis ∷ one sign.OpenBrace ∷ (body_tokens g.body ++ one sign.CloseBrace ∷ rest))) 0
        (Items ∷ []) (next (function q g.name g.void_word g.parameters (map plain_stmt g.body))) rest
    gives None = and_on (step (items_void limit 0 _ [])) (and_on (step (name_read limit 0 g.name _ _))
        (and_on (open_step (one sign.OpenParenthesis) refl (bracket_read limit 0 sign.OpenParenthesis _ _ refl))
        (function_goes None g f limit 0 (Items ∷ []) next rest)))
    gives (Some q) = and_on (kind_go _ _ refl refl q g.name _ (items_kind limit 0 q _ []))
        (and_on (step (name_read limit 0 g.name _ _))
        (and_on (open_step (one sign.OpenParenthesis) refl (outside_function limit 0 _ (Items ∷ [])))
        (function_goes (Some q) g f limit 0 (Items ∷ []) next rest)))

pub items_go : (limit : ℕ) (is : List Item) → Each ItemFits is → (k : List PlainItem → List PlainItem)
    → Goes limit 0 (Items ∷ []) (items k) (items_tokens is) 0 (Items ∷ []) (items
    (λ js. k (map plain_item is ++ js))) []
items_go limit [] f k = stay refl
items_go limit (i ∷ is) f k =
    and_on (item_goes limit i f.0 k (items_tokens is)) (items_go limit is f.1 (λ js. k (plain_item i ∷ js)))

nothing_left : (limit : ℕ) → drive_to limit 0 (Items ∷ []) [] ≡ None
unfolding drive_to may_end
nothing_left limit = refl

-- the tokens of a tree that fits the grammar are read whole, where as many brackets may be open as it opens
pub program_read : (limit : ℕ) (u : Program) → GrammarFits u → most_open 0 (tokens_of u) ≤ limit
    → drive_to limit 0 (Items ∷ []) (tokens_of u) ≡ None
program_read limit u f h = (items_go limit u.items f (λ is. is)).drives h ∙ nothing_left limit
