-- What a token makes of an operand, of what is after one, of arguments and of right sides, kept.
use Rattle.std.proofs.Common.{◌≡◌, ℕ, ◌≤◌, Bool, List, [], ◌∷◌, ◌++◌, refl, ap, ◌∙◌, append_assoc, arith, lit≤}
use Rattle.c_tree.specs.declared.tokens.Token.{Token}
use Rattle.c_tree.specs.declared.tokens.Token.TheVariants as token
use Rattle.c_tree.specs.declared.tokens.Sign.TheVariants as sign
use Rattle.c_tree.specs.declared.expressions.BinaryOp.{BinaryOp}
use Rattle.c_tree.specs.declared.expressions.UnaryOp.{UnaryOp}
use Rattle.c_tree.specs.declared.expressions.Expr.{Expr, Chain', Unary', Number as NumberExpr, Name as NameExpr}
use Rattle.c_tree.specs.declared.expressions.Expr.TheViews.{Unary, Element, Paren}
use Rattle.c_tree.specs.declared.statements.Right.TheVariants as right
use Rattle.c_tree.specs.Tokens.{expr_tokens, one, unary_sign, binary_sign}
use Rattle.c_tree.specs.Fits.{ExprFits, rank}
use Rattle.c_parse.specs.Expected.{Only, Operand, Index, Tail, RightName, MoreArguments, moved_by, operand}
use Rattle.c_parse.proofs.Pushed.{boxed, Fitting, pushed}
use Rattle.c_parse.proofs.Written.{Written, Through, IsExpr, IsRight, IsArguments, IsMoreArguments}
use Rattle.c_parse.proofs.Gives.{Gives, takes, none, on_open, on_name, on_number, on_prefix, moved_along}

-- an expression and what is after it
pub tailed : (least : ℕ) (ts mid rest : List Token) → IsExpr least ts mid → Written Tail mid rest → IsExpr 0 ts rest
tailed least ts mid rest e f =
    let g : IsExpr 0 (expr_tokens e.expr ++ mid) rest = f e.expr e.fits in
    record { expr = g.expr; above = g.above; fits = g.fits; written = e.written ∙ g.written }

pub enclosed : (es ts mid after rest : List Token) (t : Token) → ts ≡ es ++ mid → mid ≡ t ∷ after → after ≡ rest → ts
    ≡ (es ++ t ∷ []) ++ rest
enclosed es ts mid after rest t a b c = simp (a, b, c, append_assoc)

number : (v : ℕ) (u : Bool) (ts rest : List Token) → ts ≡ rest → IsExpr 11 (token.Number v u ∷ ts) rest
unfolding expr_tokens ExprFits
number v u ts rest h =
    record { expr = NumberExpr v u; above = lit≤ tt; fits = tt; written = ap (λ l. token.Number v u ∷ l) h }

pub name : (w : List ℕ) (ts rest : List Token) → ts ≡ rest → IsExpr 12 (token.Word w ∷ ts) rest
unfolding expr_tokens ExprFits
name w ts rest h = record { expr = NameExpr w; above = lit≤ tt; fits = tt; written = ap (λ l. token.Word w ∷ l) h }

element : (w : List ℕ) (ts mid after rest : List Token) → IsExpr 0 ts mid → mid ≡ one sign.CloseBracket ∷ after → after
    ≡ rest → IsExpr 12 (token.Word w ∷ one sign.OpenBracket ∷ ts) rest
unfolding expr_tokens ExprFits
element w ts mid after rest e b c = record {
  expr = Element w (boxed e.expr);
  above = lit≤ tt;
  fits = e.fits;
  written = simp (e.written, b, c, append_assoc);
}

paren : (ts mid after rest : List Token) → IsExpr 0 ts mid → mid ≡ one sign.CloseParenthesis ∷ after → after ≡ rest
    → IsExpr 11 (one sign.OpenParenthesis ∷ ts) rest
unfolding expr_tokens ExprFits
paren ts mid after rest e b c = record {
  expr = Paren (boxed e.expr);
  above = lit≤ tt;
  fits = e.fits;
  written = simp
      (e.written, b, c, append_assoc);
}

signed : (op : UnaryOp) (e : Expr) → 11 ≤ rank e → ExprFits e → (d : Expr) × (11 ≤ rank d) × ExprFits d
    × (one (unary_sign op) ∷ expr_tokens e ≡ expr_tokens d)
unfolding expr_tokens ExprFits
signed op (Chain' level p first l row) h f = absurd (omega (arith, h, f.1))
signed op (Unary' ops p of) h f = (Unary' (op ∷ ops) p of, h, (omega arith, f.1, f.2), refl)
signed op e h f = (Unary (op ∷ []) (boxed e), lit≤ tt, (lit≤ tt, lit≤ tt, f), refl)

prefixed : (op : UnaryOp) (ts mid rest : List Token) → IsExpr 11 ts mid → mid ≡ rest
    → IsExpr 11 (one (unary_sign op) ∷ ts) rest
prefixed op ts mid rest e h =
    let d : (d : Expr) × (11 ≤ rank d) × ExprFits d × (one (unary_sign op) ∷ expr_tokens e.expr ≡ expr_tokens d) =
    signed op e.expr e.above e.fits in
    record {
      expr = d.0;
      above = d.1;
      fits = d.2;
      written = ap (λ l. one (unary_sign op) ∷ l) (e.written
          ∙ ap (λ l. expr_tokens e.expr ++ l) h) ∙ ap (λ l. l ++ rest) d.3;
    }

pub operand_kept : (room : Bool) (t : Token) → Gives (IsExpr 11) t (moved_by room operand t)
operand_kept room t =
    let P : List Token → List Token → Type 0 = IsExpr 11 in
    on_number P t (λ v u. takes P (number v u))
    (on_name P t (λ w. takes P (λ ts rest h. indexed w ts h.0 rest (h.1 w) h.2))
    (on_open P room sign.OpenParenthesis t
    (takes P (λ ts rest h. paren ts h.2.0 h.2.2.0 rest (tailed 11 ts h.0 h.2.0 h.1 h.2.1) h.2.2.1 h.2.2.2))
    (on_prefix P t (λ op. takes P (λ ts rest h. prefixed op ts h.0 rest h.1 h.2)) (none P t))))
  where
    indexed : (w : List ℕ) (ts mid rest : List Token) → IsExpr 12 (token.Word w ∷ ts) mid → mid ≡ rest
        → IsExpr 11 (token.Word w ∷ ts) rest
    indexed w ts mid rest e h = record {
      expr = e.expr;
      above = omega (arith, e.above);
      fits = e.fits;
      written = e.written ∙ ap (λ l. expr_tokens e.expr ++ l) h;
    }

-- an operator and an operand after an expression, and what is after them
operated : (op : BinaryOp) (e : Expr) → ExprFits e → (ts mid rest : List Token) → IsExpr 11 ts mid
    → Written Tail mid rest → IsExpr 0 (expr_tokens e ++ one (binary_sign op) ∷ ts) rest
operated op e f ts mid rest x g =
    let p : Fitting 0 (expr_tokens e ++ one (binary_sign op) ∷ expr_tokens x.expr) =
    pushed e f 0 (omega arith) op (omega arith) x.expr x.above x.fits in
    let r : IsExpr 0 (expr_tokens p.expr ++ mid) rest = g p.expr p.fits in
    record {
      expr = r.expr;
      above = r.above;
      fits = r.fits;
      written = same (expr_tokens e) (expr_tokens x.expr)
          (expr_tokens p.expr) x.written p.written ∙ r.written;
    }
  where
    same : (es xs ps : List Token) → ts ≡ xs ++ mid → ps ≡ es ++ one (binary_sign op) ∷ xs → es ++ one (binary_sign op)
        ∷ ts ≡ ps ++ mid
    same es xs ps a b = simp (a, b, append_assoc)

-- no operator, and one
pub untailed : (ts : List Token) → Written Tail ts ts
untailed ts e f = record { expr = e; above = omega arith; fits = f; written = refl }

pub tailing : (op : BinaryOp) (ts rest : List Token) → Through (Operand ∷ Tail ∷ []) ts rest
    → Written Tail (one (binary_sign op) ∷ ts) rest
tailing op ts rest h e f = moved_along (IsExpr 0) refl (operated op e f ts h.0 h.2.0 h.1 h.2.1) h.2.2

pub index : (ts rest : List Token) → Through (Operand ∷ Tail ∷ Only sign.CloseBracket ∷ []) ts rest
    → Written Index (one sign.OpenBracket ∷ ts) rest
index ts rest (t1, o, (t2, f, (t3, a, e))) w = element w ts t2 t3 rest (tailed 11 ts t1 t2 o f) a e

-- ---- right sides

valued : (ts rest : List Token) → IsExpr 0 ts rest → IsRight ts rest
valued ts rest e = record { right = right.Value e.expr; fits = e.fits; written = e.written }

pub called : (w : List ℕ) (ts mid rest : List Token) → IsArguments ts mid → mid ≡ rest
    → IsRight (token.Word w ∷ one sign.OpenParenthesis ∷ ts) rest
called w ts mid rest a h =
    record { right = right.Call w a.args; fits = a.fits; written = simp (a.written, h, append_assoc) }

-- a name, and what is after it in an expression
named : (w : List ℕ) (ts mid rest : List Token) → IsExpr 12 (token.Word w ∷ ts) mid → Written Tail mid rest
    → IsRight (token.Word w ∷ ts) rest
named w ts mid rest e f = valued (token.Word w ∷ ts) rest (tailed 12 (token.Word w ∷ ts) mid rest e f)

pub named_indexed : (ts rest : List Token) → Through (Operand ∷ Tail ∷ Only sign.CloseBracket ∷ Tail ∷ []) ts rest
    → Written RightName (one sign.OpenBracket ∷ ts) rest
named_indexed ts rest (t1, o, (t2, f, (t3, a, (t4, g, e)))) w =
    moved_along IsRight refl (named w (one sign.OpenBracket ∷ ts) t3 t4
    (element w ts t2 t3 t3 (tailed 11 ts t1 t2 o f) a refl) g) e

pub named_tailed : (ts rest : List Token) → Written Tail ts rest → Written RightName ts rest
named_tailed ts rest f w = named w ts ts rest (name w ts ts refl) f

pub right_valued : (ts mid rest : List Token) → IsExpr 11 ts mid → Through (Tail ∷ []) mid rest → IsRight ts rest
right_valued ts mid rest e h = moved_along IsRight refl (valued ts h.0 (tailed 11 ts mid h.0 e h.1)) h.2

-- ---- arguments

pub first_argument : (ts mid rest : List Token) → IsExpr 11 ts mid → Through (Tail ∷ MoreArguments ∷ []) mid rest
    → IsArguments ts rest
first_argument ts mid rest e h =
    let x : IsExpr 0 ts h.0 = tailed 11 ts mid h.0 e h.1 in
    let m : IsMoreArguments x.expr h.0 h.2.0 = h.2.1 x.expr x.fits in
    moved_along IsArguments x.written (record { args = x.expr ∷ m.args; fits = (x.fits, m.fits); written = m.written })
    h.2.2

-- one part more, after a comma
one_more : (es ts args after rest : List Token) (t : Token) → ts ≡ args ++ t ∷ after → after ≡ rest → es
    ++ one sign.Comma ∷ ts ≡ (es ++ one sign.Comma ∷ args) ++ t ∷ rest
one_more es ts args after rest t a b = simp (a, b, append_assoc)

pub next_argument : (ts rest : List Token) → Through (Operand ∷ Tail ∷ MoreArguments ∷ []) ts rest
    → Written MoreArguments (one sign.Comma ∷ ts) rest
next_argument ts rest (t1, o, (t2, f, (t3, m, h))) e g =
    let x : IsExpr 0 ts t2 = tailed 11 ts t1 t2 o f in
    let more : IsMoreArguments x.expr t2 t3 = m x.expr x.fits in
    record {
      args = x.expr ∷ more.args;
      fits = (x.fits, more.fits);
      written = one_more (expr_tokens e) ts _ t3 rest _
          (x.written ∙ more.written) h;
    }
