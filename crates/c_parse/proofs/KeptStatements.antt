-- What a token makes of a statement and of its parts, kept.
use Rattle.std.proofs.Common.{◌≡◌, ℕ, Bool, List, [], ◌∷◌, ◌++◌, Option, None, Some, refl, ap, ◌∙◌, append_assoc}
use Rattle.c_tree.specs.declared.tokens.Token.{Token}
use Rattle.c_tree.specs.declared.tokens.Token.TheVariants as token
use Rattle.c_tree.specs.declared.tokens.Keyword.TheVariants as keyword
use Rattle.c_tree.specs.declared.tokens.Sign.TheVariants as sign
use Rattle.c_tree.specs.declared.statements.Kind.TheVariants as kind
use Rattle.c_tree.specs.declared.statements.Bound.{Bound}
use Rattle.c_tree.specs.declared.statements.Head.TheVariants as head
use Rattle.c_tree.specs.declared.statements.Arm.{Arm}
use Rattle.c_tree.specs.declared.statements.Stmt.{Declare, Set, SetElement, Call, Send, Break, Continue, Return}
use Rattle.c_tree.specs.declared.statements.Stmt.TheViews.{If, Loop, Inner}
use Rattle.c_tree.specs.Tokens.{bound_tokens, ended, expr_tokens, right_tokens, stmt_tokens, body_tokens, kind_tokens, braced, one, word}
use Rattle.c_tree.specs.Fits.{StmtFits}
use Rattle.c_tree.proofs.Blocks.{loop_tokens, inner_tokens, if_fits, inner_fits, loop_fits}
use Rattle.c_parse.specs.Expected.{Only, Name, Number, Operand, Tail, Right, Arguments, Statements, PerhapsInt, Initial, AfterName, Condition, Block, Assigned, Test, Further, Given, Else, Branch, moved_by, statement, loop}
use Rattle.c_parse.proofs.Growing.{for_written, if_written}
use Rattle.c_parse.proofs.Written.{Written, Through, IsExpr, IsStmt, IsBody, IsLoop}
use Rattle.c_parse.proofs.Gives.{Gives, takes, none, on_open, on_word, on_name, on_bound, gives_as, moved_along}
use Rattle.c_parse.proofs.KeptExpressions.{tailed, enclosed}

-- ---- parts of statements

pub condition : (ts rest : List Token) → Through (Operand ∷ Tail ∷ Only sign.CloseParenthesis ∷ []) ts rest
    → Written Condition (one sign.OpenParenthesis ∷ ts) rest
condition ts rest (t1, o, (t2, f, (t3, a, e))) =
    let x : IsExpr 0 ts t2 = tailed 11 ts t1 t2 o f in (
      x.expr,
      x.fits,
      ap (λ l. one sign.OpenParenthesis ∷ l) (x.written ∙ ap (λ l. expr_tokens x.expr ++ l) (a
          ∙ ap (λ l. one sign.CloseParenthesis ∷ l) e)),
    )

pub block : (ts rest : List Token) → Through (Statements ∷ []) ts rest → Written Block (one sign.OpenBrace ∷ ts) rest
block ts rest (t1, b, e) = (b.body, b.fits, simp (b.written, e, append_assoc))

pub assigned : (w : List ℕ) (ts rest : List Token) → Through (Only sign.Assign ∷ Operand ∷ Tail ∷ []) ts rest
    → Written Assigned (token.Word w ∷ ts) rest
assigned w ts rest (t1, a, (t2, o, (t3, f, e))) =
    let x : IsExpr 0 t1 t3 = tailed 11 t1 t2 t3 o f in (
      w,
      x.expr,
      x.fits,
      ap (λ l. token.Word w ∷ l) (a ∙ ap (λ l. one sign.Assign ∷ l) (x.written
          ∙ ap (λ l. expr_tokens x.expr ++ l) e)),
    )

pub test : (ts rest : List Token) → Through (Operand ∷ Tail ∷ Only sign.Semicolon ∷ []) ts rest
    → Written Test (one sign.Semicolon ∷ ts) rest
test ts rest (t1, o, (t2, f, (t3, a, e))) =
    let x : IsExpr 0 ts t2 = tailed 11 ts t1 t2 o f in (
      x.expr,
      x.fits,
      ap (λ l. one sign.Semicolon ∷ l) (x.written ∙ ap (λ l. expr_tokens x.expr ++ l) (a
          ∙ ap (λ l. one sign.Semicolon ∷ l) e)),
    )

pub further : (ts rest : List Token) → Through (Operand ∷ Tail ∷ []) ts rest
    → Written Further (one sign.Comma ∷ ts) rest
further ts rest (t1, o, (t2, f, e)) =
    let x : IsExpr 0 ts t2 = tailed 11 ts t1 t2 o f in (
      x.expr,
      x.fits,
      ap (λ l. one sign.Comma ∷ l)
          (x.written ∙ ap (λ l. expr_tokens x.expr ++ l) e),
    )

-- ---- statements that hold no others

pub initial : (ts rest : List Token) → Through (Right ∷ Only sign.Semicolon ∷ []) ts rest
    → Written Initial (one sign.Assign ∷ ts) rest
unfolding stmt_tokens StmtFits
initial ts rest (t1, r, (t2, a, e)) =
    λ k w. record { stmt = Declare k w (Some r.right); fits = r.fits; written = simp (r.written, a, e, append_assoc) }

pub declared : (ts rest : List Token) → ts ≡ rest → Written Initial (one sign.Semicolon ∷ ts) rest
unfolding stmt_tokens StmtFits
declared ts rest e = λ k w. record { stmt = Declare k w None; fits = tt; written = simp (e, append_assoc) }

pub set : (ts rest : List Token) → Through (Right ∷ Only sign.Semicolon ∷ []) ts rest
    → Written AfterName (one sign.Assign ∷ ts) rest
unfolding stmt_tokens StmtFits
set ts rest (t1, r, (t2, a, e)) =
    λ w. record { stmt = Set w r.right; fits = r.fits; written = simp (r.written, a, e, append_assoc) }

pub set_element : (ts rest : List Token) → Through (Operand ∷ Tail ∷ Only sign.CloseBracket ∷ Only sign.Assign ∷ Right
    ∷ Only sign.Semicolon ∷ []) ts rest
    → Written AfterName (one sign.OpenBracket ∷ ts) rest
unfolding stmt_tokens StmtFits
set_element ts rest (t1, o, (t2, f, (t3, a, (t4, b, (t5, r, (t6, c, e)))))) = λ w.
    let x : IsExpr 0 ts t2 = tailed 11 ts t1 t2 o f in
    record {
      stmt = SetElement w x.expr r.right;
      fits = (x.fits, r.fits);
      written = ap (λ l. token.Word w ∷ one sign.OpenBracket ∷ l) (joined (expr_tokens x.expr) x.written);
    }
  where
    joined : (es : List Token) → ts ≡ es ++ t2 → ts ≡ ended (es ++ one sign.CloseBracket ∷ one sign.Assign
        ∷ right_tokens r.right) ++ rest
    joined es x = simp (x, a, b, r.written, c, e, append_assoc)

pub call : (ts rest : List Token) → Through (Arguments ∷ Only sign.Semicolon ∷ []) ts rest
    → Written AfterName (one sign.OpenParenthesis ∷ ts) rest
unfolding stmt_tokens StmtFits
call ts rest (t1, x, (t2, a, e)) =
    λ w. record { stmt = Call w x.args; fits = x.fits; written = simp (x.written, a, e, append_assoc) }

sending : (ts rest : List Token) → Through (Only sign.OpenParenthesis ∷ Number ∷ Further ∷ Further ∷ Further
    ∷ Only sign.CloseParenthesis ∷ Only sign.Semicolon ∷ []) ts rest
    → IsStmt (word keyword.Send ∷ ts) rest
unfolding stmt_tokens StmtFits
sending ts rest
    (t1, a, (t2, (v, u, b), (t3, (source, f, c), (t4, (target, g, d), (t5, (count, h, i), (t6, j, (t7, k, e))))))) =
    record {
      stmt = Send v u source target count;
      fits = (f, g, h);
      written = simp (a, b, c, d, i, j, k, e, append_assoc);
    }

breaking : (ts rest : List Token) → Through (Only sign.Semicolon ∷ []) ts rest → IsStmt (word keyword.Break ∷ ts) rest
unfolding stmt_tokens StmtFits
breaking ts rest (t1, a, e) = record { stmt = Break; fits = tt; written = simp (a, e) }

continuing : (ts rest : List Token) → Through (Only sign.Semicolon ∷ []) ts rest
    → IsStmt (word keyword.Continue ∷ ts) rest
unfolding stmt_tokens StmtFits
continuing ts rest (t1, a, e) = record { stmt = Continue; fits = tt; written = simp (a, e) }

pub returning : (ts rest : List Token) → ts ≡ rest → Written Given (one sign.Semicolon ∷ ts) rest
unfolding stmt_tokens StmtFits
returning ts rest e = record { stmt = Return None; fits = tt; written = simp e }

pub given : (ts mid rest : List Token) → IsExpr 11 ts mid → Through (Tail ∷ Only sign.Semicolon ∷ []) mid rest
    → Written Given ts rest
unfolding stmt_tokens StmtFits
given ts mid rest x (t1, f, (t2, a, e)) =
    let y : IsExpr 0 ts t1 = tailed 11 ts mid t1 x f in
    record {
      stmt = Return (Some y.expr);
      fits = y.fits;
      written = ap (λ l. word keyword.Return ∷ l)
          (enclosed (expr_tokens y.expr) ts t1 t2 rest _ y.written a e);
    }

-- ---- an `if`

choosing : (ts rest : List Token) → Through (Condition ∷ Block ∷ Else ∷ []) ts rest → IsStmt (word keyword.If ∷ ts) rest
choosing ts rest (t1, (c, f, a), (t2, (body, g, b), (t3, o, e))) =
    let arm : Arm = record { condition = c; body = body } in
    record {
      stmt = If (arm ∷ o.arms) o.otherwise;
      fits = if_fits arm o.arms o.otherwise ((f, g), o.arms_fit) o.otherwise_fits;
      written = if_written (word keyword.If ∷ ts) rest (arm ∷ o.arms) (arm ∷ o.arms) o.otherwise refl
          (simp (a, b, o.written, e, append_assoc));
    }

pub branch_if : (ts rest : List Token) → Through (Condition ∷ Block ∷ Else ∷ []) ts rest
    → Written Branch (word keyword.If ∷ ts) rest
branch_if ts rest (t1, (c, f, a), (t2, (body, g, b), (t3, o, e))) = record {
  arms = record { condition = c; body = body } ∷ o.arms;
  otherwise = o.otherwise;
  arms_fit = ((f, g), o.arms_fit);
  otherwise_fits = o.otherwise_fits;
  written = simp (a, b, o.written, e, append_assoc);
}

pub branch_block : (ts rest : List Token) → Through (Statements ∷ []) ts rest
    → Written Branch (one sign.OpenBrace ∷ ts) rest
branch_block ts rest h =
    let b : Written Block (one sign.OpenBrace ∷ ts) rest = block ts rest h in
    record {
      arms = [];
      otherwise = Some b.0;
      arms_fit = tt;
      otherwise_fits = b.1;
      written = ap (λ l. word keyword.Else ∷ l) b.2;
    }

-- ---- loops and blocks

while_loop : (ts rest : List Token) → Through (Condition ∷ Block ∷ []) ts rest → IsLoop (word keyword.While ∷ ts) rest
while_loop ts rest (t1, (c, f, a), (t2, (body, g, b), e)) =
    record { head = head.While c; body = body; head_fits = f; body_fits = g; written = simp (a, b, e, append_assoc) }

for_loop : (ts rest : List Token) → Through (Only sign.OpenParenthesis ∷ Assigned ∷ Test ∷ Assigned
    ∷ Only sign.CloseParenthesis ∷ Block ∷ []) ts rest → IsLoop (word keyword.For ∷ ts) rest
for_loop ts rest
    (t1, a, (t2, (first, from, f, b), (t3, (test, g, c), (t4, (step, to, h, d), (t5, i, (t6, (body, j, k), e)))))) =
    record {
      head = head.For first from test step to;
      body = body;
      head_fits = (f, g, h);
      body_fits = j;
      written = for_written ts t1 t2 t3 t4 (braced (body_tokens body) ++ rest) first step from test to a b c d
          (i ∙ ap (λ l. one sign.CloseParenthesis ∷ l) (k ∙ ap (λ l. braced (body_tokens body) ++ l) e));
    }

-- with its bound, or without one
looped : (bound : Option Bound) (ts rest : List Token) → IsLoop ts rest → IsStmt (bound_tokens bound ++ ts) rest
looped bound ts rest l = record {
  stmt = Loop bound l.head l.body;
  fits = loop_fits bound l.head l.body l.head_fits l.body_fits;
  written = simp (loop_tokens, l.written, append_assoc);
}

inner : (ts rest : List Token) → Through (Statements ∷ []) ts rest → IsStmt (one sign.OpenBrace ∷ ts) rest
inner ts rest (t1, b, e) = record {
  stmt = Inner b.body;
  fits = inner_fits b.body b.fits;
  written = simp (
    inner_tokens,
    b.written,
    e,
    append_assoc,
  );
}

-- ---- what a token makes of these places

pub loop_kept : (room : Bool) (t : Token) → Gives IsLoop t (moved_by room loop t)
loop_kept room t = on_word IsLoop keyword.While t (takes IsLoop while_loop) (on_word IsLoop keyword.For t
    (takes IsLoop for_loop) (none IsLoop t))

pub statement_kept : (room : Bool) (t : Token) → Gives IsStmt t (moved_by room statement t)
statement_kept room t =
    on_word IsStmt keyword.Int t (takes IsStmt int_declared)
    (on_word IsStmt keyword.Unsigned t (takes IsStmt unsigned_declared)
    (on_name IsStmt t (λ w. takes IsStmt (λ ts rest h. moved_along IsStmt refl (h.1 w) h.2))
    (on_word IsStmt keyword.Send t (takes IsStmt sending)
    (on_word IsStmt keyword.If t (takes IsStmt choosing)
    (on_bound IsStmt t (λ low high. takes IsStmt (λ ts rest h. moved_along IsStmt refl
    (looped (Some (record { min = low; max = high })) ts h.0 h.1) h.2))
    (on_word IsStmt keyword.Break t (takes IsStmt breaking)
    (on_word IsStmt keyword.Continue t (takes IsStmt continuing)
    (on_word IsStmt keyword.Return t (takes IsStmt (λ ts rest h. moved_along IsStmt refl h.1 h.2))
    (on_open IsStmt room sign.OpenBrace t (takes IsStmt inner)
    (gives_as IsLoop IsStmt t (moved_by room loop t) (looped None) (loop_kept room t)))))))))))
  where
    int_declared : (ts rest : List Token) → Through (Name ∷ Initial ∷ []) ts rest → IsStmt (word keyword.Int ∷ ts) rest
    int_declared ts rest (t1, (w, a), (t2, f, e)) =
        moved_along IsStmt (ap (λ l. word keyword.Int ∷ l) a) (f kind.Int w) e

    unsigned_declared : (ts rest : List Token) → Through (PerhapsInt ∷ Name ∷ Initial ∷ []) ts rest
        → IsStmt (word keyword.Unsigned ∷ ts) rest
    unsigned_declared ts rest (t1, k, (t2, (w, a), (t3, f, e))) =
        moved_along IsStmt (k.written ∙ ap (λ l. kind_tokens k.kind ++ l) a) (f k.kind w) e

pub more_statements : (ts mid rest : List Token) → IsStmt ts mid → Through (Statements ∷ []) mid rest → IsBody ts rest
more_statements ts mid rest s (t1, b, e) =
    record { body = s.stmt ∷ b.body; fits = (s.fits, b.fits); written = simp (s.written, b.written, e, append_assoc) }
