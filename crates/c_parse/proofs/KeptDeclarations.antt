-- What a token makes of a declaration outside functions and of its parts, kept.
use Rattle.std.proofs.Common.{◌≡◌, ℕ, ◌≤◌, Bool, true, false, List, [], ◌∷◌, ◌++◌, length, Option, None, Some, refl, ap, ◌∙◌, append_assoc, lit≤}
use Rattle.c_tree.specs.declared.tokens.Token.{Token}
use Rattle.c_tree.specs.declared.tokens.Token.TheVariants as token
use Rattle.c_tree.specs.declared.tokens.Keyword.TheVariants as keyword
use Rattle.c_tree.specs.declared.tokens.Sign.TheVariants as sign
use Rattle.c_tree.specs.declared.statements.Kind.{Kind as KindOf}
use Rattle.c_tree.specs.declared.statements.Kind.TheVariants as kind
use Rattle.c_tree.specs.declared.units.Const.{Const}
use Rattle.c_tree.specs.declared.units.Length.{Length}
use Rattle.c_tree.specs.declared.units.Parameter.{Parameter}
use Rattle.c_tree.specs.declared.units.Item.TheVariants as item
use Rattle.c_tree.specs.Tokens.{kind_tokens, consts_tokens, parameters_tokens, gives_tokens, one, word}
use Rattle.c_tree.specs.Fits.{GlobalFits}
use Rattle.c_parse.specs.Expected.{Only, Name, Number, PerhapsInt, Block, Items, Kind, Outside, Variable, Elements, Constant, MoreConstants, Parameters, MoreParameters, moved_by, kind as kind_rule, variable}
use Rattle.c_parse.specs.Readers.{scratch_tokens}
use Rattle.c_parse.proofs.Written.{Written, Through, IsKind, IsItem, IsItems, IsShape, IsElements, IsConstant, IsMoreConstants, IsParameters, IsMoreParameters}
use Rattle.c_parse.proofs.Gives.{Gives, takes, none, on_sign, on_open, on_word, moved_along}

-- ---- kinds

pub kind_kept : (room : Bool) (t : Token) → Gives IsKind t (moved_by room kind_rule t)
kind_kept room t =
    on_word IsKind keyword.Int t
    (takes IsKind (λ ts rest h. record { kind = kind.Int; written = ap (λ l. word keyword.Int ∷ l) h }))
    (on_word IsKind keyword.Unsigned t (takes IsKind (λ ts rest h. moved_along IsKind refl h.1 h.2)) (none IsKind t))

-- ---- constants, and what is after a variable's name

pub negative : (ts rest : List Token) → Through (Number ∷ []) ts rest → IsConstant (one sign.Minus ∷ ts) rest
negative ts rest (t1, (v, u, a), e) =
    record { value = record { negative = true; value = v; unsigned = u }; written = simp (a, e) }

pub next_constant : (ts rest : List Token) → Through (Constant ∷ MoreConstants ∷ []) ts rest → (c : Const)
    → IsMoreConstants c (one sign.Comma ∷ ts) rest
next_constant ts rest (t1, d, (t2, m, e)) c =
    let more : IsMoreConstants d.value t1 t2 = m d.value in
    let written : ts ≡ consts_tokens (d.value ∷ more.values) ++ one sign.CloseBrace ∷ t2 = d.written ∙ more.written in
    record { values = d.value ∷ more.values; written = simp (written, e, append_assoc) }

pub filled : (ts rest : List Token) → Through (Only sign.OpenBrace ∷ Constant ∷ MoreConstants ∷ Only sign.Semicolon
    ∷ []) ts rest → IsElements (one sign.Assign ∷ ts) rest
filled ts rest (t1, a, (t2, c, (t3, m, (t4, b, e)))) =
    let more : IsMoreConstants c.value t2 t3 = m c.value in
    record { values = c.value ∷ more.values; written = simp (a, c.written ∙ more.written, b, e, append_assoc) }

pub variable_kept : (room : Bool) (t : Token) → Gives IsShape t (moved_by room variable t)
variable_kept room t =
    on_open IsShape room sign.OpenBracket t (takes IsShape array)
    (on_sign IsShape sign.Assign t (takes IsShape first)
    (on_sign IsShape sign.Semicolon t
    (takes IsShape (λ ts rest h. record {
      size = None;
      values = [];
      fits = λ h. lit≤ tt;
      written = ap (λ l. one sign.Semicolon ∷ l) h;
    })) (none IsShape t)))
  where
    array : (ts rest : List Token) → Through (Number ∷ Only sign.CloseBracket ∷ Elements ∷ []) ts rest
        → IsShape (one sign.OpenBracket ∷ ts) rest
    array ts rest (t1, (v, u, a), (t2, b, (t3, x, e))) = record {
      size = Some (record { value = v; unsigned = u });
      values = x.values;
      fits = λ h. absurd (cc);
      written = simp (a, b, x.written, e);
    }

    first : (ts rest : List Token) → Through (Constant ∷ Only sign.Semicolon ∷ []) ts rest
        → IsShape (one sign.Assign ∷ ts) rest
    first ts rest (t1, c, (t2, a, e)) =
        record { size = None; values = c.value ∷ []; fits = λ h. lit≤ tt; written = simp (c.written, a, e) }

-- ---- parameters

pub some_parameters : (ts mid rest : List Token) → IsKind ts mid → Through (Name ∷ MoreParameters ∷ []) mid rest
    → IsParameters ts rest
some_parameters ts mid rest k (t1, (w, a), (t2, m, e)) =
    let more : IsMoreParameters k.kind w t1 t2 = m k.kind w in
    record {
      void_word = false;
      parameters = record { kind = k.kind; name = w } ∷ more.parameters;
      none = λ n. absurd (cc);
      written = k.written ∙ ap (λ l. kind_tokens k.kind ++ l) a ∙ more.written
          ∙ ap (λ l. parameters_tokens (record { kind = k.kind; name = w } ∷ more.parameters)
          ++ one sign.CloseParenthesis ∷ l) e;
    }

pub last_parameter : (ts rest : List Token) → ts ≡ rest → (k : KindOf) (w : List ℕ)
    → IsMoreParameters k w (one sign.CloseParenthesis ∷ ts) rest
last_parameter ts rest e k w = record { parameters = []; written = simp (e, append_assoc) }

pub next_parameter : (ts rest : List Token) → Through (Kind ∷ Name ∷ MoreParameters ∷ []) ts rest → (k : KindOf)
    (w : List ℕ) → IsMoreParameters k w (one sign.Comma ∷ ts) rest
next_parameter ts rest (t1, j, (t2, (v, a), (t3, m, e))) k w =
    let more : IsMoreParameters j.kind v t2 t3 = m j.kind v in
    let p : Parameter = record { kind = j.kind; name = v } in
    record {
      parameters = p ∷ more.parameters;
      written = simp (
        j.written ∙ ap (λ l. kind_tokens j.kind ++ l) a
            ∙ more.written,
        e,
        append_assoc,
      );
    }

-- ---- declarations

-- a variable or an array
pub global : (scratch : Bool) (k : KindOf) (w : List ℕ) (ts rest : List Token) → IsShape ts rest
    → IsItem (scratch_tokens scratch ++ (kind_tokens k ++ token.Word w ∷ ts)) rest
global scratch k w ts rest s = record {
  item = item.Global (record { scratch = scratch; kind = k; name = w; length = s.size; initial = s.values });
  fits = fitting s.size s.fits;
  written = simp (s.written, append_assoc);
}
  where
    fitting : (size : Option Length) → (size ≡ None → length s.values ≤ 1)
        → GlobalFits (record { scratch = scratch; kind = k; name = w; length = size; initial = s.values })
    fitting None h = h refl
    fitting (Some l) h = tt

function : (k : Option KindOf) (w : List ℕ) (ts mid rest : List Token) → IsParameters ts mid → Written Block mid rest
    → IsItem (gives_tokens k ++ token.Word w ∷ one sign.OpenParenthesis ∷ ts) rest
function k w ts mid rest p (body, f, b) = record {
  item = item.Function (record { kind = k; name = w; void_word = p.void_word; parameters = p.parameters; body = body });
  fits = (p.none, f);
  written = simp (p.written, b, append_assoc);
}

pub begun : (ts rest : List Token) → Through (Parameters ∷ Block ∷ []) ts rest → (k : KindOf) (w : List ℕ)
    → IsItem (kind_tokens k ++ token.Word w ∷ one sign.OpenParenthesis ∷ ts) rest
begun ts rest (t1, p, (t2, b, e)) k w = moved_along IsItem refl (function (Some k) w ts t1 t2 p b) e

more_items : (ts us mid after rest : List Token) → ts ≡ us → IsItem us mid → IsItems mid after → after ≡ rest
    → IsItems ts rest
more_items ts us mid after rest e i is f = record {
  items = i.item ∷ is.items;
  fits = (i.fits, is.fits);
  written = simp
      (e, i.written, is.written, f, append_assoc);
}

pub int_outside : (ts rest : List Token) → Through (Name ∷ Outside ∷ Items ∷ []) ts rest
    → IsItems (word keyword.Int ∷ ts) rest
int_outside ts rest (t1, (w, a), (t2, o, (t3, is, e))) =
    more_items _ _ t2 t3 rest (ap (λ l. word keyword.Int ∷ l) a) (o kind.Int w) is e

pub unsigned_outside : (ts rest : List Token) → Through (PerhapsInt ∷ Name ∷ Outside ∷ Items ∷ []) ts rest
    → IsItems (word keyword.Unsigned ∷ ts) rest
unsigned_outside ts rest (t1, k, (t2, (w, a), (t3, o, (t4, is, e)))) =
    more_items _ _ t3 t4 rest (k.written ∙ ap (λ l. kind_tokens k.kind ++ l) a) (o k.kind w) is e

pub scratchpad : (ts rest : List Token) → Through (Kind ∷ Name ∷ Variable ∷ Items ∷ []) ts rest
    → IsItems (word keyword.Scratchpad ∷ ts) rest
scratchpad ts rest (t1, k, (t2, (w, a), (t3, s, (t4, is, e)))) =
    more_items _ _ t3 t4 rest (ap (λ l. word keyword.Scratchpad ∷ l) (k.written ∙ ap (λ l. kind_tokens k.kind ++ l) a))
    (global true k.kind w t2 t3 s) is e

pub gives_nothing : (ts rest : List Token) → Through (Name ∷ Only sign.OpenParenthesis ∷ Parameters ∷ Block ∷ Items
    ∷ []) ts rest → IsItems (word keyword.Void ∷ ts) rest
gives_nothing ts rest (t1, (w, a), (t2, b, (t3, p, (t4, body, (t5, is, e))))) =
    more_items _ _ t4 t5 rest (ap (λ l. word keyword.Void ∷ l) (a ∙ ap (λ l. token.Word w ∷ l) b))
    (function None w t2 t3 t4 p body) is e
