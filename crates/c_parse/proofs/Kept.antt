-- What a token makes of any place, kept.
use Rattle.std.proofs.Common.{Bool, true, false, [], ◌∷◌, ◌++◌, None, refl, ap, ◌∙◌}
use Rattle.c_tree.specs.declared.tokens.Token.{Token}
use Rattle.c_tree.specs.declared.tokens.Token.TheVariants as token
use Rattle.c_tree.specs.declared.tokens.Keyword.TheVariants as keyword
use Rattle.c_tree.specs.declared.tokens.Sign.TheVariants as sign
use Rattle.c_tree.specs.declared.statements.Kind.TheVariants as kind
use Rattle.c_tree.specs.Tokens.{expr_tokens, const_tokens, one, word}
use Rattle.c_parse.specs.Expected.{Expected, Only, Name, Number, Operand, Index, Tail, Right, RightName, Arguments, MoreArguments, Statements, Statement, PerhapsInt, Initial, AfterName, Condition, Block, Assigned, Test, Further, Loop, Given, Else, Branch, Items, Kind, Outside, Variable, Elements, Constant, MoreConstants, Parameters, MoreParameters, moved, moved_by, operand, statement, variable, kind as kind_rule}
use Rattle.c_parse.specs.Sorts.{a_sign, is_a}
use Rattle.c_parse.proofs.Starts.{stays_by}
use Rattle.c_parse.proofs.Written.{Written, IsExpr, IsRight, IsStmt, IsElse, IsKind, IsShape}
use Rattle.c_parse.proofs.Gives.{Gives, takes, none, stays_empty, by_test, at_token, this_is, on_sign, on_open, on_word, on_name, on_number, on_operator, gives_then, gives_as, moved_along}
use Rattle.c_parse.proofs.KeptExpressions.{called, operand_kept, untailed, tailing, index, name, named_indexed, named_tailed, right_valued, first_argument, next_argument}
use Rattle.c_parse.proofs.KeptStatements.{condition, block, assigned, test, further, initial, declared, set, set_element, call, returning, given, branch_if, branch_block, loop_kept, statement_kept, more_statements}
use Rattle.c_parse.proofs.KeptDeclarations.{kind_kept, negative, next_constant, filled, variable_kept, some_parameters, last_parameter, next_parameter, global, begun, int_outside, unsigned_outside, scratchpad, gives_nothing}

pub kept : (room : Bool) (x : Expected) (t : Token) → Gives (Written x) t (moved room x t)
unfolding moved
-- single tokens
kept room (Only s) t = by_test _ t (is_a room (a_sign s) t) (λ e. at_token _ (this_is room s t e)
    (takes _ (λ ts rest h. ap (λ l. one s ∷ l) h))) (none _ t)
kept room Name t = on_name _ t (λ w. takes _ (λ ts rest h. (w, ap (λ l. token.Word w ∷ l) h))) (none _ t)
kept room Number t = on_number _ t (λ v u. takes _ (λ ts rest h. (v, u, ap (λ l. token.Number v u ∷ l) h))) (none _ t)
-- expressions
kept room Operand t = operand_kept room t
kept room Index t = on_open _ room sign.OpenBracket t (takes _ index) (stays_empty _ t (λ ts w. name w ts ts refl))
kept room Tail t = on_operator _ t (λ op. takes _ (tailing op)) (stays_empty _ t untailed)
-- right sides and arguments
kept room Right t =
    on_name _ t (λ w. takes _ (λ ts rest h. moved_along IsRight refl (h.1 w) h.2))
    (gives_then (IsExpr 11) _ t (moved_by room operand t) (Tail ∷ []) (stays_by room operand t refl) right_valued
    (operand_kept room t))
kept room RightName t =
    on_open _ room sign.OpenParenthesis t (takes _ (λ ts rest h w. called w ts h.0 rest h.1 h.2))
    (on_open _ room sign.OpenBracket t (takes _ named_indexed)
    (on_operator _ t (λ op. takes _ (λ ts rest h. named_tailed _ rest (tailing op ts rest h)))
    (stays_empty _ t (λ ts. named_tailed ts ts (untailed ts)))))
kept room Arguments t =
    on_sign _ sign.CloseParenthesis t
    (takes _ (λ ts rest h. record { args = []; fits = tt; written = ap (λ l. one sign.CloseParenthesis ∷ l) h }))
    (gives_then (IsExpr 11) _ t (moved_by room operand t) (Tail ∷ MoreArguments ∷ []) (stays_by room operand t refl)
    first_argument (operand_kept room t))
kept room MoreArguments t =
    on_sign _ sign.Comma t (takes _ next_argument) (on_sign _ sign.CloseParenthesis t
    (takes _ (λ ts rest h e f. record {
      args = [];
      fits = tt;
      written = ap (λ l. expr_tokens e
          ++ one sign.CloseParenthesis ∷ l) h;
    })) (none _ t))
-- statements
kept room Statements t =
    on_sign _ sign.CloseBrace t
    (takes _ (λ ts rest h. record { body = []; fits = tt; written = ap (λ l. one sign.CloseBrace ∷ l) h }))
    (gives_then IsStmt _ t (moved_by room statement t) (Statements ∷ []) (stays_by room statement t refl)
    more_statements (statement_kept room t))
kept room Statement t = statement_kept room t
kept room Initial t =
    on_sign _ sign.Assign t (takes _ initial) (on_sign _ sign.Semicolon t (takes _ declared) (none _ t))
kept room AfterName t =
    on_sign _ sign.Assign t (takes _ set) (on_open _ room sign.OpenBracket t (takes _ set_element)
    (on_open _ room sign.OpenParenthesis t (takes _ call) (none _ t)))
kept room Given t =
    on_sign _ sign.Semicolon t (takes _ returning)
    (gives_then (IsExpr 11) _ t (moved_by room operand t) (Tail ∷ Only sign.Semicolon ∷ [])
    (stays_by room operand t refl) given (operand_kept room t))
kept room Further t = on_sign _ sign.Comma t (takes _ further) (none _ t)
-- `if` and loops
kept room Condition t = on_open _ room sign.OpenParenthesis t (takes _ condition) (none _ t)
kept room Block t = on_open _ room sign.OpenBrace t (takes _ block) (none _ t)
kept room Else t =
    on_word _ keyword.Else t (takes _ (λ ts rest h. moved_along IsElse refl h.1 h.2))
    (stays_empty _ t (λ ts. record { arms = []; otherwise = None; arms_fit = tt; otherwise_fits = tt; written = refl }))
kept room Branch t =
    on_word _ keyword.If t (takes _ branch_if) (on_open _ room sign.OpenBrace t (takes _ branch_block) (none _ t))
kept room Loop t = loop_kept room t
kept room Assigned t = on_name _ t (λ w. takes _ (assigned w)) (none _ t)
kept room Test t = on_sign _ sign.Semicolon t (takes _ test) (none _ t)
-- declarations outside functions
kept room Items t =
    on_word _ keyword.Int t (takes _ int_outside) (on_word _ keyword.Unsigned t (takes _ unsigned_outside)
    (on_word _ keyword.Scratchpad t (takes _ scratchpad) (on_word _ keyword.Void t (takes _ gives_nothing)
    (stays_empty _ t (λ ts. record { items = []; fits = tt; written = refl })))))
kept room Outside t =
    on_open _ room sign.OpenParenthesis t (takes _ begun)
    (gives_as IsShape _ t (moved_by room variable t) (λ ts rest s k w. global false k w ts rest s)
    (variable_kept room t))
kept room Kind t = kind_kept room t
kept room PerhapsInt t =
    on_word _ keyword.Int t
    (takes _ (λ ts rest h. record {
      kind = kind.UnsignedInt;
      written = ap (λ l. word keyword.Unsigned ∷ word keyword.Int ∷ l) h;
    }))
    (stays_empty _ t (λ ts. record { kind = kind.Unsigned; written = refl }))
kept room Variable t = variable_kept room t
kept room Elements t =
    on_sign _ sign.Assign t (takes _ filled)
    (on_sign _ sign.Semicolon t
    (takes _ (λ ts rest h. record { values = []; written = ap (λ l. one sign.Semicolon ∷ l) h })) (none _ t))
kept room Constant t =
    on_number _ t (λ v u. takes _ (λ ts rest h. record {
      value = record { negative = false; value = v; unsigned = u };
      written = ap (λ l. token.Number v u ∷ l) h;
    }))
    (on_sign _ sign.Minus t (takes _ negative) (none _ t))
kept room MoreConstants t =
    on_sign _ sign.Comma t (takes _ next_constant)
    (on_sign _ sign.CloseBrace t
    (takes _ (λ ts rest h c. record {
      values = [];
      written = ap (λ l. const_tokens c ++ one sign.CloseBrace ∷ l)
          h;
    })) (none _ t))
kept room Parameters t =
    on_sign _ sign.CloseParenthesis t (takes _ (λ ts rest h. record {
      void_word = false;
      parameters = [];
      none = λ n. refl;
      written = ap (λ l. one sign.CloseParenthesis ∷ l) h;
    }))
    (on_word _ keyword.Void t (takes _ (λ ts rest h. record {
      void_word = true;
      parameters = [];
      none = λ n. refl;
      written = ap (λ l. word keyword.Void ∷ l) (h.1 ∙ ap (λ l. one sign.CloseParenthesis ∷ l) h.2);
    }))
    (gives_then IsKind _ t (moved_by room kind_rule t) (Name ∷ MoreParameters ∷ []) (stays_by room kind_rule t refl)
    some_parameters (kind_kept room t)))
kept room MoreParameters t = on_sign _ sign.Comma t (takes _ next_parameter) (on_sign _ sign.CloseParenthesis t
    (takes _ last_parameter) (none _ t))
