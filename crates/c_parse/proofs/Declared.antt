-- What is written of a declaration so far, with one part more.
use Rattle.std.proofs.Common.{◌≡◌, ◌≢◌, ℕ, ◌≤◌, false, List, [], ◌∷◌, ◌++◌, length, None, refl, ap, sym, ◌∙◌, append_assoc, append-nil, arith}
use Rattle.c_tree.specs.declared.tokens.Token.{Token}
use Rattle.c_tree.specs.declared.tokens.Token.TheVariants as token
use Rattle.c_tree.specs.declared.tokens.Sign.TheVariants as sign
use Rattle.c_tree.specs.declared.units.Const.{Const}
use Rattle.c_parse.specs.Expected.{Expected, Name, Outside, Variable, Items, MoreParameters, may_end, drive, drive_to}
use Rattle.c_parse.specs.Readers.{begins, room_at}
use Rattle.c_parse.specs.Sorts.{may_open}
use Rattle.c_parse.specs.Expected as expected
use Rattle.c_parse.proofs.Growing.{grown}
use Rattle.c_parse.proofs.Steps.{name_read}
use Rattle.c_parse.proofs.Starts.{outside_variable, parameters_next}
use Rattle.c_tree.specs.declared.units.Parameter.{Parameter}
use Rattle.c_tree.specs.declared.units.Item.{Item}
use Rattle.c_tree.specs.Tokens.{kind_tokens, const_tokens, consts_tokens, initials_tokens, parameters_tokens, item_tokens, items_tokens, braced, one}

consts_push : (cs : List Const) (c : Const) → cs ≢ [] → consts_tokens (cs ++ c ∷ []) ≡ consts_tokens cs
    ++ one sign.Comma ∷ const_tokens c
consts_push [] c some = absurd (some refl)
consts_push (a ∷ []) c some = refl
consts_push (a ∷ b ∷ cs) c some =
    ap (λ ts. const_tokens a ++ one sign.Comma ∷ ts) (consts_push (b ∷ cs) c (λ h. cc)) ∙ simp append_assoc

pub consts_grown : (ts rest behind after : List Token) (cs more : List Const) (c : Const) → ts ≡ consts_tokens cs
    ++ rest → cs ≢ [] → more ≡ cs ++ c ∷ []
    → rest ≡ one sign.Comma ∷ behind → behind ≡ const_tokens c ++ after → ts ≡ consts_tokens more ++ after
consts_grown ts rest behind after cs more c so_far some pushed comma next =
    grown consts_tokens cs more c (one sign.Comma ∷ const_tokens c) ts rest after (consts_push cs c some) so_far pushed
    (comma ∙ ap (λ l. one sign.Comma ∷ l) next)

parameters_push : (ps : List Parameter) (p : Parameter) → ps ≢ []
    → parameters_tokens (ps ++ p ∷ []) ≡ parameters_tokens ps ++ one sign.Comma ∷ (kind_tokens p.kind
    ++ token.Word p.name ∷ [])
parameters_push [] p some = absurd (some refl)
parameters_push (a ∷ []) p some = sym (append_assoc (kind_tokens a.kind) (token.Word a.name ∷ []) _)
parameters_push (a ∷ b ∷ ps) p some =
    ap (λ ts. kind_tokens a.kind ++ token.Word a.name ∷ one sign.Comma ∷ ts) (parameters_push (b ∷ ps) p (λ h. cc))
    ∙ sym (append_assoc (kind_tokens a.kind) (token.Word a.name ∷ one sign.Comma ∷ parameters_tokens (b ∷ ps)) _)

pub parameters_grown : (ts rest behind after : List Token) (ps more : List Parameter) (p : Parameter) → ts
    ≡ parameters_tokens ps ++ rest → ps ≢ [] → more ≡ ps ++ p ∷ []
    → rest ≡ one sign.Comma ∷ behind → behind ≡ kind_tokens p.kind ++ token.Word p.name ∷ after → ts
    ≡ parameters_tokens more ++ after
parameters_grown ts rest behind after ps more p so_far some pushed comma next =
    grown parameters_tokens ps more p (one sign.Comma ∷ (kind_tokens p.kind ++ token.Word p.name ∷ [])) ts rest after
    (parameters_push ps p some) so_far pushed
    (comma ∙ ap (λ l. one sign.Comma ∷ l) (next
    ∙ sym (append_assoc (kind_tokens p.kind) (token.Word p.name ∷ []) after)))

items_push : (items : List Item) (i : Item) → items_tokens (items ++ i ∷ []) ≡ items_tokens items ++ item_tokens i
items_push [] i = append-nil (item_tokens i)
items_push (a ∷ items) i = ap (λ ts. item_tokens a ++ ts) (items_push items i)
    ∙ sym (append_assoc (item_tokens a) (items_tokens items) (item_tokens i))

pub items_grown : (ts rest after : List Token) (items more : List Item) (i : Item) → ts ≡ items_tokens items ++ rest
    → more ≡ items ++ i ∷ []
    → rest ≡ item_tokens i ++ after → ts ≡ items_tokens more ++ after
items_grown ts rest after items more i so_far pushed next =
    grown items_tokens items more i (item_tokens i) ts rest after (items_push items i) so_far pushed next

-- an array with first values
pub initials_some : (cs : List Const) → 1 ≤ length cs → initials_tokens cs ≡ one sign.Assign ∷ braced (consts_tokens cs)
initials_some [] h = absurd (omega (arith, h))
initials_some (c ∷ cs) h = refl

-- one parameter more is read
pub parameter_passed : (n : ℕ) (ts rest behind after : List Token) (xs ys : List Expected) → drive n ys ts
    ≡ drive n (MoreParameters ∷ xs) rest → rest ≡ one sign.Comma ∷ behind
    → drive n (expected.Kind ∷ Name ∷ MoreParameters ∷ xs) behind ≡ drive n (MoreParameters ∷ xs) after → drive n ys ts
    ≡ drive n (MoreParameters ∷ xs) after
parameter_passed n ts rest behind after xs ys so_far comma further =
    so_far ∙ ap (drive n (MoreParameters ∷ xs)) comma ∙ parameters_next 64 n behind xs ∙ further

-- a name that no parenthesis follows is a variable's
pub name_outside : (ts behind : List Token) (w : List ℕ) (xs : List Expected) → ts ≡ token.Word w ∷ behind
    → begins (may_open (room_at 0) sign.OpenParenthesis) behind ≡ false
    → drive 0 (Name ∷ Outside ∷ xs) ts ≡ drive 0 (Name ∷ Variable ∷ xs) ts
name_outside ts behind w xs read none =
    ap (drive 0 (Name ∷ Outside ∷ xs)) read ∙ name_read 64 0 w behind (Outside ∷ xs)
    ∙ outside_variable 64 0 behind xs none
    ∙ sym (ap (drive 0 (Name ∷ Variable ∷ xs)) read ∙ name_read 64 0 w behind (Variable ∷ xs))

-- all is read
pub all_read : (ts rest : List Token) → drive 0 (Items ∷ []) ts ≡ drive 0 (Items ∷ []) rest → rest ≡ []
    → drive 0 (Items ∷ []) ts ≡ None
unfolding drive_to may_end
all_read ts rest so_far none = so_far ∙ ap (drive 0 (Items ∷ [])) none
