-- From which register on the words of a function stand, argument by argument.
use Rattle.std.proofs.Common.{◌≡◌, ℕ, ◌+◌, ◌<◌, ◌≤◌, max, List, [], ◌∷◌, length, drop, get_or, map, ap, subst, arith}
use Rattle.std.proofs.lemmas.List.{drop_all}
use Rattle.tc_word.proofs.Items.{drop_item}
use Rattle.sp_tree.specs.Need.{need}
use Rattle.sp_tree.specs.Plain.{PlainSp, plain_sp}
use Rattle.sp_tree.specs.declared.expressions.SpExpr.{SpExpr}
use Rattle.sp_emit.specs.Fits.{ExprFits, ArgsFit}
use Rattle.sp_emit.specs.Places.{args_least}
use Rattle.sp_emit.proofs.Fitting.{first_argument}

pub first_least : (args : List PlainSp) (rd : ℕ) → rd ≤ args_least args rd
first_least [] rd = omega arith
first_least (e ∷ args) rd = omega arith

pub argument_fits : (args : List SpExpr) (i rd : ℕ) (e : SpExpr) → i < length args → e ≡ get_or args i e
    → ArgsFit (map plain_sp (drop i args)) rd → ExprFits (plain_sp e) rd
argument_fits args i rd e within is fits = first_argument (plain_sp e) (map plain_sp (drop (i + 1) args))
    (subst (λ es. ArgsFit (map plain_sp es) rd) (drop_item args i e within is) fits)

pub argument_least : (args : List SpExpr) (i rd : ℕ) (e : SpExpr) (least n most whole : ℕ) → i < length args → e
    ≡ get_or args i e → n ≡ need (plain_sp e) → most ≡ max least (rd + n)
    → max least (args_least (map plain_sp (drop i args)) rd) ≡ whole
    → max most (args_least (map plain_sp (drop (i + 1) args)) (rd + 1)) ≡ whole
argument_least args i rd e least n most whole within is needs more before =
    let next = ap (λ es. args_least (map plain_sp es) rd) (drop_item args i e within is) in
    omega (arith, next, needs, more, before)

pub least_done : (args : List SpExpr) (i rd least whole : ℕ) → length args ≤ i → rd ≤ least
    → max least (args_least (map plain_sp (drop i args)) rd) ≡ whole → least ≡ whole
least_done args i rd least whole past enough before =
    let none = ap (λ es. args_least (map plain_sp es) rd) (drop_all i args past) in
    omega (arith, none, enough, before)
