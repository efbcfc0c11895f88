-- How many tokens a variable or an array has that stands outside functions.
use Rattle.std.proofs.Common.{◌≡◌, ℕ, ◌+◌, true, false, List, [], ◌∷◌, ◌++◌, length, Option, None, Some, refl, length-append, arith}
use Rattle.std.specs.Prelude.{sum_by, if◌then◌else◌}
use Rattle.std.proofs.lemmas.List.Sums.{sum_by-cons}
use Rattle.c_tree.specs.declared.tokens.Token.TheVariants as token
use Rattle.c_tree.specs.declared.tokens.Keyword.TheVariants as keyword
use Rattle.c_tree.specs.declared.tokens.Sign.TheVariants as sign
use Rattle.c_tree.specs.declared.units.Const.{Const}
use Rattle.c_tree.specs.declared.units.Global.{Global as Variable}
use Rattle.c_tree.specs.declared.units.Length.{Length}
use Rattle.c_tree.specs.Tokens.{one, word, ended, kind_tokens, const_tokens, consts_tokens, shape_tokens, global_tokens}
use Rattle.c_tree.specs.Sizes.{kind_size, const_size}
use Rattle.c_tree.proofs.Sizes.{braced_size, ended_size}

consts_size : (k : Const) (ks : List Const) → length (consts_tokens (k ∷ ks)) + 1 ≡ sum_by const_size (k ∷ ks)
consts_size k [] = omega (arith, sum_by-cons const_size k [])
consts_size k (l ∷ ks) =
    omega (
      arith,
      length-append (const_tokens k) (one sign.Comma ∷ consts_tokens (l ∷ ks)),
      consts_size l ks,
      sum_by-cons const_size k (l ∷ ks),
    )

-- the tokens before an array's or a variable's first values, or all of them with the semicolon where there are none
abbrev pub before_values : Option Length → List Const → ℕ
before_values None values = 1
before_values (Some l) [] = 4
before_values (Some l) (k ∷ ks) = 6

pub size_of_shape : (l : Option Length) (initial : List Const)
    → length (shape_tokens l initial) + 1 ≡ before_values l initial + sum_by const_size initial
size_of_shape None [] = refl
size_of_shape None (k ∷ ks) = omega (arith, consts_size k ks)
size_of_shape (Some l) [] = refl
size_of_shape (Some l) (k ∷ ks) = omega (arith, consts_size k ks, braced_size (consts_tokens (k ∷ ks)))

named_size : (g : Variable) → length (kind_tokens g.kind ++ token.Word g.name ∷ ended (shape_tokens g.length g.initial))
    ≡ kind_size g.kind + length (shape_tokens g.length g.initial) + 2
named_size g =
    omega (
      arith,
      length-append (kind_tokens g.kind) (token.Word g.name ∷ ended (shape_tokens g.length g.initial)),
      ended_size (shape_tokens g.length g.initial),
    )

pub size_of_global : (g : Variable) → length (global_tokens g) ≡ (if g.scratch then 1 else 0) + kind_size g.kind
    + length (shape_tokens g.length g.initial) + 2
size_of_global g =
    elim g.scratch as (λ b. length ((if b then word keyword.Scratchpad ∷ [] else [])
    ++ (kind_tokens g.kind ++ token.Word g.name ∷ ended (shape_tokens g.length g.initial)))
    ≡ (if b then 1 else 0) + kind_size g.kind + length (shape_tokens g.length g.initial) + 2)
    [ true ↦ omega (arith, named_size g) | false ↦ omega (arith, named_size g) ]
