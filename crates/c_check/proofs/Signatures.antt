-- The size of what stands between a function's parentheses.
use Rattle.std.proofs.Common.{◌≡◌, ◌+◌, ◌<◌, Bool, false, List, [], ◌∷◌, length, length-append, ap, arith}
use Rattle.std.specs.Prelude.{sum_by, if◌then◌else◌}
use Rattle.std.proofs.lemmas.List.Sums.{sum_by-cons}
use Rattle.c_tree.specs.declared.tokens.Token.TheVariants as token
use Rattle.c_tree.specs.declared.tokens.Sign.TheVariants as sign
use Rattle.c_tree.specs.declared.units.Parameter.{Parameter}
use Rattle.c_tree.specs.Sizes.{parameter_size, list_size}
use Rattle.c_tree.specs.Tokens.{one, kind_tokens, parameters_tokens}

parameters_size : (p : Parameter) (ps : List Parameter) → length (parameters_tokens (p ∷ ps)) + 1
    ≡ sum_by parameter_size (p ∷ ps)
parameters_size p [] =
    omega (arith, length-append (kind_tokens p.kind) (token.Word p.name ∷ []), sum_by-cons parameter_size p [])
parameters_size p (q ∷ ps) =
    omega (
      arith,
      length-append (kind_tokens p.kind) (token.Word p.name ∷ one sign.Comma ∷ parameters_tokens (q ∷ ps)),
      parameters_size q ps,
      sum_by-cons parameter_size p (q ∷ ps),
    )

some_parameters : (ps : List Parameter) → 0 < length ps → sum_by parameter_size ps ≡ length (parameters_tokens ps) + 1
some_parameters [] h = absurd (omega arith)
some_parameters (p ∷ ps) h = omega (arith, parameters_size p ps)

pub list_sized : (void_word : Bool) (ps : List Parameter) → void_word ≡ false → 0 < length ps → list_size void_word ps
    + 1 ≡ sum_by parameter_size ps
list_sized void_word ps no_word some =
    let listed : list_size void_word ps ≡ length (parameters_tokens ps) =
    ap (λ b. if b then 1 else length (parameters_tokens ps)) no_word in
    omega (arith, listed, some_parameters ps some)
