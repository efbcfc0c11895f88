-- What resolved operators are worth: what the operators are that they stand for.
use Rattle.std.proofs.Common.{◌≡◌, Bool, true, false, List, [], ◌∷◌, refl, ap, ◌∙◌}
use Rattle.c_tree.specs.declared.expressions.BinaryOp.{BinaryOp}
use Rattle.c_tree.specs.declared.expressions.BinaryOp.TheVariants as binary
use Rattle.c_tree.specs.declared.expressions.UnaryOp.{UnaryOp}
use Rattle.c_tree.specs.declared.expressions.UnaryOp.TheVariants as unary
use Rattle.sp_tree.specs.Plain.{PlainSp}
use Rattle.c_meaning.specs.Operators.{signed_value, signs_value, between_value}
use Rattle.c_meaning.specs.Resolve.{resolved_between, resolved_sign, resolved_signs}
use Rattle.c_meaning.specs.Resolved.{worth}
use Rattle.c_meaning.specs.Values.{State}

pub between_worth : (op : BinaryOp) (u : Bool) (a b : PlainSp) (s : State)
    → worth (resolved_between op u a b) s ≡ between_value op u (worth a s) (worth b s)
between_worth binary.Less true a b s = refl
between_worth binary.Less false a b s = refl
between_worth binary.Greater true a b s = refl
between_worth binary.Greater false a b s = refl
between_worth binary.LessEqual true a b s = refl
between_worth binary.LessEqual false a b s = refl
between_worth binary.GreaterEqual true a b s = refl
between_worth binary.GreaterEqual false a b s = refl
between_worth binary.ShiftRight true a b s = refl
between_worth binary.ShiftRight false a b s = refl
between_worth binary.Divide true a b s = refl
between_worth binary.Divide false a b s = refl
between_worth binary.Remainder true a b s = refl
between_worth binary.Remainder false a b s = refl
between_worth _ u a b s = refl

sign_worth : (op : UnaryOp) (e : PlainSp) (s : State) → worth (resolved_sign op e) s ≡ signed_value op (worth e s)
sign_worth unary.Minus e s = refl
sign_worth _ e s = refl

pub signs_worth : (ops : List UnaryOp) (e : PlainSp) (s : State) → worth (resolved_signs ops e) s
    ≡ signs_value ops (worth e s)
signs_worth [] e s = refl
signs_worth (op ∷ ops) e s = sign_worth op (resolved_signs ops e) s ∙ ap (signed_value op) (signs_worth ops e s)
