-- What expressions of boxes say, by what stands in the boxes.
use Rattle.std.proofs.Common.{◌≡◌, ap, ap₂}
use Rattle.std.specs.declared.boxed.Box.{Box}
use Rattle.std.specs.Global.{Global}
use Rattle.sp_tree.specs.declared.expressions.SpArray.{SpArray}
use Rattle.sp_tree.specs.declared.expressions.SpExpr.{SpExpr}
use Rattle.sp_tree.specs.declared.expressions.SpExpr.TheViews.{Element, Unary, Binary}
use Rattle.sp_tree.specs.declared.operators.SpUnary.{SpUnary}
use Rattle.sp_tree.specs.declared.operators.SpBinary.{SpBinary}
use Rattle.sp_tree.specs.Plain.{plain_sp, array_word, before_one, between_two}

pub plain_element : (array : SpArray) (index : SpExpr) (b : Box SpExpr Global) → b.value ≡ index
    → plain_sp (Element array b) ≡ array_word array (plain_sp index)
unfolding plain_sp
plain_element array index b is = ap (λ e. array_word array (plain_sp e)) is

pub plain_unary : (op : SpUnary) (of : SpExpr) (b : Box SpExpr Global) → b.value ≡ of → plain_sp (Unary op b)
    ≡ before_one op (plain_sp of)
unfolding plain_sp
plain_unary op of b is = ap (λ e. before_one op (plain_sp e)) is

pub plain_binary : (op : SpBinary) (x y : SpExpr) (a b : Box SpExpr Global) → a.value ≡ x → b.value ≡ y
    → plain_sp (Binary op a b) ≡ between_two op (plain_sp x) (plain_sp y)
unfolding plain_sp
plain_binary op x y a b is_x is_y = ap₂ (λ e f. between_two op (plain_sp e) (plain_sp f)) is_x is_y
