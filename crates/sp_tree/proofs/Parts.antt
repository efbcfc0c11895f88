-- What an expression is worth, by its parts.
use Rattle.std.proofs.Common.{◌≡◌, ℕ, ap}
use Rattle.std.specs.declared.boxed.Box.{Box}
use Rattle.std.specs.Global.{Global}
use Rattle.c_world.specs.World.{World, word_at, element}
use Rattle.sp_tree.specs.declared.expressions.SpArray.{SpArray}
use Rattle.sp_tree.specs.declared.expressions.SpCell.{SpCell}
use Rattle.sp_tree.specs.declared.expressions.SpExpr.{SpExpr, Const, Frame, Scalar}
use Rattle.sp_tree.specs.declared.expressions.SpExpr.TheViews.{Element, Unary, Binary}
use Rattle.sp_tree.specs.declared.operators.SpUnary.{SpUnary}
use Rattle.sp_tree.specs.declared.operators.SpBinary.{SpBinary}
use Rattle.sp_tree.specs.Operators.{unary_value, binary_value}
use Rattle.sp_tree.specs.Plain.{plain_sp}
use Rattle.sp_tree.specs.Values.{sp_value}

pub const_worth : (frame : ℕ → ℕ) (w : World) (e : SpExpr) (value : ℕ) → e ≡ Const value → sp_value frame w (plain_sp e)
    ≡ value
unfolding plain_sp
const_worth frame w e value is = ap (λ x. sp_value frame w (plain_sp x)) is

pub slot_worth : (frame : ℕ → ℕ) (w : World) (e : SpExpr) (slot : ℕ) → e ≡ Frame slot → sp_value frame w (plain_sp e)
    ≡ frame slot
unfolding plain_sp
slot_worth frame w e slot is = ap (λ x. sp_value frame w (plain_sp x)) is

pub cell_worth : (frame : ℕ → ℕ) (w : World) (e : SpExpr) (cell : SpCell) → e ≡ Scalar cell
    → sp_value frame w (plain_sp e) ≡ word_at cell.region cell.word w
unfolding plain_sp
cell_worth frame w e cell is = ap (λ x. sp_value frame w (plain_sp x)) is

pub element_worth : (frame : ℕ → ℕ) (w : World) (e : SpExpr) (array : SpArray) (b : Box SpExpr Global) → e
    ≡ Element array b
    → sp_value frame w (plain_sp e) ≡ element array.region array.first array.length (sp_value frame w
    (plain_sp b.value)) w
unfolding plain_sp
element_worth frame w e array b is = ap (λ x. sp_value frame w (plain_sp x)) is

pub unary_worth : (frame : ℕ → ℕ) (w : World) (e : SpExpr) (op : SpUnary) (b : Box SpExpr Global) → e ≡ Unary op b
    → sp_value frame w (plain_sp e) ≡ unary_value op (sp_value frame w (plain_sp b.value))
unfolding plain_sp
unary_worth frame w e op b is = ap (λ x. sp_value frame w (plain_sp x)) is

pub binary_worth : (frame : ℕ → ℕ) (w : World) (e : SpExpr) (op : SpBinary) (a : Box SpExpr Global)
    (b : Box SpExpr Global) → e ≡ Binary op a b
    → sp_value frame w (plain_sp e) ≡ binary_value op (sp_value frame w (plain_sp a.value)) (sp_value frame w
    (plain_sp b.value))
unfolding plain_sp
binary_worth frame w e op a b is = ap (λ x. sp_value frame w (plain_sp x)) is
