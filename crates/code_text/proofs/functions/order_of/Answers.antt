use Rattle.std.proofs.Common.{◌≡◌, ◌<◌, ◌∷◌, length, refl, sym, ap, ◌∙◌, subst, arith}
use Rattle.std.specs.List.{All}
use Rattle.std.proofs.lemmas.List.Elements.{All-from_recursion}
use Rattle.sp_shape.specs.Shown.{plain_shape}
use Rattle.sp_shape.proofs.Plain.{functions_count}
use Rattle.cycle_bound.proofs.Earlier.{shape_parts}
use Rattle.tc_link.specs.Placed.{others, order}
use Rattle.tc_link.proofs.Order.{order_more, order_same}
use Rattle.code_text.proofs.Ordered.{order_within}
use Rattle.code_text.proofs.functions.order_of.Goals.{then-function-entry+in_ok-push-2, else-function-entry}
use Rattle.code_text.proofs.functions.order_of.Goals as goal

pub loop-function-preserved : goal.loop-function-preserved
loop-function-preserved c =
    elim c.if-function-entry.branch [
      | then-function-entry+in_ok-push-2 w ↦
          order_more (λ xs. xs) (λ xs ys. refl) c.args.shape.now.entry c.loop-function.function
          c.loop-function.made.items c.if-function-entry.made.items w.if-function-entry.true
          c.loop-function.invariant
          (ap (λ v. v.items) w.made-is ∙ w.in_ok-push-2.ensures.items)
      | else-function-entry w ↦
          order_same (λ xs. xs) c.args.shape.now.entry c.loop-function.function c.loop-function.made.items
          c.if-function-entry.made.items w.if-function-entry.false c.loop-function.invariant
          (ap (λ v. v.items) w.made-is)
    ]

pub returns-clause-order : goal.returns-clause-order
returns-clause-order c =
    let count = functions_count c.args.shape.now.functions in
    let passed = ap length c.as_slice-function-end.ensures in
    let all : c.loop-function.function ≡ length (plain_shape c.args.shape.now).functions =
    omega (arith, count, passed) in
    c.loop-function.invariant ∙ ap (λ n. c.args.shape.now.entry ∷ others c.args.shape.now.entry n) all

pub returns-clause-within : goal.returns-clause-within
returns-clause-within c =
    let s = plain_shape c.args.shape.now in
    subst (All (λ k. k < length s.functions)) (sym (returns-clause-order c))
    (All-from_recursion (λ k. k < length s.functions) (order s) (order_within s.entry (length s.functions)
    (shape_parts s c.requires).entry))
