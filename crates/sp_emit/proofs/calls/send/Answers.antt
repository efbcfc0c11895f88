use Rattle.std.proofs.Common.{◌≡◌, ◌++◌, ap₂, ◌∙◌, subst}
use Rattle.std.specs.Prelude.{OnOk}
use Rattle.sp_shape.specs.Parts.{straight, one, joined}
use Rattle.sp_shape.specs.Shown.{parts_of}
use Rattle.sp_emit.proofs.calls.send.Goals as goal

pub returns : goal.returns
returns c =
    let first = c.in_ok-extend_from_slice.ensures.items
    ∙ ap₂ (λ xs ys. xs ++ ys) c.new-bundles.ensures.items c.send_test.ensures in
    let all = c.deref.ensures.value ∙ c.in_ok-extend_from_slice-2.ensures.items
    ∙ ap₂ (λ xs ys. xs ++ ys) first c.send_start.ensures in
    subst (λ bs. OnOk c.push_straight.result (parts_of c.push_straight.new.out.items
    ≡ joined (parts_of c.args.out.now.items) (one (straight bs)))) all c.push_straight.ensures
