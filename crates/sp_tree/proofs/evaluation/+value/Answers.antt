use Rattle.std.proofs.Common.{◌∙◌, sym, slice_index}
use Rattle.c_world.specs.Shown.{shown}
use Rattle.sp_tree.proofs.Parts.{cell_worth, element_worth, unary_worth, binary_worth}
use Rattle.sp_tree.proofs.evaluation.+value.Goals as goal

pub applied-returns-in-Scalar : goal.applied-returns-in-Scalar
applied-returns-in-Scalar t c = λ sends.
    c.word.ensures sends ∙ sym (cell_worth (slice_index c.args.frame.now) (shown c.args.memory.now sends) c.args.e.now
    c.in-Scalar.cell c.in-Scalar.is)

pub applied-returns-in-Element : goal.applied-returns-in-Element
applied-returns-in-Element t c = λ sends.
    let worth = element_worth (slice_index c.args.frame.now) (shown c.args.memory.now sends) c.args.e.now
    c.in-Element.array c.in-Element.index c.in-Element.is in
    let index = c.value-index.ensures sends in
    let read = c.element.ensures sends in
    cc (worth, index, read, c.deref.ensures)

pub applied-returns-in-Unary : goal.applied-returns-in-Unary
applied-returns-in-Unary t c = λ sends.
    let worth = unary_worth (slice_index c.args.frame.now) (shown c.args.memory.now sends) c.args.e.now c.in-Unary.op
    c.in-Unary.of c.in-Unary.is in
    let of = c.value.ensures sends in
    cc (worth, of, c.apply.ensures, c.deref-in-Unary.ensures)

pub applied-returns-in-Binary : goal.applied-returns-in-Binary
applied-returns-in-Binary t c = λ sends.
    let worth = binary_worth (slice_index c.args.frame.now) (shown c.args.memory.now sends) c.args.e.now c.in-Binary.op
    c.in-Binary.a c.in-Binary.b c.in-Binary.is in
    let a = c.value-in-Binary.ensures sends in
    let b = c.value-in-Binary-2.ensures sends in
    cc (worth, a, b, c.apply-in-Binary.ensures, c.deref-in-Binary.ensures, c.deref-in-Binary-2.ensures)
