use Rattle.std.proofs.Common.{◌+◌, ◌∙◌, ap}
use Rattle.sp_tree.specs.Shown.{stmts_of}
use Rattle.sp_tree.specs.Statements.{one, joined, masks}
use Rattle.sp_inline.specs.Taken.{call_mask}
use Rattle.sp_inline.proofs.Steps.{on_done, all_handed}
use Rattle.sp_inline.proofs.calls.add_handed.Goals as goal

pub returns : goal.returns
returns c =
    let call = c.args.call.now in
    let m = c.args.callee.now in
    let old = stmts_of c.add_zeros.new.out.items in
    on_done c.add_mask.result (λ last. all_handed c.args.place m.function.mask (call_mask m.tests call.mask)
    call.args.now (stmts_of c.args.out.now.items)
    (stmts_of c.add_arguments.new.out.items) old (stmts_of c.add_mask.new.out.items) c.requires.few
    c.in_ok-add_arguments.ensures c.in_ok-add_zeros.ensures
    (last ∙ ap (λ e. joined old (one (masks (c.args.place + m.function.mask) e))) c.in_ok-value.ensures))
    c.add_mask.ensures
