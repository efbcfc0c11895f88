use Rattle.sp_tree.specs.Shown.{stmts_of}
use Rattle.sp_inline.specs.Shown.{args_of}
use Rattle.sp_inline.specs.Taken.{call_mask}
use Rattle.sp_inline.proofs.Steps.{on_done, all_begun}
use Rattle.sp_inline.proofs.calls.add_begun.Goals as goal

pub returns : goal.returns
returns c =
    let call = c.args.call.now in
    let m = c.args.callee.now in
    on_done c.add_zeros.result (λ last. all_begun c.args.place m.words m.function.mask (call_mask m.tests call.mask)
    (args_of call) (stmts_of c.args.out.now.items)
    (stmts_of c.add_handed.new.out.items) (stmts_of c.add_zeros.new.out.items) c.requires.mask
    c.in_ok-add_handed.ensures last) c.add_zeros.ensures
