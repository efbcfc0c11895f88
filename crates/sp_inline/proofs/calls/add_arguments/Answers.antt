use Rattle.std.proofs.Common.{rules, ◌≡◌, ◌+◌, ◌∙◌, ap, length, map, arith}
use Rattle.sp_tree.specs.Plain.{plain_sp}
use Rattle.sp_tree.specs.Shown.{stmts_of}
use Rattle.sp_tree.specs.Statements.{joined, one, masks}
use Rattle.sp_inline.specs.Taken.{begun_words}
use Rattle.sp_inline.proofs.Steps.{next_argument, no_argument}
use Rattle.sp_inline.proofs.calls.add_arguments.Goals as goal

pub loop-k-preserved : goal.loop-k-preserved
loop-k-preserved c =
    let old = stmts_of c.loop-k.out.items in
    let value : plain_sp c.in_ok-value.value ≡ plain_sp c.index-args-k.result = search rules in
    next_argument c.args.place c.loop-k.k c.args.args.now c.index-args-k.result old (stmts_of c.add_mask.new.out.items)
    (joined (stmts_of c.args.out.now.items) (begun_words c.args.place (length c.args.args.now)
    (map plain_sp c.args.args.now)))
    (omega arith) c.index-args-k.is (c.in_ok-add_mask.ensures
    ∙ ap (λ e. joined old (one (masks (c.args.place + c.loop-k.k) e))) value) c.loop-k.invariant

pub returns : goal.returns
returns c =
    no_argument c.args.place c.loop-k.k c.args.args.now (stmts_of c.loop-k.out.items)
    (joined (stmts_of c.args.out.now.items) (begun_words c.args.place (length c.args.args.now)
    (map plain_sp c.args.args.now))) (omega arith) c.loop-k.invariant
