use Rattle.std.proofs.Common.{◌∙◌, ap, arith}
use Rattle.sp_tree.specs.Shown.{plain_function, stmts_of}
use Rattle.sp_inline.specs.Taken.{grown}
use Rattle.sp_inline.proofs.InOrder.{walk_small}
use Rattle.sp_inline.proofs.units.take_whole.Goals as goal

pub grown-requires : goal.grown-requires
grown-requires c =
    walk_small c.args.earlier.now c.args.most c.args.frame _ c.args.own c.in_ok-body.left
    (stmts_of c.in_ok-body.body.items) (omega arith) c.requires c.in_ok-body.ensures

pub returns : goal.returns
returns c =
    ap plain_function c.of.ensures ∙ c.grown.ensures
    ∙ ap (grown (plain_function c.args.own.function)) c.in_ok-body.ensures
