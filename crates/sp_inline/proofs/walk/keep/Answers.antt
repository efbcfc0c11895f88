use Rattle.sp_tree.specs.Shown.{plain_stmt, stmts_of}
use Rattle.sp_inline.proofs.Walks.{as_it_stands}
use Rattle.sp_inline.proofs.walk.keep.Goals as goal

pub returns : goal.returns
returns c =
    as_it_stands c.args.room (stmts_of c.args.out.now.items) (stmts_of c.add.new.out.items) (plain_stmt c.args.t.now)
    (plain_stmt c.in_ok-t.t) c.in_ok-t.ensures
    c.in_ok-add.ensures
