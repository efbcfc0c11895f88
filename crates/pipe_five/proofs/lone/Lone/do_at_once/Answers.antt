use Rattle.std.proofs.Common.{sym, ◌∙◌, subst, rules, w32, to_z-of_z}
use Rattle.patmos_alone.specs.AtOnce.{IsBranchIn}
use Rattle.patmos_alone.proofs.AtOnce.{branch_next}
use Rattle.pipe_five.proofs.lone.Lone.do_at_once.Goals as goal

pub do_branch-requires-clause-next : goal.do_branch-requires-clause-next
do_branch-requires-clause-next c =
    subst (IsBranchIn c.args.self.now.cycle c.args.self.now.body c.in-Some.offset c.in-Some-decoded_at.found.now.words
    c.in-Branch.guard) (sym (to_z-of_z {w = w32} {z = c.in-Branch.by} (search rules)))
    (branch_next c.args.self.now.cycle c.in-Some.offset c.args.self.now.body c.in-Some-decoded_at.found.now
    c.in-Branch.guard c.in-Branch.by c.in-Some.ensures.begins c.in-Some.ensures.lands
    c.in-Some-decoded_at.ensures.found c.in-Some-decoded_at.ensures.inside c.in-Some-decoded_at.ensures.within
    c.in-Branch.is (sym c.has_no_slot_left.ensures ∙ c.if-has_no_slot_left.true))
