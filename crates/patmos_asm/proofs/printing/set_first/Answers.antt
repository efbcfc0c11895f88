use Rattle.std.proofs.Common.{◌≡◌, nat_eq, None, rules}
use Rattle.std.specs.HashMap.{get}
use Rattle.patmos_asm.proofs.Targets.{name_set}
use Rattle.patmos_asm.proofs.printing.set_first.Goals as goal

pub returns-in_ok-insert : goal.returns-in_ok-insert
returns-in_ok-insert c = λ q other.
    let free : get nat_eq c.args.functions.now c.args.start ≡ None = search rules in
    name_set c.args.start q c.args.name (get nat_eq c.args.functions.now) (get nat_eq c.insert.new.self q) other
    (c.in_ok-insert.ensures.updates.0 q) free
