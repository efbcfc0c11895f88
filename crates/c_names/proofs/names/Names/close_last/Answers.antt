use Rattle.std.proofs.Common.{is_some, ap}
use Rattle.c_names.specs.Entries.{last_in}
use Rattle.c_names.proofs.Entries.{kept_closed, hidden_closed, last_known}
use Rattle.c_names.proofs.names.Names.close_last.Goals as goal

pub restore-requires : goal.restore-requires
restore-requires g c =
    let names = c.args.self.now in
    ap is_some (last_known (last_in names.last) names.entries.items c.pop.new.self.items c.in-Some.closed
    names.last_kept c.in-Some.ensures.items)

pub invariant_of-self-2 : goal.invariant_of-self-2
invariant_of-self-2 g c =
    let names = c.args.self.now in
    record {
      last_kept = kept_closed (last_in names.last) (last_in c.restore.new.last) names.entries.items c.pop.new.self.items
          c.in-Some.closed
          names.last_kept names.hidden_kept c.in-Some.ensures.items c.restore.ensures;
      hidden_kept = hidden_closed names.entries.items c.pop.new.self.items c.in-Some.closed names.hidden_kept
          c.in-Some.ensures.items;
    }
