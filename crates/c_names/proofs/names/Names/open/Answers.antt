use Rattle.std.proofs.Common.{arith}
use Rattle.std.proofs.lemmas.Map.Text.{hash_map_updates_str}
use Rattle.c_names.specs.declared.names.Entry.{Entry}
use Rattle.c_names.specs.Entries.{last_in}
use Rattle.c_names.proofs.Entries.{kept_pushed, hidden_pushed}
use Rattle.c_names.proofs.names.Names.open.Goals as goal

pub invariant_of-self-in-Ok : goal.invariant_of-self-in-Ok
invariant_of-self-in-Ok g c =
    let names = c.args.self.now in
    let e : Entry _ = record { name = c.args.name; means = c.args.means; hides = c.number-hides.result } in
    record {
      last_kept = kept_pushed (last_in names.last) (last_in c.insert.new.self) names.entries.items c.push.new.self.items
          e c.len-number.result
          names.last_kept c.in_ok-push.ensures.items (omega (arith, c.len-number.ensures))
          (hash_map_updates_str c.args.name.now names.last c.insert.new.self _ c.in-Ok.ensures.updates);
      hidden_kept = hidden_pushed names.entries.items c.push.new.self.items e names.hidden_kept
          c.number-hides.ensures.number c.in_ok-push.ensures.items;
    }
