use Rattle.std.proofs.Common.{◌≡◌, ◌∙◌, None, rules}
use Rattle.std.proofs.lemmas.Map.Text.{hash_map_updates_str}
use Rattle.patmos_asm.specs.Names.{place_in}
use Rattle.patmos_asm.proofs.Placed.{set_now}
use Rattle.patmos_asm.proofs.names.set_first.Goals as goal

pub returns-in_ok-insert : goal.returns-in_ok-insert
returns-in_ok-insert c = λ q.
    let free : place_in c.args.places.now c.args.name.now ≡ None = search rules in
    hash_map_updates_str c.args.name.now c.args.places.now c.insert.new.self _ c.in_ok-insert.ensures.updates q
    ∙ set_now (place_in c.args.places.now) c.args.name.now c.args.place free q
