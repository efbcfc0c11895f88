use Rattle.std.proofs.Common.{Some, None, ap, sym, ◌∙◌}
use Rattle.std.specs.Prelude.{bytes_eq, if◌then◌else◌}
use Rattle.std.specs.HashMap.{get_by}
use Rattle.std.specs.Option.{option_copied, option_or}
use Rattle.std.proofs.lemmas.Map.Text.{hash_map_updates_str}
use Rattle.std.proofs.lemmas.Slice.Eq.{bytes_eq-Decides}
use Rattle.c_meaning.specs.Globals.{first_in}
use Rattle.c_meaning.proofs.Firsts.{first_noted}
use Rattle.c_meaning.proofs.globals.note.Goals as goal

pub returns-in-Ok : goal.returns-in-Ok
returns-in-Ok c = λ name.
    let text = c.as_str-name.result.now in
    let first = c.args.first.now in
    ap option_copied (hash_map_updates_str text first c.insert.new.self _ c.in-Ok.ensures.updates name)
    ∙ first_noted (bytes_eq text name) (get_by (λ k. bytes_eq name k.now) first) (get_by (λ k. bytes_eq text k.now)
    first) c.args.slot
    (λ same. ap (λ n. get_by (λ k. bytes_eq n k.now) first) (sym ((bytes_eq-Decides text name).0 same)))
    (sym c.contains_key.ensures ∙ c.if-contains_key.false)
    ∙ ap (λ t. option_or (first_in first name) (if bytes_eq t name then Some c.args.slot.now else None))
    c.as_str-name.ensures
