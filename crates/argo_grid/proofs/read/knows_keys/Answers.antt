use Rattle.std.proofs.Common.{◌≡◌, false, true, ◌∷◌, None, arith, ap, subst, sym, ◌∙◌}
use Rattle.std.proofs.lemmas.Grind.{common_steps}
use Rattle.std.specs.List.Sorted.{IsStrictlySortedBy}
use Rattle.std.specs.Map.{keys_of}
use Rattle.std.specs.String.{string_cmp}
use Rattle.toml.proofs.Views.{Entry}
use Rattle.toml.specs.View.{members_view}
use Rattle.tc_toml.proofs.Rising.{fails_reported, known_key, later_keys, unknown_key}
use Rattle.argo_grid.specs.Read.{is_key, known_keys}
use Rattle.argo_grid.proofs.read.knows_keys.Goals as goal

pub returns-then-not-is_key : goal.returns-then-not-is_key
returns-then-not-is_key c =
    let (can, finite, same, sorted) = c.keys.invariant in
    let e : Entry = (c.in-Some.key.now, c.in-Some._value.now) in
    let here : c.keys.key-iterator ≡ e ∷ c.next.new.self = grind (arith, common_steps) in
    let unknown : is_key c.as_str.result.now ≡ false = grind (arith, common_steps) in
    fails_reported _ None _ c.fault.result (known_keys (members_view c.args.top.now.table.now.entries))
    (rw c.requires at c.fault.ensures)
    (rw c.as_str-then-not-is_key.ensures.value
    (sym same ∙ ap (λ es. known_keys (members_view es)) here
    ∙ unknown_key is_key None e c.next.new.self (subst (λ es. IsStrictlySortedBy string_cmp (keys_of es)) here sorted)
    (rw c.as_str.ensures.value at unknown)))

pub keys-preserved : goal.keys-preserved
keys-preserved c =
    let (can, finite, same, sorted) = c.keys.invariant in
    let e : Entry = (c.in-Some.key.now, c.in-Some._value.now) in
    let here : c.keys.key-iterator ≡ e ∷ c.next.new.self = grind (arith, common_steps) in
    let known : is_key c.as_str.result.now ≡ true = grind (arith, common_steps) in (
      tt,
      tt,
      sym (ap (λ es. known_keys (members_view es)) here
          ∙ known_key is_key None e c.next.new.self (rw c.as_str.ensures.value at known)) ∙ same,
      later_keys e c.next.new.self (subst (λ es. IsStrictlySortedBy string_cmp (keys_of es)) here sorted),
    )
