use Rattle.std.proofs.Common.{◌≡◌, false, true, ◌∷◌, arith, ap, subst, sym, ◌∙◌}
use Rattle.std.proofs.lemmas.Grind.{common_steps}
use Rattle.std.specs.List.Sorted.{IsStrictlySortedBy}
use Rattle.std.specs.Map.{keys_of}
use Rattle.std.specs.String.{string_cmp}
use Rattle.toml.proofs.Views.{Entry}
use Rattle.toml.specs.View.{members_view}
use Rattle.tc_toml.proofs.Rising.{fails_reported, known_key, later_keys, unknown_key}
use Rattle.tc_job.specs.Keys.{is_key, known_keys}
use Rattle.tc_job.proofs.keys.know_keys.Goals as goal

pub returns-then-not-has : goal.returns-then-not-has
returns-then-not-has c =
    let (can, finite, same, sorted) = c.keys.invariant in
    let e : Entry = (c.in-Some.key.now, c.in-Some._value.now) in
    let here : c.keys.key-iterator ≡ e ∷ c.next.new.self = grind (arith, common_steps) in
    let unknown : is_key c.args.level c.as_str.result.now ≡ false = grind (arith, common_steps) in
    fails_reported _ _ _ c.fault.result (known_keys c.args.level c.args.section.now.task
    (members_view c.args.section.now.table.now.entries)) c.fault.ensures
    (rw c.as_str-then-not-has.ensures.value
    (sym same ∙ ap (λ es. known_keys c.args.level c.args.section.now.task (members_view es)) here
    ∙ unknown_key (is_key c.args.level) c.args.section.now.task e c.next.new.self (subst
    (λ es. IsStrictlySortedBy string_cmp (keys_of es)) here sorted) (rw c.as_str.ensures.value at unknown)))

pub keys-preserved : goal.keys-preserved
keys-preserved c =
    let (can, finite, same, sorted) = c.keys.invariant in
    let e : Entry = (c.in-Some.key.now, c.in-Some._value.now) in
    let here : c.keys.key-iterator ≡ e ∷ c.next.new.self = grind (arith, common_steps) in
    let known : is_key c.args.level c.as_str.result.now ≡ true = grind (arith, common_steps) in (
      tt,
      tt,
      sym (ap (λ es. known_keys c.args.level c.args.section.now.task (members_view es)) here
          ∙ known_key (is_key c.args.level) c.args.section.now.task e c.next.new.self (rw c.as_str.ensures.value at
          known)) ∙ same,
      later_keys e c.next.new.self (subst (λ es. IsStrictlySortedBy string_cmp (keys_of es)) here sorted),
    )
