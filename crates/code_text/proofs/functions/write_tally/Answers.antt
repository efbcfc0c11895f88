use Rattle.std.proofs.Common.{◌≡◌, ◌∙◌, ◌++◌, OnOk, string_bytes, sym, ap, subst}
use Rattle.std.specs.Fmt.{decimal}
use Rattle.code_text.specs.Listing.{tally_text}
use Rattle.code_text.proofs.Writing.{tally_nested}
use Rattle.code_text.proofs.functions.write_tally.Goals as goal

pub returns-in-Some : goal.returns-in-Some
returns-in-Some c =
    subst (λ t. OnOk c.write.result (string_bytes c.write.new.self ≡ string_bytes c.args.text.now ++ t))
    (sym (tally_nested (decimal c.in-Some.tally.bundles) (decimal c.in-Some.tally.transactions))
    ∙ ap tally_text (sym c.in-Some.is)) c.write.ensures.bytes
