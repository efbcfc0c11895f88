use Rattle.std.proofs.Common.{◌<◌, ◌∙◌, length, sym, subst}
use Rattle.std.specs.Prelude.{IfSome}
use Rattle.c_names.proofs.Entries.{number_of_entry}
use Rattle.c_names.proofs.names.Names.number.Goals as goal

pub returns-clause-number : goal.returns-clause-number
returns-clause-number g c = c.copied.ensures ∙ c.get.ensures.value ∙ c.args.self.now.last_kept c.args.name.now

pub returns-clause-within : goal.returns-clause-within
returns-clause-within g c =
    let entries = c.args.self.now.entries.items in
    subst (λ number. IfSome number (λ n. n < length entries))
    (sym (c.copied.ensures ∙ c.get.ensures.value ∙ c.args.self.now.last_kept c.args.name.now))
    (number_of_entry c.args.name.now entries)
