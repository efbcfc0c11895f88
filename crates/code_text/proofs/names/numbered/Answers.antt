use Rattle.std.proofs.Common.{◌≡◌, ◌∙◌, sym, ap, subst, arith}
use Rattle.code_text.specs.Names.{numbered, HasNames}
use Rattle.code_text.proofs.Named.{numbered_has}
use Rattle.code_text.proofs.names.numbered.Goals as goal

pub returns-clause-is : goal.returns-clause-is
returns-clause-is c =
    let all : c.loop-number.number-counter ≡ c.args.count = omega arith in c.loop-number.invariant ∙ ap numbered all

pub returns-clause-has : goal.returns-clause-has
returns-clause-has c =
    subst (λ names. HasNames names c.args.count) (sym (returns-clause-is c)) (numbered_has c.args.count c.requires)
