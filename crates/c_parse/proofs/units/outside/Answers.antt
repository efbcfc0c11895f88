use Rattle.c_parse.proofs.Declared.{name_outside}
use Rattle.c_parse.proofs.Growing.{refused_before}
use Rattle.std.proofs.Common.{[], ◌∷◌}
use Rattle.c_parse.specs.Expected.{Name, Outside, Variable}
use Rattle.c_parse.proofs.units.outside.Goals as goal

pub returns-in_default-clause-refuses : goal.returns-in_default-clause-refuses
returns-in_default-clause-refuses c =
    refused_before 0 0 (Name ∷ Outside ∷ []) (Name ∷ Variable ∷ []) c.args.tokens.now c.args.tokens.now _
    (λ xs. name_outside _ _ _ xs c.in_ok-text.ensures.read c.in_default.ensures) c.variable.ensures.refuses
