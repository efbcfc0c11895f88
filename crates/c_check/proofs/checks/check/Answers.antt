use Rattle.std.proofs.Common.{◌≤◌, ◌∙◌, true, false, map, sym, subst}
use Rattle.c_tree.specs.declared.limits.TheConstants.{MOST_PRIVATE_WORDS, MOST_SCRATCH_WORDS}
use Rattle.c_tree.specs.Plain.{plain, plain_item}
use Rattle.c_tree.specs.Valid.{faults_of, words_in}
use Rattle.c_tree.proofs.Typing.{typed_of}
use Rattle.c_tree.proofs.Leasts.{none_least}
use Rattle.c_check.proofs.checks.check.Goals as goal

pub layout-requires-clause-private : goal.layout-requires-clause-private
layout-requires-clause-private c =
    let items = plain c.args.unit in
    let cores = c.args.place.now.cores in
    let own = c.args.place.now.core in
    subst (λ xs. words_in false (map plain_item xs) ≤ MOST_PRIVATE_WORDS) (sym c.as_slice.ensures)
    (typed_of cores own items (none_least (faults_of items cores own) (sym c.in-Ok.ensures
    ∙ c.in_default.is))).private

pub layout-requires-clause-scratch : goal.layout-requires-clause-scratch
layout-requires-clause-scratch c =
    let items = plain c.args.unit in
    let cores = c.args.place.now.cores in
    let own = c.args.place.now.core in
    subst (λ xs. words_in true (map plain_item xs) ≤ MOST_SCRATCH_WORDS) (sym c.as_slice.ensures)
    (typed_of cores own items (none_least (faults_of items cores own) (sym c.in-Ok.ensures
    ∙ c.in_default.is))).scratch
