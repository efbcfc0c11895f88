use Rattle.std.proofs.Common.{◌≡◌, ◌++◌, sym, subst, ap, ap₂, ◌∙◌}
use Rattle.c_tree.specs.Plains.{block_of}
use Rattle.c_meaning.specs.Actions.{joined}
use Rattle.c_meaning.specs.Fits.{BlockFits}
use Rattle.c_meaning.specs.Meaning.{parameter_variables}
use Rattle.c_meaning.specs.Open.{names_of, functions_of}
use Rattle.c_meaning.specs.Resolve.{resolved_block}
use Rattle.c_meaning.specs.Shown.{actions_of}
use Rattle.c_meaning.specs.Values.{Names}
use Rattle.c_meaning.proofs.Few.{body_block}
use Rattle.c_meaning.proofs.StmtParts.{body_is_block}
use Rattle.c_meaning.proofs.routines.routine.Goals as goal

-- the block of the function fits, with its parameters open
pub statements-requires : goal.statements-requires
statements-requires c =
    let slots = c.args.scope.now.globals.slots.now in
    let names : Names = record { slots = slots; variables = parameter_variables c.args.function.now.parameters } in
    let opened : names_of c.parameters.new.scope ≡ names =
    c.in_ok-parameters.ensures.names
    ∙ ap₂ (λ vs ps. let n : Names = record { slots = slots; variables = vs ++ parameter_variables ps } in n)
    c.requires.none c.as_slice-given.ensures in
    subst (λ n. BlockFits n (block_of c.as_slice.result.now)) (sym opened)
    (subst (λ ss. BlockFits names (block_of ss)) (sym c.as_slice.ensures) (body_block names c.args.function.now.body
    c.requires.fits.1))

-- from no action on
pub returns-clause-body : goal.returns-clause-body
returns-clause-body c =
    let slots = c.args.scope.now.globals.slots.now in
    let names : Names = record { slots = slots; variables = parameter_variables c.args.function.now.parameters } in
    let fs = functions_of c.parameters.new.scope in
    let open_names = names_of c.parameters.new.scope in
    let opened : open_names ≡ names =
    c.in_ok-parameters.ensures.names
    ∙ ap₂ (λ vs ps. let n : Names = record { slots = slots; variables = vs ++ parameter_variables ps } in n)
    c.requires.none c.as_slice-given.ensures in
    ap actions_of c.of.ensures ∙ c.in_ok-statements.ensures.actions
    ∙ ap (λ xs. joined (actions_of xs) (resolved_block fs open_names (block_of c.as_slice.result.now)))
    c.new-actions.ensures.items
    ∙ ap (λ ss. resolved_block fs open_names (block_of ss)) c.as_slice.ensures
    ∙ ap₂ (λ f n. resolved_block f n (block_of c.args.function.now.body)) c.in_ok-parameters.ensures.functions opened
    ∙ body_is_block (functions_of c.args.scope.now) names c.args.function.now.body
