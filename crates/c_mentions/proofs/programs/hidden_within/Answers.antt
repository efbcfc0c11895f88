use Rattle.std.proofs.Common.{◌||◌, List, ap, subst, ◌∙◌, arith}
use Rattle.std.specs.Prelude.{bytes_eq, codes}
use Rattle.std.proofs.lemmas.List.{take_all}
use Rattle.c_tree.specs.declared.units.Parameter.{Parameter}
use Rattle.c_meaning.specs.Meaning.{parameter_variables}
use Rattle.c_mentions.specs.Hidden.{Hides}
use Rattle.c_mentions.proofs.Outside.{within_next}
use Rattle.c_mentions.proofs.programs.hidden_within.Goals as goal

pub loop-parameter-init : goal.loop-parameter-init
loop-parameter-init c = λ slots hides. hides

pub loop-parameter-preserved : goal.loop-parameter-preserved
loop-parameter-preserved c = λ slots hides.
    let hidden = c.loop-parameter.behind in
    let behind = c.hidden_behind-behind in
    within_next hidden behind.result slots c.args.parameters.now c.loop-parameter.parameter-index
    c.parameter-item.result
    (omega arith) c.parameter-item.is
    (behind.ensures.comm ∙ ap (λ n. hidden.comm || bytes_eq n (codes "comm")) c.as_str.ensures)
    (behind.ensures.shared ∙ ap (λ n. hidden.shared || bytes_eq n (codes "shared")) c.as_str.ensures)
    (c.loop-parameter.invariant slots hides)

pub returns : goal.returns
returns c = λ slots hides.
    subst (λ (ps : List Parameter). Hides c.loop-parameter.behind
    (record { slots = slots; variables = parameter_variables ps }))
    (take_all c.loop-parameter.parameter-index c.args.parameters.now c.loop-parameter-test.false)
    (c.loop-parameter.invariant slots hides)
