use Rattle.std.proofs.Common.{◌||◌, ap, sym, subst, ◌∙◌}
use Rattle.std.specs.Prelude.{bytes_eq, codes}
use Rattle.c_tree.specs.Layout.{is_unsigned}
use Rattle.c_meaning.specs.Scope.{Variable}
use Rattle.c_meaning.proofs.StmtParts.{declare_named, set_named, set_element_named, call_named, send_named, if_named, loop_named, break_named, continue_named, return_named, inner_named}
use Rattle.c_mentions.specs.Hidden.{Hides}
use Rattle.c_mentions.proofs.Leaves.{hides_variable}
use Rattle.c_mentions.proofs.statements.hidden_after.Goals as goal

pub returns-in-Declare : goal.returns-in-Declare
returns-in-Declare c = λ names hides.
    let hidden = c.args.hidden in
    let kind = c.in-Declare.kind in
    let text = c.in-Declare.name in
    let v : Variable = record { name = text; unsigned = is_unsigned kind } in
    subst (Hides c.hidden_behind.result)
    (sym (declare_named names c.args.s.now kind text c.in-Declare.right c.in-Declare.is))
    (hides_variable hidden c.hidden_behind.result names v
    (c.hidden_behind.ensures.comm ∙ ap (λ n. hidden.comm || bytes_eq n (codes "comm")) c.as_str.ensures)
    (c.hidden_behind.ensures.shared ∙ ap (λ n. hidden.shared || bytes_eq n (codes "shared")) c.as_str.ensures) hides)

pub returns-in-Set : goal.returns-in-Set
returns-in-Set c = λ names hides.
    subst (Hides c.args.hidden) (sym (set_named names c.args.s.now c.in-Set.name c.in-Set.right c.in-Set.is)) hides

pub returns-in-SetElement : goal.returns-in-SetElement
returns-in-SetElement c = λ names hides.
    subst (Hides c.args.hidden) (sym (set_element_named names c.args.s.now c.in-SetElement.name c.in-SetElement.index
    c.in-SetElement.right c.in-SetElement.is)) hides

pub returns-in-Call : goal.returns-in-Call
returns-in-Call c = λ names hides.
    subst (Hides c.args.hidden) (sym (call_named names c.args.s.now c.in-Call.name c.in-Call.args c.in-Call.is)) hides

pub returns-in-Send : goal.returns-in-Send
returns-in-Send c = λ names hides.
    subst (Hides c.args.hidden)
    (sym (send_named names c.args.s.now c.in-Send.core c.in-Send.core_unsigned c.in-Send.source c.in-Send.target
    c.in-Send.count c.in-Send.is)) hides

pub returns-in-If : goal.returns-in-If
returns-in-If c = λ names hides.
    subst (Hides c.args.hidden) (sym (if_named names c.args.s.now c.in-If.arms c.in-If.otherwise c.in-If.is)) hides

pub returns-in-Loop : goal.returns-in-Loop
returns-in-Loop c = λ names hides.
    subst (Hides c.args.hidden) (sym (loop_named names c.args.s.now c.in-Loop.bound c.in-Loop.head c.in-Loop.body
    c.in-Loop.is)) hides

pub returns-in-Break : goal.returns-in-Break
returns-in-Break c = λ names hides.
    subst (Hides c.args.hidden) (sym (break_named names c.args.s.now c.in-Break.is)) hides

pub returns-in-Continue : goal.returns-in-Continue
returns-in-Continue c = λ names hides.
    subst (Hides c.args.hidden) (sym (continue_named names c.args.s.now c.in-Continue.is)) hides

pub returns-in-Return : goal.returns-in-Return
returns-in-Return c = λ names hides.
    subst (Hides c.args.hidden) (sym (return_named names c.args.s.now c.in-Return.value c.in-Return.is)) hides

pub returns-in-Inner : goal.returns-in-Inner
returns-in-Inner c = λ names hides.
    subst (Hides c.args.hidden) (sym (inner_named names c.args.s.now c.in-Inner.body c.in-Inner.is)) hides
