use Rattle.c_meaning.specs.Open.{names_of}
use Rattle.c_meaning.proofs.Parts.{name_resolved, name_typed, element_resolved, element_typed}
use Rattle.c_meaning.proofs.expressions.+expression.Goals as goal

pub expression-returns-in-Name-clause-value : goal.expression-returns-in-Name-clause-value
expression-returns-in-Name-clause-value t c =
    let part = name_resolved (names_of c.args.scope.now) c.args.fresh c.args.e.now c.in-Name.name c.in-Name.is in
    cc (part, c.variable.ensures.value, c.find.ensures.shown, c.as_str.ensures)

pub expression-returns-in-Name-clause-unsigned : goal.expression-returns-in-Name-clause-unsigned
expression-returns-in-Name-clause-unsigned t c =
    let part = name_typed (names_of c.args.scope.now) c.args.e.now c.in-Name.name c.in-Name.is in
    cc (part, c.variable.ensures.unsigned, c.find.ensures.shown, c.as_str.ensures)

pub expression-returns-in_ok-named-in-Element-clause-value : goal.expression-returns-in_ok-named-in-Element-clause-value
expression-returns-in_ok-named-in-Element-clause-value t c =
    let part = element_resolved (names_of c.args.scope.now) c.args.fresh c.args.e.now c.in-Element.name
    c.in-Element.index c.in-Element.is in
    cc (
      part,
      c.in_ok-named-in-Element.ensures.value,
      c.find-in-Element.ensures.shown,
      c.as_str-in-Element.ensures,
      c.in_ok-value-in-Element.ensures.value,
      c.in_ok-value-in-Element.value-is,
      c.deref-in-Element.ensures,
    )

pub expression-returns-in_ok-named-in-Element-clause-unsigned : goal.expression-returns-in_ok-named-in-Element-clause-unsigned
expression-returns-in_ok-named-in-Element-clause-unsigned t c =
    let part = element_typed (names_of c.args.scope.now) c.args.e.now c.in-Element.name c.in-Element.index
    c.in-Element.is in
    cc (part, c.in_ok-named-in-Element.ensures.unsigned, c.find-in-Element.ensures.shown, c.as_str-in-Element.ensures)
