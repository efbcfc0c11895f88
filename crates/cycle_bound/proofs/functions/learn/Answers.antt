use Rattle.std.proofs.Common.{◌<◌, ◌+◌, length, ap, sym, ◌∙◌, arith, rules}
use Rattle.cycle_bound.specs.Bound.{parts_bound, bounds}
use Rattle.cycle_bound.specs.Held.{held}
use Rattle.cycle_bound.specs.Known.{Knows}
use Rattle.cycle_bound.proofs.Learning.{fewer, learned}
use Rattle.cycle_bound.proofs.functions.learn.Goals as goal

pub returns-clause-known : goal.returns-clause-known
returns-clause-known g c =
    λ fs fill count within own knows.
    let room : c.args.number < length c.args.known.now.bounds = search rules in
    let here : Knows fs c.args.each fill (c.args.number + 1) c.args.number c.args.known.now =
    record {
      fills = fewer fill (c.args.number + 1) count c.args.known.now.fills (omega (arith, within)) knows.fills;
      bounds = knows.bounds;
    } in
    learned fs c.args.each fill count c.args.number c.args.known.now c.cycles_of_parts.result room
    (c.cycles_of_parts.ensures.cycles fs fill here
    ∙ ap (λ ps. held (parts_bound c.args.each fill (bounds fs c.args.each fill c.args.number) c.args.number ps))
    (sym own)) knows
