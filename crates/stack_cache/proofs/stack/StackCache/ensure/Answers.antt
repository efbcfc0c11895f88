use Rattle.std.proofs.Common.{◌∙◌, ap, arith, rules}
use Rattle.stack_cache.specs.Stack.{filled, missing}
use Rattle.stack_cache.proofs.Moves.{Reaches, filled_is, moved_in}
use Rattle.stack_cache.proofs.stack.StackCache.ensure.Goals as goal

pub returns : goal.returns
returns c =
    let ok = c.in_ok-check.ensures.ok in
    let slots = c.self.inside.slots in
    let reaches : Reaches c.self.inside.st c.self.inside.ss c.args.n c.max-ss.result =
    record {
      range = c.self.invariant;
      few = ok.0;
      room = omega (arith, ok.1, c.self.invariant);
      pointer = c.max-ss.ensures;
    } in
    record {
      over = search rules;
      under = search rules;
      stack = filled_is _ _ _ _ reaches slots c.fill.new.slots c.args.private.now c.requires c.fill.ensures.filled
          c.fill.ensures.others
          ∙ ap (filled c.args.n c.args.private.now) c.self.view_is;
      moved = moved_in _ _ _ _ reaches slots ∙ ap (missing c.args.n) c.self.view_is;
      few = omega (arith, reaches);
      refused = tt;
    }
