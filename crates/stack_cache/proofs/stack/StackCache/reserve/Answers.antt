use Rattle.std.proofs.Common.{◌≡◌, ◌∙◌, ◌-◌, ℕ, List, length, get_or, ap, arith, rules}
use Rattle.stack_cache.specs.Stack.{Stack, reserved, spilled, with_spilled}
use Rattle.stack_cache.proofs.Moves.{Reserves, reserved_is, memory_is, moved_out, own_are, others_are}
use Rattle.stack_cache.proofs.stack.StackCache.reserve.Goals as goal

pub returns : goal.returns
returns c =
    let ok = c.in_ok-check.ensures.ok in
    let slots = c.self.inside.slots in
    let private = c.args.private.now in
    let reserves : Reserves c.self.inside.st c.self.inside.ss c.args.n c.min-ss.result =
    record {
      range = c.self.invariant;
      few = ok.0;
      room = omega (arith, ok.1, c.self.invariant);
      pointer = c.min-ss.ensures;
    } in
    let same_end : c.self.inside.ss ≡ c.args.self.now.ss = ap (λ (s : Stack). s.ss) c.self.view_is in
    record {
      over = search rules;
      under = search rules;
      stack = reserved_is _ _ _ _ reserves slots c.clear.new.slots c.clear.ensures.zeros c.clear.ensures.others
          ∙ ap (reserved c.args.n) c.self.view_is;
      spilled = c.spill.ensures ∙ memory_is _ _ _ _ reserves slots private
          ∙ ap (λ (s : Stack). with_spilled c.args.n s private) c.self.view_is;
      moved = moved_out _ _ _ _ reserves slots ∙ ap (λ (s : Stack). length (spilled c.args.n s)) c.self.view_is;
      few = omega (arith, reserves);
      own = λ word low high. ap (λ (xs : List ℕ). get_or xs word 0) c.spill.ensures
          ∙ own_are _ _ _ _ reserves slots private c.requires word low (rw same_end high)
          ∙ ap (λ (s : Stack). get_or s.words (word - s.st) 0) c.self.view_is;
      others = λ word out. ap (λ (xs : List ℕ). get_or xs word 0) c.spill.ensures
          ∙ others_are _ _ _ _ reserves slots private c.requires word (rw same_end out);
      refused = tt;
      kept = tt;
    }
