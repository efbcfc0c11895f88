use Rattle.std.proofs.Common.{false, refl}
use Rattle.c_world.specs.declared.memory.Memory.{Memory}
use Rattle.c_world.proofs.Words.{fresh_shown}
use Rattle.c_world.proofs.memory.Memory.new.Goals as goal

pub returns-clause-world : goal.returns-clause-world
returns-clause-world c =
    let m : Memory = record {
      scratch = c.in_ok-zeros.field-0;
      comm = c.in_ok-zeros-2.field-0;
      private = c.in_ok-zeros-3.field-0;
      shared = c.in_ok-zeros-4.field-0;
      overrun = false;
    } in
    λ sends. fresh_shown m c.args.private sends c.in_ok-zeros.ensures.words c.in_ok-zeros-2.ensures.words
    c.in_ok-zeros-3.ensures.words c.in_ok-zeros-4.ensures.words refl
