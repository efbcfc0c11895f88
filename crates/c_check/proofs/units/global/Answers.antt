use Rattle.std.proofs.Common.{◌≡◌, ◌+◌, arith}
use Rattle.std.specs.Prelude.{if◌then◌else◌}
use Rattle.c_tree.specs.Sizes.{kind_size}
use Rattle.c_check.specs.Open.{names_of}
use Rattle.c_check.proofs.Whole.{global_told}
use Rattle.c_check.proofs.units.global.Goals as goal

pub returns-clause-least : goal.returns-clause-least
returns-clause-least c =
    let place : c.pass.new.self.at ≡ c.args.walk.now.at + (if c.args.g.now.scratch then 1 else 0)
    + kind_size c.args.g.now.kind =
    omega (arith, c.in_ok-pass.ensures.at, c.before_name.ensures) in
    let told = global_told c.args.walk.now.least (names_of c.args.names.now) c.args.walk.now.at c.pass.new.self.at
    c.args.g.now place in
    cc (
      told,
      c.in_ok-pass.ensures.least,
      c.twice.ensures.at,
      c.twice.ensures.least,
      c.is_filled.ensures,
      c.note_if.ensures.at,
      c.note_if.ensures.least,
      c.is_short.ensures,
      c.note_if-2.ensures.least,
      c.in_ok-pass-2.ensures.least,
      c.in_ok-shape.ensures.least,
    )
