use Rattle.std.proofs.Common.{◌≡◌, ◌+◌, ◌<◌, length, ap, arith}
use Rattle.std.specs.Prelude.{sum_by}
use Rattle.std.proofs.lemmas.List.{take_all}
use Rattle.std.proofs.lemmas.Grind.{common_steps}
use Rattle.c_check.specs.Open.{names_of}
use Rattle.c_tree.specs.Plain.{plain_stmt}
use Rattle.c_check.proofs.Kept.{kept_after}
use Rattle.c_check.proofs.Next.{body_next, branches_next}
use Rattle.c_check.proofs.Sums.{next_size, arms_sized}
use Rattle.c_check.proofs.Sums.{statement_size, block_sized}
use Rattle.c_check.proofs.statements.+statement.Goals as goal

pub statements-loop-s-preserved : goal.statements-loop-s-preserved
statements-loop-s-preserved t c =
    let next = body_next c.loop-s.walk.least c.args.within.now (names_of c.loop-s.names) c.loop-s.walk.at
    c.args.body.now c.loop-s.s-index c.s-item.result
    (omega arith) c.s-item.is in
    let kept = kept_after (names_of c.args.names.now) (names_of c.loop-s.names) (plain_stmt c.s-item.result)
    c.loop-s.invariant.kept in
    record {
      at = grind (arith, common_steps);
      least = cc (
        next,
        c.in_ok-stmt.ensures.at,
        c.in_ok-stmt.ensures.least,
        c.in_ok-stmt.ensures.names,
        c.loop-s.invariant.least,
      );
      kept = cc (kept, c.in_ok-stmt.ensures.names);
    }

pub branches-loop-arm-preserved : goal.branches-loop-arm-preserved
branches-loop-arm-preserved t c =
    let next = branches_next c.loop-arm.walk.least c.args.within.now (names_of c.loop-arm.names) c.loop-arm.walk.at
    c.args.arms.now c.loop-arm.arm-index c.arm-item.result
    (omega arith) c.arm-item.is in
    let place : c.pass.new.self.at ≡ c.loop-arm.walk.at + next_size c.arm-item.result =
    omega (arith, c.in_ok-branch.ensures.at, c.in_ok-pass.ensures.at) in
    record {
      at = grind (arith, common_steps);
      least = cc (
        next,
        place,
        c.in_ok-branch.ensures.least,
        c.in_ok-branch.ensures.names,
        c.in_ok-pass.ensures.least,
        c.loop-arm.invariant.least,
      );
      names = cc (c.in_ok-branch.ensures.names, c.loop-arm.invariant.names);
    }

pub branches-returns-then-not-is_empty-clause-at : goal.branches-returns-then-not-is_empty-clause-at
branches-returns-then-not-is_empty-clause-at t c =
    let some : 0 < length c.args.arms.now = grind (arith, c.if-not-is_empty.ensures) in
    let all = ap (sum_by next_size) (take_all c.loop-arm.arm-index c.args.arms.now c.loop-arm-test.false) in
    omega (arith, arms_sized c.args.arms.now some, all, c.loop-arm.invariant.at, c.back.ensures.at)

pub statements-returns-clause-at : goal.statements-returns-clause-at
statements-returns-clause-at t c =
    let all = ap (sum_by statement_size) (take_all c.loop-s.s-index c.args.body.now c.loop-s-test.false) in
    omega (arith, block_sized c.args.body.now, all, c.loop-s.invariant.at)
