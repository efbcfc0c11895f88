use Rattle.std.proofs.Common.{◌≡◌, ◌≢◌, ℕ, ◌+◌, ◌≤◌, arith, sym, ap, subst}
use Rattle.clock_board.specs.Record.{greatest}
use Rattle.clock_board.specs.View.{own, IsGiven}
use Rattle.clock_board.specs.Board.{PassFace, IsPassOf}
use Rattle.core_worker.specs.Runs.{with_looks}
use Rattle.core_worker.proofs.Sights.{IsLooking, looks_skip, looks_low, looks_more, same_look}
use Rattle.core_worker.proofs.looking.look_around.Goals as goal
use Rattle.core_worker.proofs.looking.look_around.Goals.{then-d-core+then-seen-wanted+else-seen-wanted-2, else-d-core, else-d-core-via-then-d-core+else-seen-wanted, else-d-core-via-else-d-core}

pub returns-then-seen-wanted-2-clause-looks : goal.returns-then-seen-wanted-2-clause-looks
returns-then-seen-wanted-2-clause-looks g c =
    looks_low c.args.wanted c.args.core c.loop-d.d (own c.args.pass.now.view).looks (own c.loop-d.pass.view).looks
    c.loop-d.invariant.looking c.look-seen.result (own c.look-seen.new.pass.view).looks
    (ap (λ v. (own v).looks) c.look-seen.ensures.looked) (omega (arith, c.seen.ensures, c.if-seen-wanted.true))
    c.if-seen-wanted-2.true

pub loop-d-preserved : goal.loop-d-preserved
loop-d-preserved g c =
    let d : ℕ = c.loop-d.d in
    let before = (own c.args.pass.now.view).looks in
    let after = (own c.loop-d.pass.view).looks in
    elim c.if-d-core.branch [
      | then-d-core+then-seen-wanted+else-seen-wanted-2 w ↦ record {
        of = subst (λ (p : PassFace). IsPassOf c.args.board.now p) (sym w.pass-is) w.look-seen.ensures.of;
        given = subst (λ (p : PassFace). IsGiven p.view) (sym w.pass-is) w.look-seen.ensures.given;
        same = subst (λ (p : PassFace). p.view ≡ with_looks c.args.pass.now.view (own p.view).looks) (sym w.pass-is)
            (same_look c.args.pass.now.view c.loop-d.pass.view w.look-seen.new.pass.view d w.look-seen.result
            c.loop-d.invariant.same w.look-seen.ensures.looked);
        looking = subst (λ (p : PassFace). IsLooking c.args.wanted c.args.core (d + 1) before (own p.view).looks)
            (sym w.pass-is)
            (looks_more c.args.wanted c.args.core d before after c.loop-d.invariant.looking w.look-seen.result
            (own w.look-seen.new.pass.view).looks (ap (λ v. (own v).looks) w.look-seen.ensures.looked)
            (omega (arith, w.seen.ensures, w.if-seen-wanted.true)) w.if-seen-wanted-2.false w.look-seen.ensures.seen
            w.look-seen.ensures.others);
      }
      | else-d-core w ↦
          let known : d ≢ c.args.core → c.args.wanted ≤ greatest d after = elim w.else-d-core.branch [
            | else-d-core-via-then-d-core+else-seen-wanted w' ↦ λ other. omega (
              arith,
              w'.seen.ensures,
              w'.if-seen-wanted.false,
            )
            | else-d-core-via-else-d-core w' ↦ λ other. absurd (other w'.if-d-core.false)
          ] in
          record {
            of = subst (λ (p : PassFace). IsPassOf c.args.board.now p) (sym w.pass-is) c.loop-d.invariant.of;
            given = subst (λ (p : PassFace). IsGiven p.view) (sym w.pass-is) c.loop-d.invariant.given;
            same = subst (λ (p : PassFace). p.view ≡ with_looks c.args.pass.now.view (own p.view).looks) (sym w.pass-is)
                c.loop-d.invariant.same;
            looking = subst (λ (p : PassFace). IsLooking c.args.wanted c.args.core (d + 1) before (own p.view).looks)
                (sym w.pass-is)
                (looks_skip c.args.wanted c.args.core d before after c.loop-d.invariant.looking known);
          }
    ]
