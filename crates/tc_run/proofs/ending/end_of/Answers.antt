use Rattle.std.proofs.Common.{rules, ◌≡◌, ◌*◌, ◌≤◌, ◌∷◌, [], length, sym, ap, ◌∙◌, subst, arith, Any, inl, inr}
use Rattle.std.proofs.lemmas.Bool.{cases_lt}
use Rattle.clock_board.specs.View.{own, back}
use Rattle.clock_board.specs.Board.{IsPassOf}
use Rattle.global_step.specs.PlainRun.{Every}
use Rattle.tc_run.specs.Final.{IsFinalCore}
use Rattle.tc_run.specs.Worked.{IsThroughWith, IsPast}
use Rattle.tc_run.proofs.Workers.{ends_as, ends_past}
use Rattle.tc_run.proofs.Lists.{any_prefix, any_back, any_one, every_more}
use Rattle.tc_run.proofs.AllTaken.{all_past, all_words}
use Rattle.tc_run.proofs.ending.end_of.Goals as goal

pub take_back-requires-clause-of : goal.take_back-requires-clause-of
take_back-requires-clause-of c =
    let is : IsThroughWith c.args.machine.now c.args.board c.take_worker-worker.result =
    c.take_worker-worker.ensures.through c.args.machine.now c.args.board c.loop-core.invariant.through in
    subst (IsPassOf c.args.board) (sym c.finish-core.ensures.pass) is.on

pub loop-core-preserved : goal.loop-core-preserved
loop-core-preserved c =
    let m = c.args.machine.now in let was =
    c.loop-core.invariant in let k = c.loop-core.core in let w = c.take_worker-worker.result in
    let is : IsThroughWith m c.args.board w = c.take_worker-worker.ensures.through m c.args.board was.through in
    let v = c.loop-core.maker.view in let p = c.finish-core.result.1 in
    let record_of = own p.view in
    let final : IsFinalCore m k c.finish-core.result.0 =
    subst (IsFinalCore m k) (sym c.finish-core.ensures.core)
    (subst (λ j. IsFinalCore m j w.core) c.take_worker-worker.ensures.number (ends_as m w is.of is.done)) in
    let mine : IsPast m k (own p.view) =
    subst (λ q. IsPast m k (own q.view)) (sym c.finish-core.ensures.pass)
    (is.of.core ∙ c.take_worker-worker.ensures.number, ends_past m w is.of is.done) in
    let grown = ap back c.take_back.ensures.back in
    record {
      of = c.take_back.ensures.of;
      maker = search rules;
      through = c.take_worker-worker.ensures.left m c.args.board was.through;
      left = λ j low high. c.take_worker-worker.ensures.others j (λ e. omega (arith, e, low))
          (was.left j (omega (arith, low)) high);
      final = subst (Every (IsFinalCore m)) (sym c.push_reserved.ensures.items)
          (every_more (IsFinalCore m) c.loop-core.cores.items c.finish-core.result.0 was.final
          (subst (λ j. IsFinalCore m j c.finish-core.result.0) (sym was.count) final));
      count = search rules;
      room = search rules;
      past = λ j low. subst (Any (IsPast m j)) (sym grown) (elim (cases_lt j k) [
        | inl before ↦ any_prefix (IsPast m j) (back v) (own p.view ∷ []) (was.past j before)
        | inr last ↦ let e : k ≡ j = omega (arith, low, last) in any_back (IsPast m j) (back v) (own p.view ∷ [])
            (any_one (IsPast m j) (own p.view) (subst (λ i. IsPast m i (own p.view)) e mine))
      ]);
    }

pub returns-clause-words : goal.returns-clause-words
returns-clause-words c =
    let m = c.args.machine.now in let b = c.args.board in let over : length m.cores ≤ c.loop-core.core = search rules in
    all_words m b c.requires.board c.requires.words c.close.result c.close.ensures.len
    (λ w below. c.close.ensures.whole (2 * m.limit * length m.cores) w
    (all_past m b c.requires.board (back c.loop-core.maker.view) (λ k among. c.loop-core.invariant.past k
    (omega (arith, among, over)))) below)
