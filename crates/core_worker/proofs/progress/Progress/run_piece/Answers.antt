use Rattle.std.proofs.Common.{rules, ◌≡◌, ℕ, ◌≤◌, ◌<◌, nat_eq, false, arith, sym, ap, ◌∙◌, subst, refl, inl, inr, eq-eqb, true≢false, option_map, None}
use Rattle.std.proofs.lemmas.Bool.{cases_eq}
use Rattle.std.specs.List.{AllByRecursion as Each}
use Rattle.clock_board.specs.declared.known.View.{View}
use Rattle.clock_board.specs.Record.{with_stamp}
use Rattle.clock_board.specs.View.{own, todo, given}
use Rattle.patmos_core.specs.Position.{waiting_of}
use Rattle.core_worker.specs.Runs.{GoesOnAs}
use Rattle.core_worker.specs.Pieces.{stamp_from, piece_end}
use Rattle.core_worker.specs.Kept.{IsKept}
use Rattle.core_worker.proofs.Pieces.{event_left, event_late, event_goes_on, event_kept, end_left, end_goes_on, end_kept}
use Rattle.core_worker.proofs.progress.Progress.run_piece.Goals as goal

pub publish-requires-clause-late : goal.publish-requires-clause-late
publish-requires-clause-late g c = event_late c.args.self.now.limit c.args.self.now.reached c.args.self.now.ended
    c.args.self.now.core c.go_on.new.self c.args.self.now.pass.view c.requires.kept
    c.min-end.result c.min-end.ensures c.go_on.ensures
    c.in-Some.event (sym c.waiting.ensures ∙ c.in-Some.is) (search rules)

pub publish-requires-clause-made : goal.publish-requires-clause-made
publish-requires-clause-made g c = event_left c.args.self.now.limit c.args.self.now.reached c.args.self.now.ended
    c.args.self.now.core c.go_on.new.self c.args.self.now.pass.view c.requires.kept
    c.min-end.result c.min-end.ensures c.go_on.ensures
    c.in-Some.event (sym c.waiting.ensures ∙ c.in-Some.is) (search rules)

pub publish-requires-in-None : goal.publish-requires-in-None
publish-requires-in-None g c =
    let n : c.place-cores.result.cores ≡ c.args.self.now.pass.view.cores =
    ap (λ p. p.cores) c.place-cores.ensures ∙ c.requires.kept.cores in
    let stamp : stamp_from c.args.self.now.pass.view.cores c.min-end.result
    ≡ stamp_from c.place-cores.result.cores c.min-end.result = ap (λ m. stamp_from m c.min-end.result) (sym n) in
    record {
      of = c.requires.of;
      given = c.requires.kept.given;
      late = omega (
        arith,
        c.requires.kept.clock,
        stamp,
        ap (stamp_from c.args.self.now.pass.view.cores)
            c.min-end.ensures,
      );
      made = subst (λ s. Each (λ o. s ≤ o.stamp) (todo c.args.self.now.pass.view)) stamp
          (end_left c.args.self.now.limit c.args.self.now.reached c.args.self.now.ended c.args.self.now.core
          c.go_on.new.self c.args.self.now.pass.view c.requires.kept
          c.min-end.result c.min-end.ensures c.go_on.ensures
          (sym c.waiting.ensures ∙ c.in-None.is));
    }

pub returns-in-Some-clause-kept : goal.returns-in-Some-clause-kept
returns-in-Some-clause-kept g c =
    subst (IsKept c.args.self.now.limit c.args.self.now.reached c.args.self.now.ended c.go_on.new.self)
    (sym c.publish.ensures.published)
    (event_kept c.args.self.now.limit c.args.self.now.reached c.args.self.now.ended c.args.self.now.core
    c.go_on.new.self c.args.self.now.pass.view c.requires.kept
    c.min-end.result c.min-end.ensures c.go_on.ensures
    c.in-Some.event (sym c.waiting.ensures ∙ c.in-Some.is) (search rules) c.requires.going)

pub returns-in-Some-clause-goes_on : goal.returns-in-Some-clause-goes_on
returns-in-Some-clause-goes_on g c =
    subst (GoesOnAs c.args.self.now.limit c.args.self.now.core c.args.self.now.pass.view c.go_on.new.self)
    (sym c.publish.ensures.published)
    (event_goes_on c.args.self.now.limit c.args.self.now.reached c.args.self.now.ended c.args.self.now.core
    c.go_on.new.self c.args.self.now.pass.view c.requires.kept
    c.min-end.result c.min-end.ensures c.go_on.ensures
    c.in-Some.event (sym c.waiting.ensures ∙ c.in-Some.is) (search rules))

pub returns-in-Some-clause-stamp : goal.returns-in-Some-clause-stamp
returns-in-Some-clause-stamp g c = sym (ap (option_map (λ e. e.stamp)) (sym c.waiting.ensures ∙ c.in-Some.is))

-- a piece that does not end at the limit ends further on
further : (limit reached end : ℕ) → end ≡ piece_end limit reached → reached ≤ limit → nat_eq end limit ≡ false
    → reached < end
further limit reached end is within going = elim (cases_eq end limit) [
  | inl same ↦ absurd (true≢false (sym (eq-eqb end limit same) ∙ going))
  | inr other ↦ omega (arith, is, within, other)
]

pub returns-in-None : goal.returns-in-None
returns-in-None g c =
    let n : c.place-cores.result.cores ≡ c.args.self.now.pass.view.cores =
    ap (λ p. p.cores) c.place-cores.ensures ∙ c.requires.kept.cores in
    let v : View = c.args.self.now.pass.view in
    let view : given v (with_stamp (own v) (stamp_from v.cores c.min-end.result)) ≡ c.publish-in-None.new.pass.view =
    ap (λ m. given v (with_stamp (own v) (stamp_from m c.min-end.result))) (sym n)
    ∙ sym c.publish-in-None.ensures.published in
    let none : waiting_of c.go_on.new.self ≡ None = sym c.waiting.ensures ∙ c.in-None.is in
    record {
      of = c.publish-in-None.ensures.of;
      kept = subst (IsKept c.args.self.now.limit c.min-end.result (nat_eq c.min-end.result c.args.self.now.limit)
          c.go_on.new.self) view
          (end_kept c.args.self.now.limit c.args.self.now.reached c.args.self.now.ended c.args.self.now.core
          c.go_on.new.self c.args.self.now.pass.view c.requires.kept
          c.min-end.result c.min-end.ensures c.go_on.ensures none);
      goes_on = subst (GoesOnAs c.args.self.now.limit c.args.self.now.core v c.go_on.new.self) view
          (end_goes_on c.args.self.now.limit c.args.self.now.reached c.args.self.now.ended c.args.self.now.core
          c.go_on.new.self c.args.self.now.pass.view c.requires.kept
          c.min-end.result c.min-end.ensures c.go_on.ensures none (stamp_from v.cores c.min-end.result));
      same = search rules;
      limit = refl;
      stamp = sym (ap (option_map (λ e. e.stamp)) none);
      further = λ _ going. further c.args.self.now.limit c.args.self.now.reached c.min-end.result c.min-end.ensures
          c.requires.kept.within going;
    }
