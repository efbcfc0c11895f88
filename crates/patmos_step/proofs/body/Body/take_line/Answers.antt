use Rattle.std.proofs.Common.{sym, ◌∙◌, ap, slice_index}
use Rattle.data_cache.specs.Accesses.{place_of}
use Rattle.patmos_model.specs.State.{Plain, History, Core}
use Rattle.patmos_model.specs.Cells.{with_value}
use Rattle.patmos_model.specs.Transaction.{accessed, with_line}
use Rattle.patmos_step.proofs.body.Body.take_line.Goals as goal

pub returns-clause-at : goal.returns-clause-at
returns-clause-at c = λ h shows.
    let after : History = with_line c.args.address c.args.words (accessed c.args.self.now.transfer c.args.cycle h) in
    let seen : Plain → Core = λ p. record { plain = p; seen = after } in
    let with_word : Plain → Plain =
    with_value c.args.rd c.args.width c.args.address (slice_index c.args.words (place_of c.args.address)) in
    record {
      seen = after;
      shows = c.fill_line.ensures.shows _ (c.count.ensures.shows h shows);
      same = ap (λ p. seen (with_word p)) (sym c.count.ensures.plain) ∙ ap seen (sym c.fill_line.ensures.plain);
    }
