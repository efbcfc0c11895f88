use Rattle.std.proofs.Common.{◌≡◌, ℕ, ◌*◌, ◌<◌, get_or, arith, ap, sym, subst, ◌∙◌}
use Rattle.std.specs.Mem.Slots.{slots_items, slots_counts}
use Rattle.shared_order.specs.Words.{stored_last}
use Rattle.clock_board.specs.View.{back, IsMaker}
use Rattle.clock_board.specs.Board.{BoardFace, PassFace}
use Rattle.clock_board.specs.End.{IsEnd, AllPast}
use Rattle.clock_board.proofs.Ends.{word_small, ended, whole}
use Rattle.clock_board.proofs.parts.Board.close.Goals as goal

pub copy_words-requires-clause-small : goal.copy_words-requires-clause-small
copy_words-requires-clause-small g c =
    word_small (g.C.Course.cores c.self.inside.table.shared.key) (g.C.Course.all c.self.inside.table.shared.key)
    (g.C.Course.asked c.self.inside.table.shared.key) (slots_items c.close_with-closed.result.words) _
    c.maker.inside.seat.id c.maker.inside.seat.me.0 c.close_with-closed.ensures.values.2
    c.self.inside.words (2 * c.self.inside.cores) (omega (arith, (slots_counts c.close_with-closed.result.words).0))
    (omega arith)

pub returns-clause-ended : goal.returns-clause-ended
returns-clause-ended g c = subst (λ (p : PassFace). IsEnd c.args.self (back p.view) c.of.result) c.maker.view_is
    (ended (g.C.Course.cores c.self.inside.table.shared.key) (g.C.Course.all c.self.inside.table.shared.key)
    (g.C.Course.asked c.self.inside.table.shared.key) (slots_items c.close_with-closed.result.words) _
    c.maker.inside.seat.id c.maker.inside.seat.me.0 c.close_with-closed.ensures.values.2
    c.self.inside.words (2 * c.self.inside.cores) (omega (arith, (slots_counts c.close_with-closed.result.words).0))
    (omega arith)
    c.args.self (c.self.invariant.course ∙ ap (λ (b : BoardFace). b.cores) c.self.view_is)
    (ap (λ (b : BoardFace). b.course) c.self.view_is) (ap (λ (b : BoardFace). b.words) c.self.view_is)
    (subst IsMaker (sym (ap (λ (p : PassFace). p.view) c.maker.view_is)) c.requires.maker) c.of.result
    (rw c.of.ensures c.copy_words.ensures.copied))

pub returns-clause-whole : goal.returns-clause-whole
returns-clause-whole g c = subst (λ (p : PassFace). (limit w : ℕ) → AllPast c.args.self (back p.view) limit
    → w < c.args.self.words → get_or c.of.result w 0 ≡ stored_last w c.args.self.course 0) c.maker.view_is
    (whole (g.C.Course.cores c.self.inside.table.shared.key) (g.C.Course.all c.self.inside.table.shared.key)
    (g.C.Course.asked c.self.inside.table.shared.key) (slots_items c.close_with-closed.result.words) _
    c.maker.inside.seat.id c.maker.inside.seat.me.0 c.close_with-closed.ensures.values.2
    c.self.inside.words (2 * c.self.inside.cores) (omega (arith, (slots_counts c.close_with-closed.result.words).0))
    (omega arith)
    c.args.self (c.self.invariant.course ∙ ap (λ (b : BoardFace). b.cores) c.self.view_is)
    (ap (λ (b : BoardFace). b.course) c.self.view_is) (ap (λ (b : BoardFace). b.words) c.self.view_is)
    (subst IsMaker (sym (ap (λ (p : PassFace). p.view) c.maker.view_is)) c.requires.maker) c.of.result
    (rw c.of.ensures c.copy_words.ensures.copied))
