use Rattle.std.proofs.Common.{◌∙◌, sym, subst}
use Rattle.c_meaning.proofs.Slots.{layout_fits}
use Rattle.c_meaning.specs.Fits.{SlotsFit}
use Rattle.c_tree.specs.Plain.{plain}
use Rattle.job_rows.proofs.OutputFound.{fits_at}
use Rattle.job_rows.proofs.output.output_slot.Goals as goal

pub returns-clause-fits : goal.returns-clause-fits
returns-clause-fits c =
    let p = c.args.program.now in
    let slots = c.as_slice.result.now in
    let fit = subst SlotsFit (sym (c.as_slice.ensures ∙ p.laid)) (layout_fits p.place.cores p.place.core
    (plain p.unit) p.valid) in
    let found = c.get.ensures.lookup in
    fits_at (λ s. s.now) _ slots c.in_ok-number.number c.get.result fit found.1 found.3
