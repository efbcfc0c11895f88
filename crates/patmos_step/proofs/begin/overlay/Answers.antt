use Rattle.patmos_step.proofs.Overlays.{over_parts}
use Rattle.patmos_step.proofs.begin.overlay.Goals as goal

pub returns-clause-words : goal.returns-clause-words
returns-clause-words c =
    over_parts c.args.memory.now c.args.words.now _ _ _ _ c.args.from c.requires.fits
    c.split_at_mut-rest.ensures.front c.split_at_mut-rest.ensures.back c.copy_from_slice.ensures.after
    c.split_at_mut-prefix.ensures.back
