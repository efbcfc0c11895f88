use Rattle.std.proofs.Common.{◌∙◌, ◌<◌, length, false, arith}
use Rattle.patmos_sem.specs.Writes.{register_after, pred_after}
use Rattle.patmos_sem.specs.Bundles.{all_writes}
use Rattle.patmos_sem.proofs.Told.{length-renewed_from, get_or-renewed, after_writes-append}
use Rattle.patmos_sem.proofs.laws.after_bundle_by_register.Goals as goal

pub returns-clause-general : goal.returns-clause-general
returns-clause-general c st ss b regs r h = get_or-renewed (register_after (all_writes st ss b regs)) regs.general r 0 h

pub returns-clause-preds : goal.returns-clause-preds
returns-clause-preds c st ss b regs p h = get_or-renewed (pred_after (all_writes st ss b regs)) regs.preds p false h

pub returns-clause-joined : goal.returns-clause-joined
returns-clause-joined c us vs regs = after_writes-append us vs regs

pub returns-clause-files : goal.returns-clause-files
returns-clause-files c st ss b regs fits =
    let general : 0 < length regs.general = omega (arith, fits.count) in
    let preds : 0 < length regs.preds = omega (arith, fits.pred_count) in
    record {
      count = length-renewed_from 0 (register_after (all_writes st ss b regs)) regs.general ∙ fits.count;
      pred_count = length-renewed_from 0 (pred_after (all_writes st ss b regs)) regs.preds ∙ fits.pred_count;
      zero = get_or-renewed (register_after (all_writes st ss b regs)) regs.general 0 0 general;
      always = get_or-renewed (pred_after (all_writes st ss b regs)) regs.preds 0 false preds;
    }
