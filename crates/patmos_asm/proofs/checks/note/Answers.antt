use Rattle.std.proofs.Common.{◌∙◌, ap, map}
use Rattle.patmos_asm.proofs.Noted.{noted_keys}
use Rattle.patmos_asm.proofs.checks.note.Goals as goal

pub returns : goal.returns
returns c = ap (map (λ k. k.now)) c.in_ok-insert.ensures.keys ∙ noted_keys c.args.names.now.keys c.args.name
