use Rattle.std.proofs.Common.{◌∙◌}
use Rattle.patmos_asm.proofs.Noted.{among_keys}
use Rattle.patmos_asm.proofs.checks.is_among.Goals as goal

pub returns : goal.returns
returns c = c.contains.ensures ∙ among_keys c.args.name.now c.args.names.now.keys
