use Rattle.std.proofs.Common.{◌≡◌, Some, sym, rules}
use Rattle.patmos_syntax.specs.Drafts.{cut_at}
use Rattle.patmos_syntax.proofs.Parts.{more_parts}
use Rattle.patmos_syntax.proofs.drafts.two_parts.Goals as goal

pub returns-in-Some : goal.returns-in-Some
returns-in-Some c =
    let cut : (cut_at 59 c.args.text.now).1 ≡ Some c.in_ok-rest.rest.now = search rules in
    let again : (cut_at 59 c.in_ok-rest.rest.now).1 ≡ Some c.in-Some._third.now = search rules in
    sym (more_parts c.args.text.now c.in_ok-rest.rest.now c.in-Some._third.now cut again)
