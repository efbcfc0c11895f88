use Rattle.std.proofs.Common.{◌≡◌, map}
use Rattle.std.specs.Option.{option_map}
use Rattle.patmos_syntax.specs.Drafts.{instr_of, parts_of, least_of}
use Rattle.patmos_syntax.proofs.Parts.{left_of, size_of}
use Rattle.patmos_syntax.proofs.drafts.least_of.Given as goal

abbrev pub invariant-loop-unread : goal.invariant-loop-unread
invariant-loop-unread l =
    least_of l.reported (map instr_of (left_of (option_map (λ rest. rest.now) l.unread)))
    ≡ least_of l.fn.fault (map instr_of (parts_of l.fn.text))

abbrev pub decreases-loop-unread : goal.decreases-loop-unread
decreases-loop-unread l = size_of (option_map (λ rest. rest.now) l.unread)
