use Rattle.std.proofs.Common.{◌≡◌, ◌++◌, take, drop}
use Rattle.patmos_syntax.specs.Drafts.{cut_at}
use Rattle.patmos_syntax.proofs.drafts.cut_at.Given as goal

abbrev pub invariant-loop-i : goal.invariant-loop-i
invariant-loop-i l = cut_at l.sign l.text ≡ (
  take l.i l.text ++ (cut_at l.sign (drop l.i l.text)).0,
  (cut_at l.sign (drop l.i l.text)).1,
)
