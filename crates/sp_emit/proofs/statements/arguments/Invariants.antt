use Rattle.std.proofs.Common.{◌≡◌, drop, map}
use Rattle.sp_shape.specs.Parts.{joined}
use Rattle.sp_shape.specs.Shown.{parts_of}
use Rattle.sp_tree.specs.Plain.{plain_sp}
use Rattle.sp_emit.specs.Fits.{ArgsFit}
use Rattle.sp_emit.specs.Statements.{args_code}
use Rattle.sp_emit.proofs.statements.arguments.Given as goal

abbrev pub invariant-loop-e : goal.invariant-loop-e
invariant-loop-e l =
    ArgsFit (map plain_sp (drop l.e-index l.args)) l.rd
    × (joined (parts_of l.out.items) (args_code l.homes (map plain_sp (drop l.e-index l.args)) l.rd)
    ≡ joined (parts_of l.initial.out.items) (args_code l.homes (map plain_sp l.args) l.fn.first))
