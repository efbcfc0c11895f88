use Rattle.std.proofs.Common.{◌≡◌, ◌≤◌, drop, map, max}
use Rattle.sp_tree.specs.Plain.{plain_sp}
use Rattle.sp_emit.specs.Fits.{ArgsFit}
use Rattle.sp_emit.specs.Places.{args_least}
use Rattle.sp_emit.specs.declared.registers.TheConstants.{FIRST}
use Rattle.sp_emit.proofs.places.arguments_least.Given as goal

abbrev pub invariant-loop-e : goal.invariant-loop-e
invariant-loop-e l =
    ArgsFit (map plain_sp (drop l.e-index l.args)) l.rd
    × ((l.rd ≤ l.least) × (max l.least (args_least (map plain_sp (drop l.e-index l.args)) l.rd)
    ≡ args_least (map plain_sp l.args) FIRST))
