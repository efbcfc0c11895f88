use Rattle.std.proofs.Common.{◌≡◌, drop, map, max}
use Rattle.sp_tree.specs.Plain.{plain_sp}
use Rattle.single_path.specs.Widths.{args_words, capped}
use Rattle.single_path.proofs.widths.arguments.Given as goal

abbrev pub invariant-loop-e : goal.invariant-loop-e
invariant-loop-e l =
    max l.most (capped (args_words (map plain_sp (drop l.e-index l.args)))) ≡ capped (args_words (map plain_sp l.args))
