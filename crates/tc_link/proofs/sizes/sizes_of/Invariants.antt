use Rattle.std.proofs.Common.{◌≡◌, map, take}
use Rattle.sp_shape.specs.Shown.{functions_of}
use Rattle.sp_shape.specs.Words.{parts_words}
use Rattle.tc_link.proofs.sizes.sizes_of.Given as goal

abbrev pub invariant-loop-parts : goal.invariant-loop-parts
invariant-loop-parts l = l.sizes.items ≡ map parts_words (functions_of (take l.parts-index l.functions))
