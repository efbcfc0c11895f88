use Rattle.std.proofs.Common.{◌≡◌, [], ◌∷◌, ◌++◌, length}
use Rattle.std.specs.List.{AllByRecursion as Each}
use Rattle.c_tree.specs.Tokens.{items_tokens}
use Rattle.c_tree.specs.Fits.{ItemFits}
use Rattle.c_parse.specs.Expected.{Items, drive}
use Rattle.c_parse.proofs.units.items.Given as goal

abbrev pub invariant-loop-rest : goal.invariant-loop-rest
invariant-loop-rest l = record {
  written : l.fn.tokens ≡ items_tokens l.items.items ++ l.rest;
  fits : Each ItemFits l.items.items;
  passes : drive 0 (Items ∷ []) l.fn.tokens ≡ drive 0 (Items ∷ []) l.rest;
}

abbrev pub decreases-loop-rest : goal.decreases-loop-rest
decreases-loop-rest l = length l.rest
