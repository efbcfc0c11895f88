use Rattle.std.proofs.Common.{◌≡◌, [], ◌++◌, drop, map}
use Rattle.c_tree.specs.Plain.{plain_item, plain}
use Rattle.c_meaning.specs.Open.{names_of, functions_of}
use Rattle.c_meaning.specs.Resolve.{resolved_items, names_in, parameters_in}
use Rattle.c_meaning.specs.Shown.{counts_of, bodies_of}
use Rattle.c_meaning.proofs.routines.resolve.Given as goal

abbrev pub invariant-loop-item : goal.invariant-loop-item
invariant-loop-item l = record {
  names : names_of l.scope ≡ record { slots = l.program.layout; variables = [] };
  routines : bodies_of l.routines.items ++ resolved_items l.program.layout (functions_of l.scope) (map plain_item
      (drop l.item-index l.item-items))
      ≡ resolved_items l.program.layout [] (plain l.program.unit);
  counts : counts_of l.routines.items ++ parameters_in (map plain_item (drop l.item-index l.item-items))
      ≡ parameters_in (plain l.program.unit);
  functions : functions_of l.scope ++ names_in (map plain_item (drop l.item-index l.item-items))
      ≡ names_in (plain l.program.unit);
  items : l.item-items ≡ l.program.unit.items;
}
