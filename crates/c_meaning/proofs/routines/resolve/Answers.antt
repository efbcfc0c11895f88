use Rattle.std.proofs.Common.{◌+◌, [], ◌∷◌, ◌++◌, length, drop, map, ap, ap₂, sym, subst, ◌∙◌, append_assoc, arith}
use Rattle.std.specs.List.{AllByRecursion as Each}
use Rattle.std.proofs.Math.ListN.{length-append}
use Rattle.c_tree.specs.Plain.{plain_item, plain}
use Rattle.c_meaning.specs.Fits.{SlotsFit, ItemFits}
use Rattle.c_meaning.specs.Open.{functions_of}
use Rattle.c_meaning.specs.Resolve.{resolved_items, names_in, parameters_in}
use Rattle.c_meaning.specs.Shown.{counts_of, bodies_of}
use Rattle.c_meaning.proofs.Few.{program_fits, item_at, few_functions}
use Rattle.c_meaning.proofs.Slots.{layout_fits}
use Rattle.c_meaning.proofs.ItemParts.{items_next, names_next, counts_next}
use Rattle.c_meaning.proofs.routines.resolve.Goals as goal

pub new-requires : goal.new-requires
new-requires c =
    let program = c.args.program.now in
    subst SlotsFit (sym (c.as_slice.ensures ∙ program.laid)) (layout_fits program.place.cores program.place.core
    (plain program.unit) program.valid)

pub add_item-requires-clause-fits : goal.add_item-requires-clause-fits
add_item-requires-clause-fits c =
    let program = c.args.program.now in
    let slots = program.layout in
    let items = c.as_slice-item-items.result.now in
    let t = c.item-item.result in
    let all = program_fits program.place.cores program.place.core slots (plain program.unit) program.valid in
    subst (λ n. ItemFits n.slots (plain_item t)) (sym c.loop-item.invariant.names)
    (item_at slots items c.loop-item.item-index t (omega arith) c.item-item.is
    (subst (λ xs. Each (ItemFits slots) (map plain_item xs)) (sym c.loop-item.invariant.items) all))

pub add_item-requires-clause-number : goal.add_item-requires-clause-number
add_item-requires-clause-number c =
    let program = c.args.program.now in
    let fs = functions_of c.loop-item.scope in
    let rest = names_in (map plain_item (drop c.loop-item.item-index c.as_slice-item-items.result.now)) in
    omega (
      arith,
      length-append fs rest,
      ap length c.loop-item.invariant.functions,
      few_functions program.place.cores program.place.core (plain program.unit) program.valid,
    )

pub loop-item-preserved : goal.loop-item-preserved
loop-item-preserved c =
    let slots = c.args.program.now.layout in
    let items = c.as_slice-item-items.result.now in
    let i = c.loop-item.item-index in
    let t = c.item-item.result in
    let rest = map plain_item (drop (i + 1) items) in
    let fs = functions_of c.loop-item.scope in
    let bodies = bodies_of c.loop-item.routines.items in
    let one_more = c.in_ok-add_item.ensures.routines
    ∙ ap (λ n. bodies ++ resolved_items n.slots fs (plain_item t ∷ [])) c.loop-item.invariant.names in
    record {
      names = c.in_ok-add_item.ensures.names ∙ c.loop-item.invariant.names;
      routines = ap₂ (λ bs f. bs ++ resolved_items slots f rest) one_more c.in_ok-add_item.ensures.functions
          ∙ append_assoc bodies (resolved_items slots fs (plain_item t ∷ [])) (resolved_items slots
          (fs ++ names_in (plain_item t ∷ [])) rest)
          ∙ ap (λ rs. bodies ++ rs) (sym (items_next slots fs items i t (omega arith) c.item-item.is))
          ∙ c.loop-item.invariant.routines;
      counts = ap (λ cs. cs ++ parameters_in rest) c.in_ok-add_item.ensures.counts
          ∙ append_assoc (counts_of c.loop-item.routines.items) (parameters_in (plain_item t ∷ [])) (parameters_in rest)
          ∙ ap (λ ns. counts_of c.loop-item.routines.items
          ++ ns) (sym (counts_next items i t (omega arith) c.item-item.is)) ∙ c.loop-item.invariant.counts;
      functions = ap (λ f. f ++ names_in rest) c.in_ok-add_item.ensures.functions
          ∙ append_assoc fs (names_in (plain_item t ∷ [])) (names_in rest)
          ∙ ap (λ ns. fs ++ ns) (sym (names_next items i t (omega arith) c.item-item.is))
          ∙ c.loop-item.invariant.functions;
      items = c.loop-item.invariant.items;
    }
