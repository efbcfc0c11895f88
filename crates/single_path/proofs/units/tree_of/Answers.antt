use Rattle.std.proofs.Common.{◌≤◌, false, map, ap, sym, subst, arith}
use Rattle.c_tree.specs.Layout.{input_of}
use Rattle.c_tree.specs.Plain.{plain, plain_item}
use Rattle.c_tree.specs.Valid.{words_in}
use Rattle.c_tree.specs.declared.limits.TheConstants.{MOST_PRIVATE_WORDS}
use Rattle.c_tree.proofs.Typing.{typed_of}
use Rattle.c_meaning.specs.Shown.{counts_of, bodies_of}
use Rattle.single_path.proofs.Formed.{frames_fit}
use Rattle.single_path.proofs.Whole.{entry_small, input_small}
use Rattle.single_path.proofs.units.tree_of.Goals as goal

pub input_place-at-requires : goal.input_place-at-requires
input_place-at-requires c =
    let program = c.args.program.now in
    subst (λ items. words_in false (map plain_item items) ≤ MOST_PRIVATE_WORDS) (sym c.as_slice-items.ensures)
    (typed_of program.place.cores program.place.core (plain program.unit) program.valid).private

pub functions-requires : goal.functions-requires
functions-requires c =
    let program = c.args.program.now in
    frames_fit program.place.cores program.place.core (plain program.unit) program.place.in_range.cores_most
    program.valid program.layout
    (counts_of c.in_ok-resolved.resolved.routines) (bodies_of c.in_ok-resolved.resolved.routines) program.laid
    c.in_ok-resolved.ensures.parameters c.in_ok-resolved.ensures.routines

pub entry_of-entry-requires : goal.entry_of-entry-requires
entry_of-entry-requires c =
    let program = c.args.program.now in
    entry_small program.place.cores program.place.core (plain program.unit) program.valid c.in_ok-resolved.resolved.main
    c.in_ok-resolved.ensures.main

pub overflow_cast-result : goal.overflow_cast-result
overflow_cast-result c =
    let program = c.args.program.now in
    let same = ap (λ items. (input_of (map plain_item items)).at) c.as_slice-items.ensures in
    omega (
      arith,
      c.input_place-at.ensures.at,
      same,
      (input_small program.place.cores program.place.core
          (plain program.unit) program.valid).0,
    )

pub overflow_cast-result-2 : goal.overflow_cast-result-2
overflow_cast-result-2 c =
    let program = c.args.program.now in
    let same = ap (λ items. (input_of (map plain_item items)).room) c.as_slice-items.ensures in
    omega (
      arith,
      c.input_place-at.ensures.room,
      same,
      (input_small program.place.cores program.place.core
          (plain program.unit) program.valid).1,
    )
