use Rattle.std.proofs.Common.{◌≡◌, ◌∙◌, ap, arith}
use Rattle.std.specs.Prelude.{map, sum_by, codes}
use Rattle.c_tree.specs.declared.checks.Meaning.TheVariants as meaning
use Rattle.c_tree.specs.Names.{declared, given}
use Rattle.c_tree.specs.Plain.{plain, plain_item}
use Rattle.c_tree.specs.Sizes.{item_size}
use Rattle.c_check.specs.Open.{names_of}
use Rattle.c_check.proofs.Whole.{unit_told}
use Rattle.c_check.proofs.units.least_fault.Goals as goal

pub returns : goal.returns
returns c =
    let open_names : names_of c.declare-2.new.self ≡ given =
    c.in_ok-declare-2.ensures ∙ ap (λ ns. declared ns (codes "comm") meaning.Array)
    (c.in_ok-declare.ensures ∙ ap (λ ns. declared ns (codes "shared") meaning.Array) c.new-names.ensures) in
    let end : c.items.new.walk.at ≡ sum_by item_size (plain c.args.u.now) =
    omega (arith, c.in_ok-items.ensures.at, ap (λ is. sum_by item_size (map plain_item is)) c.as_slice.ensures) in
    let told = unit_told (plain c.args.u.now) c.args.place.now.cores c.args.place.now.core in
    cc (told, end, open_names, c.whole.ensures, c.in_ok-items.ensures.least, c.as_slice.ensures, c.as_slice-2.ensures)
