use Rattle.std.proofs.Common.{◌≡◌, ◌∙◌, ap, sym, true, false, [], ◌==◌, Ok, Some, None, length, rules}
use Rattle.patmos_syntax.specs.Items.{items_of}
use Rattle.patmos_asm.specs.Assembly.{place_of, functions_from, nothing, first_fault, parts_in}
use Rattle.patmos_syntax.specs.Shown.{shown_items}
use Rattle.patmos_asm.proofs.Answered.{no_statement, some_answer}
use Rattle.patmos_asm.proofs.codes.assemble.Goals as goal

pub returns-then-is_empty-clause-fault : goal.returns-then-is_empty-clause-fault
returns-then-is_empty-clause-fault c =
    let is : shown_items c.in_ok-items.items.items ≡ items_of c.args.text.now = search rules in
    let none : length c.in_ok-items.items.items == 0 ≡ true = search rules in
    no_statement c.args.text.now c.in_ok-items.items.items is none

pub returns-in-Some-clause-fault : goal.returns-in-Some-clause-fault
returns-in-Some-clause-fault c =
    let is : shown_items c.in_ok-items.items.items ≡ items_of c.args.text.now = search rules in
    let some : length c.in_ok-items.items.items == 0 ≡ false = search rules in
    let reported : Some c.in-Some.fault
    ≡ first_fault (place_of (functions_from 0 (shown_items c.in_ok-items.items.items))) (place_of []) nothing
    (shown_items c.in_ok-items.items.items) = search rules in
    some_answer c.args.text.now c.in_ok-items.items.items (Some c.in-Some.fault) is some reported

pub invariant_of-result : goal.invariant_of-result
invariant_of-result c =
    let is : shown_items c.in_ok-items.items.items ≡ items_of c.args.text.now = search rules in
    let some : length c.in_ok-items.items.items == 0 ≡ false = search rules in
    let reported : None ≡ first_fault (place_of (functions_from 0 (shown_items c.in_ok-items.items.items)))
    (place_of []) nothing (shown_items c.in_ok-items.items.items) = search rules in
    let parts : record { names = c.of.result; starts = c.of-2.result; words = c.of-3.result }
    ≡ parts_in (shown_items c.in_ok-items.items.items) = search rules in
    record {
      text = c.args.text.now;
      is = some_answer c.args.text.now c.in_ok-items.items.items None is some reported
          ∙ ap Ok (sym parts);
    }

pub returns-clause-code : goal.returns-clause-code
returns-clause-code c =
    let is : shown_items c.in_ok-items.items.items ≡ items_of c.args.text.now = search rules in
    let some : length c.in_ok-items.items.items == 0 ≡ false = search rules in
    let reported : None ≡ first_fault (place_of (functions_from 0 (shown_items c.in_ok-items.items.items)))
    (place_of []) nothing (shown_items c.in_ok-items.items.items) = search rules in
    let parts : record { names = c.of.result; starts = c.of-2.result; words = c.of-3.result }
    ≡ parts_in (shown_items c.in_ok-items.items.items) = search rules in
    some_answer c.args.text.now c.in_ok-items.items.items None is some reported ∙ ap Ok (sym parts)
