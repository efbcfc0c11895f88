use Rattle.std.proofs.Common.{◌+◌, drop, ap, sym, ◌∙◌, arith}
use Rattle.std.specs.Prelude.{bytes_eq}
use Rattle.std.proofs.lemmas.List.{drop_all}
use Rattle.tc_word.proofs.Items.{drop_item}
use Rattle.c_meaning.specs.Globals.{first_in, slot_before}
use Rattle.c_meaning.specs.Scope.{among_slots}
use Rattle.c_meaning.proofs.Firsts.{first_next, first_all}
use Rattle.c_meaning.proofs.globals.Globals.new.Goals as goal

pub loop-slot-preserved : goal.loop-slot-preserved
loop-slot-preserved c = λ name.
    let slots = c.args.slots.now in
    let before = first_in c.loop-slot.first name in
    first_next before (first_in c.note.new.first name) c.slot-item.result (bytes_eq c.slot-item.result.name name)
    (among_slots name (drop (c.loop-slot.slot-index + 1) slots)) (among_slots name slots) (c.in_ok-note.ensures name)
    (ap (λ ss. slot_before before (among_slots name ss)) (sym (drop_item slots c.loop-slot.slot-index c.slot-item.result
    (omega arith) c.slot-item.is))
    ∙ c.loop-slot.invariant name)

pub invariant_of-result : goal.invariant_of-result
invariant_of-result c =
    let slots = c.args.slots.now in
    record {
      fit = c.requires;
      kept = λ name.
          first_all (first_in c.loop-slot.first name) (among_slots name slots)
          (ap (λ ss. slot_before (first_in c.loop-slot.first name) (among_slots name ss))
          (sym (drop_all c.loop-slot.slot-index slots c.loop-slot-test.false))
          ∙ c.loop-slot.invariant name);
    }
