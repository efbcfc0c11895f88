use Rattle.std.proofs.Common.{rules, ◌≡◌, ◌∙◌, sym, ap, subst, slice_index}
use Rattle.std.proofs.lemmas.List.{with_items_is}
use Rattle.global_step.specs.Machine.{core_among}
use Rattle.tc_run.specs.Begun.{AreBegun}
use Rattle.tc_run.specs.Final.{AreFinal}
use Rattle.tc_run.proofs.Plain.{all_begin, all_final, words_at_end}
use Rattle.tc_run.proofs.one_thread.run_plain.Goals as goal

pub returns-clause-cores : goal.returns-clause-cores
returns-clause-cores c =
    let m = c.args.machine.now in let cores =
    c.as_mut_slice.result.now in let left = c.plain_run.new.cores in let run = c.plain_run.ensures in
    let begun : AreBegun m cores = subst (AreBegun m) (sym c.as_mut_slice.ensures.value) c.in_ok-cores.ensures in
    let one = c.limit.ensures.kept.platform in
    let is : c.of.result ≡ left = c.of.ensures ∙ with_items_is c.in_ok-cores.cores left (search rules) in
    subst (AreFinal m) (sym is)
    (all_final m cores begun one left c.limit.result c.limit.ensures.value run.places run.rooms
    (run.stands (core_among m.cores) (all_begin m cores begun one)) run.through run.limit)

pub returns-clause-words : goal.returns-clause-words
returns-clause-words c = λ w.
    let m = c.args.machine.now in let cores =
    c.as_mut_slice.result.now in let left = c.plain_run.new.words in let run = c.plain_run.ensures in
    let begun : AreBegun m cores = subst (AreBegun m) (sym c.as_mut_slice.ensures.value) c.in_ok-cores.ensures in
    let one = c.limit.ensures.kept.platform in
    let is : c.of-2.result ≡ left = c.of-2.ensures ∙ with_items_is c.in_ok-words.words left (search rules) in
    ap (λ ws. slice_index ws w) is ∙ words_at_end m cores begun one c.limit.result w (slice_index left w)
    c.limit.ensures.value (run.words (core_among m.cores) (all_begin m cores begun one) w)
