use Rattle.std.proofs.Common.{◌≡◌, ◌∙◌, refl, ap}
use Rattle.c_task.specs.Translation.{translation}
use Rattle.code_text.specs.Tally.{each_at}
use Rattle.job_tasks.specs.Coding.{bounded}
use Rattle.tccode.specs.Codes.{names_of, each_of}
use Rattle.tccode.proofs.Programs.{same_names, text_is, tells_is}
use Rattle.tccode.proofs.texts.program_text.Goals as goal

named : (c : goal.After-drop-names) → c.as_slice-2.result.now ≡ names_of (bounded c.args.program.now)
named c = same_names c.args.program.now c.as_slice-2.result.now c.in_ok-names-2.names.items c.in_ok-names.names.items
    c.as_slice.result.now c.requires.shaped.shape c.as_slice.ensures
    c.in_ok-names.ensures c.in_ok-names-2.ensures.is c.as_slice-2.ensures.value

same_each : (c : goal.After-drop-names) → each_at c.place_of-place.result ≡ each_of c.args.job.now c.args.core
same_each c = rw (c.place_of-place.ensures.table, c.place_of-place.ensures.slot, c.place_of-place.ensures.core) refl

pub returns-clause-text : goal.returns-clause-text
returns-clause-text c =
    text_is c.task_text.result c.args.job.now c.args.core (bounded c.args.program.now) c.as_slice-2.result.now
    (each_at c.place_of-place.result) _ c.args.image.now.words (named c) (same_each c)
    c.requires.shaped.shape (ap (λ i. i.words) c.requires.shaped.image_is) c.task_text.ensures.layout

pub returns-clause-tells : goal.returns-clause-tells
returns-clause-tells c =
    let scheduled = (translation (bounded c.args.program.now).items).scheduled in
    tells_is c.task_text.result c.args.job.now c.args.core (bounded c.args.program.now) c.as_slice-2.result.now _
    c.args.image.now (named c) c.requires.shaped.shape c.requires.shaped.image_is
    (c.requires.compiled.bound ∙ (rw (
      c.place_of-place.ensures.table,
      c.place_of-place.ensures.slot,
      c.place_of-place.ensures.core,
    ) at c.tallies_add_up.ensures.task scheduled))
    (returns-clause-text c) c.task_text.ensures.assembles
