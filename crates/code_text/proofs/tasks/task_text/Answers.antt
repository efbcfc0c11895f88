use Rattle.std.proofs.Common.{◌∙◌, map, sym, ap, Ok}
use Rattle.patmos_code.specs.Images.{Parts}
use Rattle.patmos_asm.specs.Assembly.{code_of}
use Rattle.sp_shape.specs.Shown.{plain_shape}
use Rattle.tc_link.specs.Placed.{order}
use Rattle.code_text.specs.Lines.{lines_text}
use Rattle.code_text.specs.Listing.{name_of, task_lines}
use Rattle.code_text.specs.Tally.{each_at}
use Rattle.code_text.proofs.Image.{text_assembles}
use Rattle.code_text.proofs.tasks.task_text.Goals as goal

pub returns-clause-assembles : goal.returns-clause-assembles
returns-clause-assembles c =
    let s = plain_shape c.args.shape.now in
    let each = each_at c.args.place.now in
    let names = c.args.names.now in
    let layout = c.in_ok-text.ensures.layout ∙ ap (λ ws. lines_text (task_lines names c.args.numbers each s ws))
    (c.words.ensures.value ∙ ap (λ i. i.words) c.requires.image) in
    ap code_of layout ∙ text_assembles names each s c.requires.formed c.requires.fits c.requires.bundles
    c.requires.names c.args.numbers
    ∙ ap (λ (i : Parts). Ok (record { names = map (name_of names) (order s); starts = i.starts; words = i.words }))
    (sym c.requires.image)
