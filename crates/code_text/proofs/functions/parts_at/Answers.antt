use Rattle.std.proofs.Common.{◌∙◌, length, slice_index_or, sym, ap, arith}
use Rattle.sp_shape.specs.Parts.{no_part}
use Rattle.sp_shape.specs.Shown.{parts_of, functions_of}
use Rattle.sp_shape.specs.Words.{parts_words}
use Rattle.sp_shape.proofs.Functions.{each_formed, function_at}
use Rattle.sp_shape.proofs.Plain.{functions_count}
use Rattle.cycle_bound.proofs.Earlier.{shape_parts}
use Rattle.tc_link.specs.Placed.{function}
use Rattle.code_text.specs.Listing.{parts_loops}
use Rattle.code_text.specs.Runs.{shape_of}
use Rattle.code_text.proofs.Labeled.{few_loops}
use Rattle.code_text.proofs.functions.parts_at.Goals as goal

pub returns-clause-parts : goal.returns-clause-parts
returns-clause-parts c =
    let k = c.args.function in
    let count = functions_count c.args.runs.now.shape.now.functions in
    let all = ap length c.as_slice.ensures in
    ap parts_of c.as_slice-2.ensures
    ∙ sym (function_at c.as_slice.result.now k c.index-as_slice-function.result
    (omega (arith, c.requires.within, count, all)) c.index-as_slice-function.is)
    ∙ ap (λ fs. slice_index_or (functions_of fs) k no_part) c.as_slice.ensures

pub returns-clause-small : goal.returns-clause-small
returns-clause-small c =
    let k = c.args.function in
    let is = ap parts_words (returns-clause-parts c) in
    omega (arith, is, c.requires.runs.fits.small k c.requires.within)

pub returns-clause-few : goal.returns-clause-few
returns-clause-few c =
    let s = shape_of c.args.runs.now in
    let k = c.args.function in
    let is = ap parts_loops (returns-clause-parts c) in
    let few = few_loops k (function s k) (each_formed s.functions k (length s.functions) c.requires.within
    (shape_parts s c.requires.runs.formed).functions) in
    omega (arith, is, few, c.requires.runs.fits.small k c.requires.within)
