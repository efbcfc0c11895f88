use Rattle.std.proofs.Common.{length, map, ap, ◌∙◌}
use Rattle.std.proofs.lemmas.List.{length-map}
use Rattle.sp_shape.specs.Shown.{functions_of, plain_shape}
use Rattle.sp_shape.specs.Words.{parts_words}
use Rattle.tc_link.proofs.Linking.{placed_so}
use Rattle.tc_link.proofs.images.placed.Goals as goal

pub returns-clause-count : goal.returns-clause-count
returns-clause-count c =
    let sized = c.as_slice-2.ensures.value ∙ c.in_ok-sizes.ensures
    ∙ ap (λ fs. map parts_words (functions_of fs)) c.as_slice.ensures in
    c.in_ok-places.ensures.count ∙ ap length sized ∙ length-map (plain_shape c.args.shape.now).functions parts_words

pub returns-clause-places : goal.returns-clause-places
returns-clause-places c =
    let sized = c.as_slice-2.ensures.value ∙ c.in_ok-sizes.ensures
    ∙ ap (λ fs. map parts_words (functions_of fs)) c.as_slice.ensures in
    placed_so (plain_shape c.args.shape.now) c.as_slice-2.result.now c.in_ok-places.places.items sized
    c.in_ok-places.ensures.places
