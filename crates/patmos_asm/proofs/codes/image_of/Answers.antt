use Rattle.std.proofs.Common.{◌≡◌, ◌∙◌, []}
use Rattle.patmos_asm.proofs.Images.{code_is_image}
use Rattle.patmos_asm.proofs.codes.image_of.Goals as goal

pub of-requires-3 : goal.of-requires-3
of-requires-3 c =
    let words : c.of.result ≡ c.code.inside.words = c.of.ensures ∙ c.into_vec-words.ensures in
    let initial : c.of-2.result ≡ [] = c.of-2.ensures ∙ c.new-initial.ensures.items in
    rw (words, initial) (code_is_image (record {
      names = c.code.inside.names;
      starts = c.code.inside.starts;
      words = c.code.inside.words;
    }) c.code.invariant)
