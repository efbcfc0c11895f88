use Rattle.std.proofs.Common.{ℕ, List, ◌∷◌, length, map, slice_index, slice_index_or, sym, ap, ◌∙◌, subst, arith}
use Rattle.std.specs.List.{All, flat_map}
use Rattle.std.proofs.lemmas.List.{length-map}
use Rattle.patmos_instr.specs.Bundles.{FitsBundle}
use Rattle.sp_shape.specs.Parts.{no_part}
use Rattle.sp_shape.specs.Shown.{parts_of, functions_of, plain_shape}
use Rattle.sp_shape.specs.declared.parts.Part.{Part}
use Rattle.tc_link.specs.Flat.{flat_parts}
use Rattle.tc_link.specs.Placed.{others, function_words}
use Rattle.tc_link.proofs.Functions.{sizes_are}
use Rattle.tc_link.proofs.Linking.{flat_so, words_so, starts_so}
use Rattle.tc_link.proofs.images.code_of.Goals as goal

pub words_of-requires-clause-small : goal.words_of-requires-clause-small
words_of-requires-clause-small c = λ k within.
    let s = plain_shape c.args.shape.now in
    let size = ap (λ size. size k) (sizes_are c.as_slice.result.now s.functions (c.as_slice.ensures.value
    ∙ c.in_ok-sizes.ensures.sizes)) in
    omega (
      arith,
      size,
      c.requires.fits.small k (omega (
        arith,
        within,
        ap length c.as_slice-functions.ensures,
        length-map c.args.shape.now.functions parts_of,
      )),
    )

pub returns-clause-words : goal.returns-clause-words
returns-clause-words c =
    let s = plain_shape c.args.shape.now in
    let start = slice_index c.in_ok-sizes.places.items in
    let made = λ (ps : List ℕ) (fs : List (List Part)) (n : ℕ). flat_map (λ k. function_words (slice_index ps)
    (slice_index_or (functions_of fs) k no_part)) (s.entry ∷ others s.entry n) in
    c.of.ensures ∙ c.in_ok-words.ensures.words
    ∙ ap (λ ps. made ps c.as_slice-functions.result.now (length c.as_slice-functions.result.now))
    c.as_slice-2.ensures.value
    ∙ ap (λ fs. made c.in_ok-sizes.places.items fs (length fs)) c.as_slice-functions.ensures
    ∙ ap (made c.in_ok-sizes.places.items c.args.shape.now.functions) (sym
    (length-map c.args.shape.now.functions parts_of))
    ∙ words_so s start c.requires.formed c.in_ok-sizes.ensures.places

pub returns-clause-starts : goal.returns-clause-starts
returns-clause-starts c =
    let s = plain_shape c.args.shape.now in
    let start = slice_index c.in_ok-sizes.places.items in
    c.of-2.ensures ∙ c.in_ok-starts.ensures
    ∙ ap (λ ps. map (slice_index ps) (s.entry ∷ others s.entry (length ps))) c.as_slice-3.ensures.value
    ∙ ap (λ n. map start (s.entry ∷ others s.entry n)) c.in_ok-sizes.ensures.count
    ∙ starts_so s start c.requires.formed c.in_ok-sizes.ensures.places

pub returns-clause-fit : goal.returns-clause-fit
returns-clause-fit c = λ k within.
    let s = plain_shape c.args.shape.now in
    let start = slice_index c.in_ok-sizes.places.items in
    let same = ap (λ ps. flat_parts (slice_index ps) (slice_index_or (functions_of c.as_slice-functions.result.now) k
    no_part)) c.as_slice-2.ensures.value
    ∙ ap (λ fs. flat_parts start (slice_index_or (functions_of fs) k no_part)) c.as_slice-functions.ensures
    ∙ flat_so s start c.requires.formed c.in_ok-sizes.ensures.places k (omega (
      arith,
      within,
      length-map c.args.shape.now.functions parts_of,
    )) in
    subst (All FitsBundle) same (c.in_ok-words.ensures.fit k
    (omega (arith, within, ap length c.as_slice-functions.ensures)))
