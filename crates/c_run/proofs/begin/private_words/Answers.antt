use Rattle.std.proofs.Common.{◌≡◌, ◌≤◌, ◌+◌, ◌-◌, ◌∙◌, ◌++◌, false, min, length, map, take, drop, replicate, slice_index, vec_len, subst, sym, ap, arith}
use Rattle.std.proofs.lemmas.List.{length-take-le}
use Rattle.std.proofs.Math.ListN.{length-append}
use Rattle.c_tree.specs.Layout.{initial_of, input_of}
use Rattle.c_tree.specs.Plain.{plain, plain_item}
use Rattle.c_tree.specs.Valid.{words_in}
use Rattle.c_run.proofs.Beginnings.{begun_words}
use Rattle.c_tree.specs.declared.limits.TheConstants.{MOST_PRIVATE_WORDS}
use Rattle.c_tree.proofs.Typing.{typed_of}
use Rattle.c_meaning.proofs.Fits.{initial_fits, input_within}
use Rattle.c_run.proofs.begin.private_words.Goals as goal

pub input_place-place-requires : goal.input_place-place-requires
input_place-place-requires c =
    subst (λ items. words_in false (map plain_item items) ≤ MOST_PRIVATE_WORDS) (sym c.as_slice-items.ensures)
    (typed_of c.args.program.now.place.cores c.args.program.now.place.core (plain c.args.program.now.unit)
    c.args.program.now.valid).private

pub slice_bounds-lay-end : goal.slice_bounds-lay-end
slice_bounds-lay-end c = sym (length-take-le c.min-reach.result c.args.input.now (omega (arith, c.min-reach.ensures)))

pub lay-requires : goal.lay-requires
lay-requires c =
    let items = plain c.args.program.now.unit in
    let same = ap (map plain_item) c.as_slice-items.ensures in
    let at : c.input_place-place.result.at ≡ (input_of items).at =
    c.input_place-place.ensures.at ∙ ap (λ xs. (input_of xs).at) same in
    let room : c.input_place-place.result.room ≡ (input_of items).room =
    c.input_place-place.ensures.room ∙ ap (λ xs. (input_of xs).room) same in
    let over = length-take-le c.min-reach.result c.args.input.now (omega (arith, c.min-reach.ensures)) in
    let data_ = (typed_of c.args.program.now.place.cores c.args.program.now.place.core items
    c.args.program.now.valid).private in
    omega (
      arith,
      at,
      room,
      over,
      data_,
      (input_within 4 items (omega arith)).1,
      c.min-reach.ensures,
      c.in_ok-resize.ensures.len,
    )

pub returns-clause-words : goal.returns-clause-words
returns-clause-words c =
    let items = plain c.args.program.now.unit in
    let same = ap (map plain_item) c.as_slice-items.ensures in
    let at : c.input_place-place.result.at ≡ (input_of items).at =
    c.input_place-place.ensures.at ∙ ap (λ xs. (input_of xs).at) same in
    let room : c.input_place-place.result.room ≡ (input_of items).room =
    c.input_place-place.ensures.room ∙ ap (λ xs. (input_of xs).room) same in
    let over = take c.min-reach.result c.args.input.now in
    let first = c.in_ok-words.ensures ∙ ap (λ xs. replicate 4 0 ++ initial_of xs) same in
    let words = c.resize.new.self.items in
    let fits = initial_fits c.args.program.now.place.cores c.args.program.now.place.core items
    c.args.program.now.valid in
    let data_ = (typed_of c.args.program.now.place.cores c.args.program.now.place.core items
    c.args.program.now.valid).private in
    let reach : c.min-reach.result ≡ min (input_of items).room (length c.args.input.now) =
    c.min-reach.ensures ∙ ap (λ r. min r (length c.args.input.now)) room in
    ap slice_index (c.lay.ensures.words ∙ ap (λ k. take k words ++ (over ++ drop (k + length over) words)) at)
    ∙ begun_words items c.args.input.now c.in_ok-words.words.items words (65536 - vec_len c.in_ok-words.words)
    c.min-reach.result first
    (let size = ap length first in omega (arith, size, length-append (replicate 4 0) (initial_of items), fits))
    c.in_ok-resize.ensures.items reach
    (omega (arith, reach, data_, (input_within 4 items (omega arith)).1, c.in_ok-resize.ensures.len))
