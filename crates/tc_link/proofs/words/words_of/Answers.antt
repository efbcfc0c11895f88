use Rattle.std.proofs.Common.{◌++◌, ℕ, slice_index, slice_index_or, append-nil, below_more, sym, ap, ◌∙◌, subst, arith}
use Rattle.std.specs.List.{All, flat_map}
use Rattle.std.proofs.lemmas.List.Concat.{flat_map-append}
use Rattle.patmos_instr.specs.Bundles.{FitsBundle}
use Rattle.sp_shape.specs.Parts.{no_part}
use Rattle.sp_shape.specs.Shown.{parts_of, functions_of}
use Rattle.sp_shape.specs.Words.{parts_words}
use Rattle.sp_shape.proofs.Functions.{function_at}
use Rattle.tc_link.specs.Flat.{flat_parts}
use Rattle.tc_link.specs.Placed.{function_words}
use Rattle.tc_link.proofs.Fitting.{fit_at}
use Rattle.tc_link.proofs.Functions.{function_sized}
use Rattle.tc_link.proofs.Order.{order_more, order_same}
use Rattle.tc_link.proofs.words.words_of.Goals as goal
use Rattle.tc_link.proofs.words.words_of.Goals.{then-k-entry+in_ok-push_function-2, else-k-entry}

pub push_function-requires-clause-size : goal.push_function-requires-clause-size
push_function-requires-clause-size c =
    function_sized c.args.sizes.now c.args.functions.now c.args.entry c.index-functions-entry.result c.requires.sizes
    c.requires.entry c.index-functions-entry.is
    ∙ ap (λ ps. parts_words (parts_of ps)) (sym c.as_slice.ensures)

pub push_function-requires-then-k-entry-clause-size : goal.push_function-requires-then-k-entry-clause-size
push_function-requires-then-k-entry-clause-size c =
    function_sized c.args.sizes.now c.args.functions.now c.loop-k.k c.index-functions-k.result c.requires.sizes
    (omega arith) c.index-functions-k.is
    ∙ ap (λ ps. parts_words (parts_of ps)) (sym c.as_slice-then-k-entry.ensures)

pub loop-k-init : goal.loop-k-init
loop-k-init c =
    let start = slice_index c.args.places.now in
    let is = function_at c.args.functions.now c.args.entry c.index-functions-entry.result c.requires.entry
    c.index-functions-entry.is in
    record {
      words = c.in_ok-push_function.ensures.words
          ∙ ap (λ ws. ws ++ function_words start (parts_of c.as_slice.result.now)) c.new-words.ensures.items
          ∙ ap (function_words start) (ap parts_of c.as_slice.ensures ∙ sym is)
          ∙ sym (append-nil (function_words start (slice_index_or (functions_of c.args.functions.now)
          c.args.entry no_part)));
      entry = fit_at start c.args.functions.now c.args.entry c.index-functions-entry.result c.as_slice.result.now
          c.requires.entry c.index-functions-entry.is c.as_slice.ensures
          c.in_ok-push_function.ensures.fit;
      fit = λ j below. absurd (omega (arith, below));
    }

pub loop-k-preserved : goal.loop-k-preserved
loop-k-preserved c =
    let start = slice_index c.args.places.now in
    let piece = λ (k : ℕ). function_words start (slice_index_or (functions_of c.args.functions.now) k no_part) in
    let fits = λ (k : ℕ). All FitsBundle
    (flat_parts start (slice_index_or (functions_of c.args.functions.now) k no_part)) in
    elim c.if-k-entry.branch [
      | then-k-entry+in_ok-push_function-2 w ↦
          let is = function_at c.args.functions.now c.loop-k.k c.index-functions-k.result
          (omega arith) c.index-functions-k.is in
          record {
            words = order_more (flat_map piece) (flat_map-append piece) c.args.entry c.loop-k.k c.loop-k.words.items
                c.if-k-entry.words.items w.if-k-entry.true c.loop-k.invariant.words
                (ap (λ v. v.items) w.words-is ∙ w.in_ok-push_function-2.ensures.words
                ∙ ap (λ ps. c.loop-k.words.items ++ function_words start (parts_of ps)) w.as_slice-then-k-entry.ensures
                ∙ ap (λ ps. c.loop-k.words.items ++ function_words start ps) (sym is)
                ∙ ap (λ xs. c.loop-k.words.items ++ xs) (sym (append-nil (piece c.loop-k.k))));
            entry = c.loop-k.invariant.entry;
            fit = below_more fits c.loop-k.k c.loop-k.invariant.fit (fit_at start c.args.functions.now c.loop-k.k
                c.index-functions-k.result w.as_slice-then-k-entry.result.now
                (omega arith) c.index-functions-k.is w.as_slice-then-k-entry.ensures
                w.in_ok-push_function-2.ensures.fit);
          }
      | else-k-entry w ↦ record {
        words = order_same (flat_map piece) c.args.entry c.loop-k.k c.loop-k.words.items c.if-k-entry.words.items
            w.if-k-entry.false c.loop-k.invariant.words (ap (λ v. v.items) w.words-is);
        entry = c.loop-k.invariant.entry;
        fit = below_more fits c.loop-k.k c.loop-k.invariant.fit
            (subst fits (sym w.if-k-entry.false) c.loop-k.invariant.entry);
      }
    ]
