use Rattle.std.proofs.Common.{◌++◌, ◌∙◌, string_bytes, slice_index_or, drop, sym, ap, append-nil, arith}
use Rattle.code_text.specs.Lines.{lines_text}
use Rattle.code_text.specs.Runs.{shape_of}
use Rattle.std.proofs.lemmas.List.{get_or_default}
use Rattle.code_text.proofs.Writing.{next_function, no_words}
use Rattle.code_text.proofs.functions.write_functions.Goals as goal

pub loop-function-preserved : goal.loop-function-preserved
loop-function-preserved c =
    let runs = c.args.runs.now in
    let k = slice_index_or c.args.order.now c.loop-function.function-index 0 in
    next_function c.args.names.now runs.each (shape_of runs) (string_bytes c.loop-function.text)
    (string_bytes c.write_function.new.text) c.loop-function.words.now c.in-Some.body.now c.split_at.result.1.now
    c.args.order.now
    c.in-Some.size.now c.loop-function.function-index k c.min.result (omega arith)
    (get_or_default c.args.order.now c.loop-function.function-index 0 k (omega arith)) c.in-Some.ensures.cases.0
    (c.min.ensures ∙ omega arith) c.split_at.ensures.back c.in_ok-write_function.ensures
    ∙ c.loop-function.invariant

pub returns-in_default : goal.returns-in_default
returns-in_default c =
    let old = string_bytes c.loop-function.text in
    let none = no_words c.args.names.now c.args.runs.now.each (shape_of c.args.runs.now) c.loop-function.words.now
    (drop c.loop-function.function-index c.args.order.now) (omega (arith, c.in_default.ensures.cases)) in
    sym (append-nil old) ∙ ap (λ ls. old ++ lines_text ls) (sym none) ∙ c.loop-function.invariant
