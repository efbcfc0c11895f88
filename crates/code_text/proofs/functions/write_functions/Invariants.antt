use Rattle.std.proofs.Common.{◌≡◌, ◌++◌, string_bytes, drop}
use Rattle.code_text.specs.Lines.{lines_text}
use Rattle.code_text.specs.Listing.{functions_lines}
use Rattle.code_text.specs.Runs.{shape_of}
use Rattle.code_text.proofs.functions.write_functions.Given as goal

abbrev pub invariant-loop-function : goal.invariant-loop-function
invariant-loop-function l = string_bytes l.text ++ lines_text (functions_lines l.names l.runs.each (shape_of l.runs)
    l.words (drop l.function-index l.order))
    ≡ string_bytes l.initial.text ++ lines_text (functions_lines l.names l.runs.each (shape_of l.runs)
    l.words-2 l.order)
