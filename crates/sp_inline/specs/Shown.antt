-- To be believed. What functions and calls say that calls may be taken in from, without places in memory.
use Rattle.std.specs.Prelude.{ℕ, List, map}
use Rattle.sp_tree.specs.Plain.{PlainSp, plain_sp}
use Rattle.sp_tree.specs.Shown.{plain_function}
use Rattle.sp_tree.specs.Statements.{PlainStmts, PlainFunction}
use Rattle.sp_inline.specs.declared.calls.Call.{Call}
use Rattle.sp_inline.specs.declared.measured.Measured.{Measured}
use Rattle.sp_inline.specs.declared.callers.Caller.{Caller}
use Rattle.sp_inline.specs.Taken.{PlainCaller, call_statements, shortened}

abbrev pub measured_functions : List Measured → List PlainFunction
measured_functions functions = map (λ m. plain_function m.function) functions

abbrev pub plain_caller : Caller → PlainCaller
plain_caller c = record { functions = measured_functions c.functions.now; words = c.words; frame = c.frame }

abbrev pub args_of : Call → List PlainSp
args_of call = map plain_sp call.args.now

-- what stands in the place of a call of a function, over the words from a place on
abbrev pub statements_for : ℕ → PlainFunction → Call → PlainStmts
statements_for o f call = call_statements o (shortened f) call.mask (args_of call) call.result
