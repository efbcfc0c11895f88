-- To be believed. The bound of a program by what its functions weigh. A function's words are run as often as its loops
-- can run anything, each with a transaction; and each of its calls, with the fetches of both functions, as often.
use Rattle.std.specs.Prelude.{ℕ, zero, suc, ◌+◌, ◌-◌, ◌*◌, max, List, slice_index, slice_index_or}
use Rattle.sp_tree.specs.Statements.{PlainFunction, no_function, PlainUnit}
use Rattle.cycle_bound.specs.Bound.{transactions}
use Rattle.cycle_bound.specs.Gap.{gap}
use Rattle.weight_bounds.specs.Trees.{stmts_iterations, stmts_call_count}

-- how many cycles a transaction takes at most, with the wait for a slot
abbrev pub transaction_cycles : List ℕ → ℕ → ℕ → ℕ
transaction_cycles table slot core = gap table slot core + slot - 1

-- where a transaction takes so many, the fetch of a function of so many words
abbrev pub fetch_cycles : ℕ → ℕ → ℕ
fetch_cycles each words = each * transactions words

-- A function of so many words, iterations and calls, where what is called takes so many cycles with its fetch. The frame
-- is taken once, and brought back after each call: the stack cache has 128 words, so 31 transactions more at each
abbrev pub function_cycles : ℕ → ℕ → ℕ → ℕ → ℕ → ℕ
function_cycles each words iterations calls called =
    iterations
    * (words * (1 + each) + each * (31 * (1 + calls)) + calls * (fetch_cycles each words + called))

-- the most that one of the first so many functions takes, with its fetch
abbrev pub called_cycles : ℕ → List ℕ → List PlainFunction → ℕ → ℕ
called_cycles each weights fs zero = 0
called_cycles each weights fs (suc n) =
    let words = slice_index weights n in
    let body = (slice_index_or fs n no_function).body in
    let before = called_cycles each weights fs n in
    max before
    (fetch_cycles each words + function_cycles each words (stmts_iterations body) (stmts_call_count body) before)

-- the function of a number, without its fetch
abbrev pub weighed_cycles : ℕ → List ℕ → List PlainFunction → ℕ → ℕ
weighed_cycles each weights fs k =
    let body = (slice_index_or fs k no_function).body in
    function_cycles each (slice_index weights k) (stmts_iterations body) (stmts_call_count body)
    (called_cycles each weights fs k)

-- the whole: the entry has to be fetched, and is run
abbrev pub weight_bound : ℕ → List ℕ → PlainUnit → ℕ
weight_bound each weights u =
    fetch_cycles each (slice_index weights u.entry) + weighed_cycles each weights u.functions u.entry
