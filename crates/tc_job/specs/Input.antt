-- To be believed. The input of a task: words, which the text may write as signed or as unsigned numbers.
use Rattle.std.specs.Prelude.{ℕ, ℤ, pos, negsuc, ◌-◌, ◌^◌, nat_lt, nat_le, if◌then◌else◌, List, [], length, Option, Some, None, Result, Ok, Err}
use Rattle.toml.specs.Data.{Data}
use Rattle.local_store.specs.declared.store.TheConstants.{INPUT_WORDS}
use Rattle.tc_toml.specs.declared.fault.JobFault.{JobFault}
use Rattle.tc_toml.specs.declared.fault.JobFault.TheVariants as faults
use Rattle.tc_toml.specs.Fault.{◌>>=◌}
use Rattle.tc_toml.specs.Values.{each_of, given, integers_in}

-- The word of an integer from -2^31 to 2^32 - 1. A negative one stands for its word in two's
-- complement: -(n + 1) for 2^32 - 1 - n.
abbrev pub word_of : ℤ → Option ℕ
word_of (pos n) = if nat_lt n (2 ^ 32) then Some n else None
word_of (negsuc n) = if nat_lt n (2 ^ 31) then Some (2 ^ 32 - 1 - n) else None

-- the words, where they are not too many
abbrev pub words_of : List ℤ → Result (List ℕ) JobFault
words_of integers = if nat_le (length integers) INPUT_WORDS then given faults.Input (each_of word_of integers)
    else Err faults.Input

-- the input at a key that may be left out
abbrev pub input_of : Option Data → Result (List ℕ) JobFault
input_of None = Ok []
input_of (Some d) = integers_in d >>= words_of
