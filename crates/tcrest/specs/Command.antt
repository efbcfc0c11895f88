-- To be believed. The commands, as the words of the command line after the program's name call them.
use Rattle.std.specs.Prelude.{ℕ, ◌^◌, List, [], ◌∷◌, Option, None, Some, codes, bytes_eq, length, nat_le, nat_lt, if◌then◌else◌}
use Rattle.patmos_forms.specs.Readers.{value_of}
use Rattle.patmos_forms.specs.declared.readers.Radix.TheVariants.{Decimal}
use Rattle.tcrest.specs.declared.command.Command.{Command}
use Rattle.tcrest.specs.declared.command.Command.TheVariants.{OfJob, Grid, Gen, Bench, Usage}
use Rattle.tcrest.specs.declared.command.JobCommand.TheVariants.{Run, Bound, Asm, Mean, Pipe, Persist}
use Rattle.tcrest.specs.declared.command.TheConstants.{MOST_DIGITS}

-- words that are no command ask for the usage line
abbrev pub lone_word : List ℕ → Command
lone_word word = if bytes_eq word (codes "run") then OfJob Run
    else (if bytes_eq word (codes "bound") then OfJob Bound
    else (if bytes_eq word (codes "asm") then OfJob Asm
    else (if bytes_eq word (codes "mean") then OfJob Mean
    else (if bytes_eq word (codes "pipe") then OfJob Pipe
    else (if bytes_eq word (codes "persist") then OfJob Persist
    else (if bytes_eq word (codes "grid") then Grid else Usage))))))

-- a number of 1 to 10 decimal digits that is at most 2^32 - 1
abbrev pub word_in : ℕ → Option ℕ
word_in n = if nat_lt n (2 ^ 32) then Some n else None

abbrev pub word_or_none : Option ℕ → Option ℕ
word_or_none None = None
word_or_none (Some n) = word_in n

abbrev pub number_in : List ℕ → Option ℕ
number_in word = if nat_le (length word) MOST_DIGITS then word_or_none (value_of Decimal word) else None

abbrev pub with_number : List ℕ → Option ℕ → Command
with_number word None = Usage
with_number word (Some number) = if bytes_eq word (codes "gen") then Gen number
    else (if bytes_eq word (codes "bench") then Bench number else Usage)

abbrev pub command_of : List (List ℕ) → Command
command_of [] = Usage
command_of (word ∷ []) = lone_word word
command_of (word ∷ number ∷ []) = with_number word (number_in number)
command_of (word ∷ number ∷ next ∷ words) = Usage

-- the command reads nothing
abbrev pub ReadsNothing : Command → Type 0
ReadsNothing (OfJob command) = ⊥
ReadsNothing Grid = ⊥
ReadsNothing (Gen number) = Unit {0}
ReadsNothing (Bench number) = Unit {0}
ReadsNothing Usage = Unit {0}
