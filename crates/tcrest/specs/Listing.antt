-- To be believed. What `asm` writes: the words of each assembly task's code.
use Rattle.std.specs.Prelude.{ℕ, List, [], ◌++◌, length, codes, Option, Some, None}
use Rattle.std.specs.List.{flat_map}
use Rattle.std.specs.Fmt.{decimal}
use Rattle.tc_io.specs.Hex.{hex8}
use Rattle.tc_report.specs.Line.{line, core_name}
use Rattle.job_tasks.specs.Tasks.{Made, Coded, told_from}

-- each word is a line of eight hexadecimal digits
abbrev pub word_line : ℕ → List ℕ
word_line word = line (hex8 word)

-- how many words there are, and the words
abbrev pub listing_of : ℕ → List ℕ → List ℕ
listing_of core words = line (core_name core ++ codes " words " ++ decimal (length words)) ++ flat_map word_line words

-- a C task has none
abbrev pub listing_for : ℕ → Made → List ℕ
listing_for core m = elim m.program as (λ _. List ℕ) [ None ↦ listing_of core m.image.words | Some p ↦ [] ]

-- the listing of a core's task, if it has one
abbrev pub listing_on : ℕ → Option Coded → List ℕ
listing_on core None = []
listing_on core (Some c) = listing_for core c.made

-- those of all cores
abbrev pub listings : List (Option Coded) → List ℕ
listings coded = told_from listing_on 0 coded
