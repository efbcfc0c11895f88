-- To be believed. The pieces of a report's lines.
use Rattle.std.specs.Prelude.{ℕ, ◌+◌, ◌==◌, Bool, true, false, if◌then◌else◌, List, [], ◌∷◌, ◌++◌, codes, Option, Some, None, slice_index_or}
use Rattle.std.specs.Fmt.{decimal, signed_decimal}
use Rattle.std.specs.Int.{w32, cast_signed}
use Rattle.slot_arbiter.specs.declared.event.Access.{Access}
use Rattle.tc_report.specs.declared.rows.RowState.{RowState}
use Rattle.tc_report.specs.declared.rows.RowState.TheVariants as states

-- every line ends with one newline
abbrev pub line : List ℕ → List ℕ
line text = text ++ 10 ∷ []

-- the name of a core, and how a line about it begins
abbrev pub core_name : ℕ → List ℕ
core_name core = codes "core " ++ decimal core

abbrev pub about : ℕ → List ℕ
about core = core_name core ++ codes " "

-- a word in decimal, read as signed (two's complement) or as unsigned
abbrev pub signed_word : ℕ → List ℕ
signed_word word = signed_decimal (cast_signed w32 word)

abbrev pub word_text : Bool → ℕ → List ℕ
word_text unsigned word = if unsigned then decimal word else signed_word word

-- what became of the core's task
abbrev pub state_text : RowState → List ℕ
state_text states.Idle = codes "idle"
state_text states.Limit = codes "limit"
state_text (states.Done value cycles) = codes "done " ++ signed_word value ++ codes " cycles " ++ decimal cycles
state_text (states.Trap trap at) = codes "trap " ++ decimal trap ++ codes " at " ++ decimal at

abbrev pub is_done : RowState → Bool
is_done (states.Done value cycles) = true
is_done _ = false

-- words that stand in a line only where something holds
abbrev pub where_so : Bool → List ℕ → List ℕ
where_so holds words = if holds then words else []

-- What is reported of a C task on the same line: its bound, which no other task has, whether it is alone with
-- its shared data, and whether a loop of it, now done, ran past its count.
abbrev pub bound_text : Option ℕ → Bool → Bool → List ℕ
bound_text None alone overrun = []
bound_text (Some bound) alone overrun =
    codes " bound " ++ decimal bound ++ where_so alone (codes " alone") ++ where_so overrun (codes " overrun")

-- a word of a done task's array `out`, and all of them from an index on
abbrev pub out_line : ℕ → Bool → ℕ → ℕ → List ℕ
out_line core unsigned index word =
    line (about core ++ codes "out " ++ decimal index ++ codes " " ++ word_text unsigned word)

abbrev pub outs_from : ℕ → Bool → ℕ → List ℕ → List ℕ
outs_from core unsigned index [] = []
outs_from core unsigned index (word ∷ words) =
    out_line core unsigned index word ++ outs_from core unsigned (index + 1) words

-- how many starts of transfers were dropped, where any was
abbrev pub dropped_lines : ℕ → ℕ → List ℕ
dropped_lines core dropped = if dropped == 0 then [] else line (about core ++ codes "dropped " ++ decimal dropped)

-- the cycle at which a transaction's data moved, which way, and how many words
abbrev pub access_line : ℕ → Access → List ℕ
access_line core access =
    line (about core ++ codes "access " ++ decimal access.cycle
    ++ (if access.write then codes " write " else codes " read ") ++ decimal access.words)

-- what a stage of a pipeline holds: a place in the code, or nothing
abbrev pub stage_text : Option ℕ → List ℕ
stage_text None = codes "-"
stage_text (Some place) = decimal place

-- a step of the five stages: the cycle of its bundle, and what fetch, decode, execute, memory and write-back hold
abbrev pub stage_at : List (Option ℕ) → ℕ → List ℕ
stage_at stages number = stage_text (slice_index_or stages number None)

abbrev pub step_line : ℕ → List (Option ℕ) → List ℕ
step_line cycle stages =
    line (codes "step " ++ decimal cycle ++ codes " F " ++ stage_at stages 0 ++ codes " D " ++ stage_at stages 1
    ++ codes " E " ++ stage_at stages 2
    ++ codes " M " ++ stage_at stages 3 ++ codes " W " ++ stage_at stages 4)

-- what a C task means: the value of its `main`, and whether a loop of it ran past its count
abbrev pub mean_line : ℕ → ℕ → Bool → List ℕ
mean_line core value overrun =
    line (about core ++ codes "mean " ++ signed_word value ++ where_so overrun (codes " overrun"))
