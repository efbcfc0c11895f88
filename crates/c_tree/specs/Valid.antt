-- To be believed. Which programs are valid on a core of so many: those without a fault (our subset).
use Rattle.std.specs.Prelude.{IsTrue, ℕ, ◌==◌, ◌+◌, nat_lt, Bool, true, false, not, ◌&&◌, ◌||◌, if◌then◌else◌, List, [], ◌∷◌, ◌++◌, length, Option, None, Some, is_some, sum_by, bytes_eq, codes}
use Rattle.std.specs.List.{list_any}
use Rattle.c_tree.specs.declared.checks.CheckFault.TheVariants as fault
use Rattle.c_tree.specs.declared.checks.Fault.{Fault}
use Rattle.c_tree.specs.declared.checks.Meaning.{Meaning}
use Rattle.c_tree.specs.declared.checks.Meaning.TheVariants as meaning
use Rattle.c_tree.specs.declared.checks.Within.{Within}
use Rattle.c_tree.specs.declared.limits.TheConstants.{MOST_FRAME_WORDS, MOST_FUNCTION_WEIGHT, MOST_PARAMETERS, MOST_PRIVATE_WORDS, MOST_SCRATCH_WORDS, MOST_TASK_WEIGHT}
use Rattle.c_tree.specs.declared.statements.Kind.{Kind}
use Rattle.c_tree.specs.declared.statements.Kind.TheVariants as kind
use Rattle.c_tree.specs.declared.units.Global.{Global}
use Rattle.c_tree.specs.declared.units.Parameter.{Parameter}
use Rattle.c_tree.specs.Plain.{PlainStmt, PlainItem, global, function}
use Rattle.c_tree.specs.Tokens.{gives_tokens}
use Rattle.c_tree.specs.Weight.{function_weight, items_weight}
use Rattle.c_tree.specs.Frame.{function_frame}
use Rattle.c_tree.specs.Least.{where_so, least_of}
use Rattle.c_tree.specs.Names.{Named, declared, given}
use Rattle.c_tree.specs.Sizes.{kind_size, parameter_size, list_size, item_size}
use Rattle.c_tree.specs.Checks.{twice_faults, body_faults}

-- ---- variables and arrays outside functions

-- how many words a variable or an array has
abbrev pub words_of : Global → ℕ
words_of g = elim g.length [ None ↦ 1 | Some l ↦ l.value ]

abbrev pub means_of : Global → Meaning
means_of g = elim g.length [ None ↦ meaning.Scalar | Some l ↦ meaning.Array ]

-- the scratchpad begins without values, and an array has elements enough for its own
abbrev pub global_faults : List Named → ℕ → Global → List Fault
global_faults names at g =
    let name_at = at + (if g.scratch then 1 else 0) + kind_size g.kind in
    twice_faults 0 names name_at g.name
    ++ (where_so (g.scratch && nat_lt 0 (length g.initial)) name_at fault.WrongType
    ++ where_so (words_of g == 0 || nat_lt (words_of g) (length g.initial)) name_at fault.Data)

-- ---- functions

abbrev pub function_means : Bool → Option Kind → List Parameter → Meaning
function_means inside kind parameters = meaning.Function (length parameters) (is_some kind) inside

-- parameters, each with one token after it, where so many names are declared outside of the function
abbrev pub parameters_faults : ℕ → List Named → ℕ → List Parameter → List Fault
parameters_faults outer names at [] = []
parameters_faults outer names at (p ∷ ps) =
    twice_faults outer names (at + kind_size p.kind) p.name
    ++ parameters_faults outer (declared names p.name meaning.Scalar) (at + parameter_size p) ps

abbrev pub with_parameters : List Named → List Parameter → List Named
with_parameters names [] = names
with_parameters names (p ∷ ps) = with_parameters (declared names p.name meaning.Scalar) ps

-- what is reported at a function's name
abbrev pub named_faults : List Named → ℕ → List ℕ → List Parameter → List PlainStmt → List Fault
named_faults names at text parameters body =
    twice_faults 0 names at text
    ++ (where_so (nat_lt MOST_PARAMETERS (length parameters)) at fault.Params
    ++ (where_so (nat_lt MOST_FRAME_WORDS (function_frame parameters body)) at fault.Frame
    ++ where_so (nat_lt MOST_FUNCTION_WEIGHT (function_weight body)) at fault.Heavy))

-- a function's parameters and its block are one scope, in which its own name is open
abbrev pub inner_faults : ℕ → ℕ → List Named → ℕ → Option Kind → Bool → List Parameter → List PlainStmt → List Fault
inner_faults cores own names at kind void_word parameters body =
    let within : Within = record { cores = cores; own = own; gives = is_some kind; in_loop = false; outer = length names } in
    parameters_faults (length names) names (at + 2) parameters
    ++ body_faults within (with_parameters names parameters) (at + 2 + list_size void_word parameters + 2) body

abbrev pub function_faults : ℕ → ℕ → List Named → ℕ → Option Kind → List ℕ → Bool → List Parameter → List PlainStmt
    → List Fault
function_faults cores own names at kind text void_word parameters body =
    let name_at = at + length (gives_tokens kind) in
    named_faults names name_at text parameters body
    ++ inner_faults cores own (declared names text
    (function_means true kind parameters)) name_at kind void_word parameters body

-- ---- units

abbrev pub item_faults : ℕ → ℕ → List Named → ℕ → PlainItem → List Fault
item_faults cores own names at (global of) = global_faults names at of
item_faults cores own names at (function its_kind text void_word parameters body) =
    function_faults cores own names at its_kind text void_word parameters body

-- after a declaration its name is known
abbrev pub with_item : List Named → PlainItem → List Named
with_item names (global of) = declared names of.name (means_of of)
with_item names (function its_kind text void_word parameters body) =
    declared names text (function_means false its_kind parameters)

abbrev pub items_faults : ℕ → ℕ → List Named → ℕ → List PlainItem → List Fault
items_faults cores own names at [] = []
items_faults cores own names at (i ∷ items) =
    item_faults cores own names at i ++ items_faults cores own (with_item names i) (at + item_size i) items

-- how many words stand in the scratchpad, or else in private memory
abbrev pub item_words : Bool → PlainItem → ℕ
item_words scratch (global of) =
    if scratch then (if of.scratch then words_of of else 0) else (if of.scratch then 0 else words_of of)
item_words scratch (function its_kind text void_word parameters body) = 0

abbrev pub words_in : Bool → List PlainItem → ℕ
words_in scratch items = sum_by (item_words scratch) items

-- `int main` without parameters
abbrev pub is_int : Kind → Bool
is_int k = elim k as (λ _. Bool) [ kind.Int ↦ true | _ ↦ false ]

abbrev pub gives_int : Option Kind → Bool
gives_int None = false
gives_int (Some k) = is_int k

abbrev pub is_main : PlainItem → Bool
is_main (global of) = false
is_main (function its_kind text void_word parameters body) =
    bytes_eq text (codes "main") && (gives_int its_kind && length parameters == 0)

abbrev pub has_main : List PlainItem → Bool
has_main items = list_any is_main items

-- what is reported of the whole, at its end
abbrev pub end_faults : ℕ → List PlainItem → List Fault
end_faults at items =
    where_so (nat_lt MOST_TASK_WEIGHT (items_weight items)) at fault.Heavy
    ++ (where_so (nat_lt MOST_PRIVATE_WORDS (words_in false items)) at fault.Data
    ++ (where_so (nat_lt MOST_SCRATCH_WORDS (words_in true items)) at fault.Scratch
    ++ where_so (not (has_main items)) at fault.NoMain))

-- all faults of a program on a core of so many, in the order of its text and none left out for another
abbrev pub faults_of : List PlainItem → ℕ → ℕ → List Fault
faults_of items cores own = items_faults cores own given 0 items ++ end_faults (sum_by item_size items) items

-- the program is valid; else its fault is the least
abbrev pub has_none : List Fault → Bool
has_none [] = true
has_none (f ∷ faults) = false

abbrev pub IsValid : List PlainItem → ℕ → ℕ → Type 0
IsValid items cores own = IsTrue (has_none (faults_of items cores own))

abbrev pub fault_of : List PlainItem → ℕ → ℕ → Option Fault
fault_of items cores own = least_of (faults_of items cores own)
