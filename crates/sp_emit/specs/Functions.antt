-- To be believed. The code of functions and tasks. Of its frame a function takes from the stack what finds no register:
-- first words that its tree names; then counters of iterations, those inside others before them; and last the place to
-- which it returns, where it calls others.
use Rattle.std.specs.Prelude.{ℕ, zero, suc, ◌+◌, ◌-◌, if◌then◌else◌, List, [], ◌∷◌, ◌++◌, Option, None, Some, length, slice_index_or}
use Rattle.patmos_instr.specs.Bundles.{PlainBundle}
use Rattle.patmos_instr.specs.declared.functions.CmpFunc.TheVariants as cmp
use Rattle.patmos_instr.specs.declared.functions.ImmFunc.TheVariants as imm
use Rattle.patmos_instr.specs.declared.functions.StackFunc.TheVariants.{Sres, Sfree}
use Rattle.patmos_instr.specs.declared.specials.Special.TheVariants as special
use Rattle.patmos_instr.specs.declared.specials.WritableSpecial.TheVariants as writable
use Rattle.sp_tree.specs.Formed.{slots_of}
use Rattle.sp_tree.specs.Statements.{PlainFunction, no_function, PlainUnit}
use Rattle.sp_shape.specs.Parts.{PlainPart, straight, leaves, PlainParts, no_part, part, joined, PlainShape}
use Rattle.sp_emit.specs.Instructions.{always, idle, copy, with_short, compare_short, from_special, to_special, stack_op, load_slot, store_slot, return}
use Rattle.sp_emit.specs.Chains.{stmts_call}
use Rattle.sp_emit.specs.Flags.{begun_body, flags_of}
use Rattle.sp_emit.specs.Places.{flag_of, stack_word, read_word, set_word, words_cleared, homes_of}
use Rattle.sp_emit.specs.Statements.{stmts_code}
use Rattle.sp_emit.specs.declared.registers.TheConstants.{RESULT, MASK, FIRST, SPARE, OVERRUN}
use Rattle.sp_emit.specs.declared.stands.Homes.{Homes}

-- the first so many arguments go to the first words
abbrev pub argument_kept : ℕ → ℕ → List PlainBundle
argument_kept homes n = set_word homes always n (FIRST + n) ∷ []

abbrev pub arguments_kept : ℕ → ℕ → List PlainBundle
arguments_kept homes zero = []
arguments_kept homes (suc n) = arguments_kept homes n ++ argument_kept homes n

-- where the return's base and its offset stand, after all of these
abbrev pub base_slot : ℕ → PlainFunction → ℕ
base_slot homes f = stack_word homes (f.frame - 2)

abbrev pub offset_slot : ℕ → PlainFunction → ℕ
offset_slot homes f = base_slot homes f + 1

-- and the counter of iterations that stand in no others
abbrev pub first_counter : PlainFunction → ℕ
first_counter f = f.frame - 3

-- how many words of the stack a function takes
abbrev pub frame_words : ℕ → PlainFunction → ℕ
frame_words homes f = base_slot homes f + (if stmts_call f.body then 2 else 0)

-- the place to which it returns goes there, and comes back from there
abbrev pub place_stored : ℕ → PlainFunction → List PlainBundle
place_stored homes f =
    from_special SPARE special.Srb
    ∷ store_slot always (base_slot homes f) SPARE
    ∷ from_special SPARE special.Sro
    ∷ store_slot always (offset_slot homes f) SPARE
    ∷ []

abbrev pub place_loaded : ℕ → PlainFunction → List PlainBundle
place_loaded homes f =
    load_slot SPARE (base_slot homes f)
    ∷ to_special writable.Srb SPARE
    ∷ load_slot SPARE (offset_slot homes f)
    ∷ to_special writable.Sro SPARE
    ∷ []

-- both where it calls others, each of which sets another place; else its own stays set
abbrev pub place_kept : ℕ → PlainFunction → List PlainBundle
place_kept homes f = if stmts_call f.body then place_stored homes f else []

abbrev pub place_brought : ℕ → PlainFunction → List PlainBundle
place_brought homes f = if stmts_call f.body then place_loaded homes f else []

-- the mask goes to its word: in a predicate it is tested at once
abbrev pub mask_in : Option ℕ → ℕ → ℕ → List PlainBundle
mask_in (Some p) homes mask = compare_short cmp.Eq p MASK 0 ∷ []
mask_in None homes mask = with_short always imm.Xor MASK MASK 1 ∷ set_word homes always mask MASK ∷ []

abbrev pub mask_kept : Homes → PlainFunction → List PlainBundle
mask_kept homes f = mask_in (flag_of homes.flags f.mask) homes.first f.mask

abbrev pub state_kept : Homes → PlainFunction → List PlainBundle
state_kept homes f = mask_kept homes f ++ place_kept homes.first f

-- so many words of the stack are taken, and freed; nothing is done for none
abbrev pub words_taken : ℕ → List PlainBundle
words_taken zero = []
words_taken (suc n) = stack_op Sres (suc n) ∷ []

abbrev pub words_freed : ℕ → List PlainBundle
words_freed zero = []
words_freed (suc n) = stack_op Sfree (suc n) ∷ []

abbrev pub frame_taken : ℕ → PlainFunction → List PlainBundle
frame_taken homes f = words_taken (frame_words homes f)

abbrev pub frame_freed : ℕ → PlainFunction → List PlainBundle
frame_freed homes f = words_freed (frame_words homes f)

abbrev pub function_begin : Homes → PlainFunction → List PlainBundle
function_begin homes f =
    frame_taken homes.first f
    ++ (words_cleared homes (slots_of f) ++ (arguments_kept homes.first f.parameters ++ state_kept homes f))

-- the result and the flag are given, and the frame is freed
abbrev pub result_given : ℕ → PlainFunction → List PlainBundle
result_given homes f = read_word homes RESULT f.result ∷ copy MASK OVERRUN ∷ frame_freed homes f

abbrev pub function_end : ℕ → PlainFunction → List PlainBundle
function_end homes f = place_brought homes f ++ result_given homes f

abbrev pub return_tail : List PlainBundle
return_tail = return ∷ idle ∷ idle ∷ idle ∷ []

abbrev pub leaving : PlainPart
leaving = leaves return_tail

abbrev pub function_rest : ℕ → PlainFunction → PlainParts
function_rest homes f = part (straight (function_end homes f)) (part leaving no_part)

-- the statements of its body, but for the test of its mask where that stands in a predicate
abbrev pub body_code : Homes → PlainFunction → PlainParts
body_code homes f = stmts_code homes (frame_words homes.first f) (first_counter f) (begun_body homes.flags f)

abbrev pub function_code : Homes → PlainFunction → PlainParts
function_code homes f =
    part (straight (function_begin homes f)) (joined (body_code homes f) (function_rest homes.first f))

-- where the words of a function stand
abbrev pub places_of : List PlainFunction → ℕ → Homes
places_of fs k = record { first = homes_of fs k; flags = flags_of fs k }

-- the code of the first so many functions
abbrev pub functions_code : List PlainFunction → ℕ → List PlainParts
functions_code fs zero = []
functions_code fs (suc n) =
    functions_code fs n ++ function_code (places_of fs n) (slice_index_or fs n no_function) ∷ []

abbrev pub codes : List PlainFunction → List PlainParts
codes fs = functions_code fs (length fs)

abbrev pub emitted : PlainUnit → PlainShape
emitted u = record {
  functions = codes u.functions;
  entry = u.entry;
  initial = u.initial;
  input_at = u.input_at;
  input_room = u.input_room;
}
