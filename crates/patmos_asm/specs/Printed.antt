-- To be believed. The text of a code: each function's name, and its bundles with
-- labels at the places that are branched to.
use Rattle.std.specs.Prelude.{ℕ, ℤ, pos, negsuc, ◌+◌, ◌-◌, ◌+ℤ◌, ◌^◌, ◌==◌, Bool, nat_lt, if◌then◌else◌, List, [], ◌∷◌, ◌++◌, length, take, drop, slice_index, codes, Option, Some, None}
use Rattle.std.specs.Fmt.{decimal}
use Rattle.std.specs.List.{list_any, filter_map, zip}
use Rattle.patmos_instr.specs.Bundles.{PlainBundle}
use Rattle.patmos_instr.specs.declared.instructions.Op.{Op}
use Rattle.patmos_instr.specs.declared.instructions.Op.TheVariants as op
use Rattle.patmos_code.specs.Decoding.{bundle_at}
use Rattle.patmos_forms.specs.declared.forms.JumpKind.TheVariants.{Branch, Call, BranchFill}
use Rattle.patmos_syntax.specs.Drafts.{Draft, ready, to, DraftBundle}
use Rattle.patmos_asm.specs.Written.{bundle_text}
use Rattle.patmos_asm.specs.Assembly.{CodeParts}

-- a bundle and its offset in its function
abbrev pub Placed : Type 0
Placed = ℕ × PlainBundle

abbrev pub before_rest : ℕ → Option PlainBundle → List Placed → List Placed
before_rest at None rest = rest
before_rest at (Some b) rest = (at, b) ∷ rest

-- the bundles of a function's words, of which the first stands at this offset
abbrev pub bundles_from : ℕ → List ℕ → List Placed
bundles_from at [] = []
bundles_from at (w ∷ []) = before_rest at (bundle_at w 0) []
bundles_from at (w ∷ v ∷ ws) =
    before_rest at (bundle_at w v) (if nat_lt w (2 ^ 31) then bundles_from (at + 1) (v ∷ ws)
    else bundles_from (at + 2) ws)

-- the offset that a branch goes to
abbrev pub natural : ℤ → ℕ
natural (pos n) = n
natural (negsuc n) = 0

abbrev pub target_of : ℕ → Op → Option ℕ
target_of at (op.Branch way) = Some (natural (pos at +ℤ way))
target_of at _ = None

-- the offsets that are branched to
abbrev pub targets_of : List Placed → List ℕ
targets_of bundles = filter_map (λ b. target_of b.0 b.1.first.op) bundles

abbrev pub is_target : ℕ → List ℕ → Bool
is_target n targets = list_any (λ t. n == t) targets

-- the label of an offset
abbrev pub label_name : ℕ → List ℕ
label_name n = codes "L" ++ decimal n

-- the name of the function that starts at this place
abbrev pub name_at : List (ℕ × List ℕ) → ℕ → List ℕ
name_at [] start = []
name_at (f ∷ fs) start = if start == f.0 then f.1 else name_at fs start

-- an operation with names in place of its target
abbrev pub named_op : (ℕ → List ℕ) → ℕ → Op → Draft
named_op functions at (op.Branch way) = to Branch (label_name (natural (pos at +ℤ way)))
named_op functions at (op.Call target) = to Call (functions target)
named_op functions at (op.BranchFill target) = to BranchFill (functions target)
named_op functions at o = ready o

abbrev pub named : (ℕ → List ℕ) → ℕ → PlainBundle → DraftBundle
named functions at b =
    record { first = record { guard = b.first.guard; draft = named_op functions at b.first.op }; second = b.second }

-- the line of a label, where the offset is branched to
abbrev pub label_line : (ℕ → Bool) → ℕ → List ℕ
label_line branched at = if branched at then label_name at ++ codes ":" ++ 10 ∷ [] else []

-- the lines of bundles
abbrev pub lines_of : (ℕ → List ℕ) → (ℕ → Bool) → List Placed → List ℕ
lines_of functions branched [] = []
lines_of functions branched (b ∷ bs) =
    label_line branched b.0 ++ codes "  " ++ bundle_text (named functions b.0 b.1) ++ 10 ∷ []
    ++ lines_of functions branched bs

-- the line that begins a function
abbrev pub head_line : List ℕ → List ℕ
head_line name = codes ".func " ++ name ++ 10 ∷ []

-- a function: its name, its bundles, and a label at its end where that is branched to
unfoldable pub function_text : (ℕ → List ℕ) → List ℕ → List ℕ → List ℕ
function_text functions name body =
    let bundles : List Placed = bundles_from 0 body in
    let branched : ℕ → Bool = λ n. is_target n (targets_of bundles) in
    head_line name ++ lines_of functions branched bundles ++ label_line branched (length body)

-- the words of the function that starts at a place
abbrev pub body_at : List ℕ → ℕ → List ℕ
body_at words start = take (slice_index words (start - 1)) (drop start words)

abbrev pub functions_text : (ℕ → List ℕ) → List ℕ → List (ℕ × List ℕ) → List ℕ
functions_text functions words [] = []
functions_text functions words (f ∷ fs) =
    function_text functions f.1 (body_at words f.0) ++ functions_text functions words fs

-- the text of a code
unfoldable pub printed : CodeParts → List ℕ
printed parts =
    let functions : List (ℕ × List ℕ) = zip parts.starts parts.names in
    functions_text (name_at functions) parts.words functions
