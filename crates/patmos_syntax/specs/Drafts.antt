-- To be believed. Instructions and bundles as they are written, with names where
-- the places of their targets will stand.
use Rattle.std.specs.Prelude.{ℕ, ◌==◌, Bool, false, ◌&&◌, ◌||◌, if◌then◌else◌, List, [], ◌∷◌, map, Option, Some, None, is_some, Result, Ok, Err}
use Rattle.std.specs.Option.{ok_or}
use Rattle.patmos_instr.specs.Instructions.{is_long, is_second_kind}
use Rattle.patmos_instr.specs.declared.guards.Guard.{Guard}
use Rattle.patmos_instr.specs.declared.instructions.Instr.{Instr}
use Rattle.patmos_instr.specs.declared.instructions.Op.{Op}
use Rattle.patmos_forms.specs.declared.faults.AsmKind.{AsmKind}
use Rattle.patmos_forms.specs.declared.faults.AsmKind.TheVariants.{Mnemonic, Operand, Slot}
use Rattle.patmos_forms.specs.declared.forms.JumpKind.{JumpKind}
use Rattle.patmos_forms.specs.Faults.{◌>>=◌, least}
use Rattle.patmos_forms.specs.Readers.{word_at, is_name, sign_at, at_end}
use Rattle.patmos_forms.specs.Forms.{flow_of, form_of, op_in, guard_at, guard_of}

-- an operation, or a jump to what has this name
pub data Draft : Type 0 where
  ready : Op → Draft
  to : JumpKind → List ℕ → Draft

pub record DraftInstr : Type 0 where
  pub guard : Guard
  pub draft : Draft

-- an instruction, and the one beside it, which is never a jump
pub record DraftBundle : Type 0 where
  pub first : DraftInstr
  pub second : Option Instr

-- a name, after which nothing is left
abbrev pub name_in : List ℕ → Option (List ℕ)
name_in text = if is_name (word_at text).0 && at_end (word_at text).1 then Some (word_at text).0 else None

-- what stands after a mnemonic
abbrev pub jump_in : JumpKind → List ℕ → Result Draft AsmKind
jump_in flow text = ok_or (name_in text) Operand >>= λ name. Ok (to flow name)

abbrev pub plain_in : List ℕ → List ℕ → Result Draft AsmKind
plain_in word text = do
  form ← ok_or (form_of word) Mnemonic
  op ← op_in form text
  Ok (ready op)

unfoldable pub draft_in : List ℕ → List ℕ → Result Draft AsmKind
draft_in word text = by_mnemonic (flow_of word) word text
  where
    by_mnemonic : Option JumpKind → List ℕ → List ℕ → Result Draft AsmKind
    by_mnemonic (Some flow) word text = jump_in flow text
    by_mnemonic None word text = plain_in word text

-- an instruction: a guard or none, a mnemonic, and its operands. A number that passes its field is given
-- last of all
unfoldable pub instr_of : List ℕ → Result DraftInstr AsmKind
instr_of text = do
  g ← ok_or (guard_at text) Mnemonic
  draft ← draft_in (word_at g.2).0 (word_at g.2).1
  guard ← guard_of g.0 g.1
  Ok (record { guard = guard; draft = draft })

-- what stands in the second slot: no jump
abbrev pub second_of : DraftInstr → Result Instr AsmKind
second_of i = plain i.guard i.draft
  where
    plain : Guard → Draft → Result Instr AsmKind
    plain guard (ready op) = Ok (record { guard = guard; op = op })
    plain guard (to flow name) = Err Slot

-- the pair of two instructions, where they are a legal one: the first is not long, and the second is of a
-- kind for its slot
abbrev pub is_long_draft : Draft → Bool
is_long_draft (ready op) = is_long op
is_long_draft (to flow name) = false

-- how many words a bundle has
abbrev pub size_of : DraftBundle → ℕ
size_of b = if is_long_draft b.first.draft || is_some b.second then 2 else 1

abbrev pub pair_of : DraftInstr → DraftInstr → Result DraftBundle AsmKind
pair_of first second = second_of second >>= λ i.
    if is_long_draft first.draft then Err Slot
    else if is_second_kind i.op then Ok (record { first = first; second = Some i }) else Err Slot

-- what stands before the first such byte, and what stands after it, where there is one
abbrev pub cut_at : ℕ → List ℕ → List ℕ × Option (List ℕ)
cut_at sign [] = ([], None)
cut_at sign (b ∷ bs) = if b == sign then ([], Some bs) else (b ∷ (cut_at sign bs).0, (cut_at sign bs).1)

-- the parts of a text between its semicolons
abbrev pub parts_of : List ℕ → List (List ℕ)
parts_of [] = [] ∷ []
parts_of (b ∷ bs) = if b == 59 then [] ∷ parts_of bs else longer b (parts_of bs)
  where
    longer : ℕ → List (List ℕ) → List (List ℕ)
    longer b [] = []
    longer b (part ∷ parts) = (b ∷ part) ∷ parts

-- the fault that is reported of this one and those of the parts
abbrev pub least_of : AsmKind → List (Result DraftInstr AsmKind) → AsmKind
least_of fault [] = fault
least_of fault (Ok instr ∷ parts) = least_of fault parts
least_of fault (Err other ∷ parts) = least_of (least fault other) parts

-- the two parts, where there are exactly two
abbrev pub two_parts : List (List ℕ) → Option (List ℕ × List ℕ)
two_parts (one ∷ two ∷ []) = Some (one, two)
two_parts _ = None

abbrev pub both_of : Result DraftInstr AsmKind → Result DraftInstr AsmKind → Result DraftBundle AsmKind
both_of (Ok first) (Ok second) = pair_of first second
both_of one two = Err (least_of Slot (one ∷ two ∷ []))

abbrev pub halves_of : List (List ℕ) → Option (List ℕ × List ℕ) → Result DraftBundle AsmKind
halves_of parts (Some two) = both_of (instr_of two.0) (instr_of two.1)
halves_of parts None = Err (least_of Operand (map instr_of parts))

-- nothing stands after the closing brace
abbrev pub is_closed : Option (List ℕ) → Bool
is_closed None = false
is_closed (Some rest) = at_end rest

-- what stands after an opening brace: two instructions with a semicolon between them, and the closing
-- brace at the end
unfoldable pub braces_of : List ℕ → Result DraftBundle AsmKind
braces_of text =
    let parts = parts_of (cut_at 125 text).0 in
    halves_of parts (if is_closed (cut_at 125 text).1 then two_parts parts else None)

-- a bundle: two instructions in braces, or one
unfoldable pub bundle_of : List ℕ → Result DraftBundle AsmKind
bundle_of text = behind text (sign_at 123 text)
  where
    behind : List ℕ → Option (List ℕ) → Result DraftBundle AsmKind
    behind text (Some inside) = braces_of inside
    behind text None = instr_of text >>= λ instr. Ok (record { first = instr; second = None })
