-- To be believed. The code of a text, or its fault.
use Rattle.std.specs.Prelude.{ℕ, pos, ◌+◌, ◌-ℤ◌, ◌==◌, Bool, true, not, ◌||◌, nat_lt, if◌then◌else◌, List, [], ◌∷◌, ◌++◌, length, map, bytes_eq, Option, Some, None, is_some, unwrap_or, Result, Ok, Err}
use Rattle.std.specs.List.{list_any}
use Rattle.std.specs.Option.{option_or, option_map}
use Rattle.patmos_instr.specs.Bundles.{PlainBundle}
use Rattle.patmos_instr.specs.declared.instructions.Op.{Op}
use Rattle.patmos_instr.specs.declared.instructions.Op.TheVariants as op
use Rattle.patmos_code.specs.declared.images.TheConstants.{MOST_IN_FUNCTION, MOST_IN_IMAGE}
use Rattle.patmos_code.specs.Codes.{code}
use Rattle.patmos_forms.specs.declared.faults.AsmKind.{AsmKind}
use Rattle.patmos_forms.specs.declared.faults.AsmKind.TheVariants.{NoLabel, LabelTwice, TooLarge, NoFunction}
use Rattle.patmos_asm.specs.declared.faults.AsmFault.{AsmFault}
use Rattle.patmos_forms.specs.declared.forms.JumpKind.TheVariants.{Branch, Call, BranchFill}
use Rattle.patmos_syntax.specs.Drafts.{Draft, ready, to, DraftBundle, size_of}
use Rattle.patmos_syntax.specs.Items.{Item, function, label, bundle, faulty, line_of, items_of}

-- ---- the names that a text sets, and their places

-- a name and its place, in words
abbrev pub Places : Type 0
Places = List (List ℕ × ℕ)

-- the place of each name that has one
abbrev pub Lookup : Type 0
Lookup = List ℕ → Option ℕ

-- a name has the place at which it is set first
abbrev pub place_of : Places → Lookup
place_of [] name = None
place_of (p ∷ ps) name = if bytes_eq name p.0 then Some p.1 else place_of ps name

-- the labels up to the next function, as offsets from the function's first word; the first statement stands
-- at this offset
abbrev pub labels_from : ℕ → List Item → Places
labels_from at [] = []
labels_from at (function _ _ ∷ is) = []
labels_from at (label _ name ∷ is) = (name, at) ∷ labels_from at is
labels_from at (bundle _ b ∷ is) = labels_from (at + size_of b) is
labels_from at (faulty _ _ ∷ is) = labels_from at is

-- the words up to the next function
abbrev pub size_from : List Item → ℕ
size_from [] = 0
size_from (function _ _ ∷ is) = 0
size_from (label _ _ ∷ is) = size_from is
size_from (bundle _ b ∷ is) = size_of b + size_from is
size_from (faulty _ _ ∷ is) = size_from is

-- the functions, and the places of their first words in the image, in which each function's words stand
-- after its size; the first statement stands at this place
abbrev pub functions_from : ℕ → List Item → Places
functions_from at [] = []
functions_from at (function _ name ∷ is) = (name, at + 1) ∷ functions_from (at + 1) is
functions_from at (label _ _ ∷ is) = functions_from at is
functions_from at (bundle _ b ∷ is) = functions_from (at + size_of b) is
functions_from at (faulty _ _ ∷ is) = functions_from at is

-- the names of the functions
abbrev pub names_from : List Item → List (List ℕ)
names_from [] = []
names_from (function _ name ∷ is) = name ∷ names_from is
names_from (label _ _ ∷ is) = names_from is
names_from (bundle _ _ ∷ is) = names_from is
names_from (faulty _ _ ∷ is) = names_from is

-- ---- faults

-- what stands before a statement: the names of the functions begun and of the labels set in its function,
-- and how many words its function and the image have
pub record Before : Type 0 where
  pub functions : List (List ℕ)
  pub labels : List (List ℕ)
  pub size : ℕ
  pub image : ℕ

abbrev pub nothing : Before
nothing = record { functions = []; labels = []; size = 0; image = 0 }

abbrev pub is_among : List ℕ → List (List ℕ) → Bool
is_among name names = list_any (bytes_eq name) names

-- the names with this one, which stands among them once
abbrev pub noted : List ℕ → List (List ℕ) → List (List ℕ)
noted name names = if is_among name names then names else names ++ name ∷ []

-- a jump's name is set: a label of the function, or a function
abbrev pub is_known : Lookup → Lookup → Draft → Bool
is_known functions labels (ready op) = true
is_known functions labels (to Branch name) = is_some (labels name)
is_known functions labels (to Call name) = is_some (functions name)
is_known functions labels (to BranchFill name) = is_some (functions name)

-- the image, or a function, with so many words is too large
abbrev pub large_image : ℕ → Bool
large_image words = nat_lt MOST_IN_IMAGE words

abbrev pub large_function : ℕ → Bool
large_function words = nat_lt MOST_IN_FUNCTION words

abbrev pub no_function : Before → Option AsmKind
no_function before = if length before.functions == 0 then Some NoFunction else None

-- the fault of a statement: the first that applies
abbrev pub fault_of : Lookup → Lookup → Before → Item → Option AsmKind
fault_of functions labels before (function _ name) =
    if is_among name before.functions then Some LabelTwice
    else if large_image (before.image + 1) then Some TooLarge
    else None
fault_of functions labels before (label _ name) =
    if is_among name before.labels then Some LabelTwice else no_function before
fault_of functions labels before (bundle _ b) =
    if not (is_known functions labels b.first.draft) then Some NoLabel
    else if large_function (before.size + size_of b) || large_image (before.image + size_of b) then Some TooLarge
    else no_function before
fault_of functions labels before (faulty _ fault) = Some fault

-- what stands before the next statement
abbrev pub after : Before → Item → Before
after before (function _ name) =
    record { functions = noted name before.functions; labels = []; size = 0; image = before.image + 1 }
after before (label _ name) = record before { labels = noted name before.labels }
after before (bundle _ b) = record before { size = before.size + size_of b; image = before.image + size_of b }
after before (faulty _ _) = before

-- the labels of the function in which what follows a statement stands
abbrev pub labels_after : Lookup → Item → List Item → Lookup
labels_after labels (function _ _) is = place_of (labels_from 0 is)
labels_after labels _ is = labels

abbrev pub reported : Item → Option AsmKind → Option AsmFault
reported item fault = option_map (λ f. record { fault = f; line = line_of item }) fault

-- the fault of the first faulty statement
abbrev pub first_fault : Lookup → Lookup → Before → List Item → Option AsmFault
first_fault functions labels before [] = None
first_fault functions labels before (i ∷ is) =
    option_or (reported i (fault_of functions labels before i))
    (first_fault functions (labels_after labels i is) (after before i) is)

-- ---- the code

-- the operation with the places of names, which are set: a branch counts from its own bundle, at this offset
abbrev pub placed_op : Lookup → Lookup → ℕ → Draft → Op
placed_op functions labels at (ready op) = op
placed_op functions labels at (to Branch name) = op.Branch (pos (unwrap_or (labels name) 0) -ℤ pos at)
placed_op functions labels at (to Call name) = op.Call (unwrap_or (functions name) 0)
placed_op functions labels at (to BranchFill name) = op.BranchFill (unwrap_or (functions name) 0)

abbrev pub placed : Lookup → Lookup → ℕ → DraftBundle → PlainBundle
placed functions labels at b =
    record {
      first = record { guard = b.first.guard; op = placed_op functions labels at b.first.draft };
      second = b.second;
    }

-- the words of a statement that stands at this offset: a function's size, or a bundle's code
abbrev pub item_words : Lookup → Lookup → ℕ → Item → List Item → List ℕ
item_words functions labels at (function _ _) is = size_from is ∷ []
item_words functions labels at (label _ _) is = []
item_words functions labels at (bundle _ b) is = code (placed functions labels at b)
item_words functions labels at (faulty _ _) is = []

-- the offset after a statement in its function
abbrev pub offset_after : ℕ → Item → ℕ
offset_after at (function _ _) = 0
offset_after at (label _ _) = at
offset_after at (bundle _ b) = at + size_of b
offset_after at (faulty _ _) = at

-- the words of statements, of which the first stands at this offset
abbrev pub words_from : Lookup → Lookup → ℕ → List Item → List ℕ
words_from functions labels at [] = []
words_from functions labels at (i ∷ is) =
    item_words functions labels at i is ++ words_from functions (labels_after labels i is) (offset_after at i) is

-- the names of the functions, the places of their first words, and the words
pub record CodeParts : Type 0 where
  pub names : List (List ℕ)
  pub starts : List ℕ
  pub words : List ℕ

abbrev pub parts_in : List Item → CodeParts
parts_in is =
    let functions = functions_from 0 is in
    record {
      names = names_from is;
      starts = map (λ f. f.1) functions;
      words = words_from (place_of functions)
          (place_of []) 0 is;
    }

abbrev pub code_or : Option AsmFault → CodeParts → Result CodeParts AsmFault
code_or (Some fault) parts = Err fault
code_or None parts = Ok parts

-- the code of statements. A text without statements has the fault that no function begins, on line 1
unfoldable pub code_in : List Item → Result CodeParts AsmFault
code_in [] = Err (record { fault = NoFunction; line = 1 })
code_in (i ∷ is) =
    code_or (first_fault (place_of (functions_from 0 (i ∷ is))) (place_of []) nothing (i ∷ is)) (parts_in (i ∷ is))

-- the code of a text, or its fault: that of its first faulty statement
unfoldable pub code_of : List ℕ → Result CodeParts AsmFault
code_of text = code_in (items_of text)
