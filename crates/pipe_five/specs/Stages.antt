-- To be believed. The five stages (Patmos Reference Handbook, pipeline): fetch, decode, execute, memory and write-back.
-- While a bundle is executed, the one before it is in memory and the one before that writes its results back; the
-- places that follow it in the code stand in decode and fetch.
use Rattle.std.specs.Prelude.{ℕ, zero, suc, ◌+◌, ◌<◌, ◌^◌, Bool, true, false, ◌&&◌, ◌==◌, List, [], ◌∷◌, Option, None, Some, option_map}
use Rattle.std.specs.List.{list_any}
use Rattle.patmos_code.specs.Images.{Parts}
use Rattle.patmos_sem.specs.Registers.{Registers, word_in}
use Rattle.patmos_sem.specs.Writes.{register_after, came}
use Rattle.patmos_model.specs.declared.flow.Goal.{Goal}
use Rattle.patmos_model.specs.declared.flow.Goal.TheVariants.{Within, Call, Fill, Return}
use Rattle.patmos_model.specs.Site.{word_at, bundle_words, is_inside}
use Rattle.patmos_model.specs.State.{Plain, Core}
use Rattle.patmos_model.specs.Flows.{counted}
use Rattle.core_pace.specs.Moment.{Done}
use Rattle.pipe_five.specs.declared.point.Point.{Point}
use Rattle.pipe_five.specs.Steps.{core_before, place_of, found_by}

-- ---- what follows a point of the code

-- a point without a flow
abbrev pub plainly : ℕ → ℕ → Point
plainly base offset = record { base = base; offset = offset; flow = None }

-- where a flow goes to from a function; a return with base 0 ends the task
abbrev pub target_of : ℕ → Goal → Option Point
target_of base goal = elim goal [
  | Within offset ↦ Some (plainly base offset)
  | Call target ↦ Some (plainly target 0)
  | Fill target ↦ Some (plainly target 0)
  | Return back offset ↦ elim (back == 0) [ true ↦ None | false ↦ Some (plainly back offset) ]
]

-- the point itself, or the target of its flow where no delay slot is left
abbrev pub turned : Point → Option Point
turned p = elim p.flow [
  | None ↦ Some p
  | Some f ↦ elim (f.slots == 0) [ true ↦ target_of p.base f.goal | false ↦ Some p ]
]

-- a function starts at the place
abbrev pub is_start : Parts → ℕ → Bool
is_start image base = list_any (λ start. base == start) image.starts

-- and the bundle at the point is wholly inside it
abbrev pub stands : Parts → Point → Bool
stands image p = is_start image p.base && is_inside image p.base p.offset

abbrev pub standing : Parts → Option Point → Option Point
standing image point = elim point [
  | None ↦ None
  | Some p ↦ elim (stands image p) [ true ↦ Some p | false ↦ None ]
]

-- where the code goes on from a point
abbrev pub followed : Parts → Point → Option Point
followed image p = standing image (turned p)

-- how many words the bundle at a point has
abbrev pub words_at : Parts → Point → ℕ
words_at image p = bundle_words (word_at image p.base p.offset)

-- after that bundle: one delay slot less is left of a flow
abbrev pub behind : Parts → Point → Point
behind image p = record { base = p.base; offset = p.offset + words_at image p; flow = counted p.flow None }

-- and from there on, if the code went on to the point
abbrev pub followed_twice : Parts → Option Point → Option Point
followed_twice image point = elim point [ None ↦ None | Some p ↦ followed image (behind image p) ]

-- where a core is
abbrev pub point_of : Plain → Point
point_of x = record { base = x.base; offset = x.offset; flow = x.flow }

-- the image word of a point
abbrev pub word_of : Point → ℕ
word_of p = p.base + p.offset

-- the places in decode and fetch after a bundle that has left a core so
abbrev pub decode_place : Parts → Point → Option ℕ
decode_place image p = option_map word_of (followed image p)

abbrev pub fetch_place : Parts → Point → Option ℕ
fetch_place image p = option_map word_of (followed_twice image (followed image p))

-- a bundle at a point in the code ends within 32 bits, and so does its place
pub record IsInCode (image : Parts) (p : Point) : Type 0 where
  pub offset : p.offset + words_at image p < 2 ^ 32
  pub place : word_of p < 2 ^ 32

-- ---- the stages, by the bundles that are done, from the latest back

-- the place of the bundle so many before the latest
abbrev pub held : ℕ → List Done → Option ℕ
held back [] = None
held zero (d ∷ before) = Some (place_of d)
held (suc back) (d ∷ before) = held back before

-- the core at the end of the latest bundle's cycle, and where the code goes on from there
abbrev pub left_by : Core → Done → Plain
left_by x d = (core_before x (d.cycle + 1)).plain

abbrev pub decode_after : Core → List Done → Option ℕ
decode_after x [] = None
decode_after x (d ∷ before) = decode_place (left_by x d).site.image (point_of (left_by x d))

abbrev pub fetch_after : Core → List Done → Option ℕ
fetch_after x [] = None
fetch_after x (d ∷ before) = fetch_place (left_by x d).site.image (point_of (left_by x d))

-- the places in the stages fetch, decode, execute, memory and write-back
abbrev pub stages_of : Core → List Done → List (Option ℕ)
stages_of x bundles =
    fetch_after x bundles ∷ decode_after x bundles ∷ held 0 bundles ∷ held 1 bundles ∷ held 2 bundles ∷ []

-- ---- the register file

-- a general register once what is on its way is written
abbrev pub written_in : Registers → ℕ → ℕ
written_in regs r = register_after (came regs.pending ∷ []) r (word_in regs r)

-- a register of the file: as the bundle in write-back left it, which is as the bundle in memory found it, with the
-- value that is on its way written; all are 0 before the first write-back
abbrev pub file_of : Core → List Done → ℕ → ℕ
file_of x [] r = 0
file_of x (latest ∷ []) r = 0
file_of x (latest ∷ memory ∷ []) r = 0
file_of x (latest ∷ memory ∷ write_back ∷ before) r = written_in (found_by x memory) r
