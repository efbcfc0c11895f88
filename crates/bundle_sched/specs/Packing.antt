-- To be believed. Code that is packed, before its values come in time: straight code is ordered, neighbours that can be
-- one become one, left to right, and the last bundles before a flow go into its delay slots where they can (delay slot
-- filling).
use Rattle.std.specs.Prelude.{ℕ, zero, suc, Bool, false, not, ◌&&◌, ◌||◌, Option, Some, None, is_none, List, [], ◌∷◌, ◌++◌, length, map, nat_lt, if◌then◌else◌, true}
use Rattle.patmos_instr.specs.Bundles.{PlainBundle}
use Rattle.patmos_instr.specs.Instructions.{is_second_kind}
use Rattle.patmos_instr.specs.declared.guards.Guard.{Guard}
use Rattle.patmos_instr.specs.declared.instructions.Instr.{Instr}
use Rattle.sp_shape.specs.Bundles.{is_idle}
use Rattle.sp_shape.specs.Formed.{is_branch, is_flow, is_always}
use Rattle.sp_shape.specs.Parts.{straight, repeats, calls_to, leaves, PlainParts, no_part, part, joined, PlainShape}
use Rattle.sp_shape.specs.Words.{is_late}
use Rattle.bundle_sched.specs.Operands.{spares}
use Rattle.bundle_sched.specs.Ordered.{all_go_back, ordered}
use Rattle.bundle_sched.specs.Packed.{can_pair, pair, lone, holds_special, last_or}
use Rattle.bundle_sched.specs.Placed.{spaced}
use Rattle.bundle_sched.specs.declared.slots.TheConstants.{MOST_SLOTS}

-- ---- bundles

-- a bundle, and those after it: it takes in each that can be one with it, until the first that cannot
abbrev pub paired : PlainBundle → List PlainBundle → List PlainBundle
paired a [] = a ∷ []
paired a (b ∷ bs) = if is_idle b then paired a bs else (if can_pair a b then paired (pair a b) bs else a ∷ paired b bs)

-- all of them
abbrev pub in_pairs : List PlainBundle → List PlainBundle
in_pairs [] = []
in_pairs (b ∷ bs) = if is_idle b then in_pairs bs else paired b bs

-- bundles in pairs, after a bundle that there may be
abbrev pub behind : Option PlainBundle → List PlainBundle → List PlainBundle
behind None bs = in_pairs bs
behind (Some a) bs = paired a bs

-- straight code
abbrev pub packed : List PlainBundle → List PlainBundle
packed bs = in_pairs (ordered bs)

-- ---- delay slots

-- a bundle that may be carried out after a flow: its value does not come late, and a return goes where it went
abbrev pub can_move : PlainBundle → Bool
can_move b = not (is_late b.first.op) && (not (is_flow b.first.op) && not (holds_special b))

-- neither of its instructions writes a predicate
abbrev pub spares_pred : PlainBundle → ℕ → Bool
spares_pred b p =
    spares b.first.op (p ∷ []) && elim b.second as (λ _. Bool) [ None ↦ true | Some i ↦ spares i.op (p ∷ []) ]

-- the guard holds after the bundle where it holds before it
abbrev pub spares_guard : PlainBundle → Guard → Bool
spares_guard b g = is_always g || spares_pred b g.pred

-- a flow, alone in its bundle, that asks for the same before another bundle and after it
abbrev pub lets_pass : PlainBundle → PlainBundle → Bool
lets_pass flow b = is_flow flow.first.op && (is_none flow.second && spares_guard b flow.first.guard)

-- the tail begins with such a flow, whose last delay slot does nothing
abbrev pub has_room : PlainBundle → List PlainBundle → Bool
has_room b (flow ∷ slot ∷ slots) = lets_pass flow b && is_idle (last_or slot slots)
has_room b _ = false

-- a bundle can go into the first delay slot of the tail after it
abbrev pub fills : PlainBundle → List PlainBundle → Bool
fills b tail = can_move b && has_room b tail

-- all but the last of some bundles
abbrev pub but_last : PlainBundle → List PlainBundle → List PlainBundle
but_last b [] = []
but_last b (c ∷ cs) = b ∷ but_last c cs

-- the bundle in the first delay slot, and those that stood there after it: the last goes, which does nothing
abbrev pub filled : PlainBundle → List PlainBundle → List PlainBundle
filled b (flow ∷ slot ∷ slots) = flow ∷ b ∷ but_last slot slots
filled b bs = bs

-- the last of some bundles goes there
abbrev pub goes_down : List PlainBundle → List PlainBundle → Bool
goes_down [] tail = false
goes_down (b ∷ bs) tail = fills (last_or b bs) tail

-- the bundles that stay before the tail where the last of them goes
abbrev pub kept_by_one : List PlainBundle → List PlainBundle → List PlainBundle
kept_by_one [] tail = []
kept_by_one (b ∷ bs) tail = if goes_down (b ∷ bs) tail then but_last b bs else b ∷ bs

-- and the tail then
abbrev pub way_by_one : List PlainBundle → List PlainBundle → List PlainBundle
way_by_one [] tail = tail
way_by_one (b ∷ bs) tail = if goes_down (b ∷ bs) tail then filled (last_or b bs) tail else tail

-- what is left, and the tail then, for so many bundles
abbrev pub kept_after : ℕ → List PlainBundle → List PlainBundle → List PlainBundle
kept_after zero bs tail = bs
kept_after (suc n) bs tail = kept_after n (kept_by_one bs tail) (way_by_one bs tail)

abbrev pub way_after : ℕ → List PlainBundle → List PlainBundle → List PlainBundle
way_after zero bs tail = tail
way_after (suc n) bs tail = way_after n (kept_by_one bs tail) (way_by_one bs tail)

-- ---- all delay slots

-- the instruction beside a flow can stand in the first delay slot, since the last one does nothing
abbrev pub can_leave : PlainBundle → Instr → PlainBundle → Bool
can_leave flow i last = is_flow flow.first.op && (is_second_kind i.op && is_idle last)

-- a tail whose flow stands alone in its bundle: what stood beside it comes into the first delay slot
abbrev pub freed : List PlainBundle → List PlainBundle
freed (flow ∷ slot ∷ slots) =
    elim flow.second as (λ _. List PlainBundle) [
      | None ↦ flow ∷ slot ∷ slots
      | Some i ↦
          if can_leave flow i (last_or slot slots)
          then filled (lone i) (lone flow.first ∷ slot ∷ slots)
          else flow ∷ slot ∷ slots
    ]
freed bs = bs

-- so for as many bundles as a flow can have delay slots, once the flow stands alone
abbrev pub kept : List PlainBundle → List PlainBundle → List PlainBundle
kept bs tail = kept_after MOST_SLOTS bs (freed tail)

abbrev pub way : List PlainBundle → List PlainBundle → List PlainBundle
way bs tail = way_after MOST_SLOTS bs (freed tail)

-- ---- tails of loops

-- what stands before the branch, and the branch with its delay slots
abbrev pub before_branch : List PlainBundle → List PlainBundle
before_branch [] = []
before_branch (b ∷ bs) = if is_branch b.first.op then [] else b ∷ before_branch bs

abbrev pub from_branch : List PlainBundle → List PlainBundle
from_branch [] = []
from_branch (b ∷ bs) = if is_branch b.first.op then b ∷ bs else from_branch bs

-- bundles, and the branch after them
abbrev pub turned : List PlainBundle → List PlainBundle → List PlainBundle
turned front back = kept front back ++ way front back

-- bundles, packed, and the branch after them: how many they are once their values come in time
abbrev pub turned_length : List PlainBundle → List PlainBundle → ℕ
turned_length bs back = length (spaced (turned (packed bs) back))

-- what stands before the branch goes back over all straight code that is held, and fewer bundles are enough where it
-- comes first
abbrev pub comes_first : List PlainBundle → List PlainBundle → List PlainBundle → Bool
comes_first held front back =
    all_go_back held front && nat_lt (turned_length (front ++ held) back) (turned_length (held ++ front) back)

-- the two, in their order
abbrev pub arranged : List PlainBundle → List PlainBundle → List PlainBundle → List PlainBundle
arranged held front back = if comes_first held front back then front ++ held else held ++ front

-- straight code that is held, and what stands before the branch, are packed as one piece
abbrev pub iteration_packed : List PlainBundle → List PlainBundle → List PlainBundle
iteration_packed held tail =
    let back = from_branch tail in
    turned (packed (arranged held (before_branch tail) back)) back

-- ---- parts

-- no part without a bundle
abbrev pub straights : List PlainBundle → PlainParts → PlainParts
straights [] rest = rest
straights (b ∷ bs) rest = part (straight (b ∷ bs)) rest

-- the straight code at the end of parts, after straight code that is held
abbrev pub left_over : List PlainBundle → PlainParts → List PlainBundle
left_over held no_part = held
left_over held (part (straight bs) rest) = left_over (held ++ bs) rest
left_over held (part p rest) = left_over [] rest

-- parts after straight code, but for what is left over: straight code is packed with the straight code that follows it,
-- and at the end of a loop's body with what stands before the branch
abbrev pub parts_merged : List PlainBundle → PlainParts → PlainParts
parts_merged held no_part = no_part
parts_merged held (part (straight bs) rest) = parts_merged (held ++ bs) rest
parts_merged held (part (repeats count body tail) rest) =
    straights (packed held)
    (part (repeats count (parts_merged [] body) (iteration_packed (left_over [] body) tail)) (parts_merged [] rest))
parts_merged held (part (calls_to k tail) rest) =
    straights (kept (packed held) tail) (part (calls_to k (way (packed held) tail)) (parts_merged [] rest))
parts_merged held (part (leaves tail) rest) =
    straights (kept (packed held) tail) (part (leaves (way (packed held) tail)) (parts_merged [] rest))

-- a function's parts, and what is left over at their end
abbrev pub function_merged : PlainParts → PlainParts
function_merged ps = joined (parts_merged [] ps) (straights (packed (left_over [] ps)) no_part)

-- ---- shapes

-- each function so
abbrev pub merged : PlainShape → PlainShape
merged s = record s { functions = map function_merged s.functions }
