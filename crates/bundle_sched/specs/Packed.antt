-- To be believed. Packed code: no two neighbouring bundles stand apart that could be one, no second slot does nothing,
-- and no first delay slot of a call or a return does nothing that the bundle before could fill (our own profile TP1).
use Rattle.std.specs.Prelude.{Bool, true, false, not, ◌&&◌, ◌||◌, Some, None, is_none, List, [], ◌∷◌}
use Rattle.std.specs.List.{list_all}
use Rattle.patmos_instr.specs.Bundles.{PlainBundle}
use Rattle.patmos_instr.specs.Instructions.{is_long, is_second_kind}
use Rattle.patmos_instr.specs.declared.instructions.Instr.{Instr}
use Rattle.patmos_instr.specs.declared.instructions.Op.{Op}
use Rattle.patmos_instr.specs.declared.instructions.Op.TheVariants.{ToSpecial}
use Rattle.sp_shape.specs.Bundles.{is_idle_op, is_idle}
use Rattle.sp_shape.specs.Formed.{is_always}
use Rattle.sp_shape.specs.Parts.{PlainPart, straight, repeats, calls_to, leaves, PlainParts, no_part, part, PlainShape}
use Rattle.sp_shape.specs.Words.{is_late}
use Rattle.bundle_sched.specs.Operands.{reads, tests, results, flags, apart, spares}

-- ---- bundles that can be one

-- one instruction that is one word long
abbrev pub is_small : PlainBundle → Bool
is_small b = is_none b.second && not (is_long b.first.op)

-- the second neither reads nor writes what the first writes: its guard is read, and a write of s0 writes all predicates
abbrev pub is_free : Instr → Instr → Bool
is_free a b =
    apart (results a.op) (reads b.op)
    && (spares a.op (tests b) && (apart (results a.op) (results b.op) && spares a.op (flags b.op)))

-- two that can be one
abbrev pub can_join : PlainBundle → PlainBundle → Bool
can_join a b = is_small a && (is_small b && (is_second_kind b.first.op && is_free a.first b.first))

-- no value of the first comes late
abbrev pub can_pair : PlainBundle → PlainBundle → Bool
can_pair a b = not (is_late a.first.op) && can_join a b

-- two in one
abbrev pub pair : PlainBundle → PlainBundle → PlainBundle
pair a b = record { first = a.first; second = Some b.first }

-- one alone
abbrev pub lone : Instr → PlainBundle
lone i = record { first = i; second = None }

-- a and b can be one after x: no value of x comes late, so none comes in a
abbrev pub mergeable : PlainBundle → PlainBundle → PlainBundle → Bool
mergeable x a b = not (is_late x.first.op) && can_pair a b

-- no three neighbours are so
abbrev pub none_mergeable : List PlainBundle → Bool
none_mergeable (x ∷ a ∷ b ∷ bs) = not (mergeable x a b) && none_mergeable (a ∷ b ∷ bs)
none_mergeable _ = true

-- nor the first two, which stand after none
abbrev pub first_apart : List PlainBundle → Bool
first_apart (a ∷ b ∷ bs) = not (can_pair a b)
first_apart _ = true

-- ---- bundles of two

-- the instruction that does nothing
abbrev pub is_nop : Instr → Bool
is_nop i = is_always i.guard && is_idle_op i.op

-- it does not stand in the second slot
abbrev pub is_filled : PlainBundle → Bool
is_filled b = elim b.second as (λ _. Bool) [ None ↦ true | Some i ↦ not (is_nop i) ]

-- ---- delay slots

-- a write of a special register
abbrev pub is_special : Op → Bool
is_special (ToSpecial to ra) = true
is_special _ = false

-- in one of the slots
abbrev pub holds_special : PlainBundle → Bool
holds_special b = is_special b.first.op || elim b.second as (λ _. Bool) [ None ↦ false | Some i ↦ is_special i.op ]

-- the last bundle
abbrev pub last_or : PlainBundle → List PlainBundle → PlainBundle
last_or b [] = b
last_or b (c ∷ cs) = last_or c cs

-- the first delay slot of a tail does something
abbrev pub slot_used : List PlainBundle → Bool
slot_used (flow ∷ slot ∷ slots) = not (is_idle slot)
slot_used _ = false

-- or the last bundle before the tail does nothing, or has to stay where it is
abbrev pub is_used : List PlainBundle → List PlainBundle → Bool
is_used [] tail = true
is_used (b ∷ bs) tail = (is_idle (last_or b bs) || holds_special (last_or b bs)) || slot_used tail

-- ---- parts and shapes

-- what may stand directly after a part
abbrev pub can_follow : PlainPart → PlainParts → Bool
can_follow (straight bs) (part (straight cs) rest) = false
can_follow (straight bs) (part (calls_to k tail) rest) = is_used bs tail
can_follow (straight bs) (part (leaves tail) rest) = is_used bs tail
can_follow _ _ = true

-- there is a bundle
abbrev pub some_bundle : List PlainBundle → Bool
some_bundle [] = false
some_bundle (b ∷ bs) = true

-- of a part, and of parts one after another
abbrev mutual
  pub part_packed : PlainPart → Bool
  part_packed (straight bs) =
      some_bundle bs && (list_all is_filled bs && (first_apart bs && none_mergeable bs))
  part_packed (repeats count body tail) = parts_packed body && list_all is_filled tail
  part_packed (calls_to k tail) = list_all is_filled tail
  part_packed (leaves tail) = list_all is_filled tail

  pub parts_packed : PlainParts → Bool
  parts_packed no_part = true
  parts_packed (part p rest) = part_packed p && (can_follow p rest && parts_packed rest)

-- ---- shapes

abbrev pub is_packed : PlainShape → Bool
is_packed s = list_all parts_packed s.functions
