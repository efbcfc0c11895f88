-- To be believed. Straight code in an order in which more of it becomes one and less of it waits (list scheduling).
-- The bundles that are ordered are rows, and each instruction, in its order, goes back over rows that have nothing in
-- common with it to the first that has room for it.
use Rattle.std.specs.Prelude.{ℕ, suc, Bool, true, false, not, ◌&&◌, ◌||◌, Option, None, Some, is_none, List, [], ◌∷◌, ◌++◌, length, reverse, slice_set, if◌then◌else◌}
use Rattle.std.specs.List.{list_all}
use Rattle.patmos_instr.specs.Bundles.{PlainBundle}
use Rattle.patmos_instr.specs.Instructions.{is_long, is_second_kind}
use Rattle.patmos_instr.specs.declared.instructions.Instr.{Instr}
use Rattle.patmos_instr.specs.declared.instructions.Op.{Op}
use Rattle.sp_shape.specs.Bundles.{is_idle}
use Rattle.sp_shape.specs.Small.{idle}
use Rattle.bundle_sched.specs.Packed.{is_free, can_join, pair, lone, is_nop}
use Rattle.bundle_sched.specs.Placed.{waits_for}
use Rattle.bundle_sched.specs.declared.ordering.TheConstants.{WINDOW}

-- ---- what may change places

-- an operation on registers or on predicates alone, whose value does not come late
abbrev pub is_plain_op : Op → Bool
is_plain_op op = is_second_kind op || is_long op

-- no other in its slots
abbrev pub all_plain : PlainBundle → Bool
all_plain b = is_plain_op b.first.op && elim b.second as (λ _. Bool) [ None ↦ true | Some i ↦ is_plain_op i.op ]

-- neither reads or writes what the other writes
abbrev pub are_free : Instr → Instr → Bool
are_free a b = is_free a b && is_free b a

-- a bundle has nothing in common with an instruction that stands alone
abbrev pub lets_by : PlainBundle → PlainBundle → Bool
lets_by b x = are_free b.first x.first && elim b.second as (λ _. Bool) [ None ↦ true | Some i ↦ are_free i x.first ]

-- one instruction goes back over a bundle: they have nothing in common, and one of them is plain. So loads, stores,
-- products, special registers and operations on the stack keep their order
abbrev pub goes_by : PlainBundle → PlainBundle → Bool
goes_by b x = is_none x.second && (lets_by b x && (is_plain_op x.first.op || all_plain b))

-- or over one that does nothing
abbrev pub can_pass : PlainBundle → PlainBundle → Bool
can_pass b x = is_idle b || goes_by b x

-- a bundle does nothing, or goes back over all of some others
abbrev pub goes_back : List PlainBundle → PlainBundle → Bool
goes_back bs x = is_idle x || list_all (λ b. can_pass b x) bs

-- so does each of these
abbrev pub all_go_back : List PlainBundle → List PlainBundle → Bool
all_go_back bs xs = list_all (goes_back bs) xs

-- ---- where it goes. Rows are told nearest first. Where a value is waited for, the row is empty: it does nothing

-- the row directly before gives a late value that it reads
abbrev pub is_too_early : List PlainBundle → PlainBundle → Bool
is_too_early [] x = false
is_too_early (a ∷ before) x = waits_for x a

-- a row has room for it: it is empty, or it takes it in its second slot, or in its first
abbrev pub has_place : PlainBundle → PlainBundle → Bool
has_place b x = is_idle b || (can_join b x || (goes_by b x && can_join x b))

-- the row with it
abbrev pub row_with : PlainBundle → PlainBundle → PlainBundle
row_with b x = if is_idle b then x else (if can_join b x then pair b x else pair x b)

-- the number of the first row that has room for it, and the row with it; or what was found nearer. It looks at so many
-- rows at most, and goes by those alone that are empty or let it by
abbrev pub place : ℕ → PlainBundle → List PlainBundle → Option (ℕ × PlainBundle) → Option (ℕ × PlainBundle)
place (suc n) x (b ∷ before) found =
    let here = if not (is_too_early before x) && has_place b x then Some (length before, row_with b x) else found in
    if can_pass b x then place n x before here else here
place _ x bs found = found

-- ---- ordered code

-- without a second instruction that does nothing
abbrev pub without_nop : PlainBundle → PlainBundle
without_nop b = elim b.second as (λ _. PlainBundle) [ None ↦ b | Some i ↦ if is_nop i then lone b.first else b ]

-- after all rows, and after an empty one where it reads the late value of the last
abbrev pub stood_last : PlainBundle → List PlainBundle → List PlainBundle
stood_last x bs = bs ++ (if is_too_early (reverse bs) x then idle ∷ x ∷ [] else x ∷ [])

abbrev pub stood : PlainBundle → List PlainBundle → Option (ℕ × PlainBundle) → List PlainBundle
stood x bs None = stood_last x bs
stood x bs (Some at) = slice_set bs at.0 at.1

-- one more bundle: one instruction goes to the first row that has room, and two stand last
abbrev pub put : PlainBundle → List PlainBundle → List PlainBundle
put x bs = stood x bs (if is_none x.second then place WINDOW x (reverse bs) None else None)

-- where it does something
abbrev pub put_unless_idle : PlainBundle → List PlainBundle → List PlainBundle
put_unless_idle b bs = if is_idle b then bs else put b bs

-- bundles after those that are ordered, one by one, without what does nothing
abbrev pub ordered_after : List PlainBundle → List PlainBundle → List PlainBundle
ordered_after done [] = done
ordered_after done (b ∷ bs) = ordered_after (put_unless_idle (without_nop b) done) bs

abbrev pub ordered : List PlainBundle → List PlainBundle
ordered bs = ordered_after [] bs
