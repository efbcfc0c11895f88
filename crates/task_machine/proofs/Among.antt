-- The operations of a task itself stand among all of a machine, in their order; and with those of its core's
-- interface they are all of the core.
use Rattle.std.proofs.Common.{◌≡◌, ℕ, zero, suc, ◌<◌, ◌%◌, ◌==◌, Bool, true, false, cond, List, [], ◌∷◌, ◌++◌, inl, inr, refl, sym, ap, ◌∙◌, subst, append_assoc}
use Rattle.slot_arbiter.specs.declared.place.Place.{Place}
use Rattle.shared_order.specs.declared.operation.Operation.{Operation}
use Rattle.shared_order.specs.Operation.{operations_of}
use Rattle.shared_order.specs.Machine.{State, cycled}
use Rattle.shared_order.specs.Apart.{Alone}
use Rattle.patmos_model.specs.Apart.{Followed, site_of, followed}
use Rattle.patmos_model.specs.Begin.{begun}
use Rattle.patmos_model.specs.Cycle.{turn}
use Rattle.patmos_model.specs.State.{Core}
use Rattle.patmos_model.proofs.Parts.{followed-run}
use Rattle.sp_tree.specs.Statements.{PlainUnit}
use Rattle.tc_link.specs.Placed.{linked}
use Rattle.task_core.specs.Tasks.{code_of}
use Rattle.task_machine.specs.Reported.{read_by, task_operations, interface_operations, by_interface, IsAmong, AreMerged, AreAllItsOwn}
use Rattle.task_machine.proofs.Cores.{with_image}
use Rattle.core_pace.proofs.Packets.{came, sent, acted}

among_more : (os all : List Operation) (a : Operation) → IsAmong os all → IsAmong os (a ∷ all)
among_more [] all a h = tt
among_more (o ∷ os) all a h = inr h

among_itself : (os : List Operation) → IsAmong os os
among_itself [] = tt
among_itself (o ∷ os) = inl (refl, among_itself os)

among_front : (os all more : List Operation) → IsAmong os all → IsAmong os (all ++ more)
among_front [] all more h = tt
among_front (o ∷ os) [] more h = absurd h
among_front (o ∷ os) (a ∷ all) more (inl h) = inl (h.0, among_front os all more h.1)
among_front (o ∷ os) (a ∷ all) more (inr h) = inr (among_front (o ∷ os) all more h)

among_both : (os all more : List Operation) → IsAmong os all → IsAmong (os ++ more) (all ++ more)
among_both [] [] more h = among_itself more
among_both [] (a ∷ all) more h = among_more more (all ++ more) a (among_both [] all more tt)
among_both (o ∷ os) [] more h = absurd h
among_both (o ∷ os) (a ∷ all) more (inl h) = inl (h.0, among_both os all more h.1)
among_both (o ∷ os) (a ∷ all) more (inr h) = inr (among_both (o ∷ os) all more h)

-- in a run apart
own_among : (n core : ℕ) (x : Core) (values : List ℕ) (t : ℕ) → IsAmong (followed n core x values t).own
    (followed n core x values t).run.made
own_among n core x values zero = tt
own_among n core x values (suc t) =
    let f : Followed = followed n core x values t in
    among_both f.own ((f.run.made ++ came n core x values t) ++ sent n core x values t) (acted n core x values t)
    (among_front f.own (f.run.made ++ came n core x values t) (sent n core x values t)
    (among_front f.own f.run.made (came n core x values t) (own_among n core x values t)))

part_among : (n core : ℕ) (os all : List Operation) → IsAmong os (operations_of n core all) → IsAmong os all
part_among n core os [] h = h
part_among n core os (a ∷ all) h = by (a.stamp % n == core) os h (λ l. part_among n core l all)
  where
    by : (b : Bool) (l : List Operation) → IsAmong l (cond b (a ∷ operations_of n core all) (operations_of n core all))
        → ((k : List Operation) → IsAmong k (operations_of n core all) → IsAmong k all) → IsAmong l (a ∷ all)
    by b [] here rest = tt
    by true (o ∷ l) (inl same) rest = inl (same.0, rest l same.1)
    by true (o ∷ l) (inr later) rest = inr (rest (o ∷ l) later)
    by false (o ∷ l) later rest = inr (rest (o ∷ l) later)

-- what is made in the run apart is what the core makes in the machine
made_there : (u : PlainUnit) (place : Place) (input : List ℕ) (cores : ℕ → Core) (limit : ℕ) → place.core < place.cores
    → cores place.core ≡ begun (site_of place (linked (code_of u))) input
    → (followed place.cores place.core (begun (site_of place (linked (code_of u))) input)
    (read_by place.cores place.core (cycled turn place.cores cores limit)) limit).run.made
    ≡ operations_of place.cores place.core (cycled turn place.cores cores limit).made
made_there u place input cores limit among begins =
    let values : List ℕ = read_by place.cores place.core (cycled turn place.cores cores limit) in
    let x : Core = begun (site_of place (linked (code_of u))) input in
    ap (λ (a : Alone Core). a.made) (followed-run place.cores place.core x values limit)
    ∙ ap (λ (a : Alone Core). a.made) (with_image place cores limit among (linked (code_of u)) input begins)

-- in a machine
pub task_among : (u : PlainUnit) (place : Place) (input : List ℕ) (cores : ℕ → Core) (limit : ℕ)
    → place.core < place.cores → cores place.core ≡ begun (site_of place (linked (code_of u))) input
    → IsAmong (task_operations u place input (cycled turn place.cores cores limit) limit) (cycled turn place.cores
    cores limit).made
task_among u place input cores limit among begins =
    let m : State Core = cycled turn place.cores cores limit in
    let x : Core = begun (site_of place (linked (code_of u))) input in
    part_among place.cores place.core (task_operations u place input m limit) m.made
    (subst (IsAmong (task_operations u place input m limit)) (made_there u place input cores limit among begins)
    (own_among place.cores place.core x (read_by place.cores place.core m) limit))

-- ---- with those of the interface they are all

merged_alone : (os : List Operation) → AreMerged os [] os
merged_alone [] = (refl, refl)
merged_alone (o ∷ os) = inl (os, (refl, merged_alone os))

others_alone : (os : List Operation) → AreMerged [] os os
others_alone [] = (refl, refl)
others_alone (o ∷ os) = inr (os, (refl, others_alone os))

merged_ones : (ones others all more : List Operation) → AreMerged ones others all
    → AreMerged (ones ++ more) others (all ++ more)
merged_ones ones others [] more h = subst (λ os. AreMerged (os ++ more) others more) (sym h.0)
    (subst (λ os. AreMerged more os more) (sym h.1) (merged_alone more))
merged_ones ones others (a ∷ all) more (inl (rest, (is, h))) =
    inl (rest ++ more, (ap (λ os. os ++ more) is, merged_ones rest others all more h))
merged_ones ones others (a ∷ all) more (inr (rest, (is, h))) = inr (rest, (is, merged_ones ones rest all more h))

merged_others : (ones others all more : List Operation) → AreMerged ones others all
    → AreMerged ones (others ++ more) (all ++ more)
merged_others ones others [] more h = subst (λ os. AreMerged os (others ++ more) more) (sym h.0)
    (subst (λ os. AreMerged [] (os ++ more) more) (sym h.1) (others_alone more))
merged_others ones others (a ∷ all) more (inl (rest, (is, h))) = inl (rest, (is, merged_others rest others all more h))
merged_others ones others (a ∷ all) more (inr (rest, (is, h))) =
    inr (rest ++ more, (ap (λ os. os ++ more) is, merged_others ones rest all more h))

-- in a run apart
merged_apart : (n core : ℕ) (x : Core) (values : List ℕ) (t : ℕ) → AreMerged (followed n core x values t).own
    (by_interface n core x values t) (followed n core x values t).run.made
merged_apart n core x values zero = (refl, refl)
merged_apart n core x values (suc t) =
    let f : Followed = followed n core x values t in
    let before : List Operation = by_interface n core x values t in
    let first : List Operation = came n core x values t in
    let second : List Operation = sent n core x values t in
    subst (λ os. AreMerged (f.own ++ acted n core x values t) os (((f.run.made ++ first) ++ second)
    ++ acted n core x values t)) (append_assoc before first second)
    (merged_ones f.own ((before ++ first) ++ second) ((f.run.made ++ first) ++ second) (acted n core x values t)
    (merged_others f.own (before ++ first) (f.run.made ++ first) second (merged_others f.own before f.run.made first
    (merged_apart n core x values t))))

-- in a machine
pub task_whole : (u : PlainUnit) (place : Place) (input : List ℕ) (cores : ℕ → Core) (limit : ℕ)
    → place.core < place.cores → cores place.core ≡ begun (site_of place (linked (code_of u))) input
    → AreAllItsOwn u place input (cycled turn place.cores cores limit) limit
task_whole u place input cores limit among begins =
    let m : State Core = cycled turn place.cores cores limit in
    let x : Core = begun (site_of place (linked (code_of u))) input in
    subst (AreMerged (task_operations u place input m limit) (interface_operations u place input m limit))
    (made_there u place input cores limit among begins)
    (merged_apart place.cores place.core x (read_by place.cores place.core m) limit)
