use Rattle.std.proofs.Common.{◌≡◌, sym, subst, arith, rules}
use Rattle.c_task.specs.Doing.{ComesToMeaning, KeepsTimes, NeverTraps, TouchesMentioned}
use Rattle.c_task.specs.Translation.{bound, persist}
use Rattle.c_tree.specs.Plain.{plain}
use Rattle.c_compile.proofs.Checked.{valid_there}
use Rattle.c_compile.proofs.tasks.compile.Goals as goal

pub returns-clause-times : goal.returns-clause-times
returns-clause-times c =
    let p = c.in_ok-program.program in
    subst (KeepsTimes (plain p.unit) c.args.place.now) (sym c.in_ok-shape.ensures.image)
    (c.programs_keep_their_times.ensures.times (plain p.unit)
    (valid_there p c.args.place.now c.in_ok-program.ensures.place) c.in_ok-shape.ensures.code)

pub returns-clause-within : goal.returns-clause-within
returns-clause-within c =
    let p = c.in_ok-program.program in
    let most = c.programs_keep_their_times.ensures.within (plain p.unit)
    (valid_there p c.args.place.now c.in_ok-program.ensures.place) c.in_ok-shape.ensures.code in
    let is : c.in_ok-bound.bound ≡ bound c.args.place.now (plain p.unit) = search rules in
    omega (arith, most, is)

pub returns-clause-within_persist : goal.returns-clause-within_persist
returns-clause-within_persist c =
    let p = c.in_ok-program.program in
    let most = c.programs_keep_their_persistent_bound.ensures.within (plain p.unit)
    (valid_there p c.args.place.now c.in_ok-program.ensures.place) c.in_ok-shape.ensures.code in
    let is : c.in_ok-persist.persist ≡ persist c.args.place.now (plain p.unit) = search rules in
    omega (arith, most, is)

pub returns-clause-tighter : goal.returns-clause-tighter
returns-clause-tighter c =
    let p = c.in_ok-program.program in
    let less = c.programs_keep_their_persistent_bound.ensures.tighter (plain p.unit)
    (valid_there p c.args.place.now c.in_ok-program.ensures.place) in
    let is : c.in_ok-persist.persist ≡ persist c.args.place.now (plain p.unit) = search rules in
    let most : c.in_ok-bound.bound ≡ bound c.args.place.now (plain p.unit) = search rules in
    omega (arith, less, is, most)

pub returns-clause-never_traps : goal.returns-clause-never_traps
returns-clause-never_traps c =
    let p = c.in_ok-program.program in
    subst (NeverTraps c.args.place.now) (sym c.in_ok-shape.ensures.image)
    (c.programs_keep_their_times.ensures.never (plain p.unit)
    (valid_there p c.args.place.now c.in_ok-program.ensures.place) c.in_ok-shape.ensures.code)

pub returns-clause-meaning : goal.returns-clause-meaning
returns-clause-meaning c =
    let p = c.in_ok-program.program in
    subst (ComesToMeaning (plain p.unit) c.args.place.now) (sym c.in_ok-shape.ensures.image)
    (c.programs_come_to_their_meaning.ensures (plain p.unit)
    (valid_there p c.args.place.now c.in_ok-program.ensures.place) c.in_ok-shape.ensures.code)

pub returns-clause-touches : goal.returns-clause-touches
returns-clause-touches c =
    let p = c.in_ok-program.program in
    subst (TouchesMentioned (plain p.unit) c.args.place.now) (sym c.in_ok-shape.ensures.image)
    (c.programs_touch_what_they_mention.ensures (plain p.unit)
    (valid_there p c.args.place.now c.in_ok-program.ensures.place) c.in_ok-shape.ensures.code)
