use Rattle.std.proofs.Common.{◌++◌, sym, ap, ◌∙◌, append_assoc}
use Rattle.std.specs.List.{flat_map}
use Rattle.tc_run.proofs.Carried.{flat_last, same_carried, later_carried, carried_on, last_carried}
use Rattle.tc_run.proofs.crew.Crew.take_on.Goals as goal

pub returns-in-Ok-clause-carries : goal.returns-in-Ok-clause-carries
returns-in-Ok-clause-carries g c =
    let here = c.args.self.now.here.items in let away = c.args.self.now.away.items in let group = c.args.group.items in
    let before = flat_map (λ h. h.promise.was.value.items) away in
    let after = flat_map (λ h. h.promise.was.value.items) c.push_reserved.new.self.items in
    same_carried c.args.common.board.now ((here ++ before) ++ group) (here ++ after)
    (ap (λ ws. here ++ ws)
    (flat_last (λ h. h.promise.was.value.items) c.push_reserved.new.self.items away c.in-Ok.handle
    c.push_reserved.ensures.items ∙ ap (λ v. before ++ v.items) c.in-Ok.ensures.started.0)
    ∙ sym (append_assoc here before group))

pub returns-in-Err-clause-carries : goal.returns-in-Err-clause-carries
returns-in-Err-clause-carries g c =
    let b = c.args.common.board.now in let here = c.args.self.now.here.items in let group = c.args.group.items in
    let away = flat_map (λ h. h.promise.was.value.items) c.args.self.now.away.items in
    carried_on b ((here ++ away) ++ group) (here ++ (away ++ group)) (c.gather.new.all.items ++ away)
    (same_carried b ((here ++ away) ++ group) (here ++ (away ++ group)) (sym (append_assoc here away group)))
    (last_carried b here away group c.in-Err.back.items c.gather.new.all.items c.gather.ensures.items
    (later_carried b group c.in-Err.back.items c.in-Err.ensures.later c.in-Err.ensures.on))
