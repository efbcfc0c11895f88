use Rattle.std.proofs.Common.{◌++◌, [], ap, ◌∙◌, append-nil}
use Rattle.std.specs.List.{flat_map}
use Rattle.tc_run.proofs.Carried.{same_carried, last_taken}
use Rattle.tc_run.proofs.crew.Crew.with_last.Goals as goal

pub returns-clause-carries : goal.returns-clause-carries
returns-clause-carries c = λ board.
    let last = c.in-Some.last.items in let all = c.gather.new.all.items in let away = c.in_ok-away.away.items in
    last_taken board (λ ws. ws.items) [] (all ++ flat_map (λ h. h.promise.was.value.items) away) c.args.groups.now.items
    c.pop.new.self.items c.in-Some.last c.in-Some.ensures.items
    (same_carried board last (all ++ flat_map (λ h. h.promise.was.value.items) away)
    (ap (λ hs. all ++ flat_map (λ h. h.promise.was.value.items) hs) c.in_ok-away.ensures.items
    ∙ append-nil all ∙ c.gather.ensures.items ∙ ap (λ ws. ws ++ last) c.in_ok-here.ensures.items))
