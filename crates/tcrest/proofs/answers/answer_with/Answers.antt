use Rattle.std.proofs.Common.{◌≡◌, length, sym, subst, IfOk, arith}
use Rattle.std.proofs.lemmas.List.{length-map}
use Rattle.argo_ni.specs.Packet.{comm_word}
use Rattle.job_tasks.specs.Coding.{all_shown, shown}
use Rattle.tcrest.specs.Telling.{TellsOf}
use Rattle.tcrest.proofs.Telling.{always, begin_fits, bounds_tell, report_tells}
use Rattle.tcrest.proofs.answers.answer_with.Goals as goal

pub returns-in_ok-bounds_text-in-Bound-clause-reported : goal.returns-in_ok-bounds_text-in-Bound-clause-reported
returns-in_ok-bounds_text-in-Bound-clause-reported g c =
    let coded = all_shown c.args.coded.items in
    subst (λ command. TellsOf command c.args.job.now coded) (sym c.in-Bound.is)
    (bounds_tell c.args.job.now coded c.requires.made)

pub returns-in_ok-bounds_text-in-Persist-clause-reported : goal.returns-in_ok-bounds_text-in-Persist-clause-reported
returns-in_ok-bounds_text-in-Persist-clause-reported g c =
    let coded = all_shown c.args.coded.items in
    subst (λ command. TellsOf command c.args.job.now coded) (sym c.in-Persist.is)
    (bounds_tell c.args.job.now coded c.requires.made)

pub returns-in-Pipe-clause-reported : goal.returns-in-Pipe-clause-reported
returns-in-Pipe-clause-reported g c =
    let job = c.args.job.now in
    let coded = all_shown c.args.coded.items in
    let ranges = c.keeps_ranges.ensures in
    let count : length coded ≡ job.cores = omega (arith, length-map c.args.coded.items shown, c.requires.count) in
    subst (λ command. IfOk c.pipe_with.result (λ _. TellsOf command job coded)) (sym c.in-Pipe.is)
    (always c.pipe_with.result (λ lone. report_tells job ranges coded c.requires.made (comm_word job.cores 0)
    (begin_fits job ranges coded count c.requires.made)))
