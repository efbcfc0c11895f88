use Rattle.std.proofs.Common.{◌≡◌, rules, arith, length, map, subst}
use Rattle.global_step.specs.Loaded.{Machine}
use Rattle.tc_run.specs.Final.{AreFinal}
use Rattle.job_tasks.specs.Coding.{runs}
use Rattle.job_rows.specs.Rows.{running}
use Rattle.job_rows.proofs.RowsFound.{rows_below, next_row, all_rows}
use Rattle.job_rows.proofs.rows.rows_of.Goals as goal

pub loop-number-preserved : goal.loop-number-preserved
loop-number-preserved c =
    next_row c.args.cores.now (map running (map runs c.args.tasks.now)) c.args.tasks.now c.loop-number.number
    c.index-cores-number.result c.index-tasks-number.result
    c.loop-number.rows.items c.push.new.self.items c.in_ok-row_of.field-0 (search rules) c.requires.count (search rules)
    (search rules) (search rules) c.loop-number.invariant (search rules)

pub returns : goal.returns
returns c =
    let cores = c.args.cores.now in
    let tasks = c.args.tasks.now in
    let end : c.loop-number.number ≡ length cores =
    omega (arith, c.loop-number-test.false, c.loop-number.auto.number-end) in
    let told = subst (λ n. (m : Machine) → AreFinal m cores → c.loop-number.rows.items
    ≡ rows_below (map running (map runs tasks)) tasks n m) end c.loop-number.invariant in
    λ m final. all_rows cores tasks c.loop-number.rows.items c.requires.count told m final
