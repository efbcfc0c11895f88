use Rattle.std.proofs.Common.{rules, ◌≡◌, ◌+◌, ◌<◌, ◌∷◌, [], length, Some, slice_get, slice_index_or, refl, sym, ap, ◌∙◌, subst, arith, slice_set, inl, inr}
use Rattle.std.proofs.lemmas.Bool.{cases_lt}
use Rattle.std.proofs.lemmas.List.{get_or-set_same}
use Rattle.std.proofs.lemmas.Option.{slice_get_read, same_Some}
use Rattle.tc_run.specs.Carried.{workers_in}
use Rattle.tc_run.specs.Groups.{tasks_before, group_of}
use Rattle.tc_run.specs.Worked.{number_of, HasWorker, IsAtWork}
use Rattle.tc_run.proofs.Begins.{placed}
use Rattle.tc_run.proofs.Carried.{put_in, all_with, any_with, any_new, one_longer}
use Rattle.tc_run.proofs.Groups.{tasks_next, kept_at}
use Rattle.tc_run.proofs.Lists.{any_prefix, any_back, any_one}
use Rattle.tc_run.proofs.making.groups_of.Goals as goal

pub loop-loaded-preserved : goal.loop-loaded-preserved
loop-loaded-preserved g c =
    let m = c.args.machine.now in let b =
    c.args.board.now in let was = c.loop-loaded.invariant in let i = c.loop-loaded.loaded-index in
    let gs = c.loop-loaded.groups.items in let at =
    c.group_of-group.result in let o = c.index_mut.result.now in let y = c.push.new.self in
    let w = c.in_ok-worker.worker in
    let is : slice_get m.cores i ≡ Some c.loaded-item.result =
    subst (λ ls. slice_get ls i ≡ Some c.loaded-item.result) c.cores-loaded-items.ensures.value
    (slice_get_read c.cores-loaded-items.result.now (length c.cores-loaded-items.result.now) i c.loaded-item.result refl
    (search rules) (search rules)) in
    let mine : number_of w ≡ i = c.in_ok-worker.ensures.number
    ∙ (placed m.cores i c.loaded-item.result c.workers-count.ensures.kept.platform is).1 in
    let within : at < length gs = search rules in
    let old : slice_index_or gs at o ≡ o = search rules in
    let grown = c.in_ok-push.ensures.items in
    let put = put_in (λ ws. ws.items) gs at o y w old within grown in
    let xs = workers_in gs in let ys = workers_in (slice_set gs at y) in
    record {
      same = search rules;
      count = search rules;
      of = all_with (IsAtWork m b) w xs ys put c.in_ok-worker.ensures.of was.of;
      have = λ k low. elim (cases_lt k i) [
        | inl before ↦ any_with (λ v. number_of v ≡ k) w xs ys put (was.have k before)
        | inr last ↦ let e : i ≡ k = omega (arith, low, last) in any_new (λ v. number_of v ≡ k) w xs ys put (mine ∙ e)
      ];
      total = one_longer w xs ys put ∙ ap (λ n. n + 1) was.total;
      grouped = λ k l d low there. elim (cases_lt k i) [
        | inl before ↦ kept_at (λ ws. HasWorker ws.items k) gs at (group_of l (tasks_before m.cores k) m.workers)
            o y d old within
            (λ h. subst (λ ws. HasWorker ws k) (sym grown) (any_prefix (λ v. number_of v ≡ k) o.items (w ∷ []) h))
            (λ e. was.grouped k l e before there)
        | inr last ↦
            let e : i ≡ k = omega (arith, low, last) in
            let same : c.loaded-item.result ≡ l =
            same_Some c.loaded-item.result l (sym is ∙ ap (slice_get m.cores) e ∙ there) in
            let here : at ≡ group_of l (tasks_before m.cores k) m.workers =
            c.group_of-group.ensures.is ∙ ap (λ t. group_of c.loaded-item.result t c.workers-count.result) (was.tasks
            ∙ ap (tasks_before m.cores) e)
            ∙ ap (λ x. group_of x (tasks_before m.cores k) c.workers-count.result) same
            ∙ ap (group_of l (tasks_before m.cores k)) c.workers-count.ensures.value in
            subst (λ j. HasWorker (slice_index_or (slice_set gs at y) j d).items k) here
            (subst (λ ws. HasWorker ws.items k) (sym (get_or-set_same gs at y d within))
            (subst (λ ws. HasWorker ws k) (sym grown) (any_back (λ v. number_of v ≡ k) o.items (w ∷ [])
            (any_one (λ v. number_of v ≡ k) w (mine ∙ e)))))
      ];
      tasks = ap (λ t. t + c.tasks_of-tasks.result) was.tasks
          ∙ ap (λ t. tasks_before m.cores i + t) c.tasks_of-tasks.ensures.is
          ∙ sym (tasks_next m.cores i c.loaded-item.result is);
      few = omega (arith, was.few, c.tasks_of-tasks.ensures.one);
    }
