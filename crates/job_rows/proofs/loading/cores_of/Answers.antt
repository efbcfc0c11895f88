use Rattle.std.proofs.Common.{◌≡◌, ◌++◌, ◌∷◌, [], length, refl, sym, subst, rules, arith, length-append}
use Rattle.global_step.specs.Machine.{first_core}
use Rattle.job_tasks.specs.Coding.{shown}
use Rattle.job_rows.specs.Machine.{core_with}
use Rattle.job_rows.specs.Loading.{IsPlaced}
use Rattle.job_rows.proofs.CoresFound.{next_loaded, next_placed, next_run}
use Rattle.job_rows.proofs.loading.cores_of.Goals as goal

pub loop-one-preserved : goal.loop-one-preserved
loop-one-preserved c =
    let push : c.push.new.self.items ≡ c.loop-one.cores.items ++ c.in_ok-loaded.loaded ∷ [] = search rules in
    let ran : c.push-in-loop-one.new.self.items ≡ c.loop-one.tasks.items ++ c.in_ok-loaded.task ∷ [] = search rules in
    let number : c.len-core.result ≡ length c.loop-one.cores.items = search rules in
    let core : first_core c.in_ok-loaded.loaded ≡ core_with c.args.job.now (length c.loop-one.cores.items)
    (shown c.in-Some.one) = subst (λ n. first_core c.in_ok-loaded.loaded
    ≡ core_with c.args.job.now n (shown c.in-Some.one)) number c.in_ok-loaded.ensures.core in
    let placed : IsPlaced c.args.job.now (length c.loop-one.cores.items) c.in_ok-loaded.loaded =
    subst (λ n. IsPlaced c.args.job.now n c.in_ok-loaded.loaded) number c.in_ok-loaded.ensures.placed in
    record {
      so_far = next_loaded c.args.job.now (length c.loop-one.cores.items) c.loop-one.cores.items c.push.new.self.items
          c.in_ok-loaded.loaded c.loop-one.yielded (c.loop-one.yielded ++ c.in-Some.one ∷ []) c.in-Some.one
          (sym c.loop-one.invariant.count) push refl core c.loop-one.invariant.so_far;
      count = rw push (omega (
        arith,
        length-append c.loop-one.cores.items (c.in_ok-loaded.loaded ∷ []),
        length-append c.loop-one.yielded (c.in-Some.one ∷ []),
        c.loop-one.invariant.count,
      ));
      runs = next_run c.loop-one.tasks.items c.push-in-loop-one.new.self.items c.in_ok-loaded.task c.loop-one.yielded
          c.in-Some.one ran c.in_ok-loaded.ensures.runs c.loop-one.invariant.runs;
      tasks = rw ran (omega (
        arith,
        length-append c.loop-one.tasks.items (c.in_ok-loaded.task ∷ []),
        length-append c.loop-one.yielded (c.in-Some.one ∷ []),
        c.loop-one.invariant.tasks,
      ));
      placed = next_placed c.args.job.now (length c.loop-one.cores.items) c.loop-one.cores.items c.push.new.self.items
          c.in_ok-loaded.loaded refl push placed c.loop-one.invariant.placed;
    }
