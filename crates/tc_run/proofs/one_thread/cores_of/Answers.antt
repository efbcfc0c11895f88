use Rattle.std.proofs.Common.{rules, ◌≡◌, ℕ, length, IfSome, Some, slice_get, refl, sym, subst}
use Rattle.std.proofs.lemmas.Option.{slice_get_read}
use Rattle.patmos_core.specs.declared.cpu.Core.{Core as Cpu}
use Rattle.global_step.specs.PlainRun.{Every}
use Rattle.tc_run.specs.Begun.{IsBegun}
use Rattle.tc_run.proofs.Lists.{every_more}
use Rattle.tc_run.proofs.one_thread.cores_of.Goals as goal

pub loop-loaded-preserved : goal.loop-loaded-preserved
loop-loaded-preserved c =
    let m = c.args.machine.now in let i = c.loop-loaded.loaded-index in let was = c.loop-loaded.invariant in
    let item = c.loaded-item.result in let core = c.in_ok-core_of.field-0 in
    let P : ℕ → Cpu → Type 0 = λ k d. IfSome (slice_get m.cores k) (λ l. IsBegun m.trace l d) in
    let is : slice_get m.cores i ≡ Some item =
    subst (λ ls. slice_get ls i ≡ Some item) c.cores-loaded-items.ensures.value
    (slice_get_read c.cores-loaded-items.result.now (length c.cores-loaded-items.result.now) i item refl (search rules)
    (search rules)) in
    let begun : IsBegun m.trace item core =
    subst (λ t. IsBegun t item core) c.trace.ensures.value c.in_ok-core_of.ensures in
    let here : P i core = subst (λ o. IfSome o (λ l. IsBegun m.trace l core)) (sym is) begun in
    record {
      count = search rules;
      each = subst (Every P) (sym c.in_ok-push.ensures.items) (every_more P c.loop-loaded.cores.items core was.each
          (subst (λ j. P j core) (sym was.count) here));
    }
