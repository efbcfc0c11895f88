use Rattle.std.proofs.Common.{arith, ap, ap₂, refl, ◌∙◌}
use Rattle.std.specs.Prelude.{max}
use Rattle.sp_tree.specs.Shown.{plain_function, stmts_of, functions_of}
use Rattle.sp_emit.specs.Flags.{flags_from, flags_end, flag_top, flag_tops, stmts_spared}
use Rattle.sp_emit.specs.Functions.{function_code}
use Rattle.sp_emit.specs.Places.{homes_over, top_from, top_over, tops}
use Rattle.sp_emit.proofs.FunctionAdded.{function_added, number_added}
use Rattle.sp_emit.proofs.functions.functions.Goals as goal

pub loop-f-preserved : goal.loop-f-preserved
loop-f-preserved c =
    let f = c.f-item.result in
    let fs = functions_of c.args.fs.now in
    let body = (plain_function f).body in
    let windows = c.homes_over-first.ensures ∙ ap (λ t. homes_over t (plain_function f)) (c.as_slice.ensures.value
    ∙ c.loop-f.invariant.1.0) in
    let top = c.top_from.ensures ∙ ap (λ h. top_from h (plain_function f)) windows in
    let own = ap (λ ts. stmts_spared c.as_slice-in-loop-f.result.now (stmts_of ts)) c.as_slice-in-loop-f-2.ensures in
    let base = c.statements_spared-base.ensures ∙ own
    ∙ ap (λ t. stmts_spared t body) (c.as_slice-in-loop-f.ensures.value ∙ c.loop-f.invariant.1.1) in
    let flags = c.flags_from-flags.ensures ∙ ap (λ b. flags_from b (plain_function f)) base in
    let end = c.max.ensures ∙ ap₂ max base (c.flags_end.ensures ∙ ap flags_end flags) in (
      function_added c.args.fs.now c.loop-f.f-index f c.loop-f.made.items c.push-in-loop-f-2.new.self.items
          c.in_ok-parts.parts (omega arith) c.f-item.is c.loop-f.invariant.0 c.in_ok-push-3.ensures.items
          (c.in_ok-parts.ensures ∙ ap₂ (λ first flags. function_code (record { first = first; flags = flags })
          (plain_function f)) windows flags),
      (
        number_added tops top_over (λ gs n. refl) c.args.fs.now c.loop-f.f-index f c.loop-f.tops.items
            c.push.new.self.items _ (omega arith) c.f-item.is c.loop-f.invariant.1.0 c.in_ok-push.ensures.items top,
        number_added flag_tops flag_top (λ gs n. refl) c.args.fs.now c.loop-f.f-index f c.loop-f.spared.items
            c.push-in-loop-f.new.self.items _ (omega arith) c.f-item.is c.loop-f.invariant.1.1
            c.in_ok-push-2.ensures.items end,
      ),
    )
