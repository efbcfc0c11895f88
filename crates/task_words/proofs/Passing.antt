-- Each bundle of a trail passes, where what it asks for does.
use Rattle.std.proofs.Common.{List, [], ◌∷◌, ◌++◌}
use Rattle.std.specs.List.{AllByRecursion as Each}
use Rattle.patmos_sem.specs.Bundles.{effect_of}
use Rattle.patmos_sem.specs.declared.effects.Effect.{Effect}
use Rattle.patmos_sem.specs.declared.effects.Effect.TheVariants as effect
use Rattle.patmos_sem.specs.declared.effects.FlowKind.{FlowKind}
use Rattle.sp_shape.specs.Run.{Run, Sources, late, begun}
use Rattle.sp_shape.specs.Trail.{Step, does, begins}
use Rattle.code_core.specs.Asked.{asked_of, asks_in}
use Rattle.code_words.specs.Own.{AllPass}

module _ (Asks Passes : Effect → Type 0) (each : (e : Effect) → Asks e → Passes e) (nothing : Passes effect.Nothing)
    (flow : (kind : FlowKind) → Passes (effect.Flow kind)) where
  pass_first : (e : Effect) (rest : List Effect) → Each Asks (asked_of e ++ rest) → Passes e × Each Asks rest
  pass_first effect.Nothing rest may = (nothing, may)
  pass_first (effect.Flow kind) rest may = (flow kind, may)
  pass_first other rest may = (each other may.0, may.1)

  pub all_pass : (from : Sources) (steps : List Step) (m : Run) → Each Asks (asks_in from steps m)
      → AllPass Passes from steps m
  all_pass from [] m may = tt
  all_pass from (does b ∷ steps) m may =
      let p = pass_first (effect_of b m.regs) (asks_in from steps (late from b m)) may in
      (p.0, all_pass from steps (late from b m) p.1)
  all_pass from (begins ∷ steps) m may = all_pass from steps (begun m) may
