-- From what a whole trail asks for to each of its bundles.
use Rattle.std.proofs.Common.{◌≡◌, List, [], ◌∷◌, ◌++◌, refl, sym, ap, ◌∙◌, subst, append_assoc, append-nil}
use Rattle.std.specs.List.{AllByRecursion as Each}
use Rattle.patmos_instr.specs.declared.functions.StackFunc.TheVariants.{Sres, Sens, Sfree}
use Rattle.patmos_instr.specs.declared.memories.Mem.TheVariants as mem
use Rattle.patmos_sem.specs.Bundles.{after_bundle, effect_of}
use Rattle.patmos_sem.specs.declared.effects.Effect.{Effect}
use Rattle.patmos_sem.specs.declared.effects.Effect.TheVariants as effect
use Rattle.patmos_model.specs.Site.{Site}
use Rattle.sp_shape.specs.Memory.{Memory}
use Rattle.sp_shape.specs.Pointers.{Pointers, pointers_of, moved, IsWithinStack, AreWithinStack}
use Rattle.sp_shape.specs.Run.{Run, Sources, effected, late, run_late, begun}
use Rattle.sp_shape.specs.Trail.{Step, does, begins}
use Rattle.code_core.specs.Asked.{asked_of, asks_in, MaySend, AllSend}
use Rattle.code_core.specs.Sound.{IsSound, AreSound}

pub effected_asked : (from : Sources) (e : Effect) (m : Run) → (effected from e m).asked ≡ m.asked ++ asked_of e
effected_asked from effect.Nothing m = sym (append-nil m.asked)
effected_asked from (effect.Flow flow) m = sym (append-nil m.asked)
effected_asked from _ m = refl

pub asked_is : (from : Sources) (steps : List Step) (m : Run) → (run_late from steps m).asked ≡ m.asked
    ++ asks_in from steps m
asked_is from [] m = sym (append-nil m.asked)
asked_is from (does b ∷ steps) m =
    asked_is from steps (late from b m)
    ∙ ap (λ l. l ++ asks_in from steps (late from b m)) (effected_asked from (effect_of b m.regs)
    (record m { regs = after_bundle m.st m.ss b m.regs }))
    ∙ append_assoc m.asked (asked_of (effect_of b m.regs)) (asks_in from steps (late from b m))
asked_is from (begins ∷ steps) m = asked_is from steps (begun m)

effected_pointers : (from : Sources) (e : Effect) (m : Run) → pointers_of (effected from e m) ≡ moved e (pointers_of m)
effected_pointers from (effect.Store mem.S width address value) m = refl
effected_pointers from (effect.Store _ width address value) m = refl
effected_pointers from (effect.StackOp Sres count) m = refl
effected_pointers from (effect.StackOp Sens count) m = refl
effected_pointers from (effect.StackOp Sfree count) m = refl
effected_pointers from _ m = refl

-- over what is known of each effect that is asked for
module _ (site : Site) (Ok : Effect → Type 0) (each : (e : Effect) (p : Pointers) (k : Memory) → Ok e
    → IsWithinStack e p → MaySend site e k → IsSound site e p k) where
  -- the first of what is asked for, and the rest
  record Parts (e : Effect) (p : Pointers) (k : Memory) (rest : List Effect) : Type 0 where
    sound : IsSound site e p k
    ok : Each Ok rest
    within : AreWithinStack rest (moved e p)

  parts : (e : Effect) (p : Pointers) (k : Memory) (rest : List Effect) → Each Ok (asked_of e ++ rest)
      → AreWithinStack (asked_of e ++ rest) p → MaySend site e k → Parts e p k rest
  parts effect.Nothing p k rest ok within sends = record { sound = tt; ok = ok; within = within }
  parts (effect.Flow flow) p k rest ok within sends = record { sound = tt; ok = ok; within = within }
  parts other p k rest ok within sends =
      record { sound = each other p k ok.0 within.0 sends; ok = ok.1; within = within.1 }

  pub all_sound : (from : Sources) (steps : List Step) (m : Run) → Each Ok (asks_in from steps m)
      → AreWithinStack (asks_in from steps m) (pointers_of m) → AllSend site from steps m → AreSound site from steps m
  all_sound from [] m ok within sends = tt
  all_sound from (does b ∷ steps) m ok within sends =
      let q = parts (effect_of b m.regs) (pointers_of m) m.memory (asks_in from steps (late from b m)) ok
      within sends.0 in (
        q.sound,
        all_sound from steps (late from b m) q.ok
            (subst (AreWithinStack (asks_in from steps (late from b m)))
            (sym (effected_pointers from (effect_of b m.regs)
            (record m { regs = after_bundle m.st m.ss b m.regs }))) q.within) sends.1,
      )
  all_sound from (begins ∷ steps) m ok within sends = all_sound from steps (begun m) ok within sends
