-- What is said of the values that loads give: each of its word, beside a memory.
use Rattle.std.proofs.Common.{◌≡◌, ℕ, List, [], ◌∷◌, ◌++◌, Option, Some, sym, ap, ◌∙◌, subst}
use Rattle.local_store.specs.declared.map.Cell.{Cell}
use Rattle.local_store.specs.declared.map.Cell.TheVariants as cell
use Rattle.patmos_instr.specs.declared.memories.Mem.TheVariants as mem
use Rattle.patmos_instr.specs.declared.memories.Width.{Width}
use Rattle.patmos_instr.specs.declared.memories.Width.TheVariants as load
use Rattle.patmos_sem.specs.Bundles.{effect_of, arrived}
use Rattle.patmos_sem.specs.Narrow.{picked}
use Rattle.patmos_sem.specs.Registers.{Registers}
use Rattle.patmos_sem.specs.declared.effects.Effect.{Effect}
use Rattle.patmos_sem.specs.declared.effects.Effect.TheVariants as effect
use Rattle.patmos_model.specs.Site.{Site}
use Rattle.sp_shape.specs.Memory.{Memory, cell_of}
use Rattle.sp_shape.specs.Pointers.{pointers_of}
use Rattle.sp_shape.specs.Run.{Run, Sources, first_load, late, begun}
use Rattle.sp_shape.specs.Trail.{Step, does, begins}
use Rattle.code_core.specs.Goes.{pending_value, given_by}
use Rattle.code_core.specs.Sound.{IsSound}
use Rattle.code_core.proofs.Outcome.{regs_with}

-- where only the core itself can reach it, it is the run's
abbrev pub IsOwnWord : Option Cell → Memory → ℕ → Type 0
IsOwnWord (Some (cell.Scratch word)) m value = value ≡ m.scratch word
IsOwnWord (Some (cell.Private word)) m value = value ≡ m.private word
IsOwnWord _ m value = Unit {0}

-- where other cores reach it too
abbrev pub IsBoardWord : Option Cell → Memory → ℕ → Type 0
IsBoardWord (Some (cell.Comm word)) m value = value ≡ m.comm word
IsBoardWord (Some (cell.Shared word)) m value = value ≡ m.shared word
IsBoardWord _ m value = Unit {0}

module _ (Says : Option Cell → Memory → ℕ → Type 0) where
  -- of a load from outside the stack
  abbrev pub OfLoad : Effect → Memory → ℕ → Type 0
  OfLoad (effect.Load mem.S width rd address) m value = Unit {0}
  OfLoad (effect.Load space width rd address) m value = Says (cell_of space address) m value
  OfLoad _ m value = Unit {0}

  -- of all loads of a trail
  abbrev pub OfLoads : Sources → List Step → Run → Type 0
  OfLoads from [] m = Unit {0}
  OfLoads from (does b ∷ steps) m =
      OfLoad (effect_of b m.regs) m.memory (first_load m.loads) × OfLoads from steps (late from b m)
  OfLoads from (begins ∷ steps) m = OfLoads from steps (begun m)

  of_word : (width : Width) (rd address value : ℕ) (place : Option Cell) (m : Memory) (regs regs' old : Registers)
      → width ≡ load.Word → regs'.pending ≡ regs.pending → regs ≡ arrived rd (picked width address value) old
      → Says place m value → Says place m (pending_value regs'.pending)
  of_word width rd address value place m regs regs' old is same came said =
      subst (Says place m) (sym (ap pending_value same ∙ ap (λ (r : Registers). pending_value r.pending) came
      ∙ ap (λ w. picked w address value) is)) said

  -- what is said of the value that came is said of the one that is pending
  pub of_pending : (site : Site) (e : Effect) (r : Run) (value : ℕ) (regs regs' old : Registers)
      → IsSound site e (pointers_of r) r.memory → regs'.pending ≡ regs.pending → regs ≡ regs_with e value old
      → OfLoad e r.memory value → OfLoad e r.memory (pending_value regs'.pending)
  of_pending site (effect.Load mem.L width rd address) r value regs regs' old s same came said =
      of_word width rd address value (cell_of mem.L address) r.memory regs regs' old s.0 same came said
  of_pending site (effect.Load mem.C width rd address) r value regs regs' old s same came said =
      of_word width rd address value (cell_of mem.C address) r.memory regs regs' old s.0 same came said
  of_pending site (effect.Load mem.M width rd address) r value regs regs' old s same came said =
      of_word width rd address value (cell_of mem.M address) r.memory regs regs' old s.0 same came said
  of_pending site _ r value regs regs' old s same came said = tt

  -- and of the first of the list
  pub of_first : (e : Effect) (m : Memory) (regs : Registers) (loads rest : List ℕ) → loads ≡ given_by e regs ++ rest
      → OfLoad e m (pending_value regs.pending) → OfLoad e m (first_load loads)
  of_first (effect.Load mem.L width rd address) m regs loads rest is said =
      subst (Says (cell_of mem.L address) m) (sym (ap first_load is)) said
  of_first (effect.Load mem.C width rd address) m regs loads rest is said =
      subst (Says (cell_of mem.C address) m) (sym (ap first_load is)) said
  of_first (effect.Load mem.M width rd address) m regs loads rest is said =
      subst (Says (cell_of mem.M address) m) (sym (ap first_load is)) said
  of_first _ m regs loads rest is said = tt
