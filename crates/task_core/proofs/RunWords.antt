-- A run that is given words, of bundles whose constants are words, holds words before each bundle.
use Rattle.std.proofs.Common.{◌≡◌, ℕ, ◌+◌, ◌-◌, ◌/◌, ◌&&◌, nat_le, nat_lt, true, false, if◌then◌else◌, List, [], ◌∷◌, refl, arith}
use Rattle.std.specs.List.{AllByRecursion as Each}
use Rattle.patmos_instr.specs.Bundles.{PlainBundle}
use Rattle.patmos_instr.specs.declared.functions.StackFunc.TheVariants.{Sres, Sens, Sfree}
use Rattle.patmos_instr.specs.declared.memories.Mem.{Mem}
use Rattle.patmos_instr.specs.declared.memories.Mem.TheVariants as mem
use Rattle.patmos_instr.specs.declared.memories.StoreWidth.{StoreWidth}
use Rattle.patmos_sem.specs.Bundles.{after_bundle, effect_of}
use Rattle.patmos_sem.specs.Narrow.{picked, merged}
use Rattle.patmos_sem.specs.declared.effects.Effect.{Effect}
use Rattle.patmos_sem.specs.declared.effects.Effect.TheVariants as effect
use Rattle.patmos_model.specs.Range.{IsWord, ConstantsFit}
use Rattle.patmos_model.proofs.NarrowWords.{picked_word, merged_word}
use Rattle.patmos_model.proofs.RegisterWords.{at_start_words, after_bundle_words, settled_words, stored_word, arrived_words, with_return_words}
use Rattle.patmos_model.proofs.HeldWords.{put_fits}
use Rattle.sp_shape.specs.Memory.{Memory}
use Rattle.sp_shape.specs.Run.{Run, Back, first_load, other_loads, first_back, other_backs, reserved, effected, late, once, begun, at_begin}
use Rattle.sp_shape.specs.Trail.{Step, does, begins}
use Rattle.sp_emit.specs.Starting.{AllWords}
use Rattle.code_core.specs.Goes.{by_stack}
use Rattle.code_core.specs.Words.{BackFits, AreWords, AllFit}

-- ---- lists

first_word : (loads : List ℕ) → Each IsWord loads → IsWord (first_load loads)
first_word [] h = omega arith
first_word (n ∷ ns) h = h.0

other_words : (loads : List ℕ) → Each IsWord loads → Each IsWord (other_loads loads)
other_words [] h = tt
other_words (n ∷ ns) h = h.1

first_fits : (backs : List Back) → Each BackFits backs → BackFits (first_back backs)
first_fits [] h = record { base = omega arith; offset = omega arith }
first_fits (b ∷ bs) h = h.0

other_fit : (backs : List Back) → Each BackFits backs → Each BackFits (other_backs backs)
other_fit [] h = tt
other_fit (b ∷ bs) h = h.1

-- ---- what a bundle asks for

reserved_word : (st count : ℕ) (words : ℕ → ℕ) → ((a : ℕ) → IsWord (words a)) → (a : ℕ)
    → IsWord (reserved st count words a)
reserved_word st count words before a = elim (nat_le (st - count) a && nat_lt a st) as (λ b. IsWord
    (if b then 0 else words a)) [ true ↦ omega arith | false ↦ before a ]

effected_words : (e : Effect) (m : Run) → AreWords m → ((space : Mem) (width : StoreWidth) (address value : ℕ) → e
    ≡ effect.Store space width address value → IsWord value) → AreWords (effected by_stack e m)
effected_words effect.Nothing m h stores = h
effected_words (effect.Flow flow) m h stores =
    record { regs = h.regs; stack = h.stack; loads = h.loads; backs = h.backs }
effected_words (effect.Load mem.S width rd address) m h stores = record {
  regs = arrived_words rd (picked width address (m.stack (m.st + address / 4))) m.regs h.regs
      (picked_word width address (m.stack (m.st + address / 4)) (h.stack (m.st + address / 4)));
  stack = h.stack;
  loads = other_words m.loads h.loads;
  backs = h.backs;
}
effected_words (effect.Load mem.L width rd address) m h stores = record {
  regs = arrived_words rd (picked width address (first_load m.loads)) m.regs h.regs
      (picked_word width address (first_load m.loads) (first_word m.loads h.loads));
  stack = h.stack;
  loads = other_words m.loads h.loads;
  backs = h.backs;
}
effected_words (effect.Load mem.C width rd address) m h stores = record {
  regs = arrived_words rd (picked width address (first_load m.loads)) m.regs h.regs
      (picked_word width address (first_load m.loads) (first_word m.loads h.loads));
  stack = h.stack;
  loads = other_words m.loads h.loads;
  backs = h.backs;
}
effected_words (effect.Load mem.M width rd address) m h stores = record {
  regs = arrived_words rd (picked width address (first_load m.loads)) m.regs h.regs
      (picked_word width address (first_load m.loads) (first_word m.loads h.loads));
  stack = h.stack;
  loads = other_words m.loads h.loads;
  backs = h.backs;
}
effected_words (effect.Store mem.S width address value) m h stores = record {
  regs = h.regs;
  stack = put_fits (m.st + address / 4) (merged width address (m.stack (m.st + address / 4)) value) m.stack
      (merged_word width address (m.stack (m.st + address / 4)) value (h.stack (m.st + address / 4))
      (stores mem.S width address value refl)) h.stack;
  loads = h.loads;
  backs = h.backs;
}
effected_words (effect.Store mem.L width address value) m h stores =
    record { regs = h.regs; stack = h.stack; loads = h.loads; backs = h.backs }
effected_words (effect.Store mem.C width address value) m h stores =
    record { regs = h.regs; stack = h.stack; loads = h.loads; backs = h.backs }
effected_words (effect.Store mem.M width address value) m h stores =
    record { regs = h.regs; stack = h.stack; loads = h.loads; backs = h.backs }
effected_words (effect.StackOp Sres count) m h stores =
    record { regs = h.regs; stack = reserved_word m.st count m.stack h.stack; loads = h.loads; backs = h.backs }
effected_words (effect.StackOp Sens count) m h stores =
    record { regs = h.regs; stack = h.stack; loads = h.loads; backs = h.backs }
effected_words (effect.StackOp Sfree count) m h stores =
    record { regs = h.regs; stack = h.stack; loads = h.loads; backs = h.backs }

-- ---- bundles and trails

late_words : (b : PlainBundle) (m : Run) → ConstantsFit b → AreWords m → AreWords (late by_stack b m)
late_words b m fits h =
    effected_words (effect_of b m.regs) (record m { regs = after_bundle m.st m.ss b m.regs })
    (record {
      regs = after_bundle_words m.st m.ss b m.regs h.regs fits;
      stack = h.stack;
      loads = h.loads;
      backs = h.backs;
    })
    (λ space width address value is. stored_word b m.regs space width address value h.regs is)

once_words : (b : PlainBundle) (m : Run) → ConstantsFit b → AreWords m → AreWords (once by_stack b m)
once_words b m fits h =
    let l : AreWords (late by_stack b m) = late_words b m fits h in
    record { regs = settled_words (late by_stack b m).regs l.regs; stack = l.stack; loads = l.loads; backs = l.backs }

begun_words : (m : Run) → AreWords m → AreWords (begun m)
begun_words m h =
    let f : BackFits (first_back m.backs) = first_fits m.backs h.backs in
    record {
      regs = with_return_words (first_back m.backs).base (first_back m.backs).offset m.regs h.regs f.base
          f.offset;
      stack = h.stack;
      loads = h.loads;
      backs = other_fit m.backs h.backs;
    }

pub all_words : (steps : List Step) (m : Run) → AllFit steps → AreWords m → AllWords by_stack steps m
all_words [] m fits h = tt
all_words (does b ∷ steps) m fits h =
    (h.regs.general, all_words steps (once by_stack b m) fits.1 (once_words b m fits.0 h))
all_words (begins ∷ steps) m fits h = all_words steps (begun m) fits (begun_words m h)

pub words_at_begin : (memory : Memory) (loads : List ℕ) (backs : List Back) → Each IsWord loads → Each BackFits backs
    → AreWords (at_begin memory loads backs)
words_at_begin memory loads backs words fits =
    record { regs = at_start_words; stack = λ a. omega arith; loads = words; backs = fits }
