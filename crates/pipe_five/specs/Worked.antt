-- For worked rows. Small tasks on the only core of a platform, for worked values.
use Rattle.std.specs.Prelude.{ℕ, ◌+◌, pos, List, [], ◌∷◌, ◌++◌, Option, map}
use Rattle.slot_arbiter.specs.Table.{in_turn}
use Rattle.patmos_instr.specs.Bundles.{PlainBundle}
use Rattle.patmos_instr.specs.declared.instructions.Op.TheVariants.{Branch}
use Rattle.patmos_instr.specs.declared.memories.Mem.TheVariants.{M}
use Rattle.patmos_model.specs.Programs.{core_of, with_image, image_of, words_of, alone, addi, add, lw, nops, ret}
use Rattle.patmos_model.specs.State.{Core}
use Rattle.pipe_five.specs.Steps.{done_below, first_of}
use Rattle.pipe_five.specs.Stages.{stages_of, file_of}

-- a task of these functions that starts at cycle 0
abbrev pub begins : List (List PlainBundle) → Core
begins functions = core_of 1 0 0 functions

-- the cycles of its bundles below a limit, the latest first
abbrev pub cycles_of : List (List PlainBundle) → ℕ → List ℕ
cycles_of functions limit = map (λ d. d.cycle) (done_below (begins functions) limit)

-- the stages at step k of its run below a limit
abbrev pub step_of : List (List PlainBundle) → ℕ → ℕ → List (Option ℕ)
step_of functions limit k = stages_of (begins functions) (first_of (k + 1) (done_below (begins functions) limit))

-- a register of the file after it
abbrev pub register_of : List (List PlainBundle) → ℕ → ℕ → ℕ → ℕ
register_of functions limit k r = file_of (begins functions) (first_of (k + 1) (done_below (begins functions) limit)) r

-- a branch over one bundle after its two delay slots
abbrev pub branching : List (List PlainBundle)
branching = (alone (Branch (pos 4)) ∷ nops 2 ++ addi 1 0 5 ∷ ret (nops 3)) ∷ []

-- a load from main memory, whose value the next bundle does not see
abbrev pub loading : List (List PlainBundle)
loading = (addi 1 0 5 ∷ lw M 1 0 0 ∷ add 2 1 1 ∷ nops 1 ++ ret (nops 3)) ∷ []

-- `main` of a nop, and then the first word alone of a bundle of two words
abbrev pub cut_short : Core
cut_short = with_image (in_turn 1) 1 0 0 (record (image_of (nops 1 ∷ [])) {
  words = 2 ∷ (words_of (nops 1) ++ 0x85840000 ∷ []);
})
