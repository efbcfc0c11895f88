-- For worked rows. Small platforms whose cores meet, for worked values.
use Rattle.std.specs.Prelude.{ℕ, zero, suc, List, [], ◌∷◌, ◌++◌}
use Rattle.shared_order.specs.Machine.{State, cycled}
use Rattle.patmos_instr.specs.Bundles.{PlainBundle}
use Rattle.patmos_instr.specs.declared.memories.Mem.{Mem}
use Rattle.patmos_instr.specs.declared.memories.Mem.TheVariants.{L, M}
use Rattle.patmos_instr.specs.declared.memories.StoreWidth.TheVariants as store
use Rattle.patmos_instr.specs.declared.instructions.Op.TheVariants.{Store}
use Rattle.patmos_model.specs.declared.state.CoreState.{CoreState}
use Rattle.patmos_model.specs.State.{Core}
use Rattle.patmos_model.specs.Cycle.{turn}
use Rattle.patmos_model.specs.Outcome.{state_at}
use Rattle.patmos_model.specs.Programs.{alone, nops, ret, addi, sli, addl, add, lw, sw, core_of, tabled, resting, seven}

-- n cores after the cycles below a limit, and how far one of them has come
abbrev pub ran : ℕ → (ℕ → Core) → ℕ → State Core
ran n cores limit = cycled turn n cores limit

abbrev pub outcome : ℕ → (ℕ → Core) → ℕ → ℕ → CoreState
outcome n cores limit core = state_at limit ((ran n cores limit).cores core).plain

-- of four cores, core 2 has the task of five bundles
abbrev pub third_of_four : ℕ → Core
third_of_four (suc (suc zero)) = core_of 4 2 0 seven
third_of_four core = resting 4 core

-- of three cores with the slot table 0, 1, 0, 2, cores 0 and 2 have it
abbrev pub by_table : ℕ → Core
by_table zero = tabled (0 ∷ 1 ∷ 0 ∷ 2 ∷ []) 3 0 0 seven
by_table (suc (suc zero)) = tabled (0 ∷ 1 ∷ 0 ∷ 2 ∷ []) 3 2 0 seven
by_table core = resting 3 core

-- core 0 stores 5 in a word of shared memory, from cycle 12 on; core 1 loads the word twice
abbrev pub storing : List (List PlainBundle)
storing = (addl 2 0 0x1000000 ∷ addi 3 0 5 ∷ sw M 2 0 3 ∷ ret (nops 3)) ∷ []

abbrev pub loading : Mem → List (List PlainBundle)
loading space = (addl 2 0 0x1000000 ∷ lw space 3 2 0 ∷ nops 1 ++ lw space 4 2 0
    ∷ ret (sli 3 3 4 ∷ add 1 3 4 ∷ nops 1)) ∷ []

abbrev pub sharing : Mem → ℕ → Core
sharing space zero = core_of 2 0 12 storing
sharing space (suc core) = core_of 2 1 0 (loading space)

-- each of two cores stores a byte in one word, and core 1 loads it then
abbrev pub byte_storing : ℕ → ℕ → List PlainBundle
byte_storing place value = addl 2 0 0x1000000 ∷ addi 3 0 value ∷ alone (Store M store.Byte 2 3 place) ∷ []

abbrev pub bytes_of_two : ℕ → Core
bytes_of_two zero = core_of 2 0 0 ((byte_storing 0 17 ++ ret (nops 3)) ∷ [])
bytes_of_two (suc core) = core_of 2 1 0 ((byte_storing 1 34 ++ lw M 1 2 0 ∷ ret (nops 3)) ∷ [])

-- core 0 starts four words to core 1, and starts again while words are left
abbrev pub starting_twice : ℕ → Core
starting_twice zero = core_of 2 0 0 ((addl 2 0 0x20010 ∷ addi 3 0 4
    ∷ sw L 2 0 0 ∷ sw L 2 1 0 ∷ sw L 2 2 3 ∷ sw L 2 2 3 ∷ ret (nops 3)) ∷ [])
starting_twice (suc core) = resting 2 1

-- core 0 sends a word, which it starts in a cycle in which a window begins; core 1 loads it in the cycle
-- in which it comes
abbrev pub sending : ℕ → Core
sending zero = core_of 2 0 0 ((addl 2 0 0x20010 ∷ addi 3 0 1 ∷ addl 4 0 0x10000 ∷ sw L 4 0 3
    ∷ sw L 2 0 0 ∷ sw L 2 1 0 ∷ sw L 2 2 3 ∷ ret (nops 3)) ∷ [])
sending (suc core) = core_of 2 1 0 ((addl 2 0 0x10000 ∷ lw M 3 0 0 ∷ lw M 3 0 0 ∷ lw L 1 2 0
    ∷ ret (nops 3)) ∷ [])

-- a count of 0, and a byte stored in a register of the interface
abbrev pub misused : PlainBundle → ℕ → Core
misused store zero = core_of 2 0 0 ((addl 2 0 0x20010 ∷ store ∷ []) ∷ [])
misused store (suc core) = resting 2 1
