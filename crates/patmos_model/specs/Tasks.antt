-- For worked rows. Tasks whose outcome is known, each as its functions of bundles. In a comment stands what it shows.
use Rattle.std.specs.Prelude.{negsuc, true, false, List, [], ◌∷◌, ◌++◌}
use Rattle.patmos_instr.specs.Bundles.{PlainBundle}
use Rattle.patmos_instr.specs.declared.memories.Mem.TheVariants.{S, L, C, M}
use Rattle.patmos_instr.specs.declared.memories.Width.TheVariants as load
use Rattle.patmos_instr.specs.declared.memories.StoreWidth.TheVariants as store
use Rattle.patmos_instr.specs.declared.specials.WritableSpecial.TheVariants.{Srb, Sro}
use Rattle.patmos_instr.specs.declared.instructions.Op.{Op}
use Rattle.patmos_instr.specs.declared.instructions.Op.TheVariants.{Branch, Load, Store, Return}
use Rattle.patmos_model.specs.Programs.{guarded, alone, beside, nops, ret, addi, subi, addl, add, cmpineq, lw, sw, mts, sres, sens, sfree, call}

-- a task of one function
abbrev main : List PlainBundle → List (List PlainBundle)
main f = f ∷ []

-- r1 doubles twice: the branch back is taken once, and its two delay slots are done each time
abbrev pub doubling : List (List PlainBundle)
doubling = main (addi 1 0 3 ∷ addi 2 0 2
    ∷ subi 2 2 1 ∷ cmpineq 1 2 0 ∷ guarded (record { negated = false; pred = 1 }) (Branch (negsuc 1))
    ∷ add 1 1 1 ∷ nops 1 ++ ret (nops 3))

-- the bundle after a load still reads the register's old value, and the next one the loaded one
abbrev pub load_delay : List (List PlainBundle)
load_delay = main (addi 1 0 5 ∷ sw L 0 0 1 ∷ lw L 2 0 0 ∷ add 1 2 2 ∷ add 1 1 2 ∷ ret (nops 3))

-- a load in the last delay slot is not seen
abbrev pub load_at_end : List (List PlainBundle)
load_at_end = main (addi 1 0 5 ∷ sw L 0 0 1 ∷ addi 1 0 6 ∷ ret (nops 2 ++ lw L 1 0 0 ∷ []))

-- 160 words are reserved, of which the cache holds 128 and 32 are spilled
abbrev pub spilling : List (List PlainBundle)
spilling = main (sres 100 ∷ sres 60 ∷ addi 1 0 5 ∷ sw S 0 0 1 ∷ lw S 1 0 0 ∷ ret (nops 3))

-- two of four words are spilled, and they come back after the two that are still held
abbrev pub refilling : List (List PlainBundle)
refilling = main (sres 4 ∷ addi 1 0 5 ∷ sw S 0 3 1 ∷ sres 126 ∷ sfree 126 ∷ sens 4 ∷ lw S 1 0 3 ∷ ret (nops 3))

-- `main` calls the function at word 11, which misses, and the return to `main` hits
abbrev pub calling : List (List PlainBundle)
calling = (call 11 ∷ nops 3 ++ mts Srb 0 ∷ ret (nops 3)) ∷ (addi 1 0 9 ∷ ret (nops 3)) ∷ []

-- a byte is stored into a word of shared memory, and then a part of the word is loaded
abbrev pub narrow : Op → List (List PlainBundle)
narrow op = main (addl 2 0 0x1000000 ∷ addl 3 0 0x11223344 ∷ sw M 2 0 3 ∷ addi 4 0 255
    ∷ alone (Store M store.Byte 2 4 1) ∷ alone op ∷ ret (nops 3))

-- a load fetches a line, and a cached store changes it there, so that the next load finds the new value
abbrev pub own_store : List (List PlainBundle)
own_store = main (lw C 3 0 4 ∷ addi 1 0 5 ∷ sw C 0 4 1 ∷ addi 1 0 6 ∷ lw C 1 0 4 ∷ ret (nops 3))

-- a store in the last delay slot has still to move its word
abbrev pub store_at_end : List (List PlainBundle)
store_at_end = main (addi 1 0 5 ∷ ret (nops 2 ++ sw M 0 0 1 ∷ []))

-- what stops a core: an address of no memory, one that is no multiple of a word or a half, a return
-- into the middle of a bundle, the end of a function, a return to no function, a flow in a delay slot,
-- 129 words of the stack at once, more words than the stack has, a word of the stack that is not held,
-- and a register of the interface for the core itself
abbrev pub no_memory : List (List PlainBundle)
no_memory = main (addl 2 0 0x40000 ∷ lw M 1 2 0 ∷ [])

abbrev pub odd_word : List (List PlainBundle)
odd_word = main (addi 2 0 2 ∷ lw M 1 2 0 ∷ [])

abbrev pub odd_half : List (List PlainBundle)
odd_half = main (addi 2 0 1 ∷ alone (Load M load.Half 1 2 0) ∷ [])

abbrev pub no_bundle : List (List PlainBundle)
no_bundle = main (addi 2 0 1 ∷ mts Srb 2 ∷ addi 3 0 9 ∷ mts Sro 3 ∷ ret (nops 3 ++ addl 4 0 0x7FFFFFFF ∷ []))

abbrev pub no_return : List (List PlainBundle)
no_return = main (nops 1)

abbrev pub no_function : List (List PlainBundle)
no_function = main (addi 2 0 2 ∷ mts Srb 2 ∷ ret (nops 3))

abbrev pub two_flows : List (List PlainBundle)
two_flows = main (ret (alone Return ∷ nops 1))

abbrev pub own_port : List (List PlainBundle)
own_port = main (addl 2 0 0x20000 ∷ sw L 2 0 0 ∷ [])

-- an address that is odd and that no memory has
abbrev pub odd_nowhere : List (List PlainBundle)
odd_nowhere = main (addl 2 0 0x40002 ∷ lw M 1 2 0 ∷ [])

-- the second slot beside a load of no memory would write r1
abbrev pub stopped_pair : List (List PlainBundle)
stopped_pair = main (addl 2 0 0x40000 ∷ beside (lw M 1 2 0) (addi 1 0 5) ∷ [])

-- what is not done is not checked: a load at an odd address under a false guard
abbrev pub guarded_off : List (List PlainBundle)
guarded_off = main (addi 2 0 2 ∷ guarded (record { negated = true; pred = 0 }) (Load M load.Word 1 2 0) ∷ ret (nops 3))
