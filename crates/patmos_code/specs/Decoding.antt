-- To be believed. The bundle for which two words stand, as a definition that computes: the fields are taken apart, and
-- an instruction is accepted only where its fields put together give the same word. That it is the
-- inverse of a bundle's code is what `decode` ensures.
use Rattle.std.specs.Prelude.{ℕ, ◌-◌, ◌/◌, ◌%◌, ◌^◌, ◌==◌, Option, Some, None, option_map, slice_get, if◌then◌else◌, nat_lt}
use Rattle.patmos_instr.specs.Bundles.{PlainBundle}
use Rattle.patmos_instr.specs.Fields.{offset_of}
use Rattle.patmos_instr.specs.Functions.{imm_funcs, alu_funcs, cmp_funcs, pred_funcs, stack_funcs}
use Rattle.patmos_instr.specs.Guards.{guard_of}
use Rattle.patmos_instr.specs.Instructions.{is_long, is_second_kind}
use Rattle.patmos_instr.specs.Memories.{mem_of, widths, store_widths}
use Rattle.patmos_instr.specs.Specials.{specials, writable_specials}
use Rattle.patmos_instr.specs.declared.instructions.Instr.{Instr}
use Rattle.patmos_instr.specs.declared.instructions.Op.{Op}
use Rattle.patmos_instr.specs.declared.instructions.Op.TheVariants.{AluImm, AluReg, AluLong, Mul, Cmp, CmpImm, Comb, ToSpecial, FromSpecial, Stack, Load, Store, Branch, Call, BranchFill, Return}
use Rattle.patmos_code.specs.Codes.{instr_code}

-- the fields that begin at a bit of a word, of three and of five bits
abbrev pub three_bits : ℕ → ℕ → ℕ
three_bits from word = word / 2 ^ from % 8

abbrev pub five_bits : ℕ → ℕ → ℕ
five_bits from word = word / 2 ^ from % 32

-- the operation of an opcode with the fields of a word, and with this constant if it is long
abbrev pub op_of : ℕ → ℕ → ℕ → Option Op
op_of opcode word constant =
    let x = five_bits 17 word in
    let y = five_bits 12 word in
    let z = five_bits 7 word in
    let p = three_bits 17 word in
    let func = word % 16 in
    if nat_lt opcode 8 then option_map (λ f. AluImm f x y (word % 2 ^ 12)) (slice_get imm_funcs opcode)
    else if opcode == 8 then option_map (λ f. AluReg f x y z) (slice_get alu_funcs func)
    else if opcode == 9 then Some (Mul (word % 2 == 1) y z)
    else if opcode == 10 then option_map (λ f. Cmp f p y z) (slice_get cmp_funcs func)
    else if opcode == 11 then option_map (λ f. CmpImm f p y z) (slice_get cmp_funcs func)
    else if opcode == 12 then
    option_map (λ f. Comb f p (guard_of (word / 2 ^ 13)) (guard_of (word / 2 ^ 9))) (slice_get pred_funcs (word % 4))
    else if opcode == 13 then option_map (λ s. ToSpecial s y) (slice_get writable_specials func)
    else if opcode == 14 then option_map (λ s. FromSpecial x s) (slice_get specials func)
    else if opcode == 15 then option_map (λ f. Stack f (word % 2 ^ 12)) (slice_get stack_funcs (word / 2 ^ 18 % 4))
    else if opcode == 16 then
    option_map (λ w. Load (mem_of (word / 2 ^ 7)) w x y (word % 2 ^ 7)) (slice_get widths (three_bits 9 word))
    else if opcode == 17 then
    option_map (λ w. Store (mem_of (word / 2 ^ 17)) w y z (word % 2 ^ 7)) (slice_get store_widths (three_bits 19 word))
    else if opcode == 18 then Some (Branch (offset_of (word % 2 ^ 22)))
    else if opcode == 19 then Some (Call (word % 2 ^ 22))
    else if opcode == 20 then Some (BranchFill (word % 2 ^ 22))
    else if opcode == 21 then Some Return
    else if opcode == 22 then option_map (λ f. AluLong f x y constant) (slice_get alu_funcs func)
    else None

-- an instruction, where its code is the word
abbrev pub accepted : ℕ → Option Instr → Option Instr
accepted word None = None
accepted word (Some i) = if instr_code i == word then Some i else None

-- the instruction of a word, with this constant if it is long
abbrev pub instr_at : ℕ → ℕ → Option Instr
instr_at word constant =
    accepted word
    (option_map (λ op. record { guard = guard_of (word / 2 ^ 27); op = op }) (op_of (five_bits 22 word) word constant))

-- the bundle of one word, whose instruction must not be long
abbrev pub lone : Option Instr → Option PlainBundle
lone None = None
lone (Some i) = if is_long i.op then None else Some (record { first = i; second = None })

-- the bundle of a first instruction and the one of the second word
abbrev pub beside : Instr → Option Instr → Option PlainBundle
beside i None = None
beside i (Some j) = if is_second_kind j.op then Some (record { first = i; second = Some j }) else None

-- the bundle of two words: a long instruction stands alone, any other beside the second word's
abbrev pub double : Option Instr → Option Instr → Option PlainBundle
double None _ = None
double (Some i) second = if is_long i.op then Some (record { first = i; second = None }) else beside i second

-- the bundle for which two words stand
unfoldable pub bundle_at : ℕ → ℕ → Option PlainBundle
bundle_at first second =
    if nat_lt first (2 ^ 31) then lone (instr_at first 0)
    else double (instr_at (first - 2 ^ 31) second) (instr_at second 0)
