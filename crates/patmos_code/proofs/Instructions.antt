-- Taking an instruction's word apart and putting its fields together are inverse to each other.
use Rattle.std.proofs.Common.{rules, arith, ◌≡◌, ℕ, ◌+◌, ◌*◌, ◌<◌, ◌/◌, ◌%◌, ◌^◌, true, false, refl, Option, Some, None, option_map, IfSome, ℤ, pos, negsuc}
use Rattle.std.proofs.lemmas.Grind.{common_steps}
use Rattle.std.proofs.lemmas.Bool.Decides.{nat_tests}
use Rattle.patmos_instr.specs.Fields.{FitsOff22, offset_bits, offset_of}
use Rattle.patmos_instr.specs.Functions.{imm_func_number, alu_func_number, cmp_func_number, pred_func_number, stack_func_number}
use Rattle.patmos_instr.specs.Specials.{special_number, writable_special_number}
use Rattle.patmos_instr.specs.Memories.{mem_number, width_number, store_width_number}
use Rattle.patmos_instr.specs.Guards.{guard_number, guard_of, FitsGuard}
use Rattle.patmos_instr.specs.Instructions.{FitsOp, FitsInstr}
use Rattle.patmos_instr.specs.declared.functions.ImmFunc.{ImmFunc}
use Rattle.patmos_instr.specs.declared.functions.ImmFunc.TheVariants as imm
use Rattle.patmos_instr.specs.declared.guards.Guard.{Guard}
use Rattle.patmos_instr.specs.declared.instructions.Instr.{Instr}
use Rattle.patmos_instr.specs.declared.instructions.Op.{Op}
use Rattle.patmos_instr.specs.declared.instructions.Op.TheVariants.{AluImm, AluReg, AluLong, Mul, Cmp, CmpImm, Comb, ToSpecial, FromSpecial, Stack, Load, Store, Branch, Call, BranchFill, Return}
use Rattle.patmos_code.specs.Codes.{op_code, instr_code}
use Rattle.patmos_code.specs.Decoding.{three_bits, five_bits, op_of, accepted, instr_at}
use Rattle.patmos_code.proofs.Numbers.{imm_func_small, alu_func_small, alu_func_back, cmp_func_small, cmp_func_back, pred_func_small, pred_func_back, stack_func_small, stack_func_back, special_small, special_back, writable_special_small, writable_special_back, mem_small, mem_back, width_small, width_back, store_width_small, store_width_back}

-- the constant of a long operation is the given one
abbrev pub HasConstant : Op → ℕ → Type 0
HasConstant (AluLong _ _ _ constant) c = constant ≡ c
HasConstant _ _ = Unit {0}

op_taken : (k w c : ℕ) → c < 2 ^ 32 → IfSome (op_of k w c) (λ op. FitsOp op × HasConstant op c)
op_taken k w c h = search rules

guard_small : (g : Guard) → FitsGuard g → guard_number g < 16
guard_small g f = grind (arith, common_steps)

guard_back : (g : Guard) → FitsGuard g → (n : ℕ) → n % 16 ≡ guard_number g → guard_of n ≡ g
guard_back g f n e = grind (arith, common_steps)

offset_small : (o : ℤ) → FitsOff22 o → offset_bits o < 2 ^ 22
offset_small (pos n) f = omega arith
offset_small (negsuc n) f = omega arith

offset_back : (o : ℤ) → FitsOff22 o → offset_of (offset_bits o) ≡ o
offset_back (pos n) f = grind (arith, nat_tests)
offset_back (negsuc n) f = grind (arith, nat_tests)

imm_first : (f : ImmFunc) (w c : ℕ) → op_of (imm_func_number f) w c
    ≡ Some (AluImm f (five_bits 17 w) (five_bits 12 w) (w % 2 ^ 12))
imm_first f w c =
    elim f as (λ g. op_of (imm_func_number g) w c ≡ Some (AluImm g (five_bits 17 w) (five_bits 12 w) (w % 2 ^ 12)))
    [ imm.Add ↦ refl | _ ↦ refl ]

-- the fields of an operation's word are the operation's
op_back : (op : Op) → FitsOp op → (c : ℕ) → HasConstant op c → (high w : ℕ) → w ≡ high * 2 ^ 27 + op_code op →
    op_of (five_bits 22 w) w c ≡ Some op
op_back (AluImm f rd ra n) h c _ high w e =
    let s : imm_func_number f < 8 = imm_func_small f in
    let k : five_bits 22 w ≡ imm_func_number f = omega arith in
    let x : five_bits 17 w ≡ rd = omega arith in
    let y : five_bits 12 w ≡ ra = omega arith in
    let z : w % 2 ^ 12 ≡ n = omega arith in
    rw (k, imm_first f w c, x, y, z) refl
op_back (AluReg f rd ra rb) h c _ high w e =
    let s : alu_func_number f < 11 = alu_func_small f in
    let k : five_bits 22 w ≡ 8 = omega arith in
    let x : five_bits 17 w ≡ rd = omega arith in
    let y : five_bits 12 w ≡ ra = omega arith in
    let z : five_bits 7 w ≡ rb = omega arith in
    let n : w % 16 ≡ alu_func_number f = omega arith in
    rw (k, x, y, z, n, alu_func_back f) refl
op_back (Mul true ra rb) h c _ high w e =
    let k : five_bits 22 w ≡ 9 = omega arith in
    let y : five_bits 12 w ≡ ra = omega arith in
    let z : five_bits 7 w ≡ rb = omega arith in
    let n : w % 2 ≡ 1 = omega arith in
    rw (k, y, z, n) refl
op_back (Mul false ra rb) h c _ high w e =
    let k : five_bits 22 w ≡ 9 = omega arith in
    let y : five_bits 12 w ≡ ra = omega arith in
    let z : five_bits 7 w ≡ rb = omega arith in
    let n : w % 2 ≡ 0 = omega arith in
    rw (k, y, z, n) refl
op_back (Cmp f pd ra rb) h c _ high w e =
    let s : cmp_func_number f < 7 = cmp_func_small f in
    let k : five_bits 22 w ≡ 10 = omega arith in
    let x : three_bits 17 w ≡ pd = omega arith in
    let y : five_bits 12 w ≡ ra = omega arith in
    let z : five_bits 7 w ≡ rb = omega arith in
    let n : w % 16 ≡ cmp_func_number f = omega arith in
    rw (k, x, y, z, n, cmp_func_back f) refl
op_back (CmpImm f pd ra i) h c _ high w e =
    let s : cmp_func_number f < 7 = cmp_func_small f in
    let k : five_bits 22 w ≡ 11 = omega arith in
    let x : three_bits 17 w ≡ pd = omega arith in
    let y : five_bits 12 w ≡ ra = omega arith in
    let z : five_bits 7 w ≡ i = omega arith in
    let n : w % 16 ≡ cmp_func_number f = omega arith in
    rw (k, x, y, z, n, cmp_func_back f) refl
op_back (Comb f pd a b) h c _ high w e =
    let s : pred_func_number f < 3 = pred_func_small f in
    let sa : guard_number a < 16 = guard_small a h.1 in
    let sb : guard_number b < 16 = guard_small b h.2 in
    let k : five_bits 22 w ≡ 12 = omega arith in
    let x : three_bits 17 w ≡ pd = omega arith in
    let y : w / 2 ^ 13 % 16 ≡ guard_number a = omega arith in
    let z : w / 2 ^ 9 % 16 ≡ guard_number b = omega arith in
    let n : w % 4 ≡ pred_func_number f = omega arith in
    rw (k, x, guard_back a h.1 (w / 2 ^ 13) y, guard_back b h.2 (w / 2 ^ 9) z, n, pred_func_back f) refl
op_back (ToSpecial t ra) h c _ high w e =
    let s : writable_special_number t < 5 = writable_special_small t in
    let k : five_bits 22 w ≡ 13 = omega arith in
    let y : five_bits 12 w ≡ ra = omega arith in
    let n : w % 16 ≡ writable_special_number t = omega arith in
    rw (k, y, n, writable_special_back t) refl
op_back (FromSpecial rd t) h c _ high w e =
    let s : special_number t < 7 = special_small t in
    let k : five_bits 22 w ≡ 14 = omega arith in
    let x : five_bits 17 w ≡ rd = omega arith in
    let n : w % 16 ≡ special_number t = omega arith in
    rw (k, x, n, special_back t) refl
op_back (Stack f count) h c _ high w e =
    let s : stack_func_number f < 3 = stack_func_small f in
    let k : five_bits 22 w ≡ 15 = omega arith in
    let x : w / 2 ^ 18 % 4 ≡ stack_func_number f = omega arith in
    let n : w % 2 ^ 12 ≡ count = omega arith in
    rw (k, x, n, stack_func_back f) refl
op_back (Load m t rd ra i) h c _ high w e =
    let s : mem_number m < 4 = mem_small m in
    let st : width_number t < 5 = width_small t in
    let k : five_bits 22 w ≡ 16 = omega arith in
    let x : five_bits 17 w ≡ rd = omega arith in
    let y : five_bits 12 w ≡ ra = omega arith in
    let z : w / 2 ^ 7 % 4 ≡ mem_number m = omega arith in
    let v : three_bits 9 w ≡ width_number t = omega arith in
    let n : w % 2 ^ 7 ≡ i = omega arith in
    rw (k, x, y, mem_back m (w / 2 ^ 7) z, v, n, width_back t) refl
op_back (Store m t ra rs i) h c _ high w e =
    let s : mem_number m < 4 = mem_small m in
    let st : store_width_number t < 3 = store_width_small t in
    let k : five_bits 22 w ≡ 17 = omega arith in
    let x : five_bits 12 w ≡ ra = omega arith in
    let y : five_bits 7 w ≡ rs = omega arith in
    let z : w / 2 ^ 17 % 4 ≡ mem_number m = omega arith in
    let v : three_bits 19 w ≡ store_width_number t = omega arith in
    let n : w % 2 ^ 7 ≡ i = omega arith in
    rw (k, x, y, mem_back m (w / 2 ^ 17) z, v, n, store_width_back t) refl
op_back (Branch o) h c _ high w e =
    let s : offset_bits o < 2 ^ 22 = offset_small o h in
    let k : five_bits 22 w ≡ 18 = omega arith in
    let n : w % 2 ^ 22 ≡ offset_bits o = omega arith in
    rw (k, n, offset_back o h) refl
op_back (Call t) h c _ high w e =
    let k : five_bits 22 w ≡ 19 = omega arith in
    let n : w % 2 ^ 22 ≡ t = omega arith in
    rw (k, n) refl
op_back (BranchFill t) h c _ high w e =
    let k : five_bits 22 w ≡ 20 = omega arith in
    let n : w % 2 ^ 22 ≡ t = omega arith in
    rw (k, n) refl
op_back Return h c _ high w e =
    let k : five_bits 22 w ≡ 21 = omega arith in
    rw k refl
op_back (AluLong f rd ra constant) h c same high w e =
    let s : alu_func_number f < 11 = alu_func_small f in
    let k : five_bits 22 w ≡ 22 = omega arith in
    let x : five_bits 17 w ≡ rd = omega arith in
    let y : five_bits 12 w ≡ ra = omega arith in
    let n : w % 16 ≡ alu_func_number f = omega arith in
    rw (k, x, y, n, alu_func_back f, same) refl

op_small : (op : Op) → FitsOp op → op_code op < 2 ^ 27
op_small (AluImm f rd ra n) h = omega (arith, imm_func_small f)
op_small (AluReg f rd ra rb) h = omega (arith, alu_func_small f)
op_small (Mul true ra rb) h = omega arith
op_small (Mul false ra rb) h = omega arith
op_small (Cmp f pd ra rb) h = omega (arith, cmp_func_small f)
op_small (CmpImm f pd ra i) h = omega (arith, cmp_func_small f)
op_small (Comb f pd a b) h = omega (arith, pred_func_small f, guard_small a h.1, guard_small b h.2)
op_small (ToSpecial t ra) h = omega (arith, writable_special_small t)
op_small (FromSpecial rd t) h = omega (arith, special_small t)
op_small (Stack f count) h = omega (arith, stack_func_small f)
op_small (Load m t rd ra i) h = omega (arith, mem_small m, width_small t)
op_small (Store m t ra rs i) h = omega (arith, mem_small m, store_width_small t)
op_small (Branch o) h = omega (arith, offset_small o h)
op_small (Call t) h = omega arith
op_small (BranchFill t) h = omega arith
op_small Return h = omega arith
op_small (AluLong f rd ra constant) h = omega (arith, alu_func_small f)

pub instr_small : (i : Instr) → FitsInstr i → instr_code i < 2 ^ 31
instr_small i h = omega (arith, op_small i.op h.1, guard_small i.guard h.0)

-- an instruction's word gives the instruction back
pub instr_back : (i : Instr) → FitsInstr i → (c : ℕ) → HasConstant i.op c → instr_at (instr_code i) c ≡ Some i
instr_back i h c same =
    let s : op_code i.op < 2 ^ 27 = op_small i.op h.1 in
    let t : guard_number i.guard < 16 = guard_small i.guard h.0 in
    let g : instr_code i / 2 ^ 27 % 16 ≡ guard_number i.guard = omega arith in
    let o : op_of (five_bits 22 (instr_code i)) (instr_code i) c ≡ Some i.op =
    op_back i.op h.1 c same (guard_number i.guard) (instr_code i) refl in
    rw (guard_back i.guard h.0 (instr_code i / 2 ^ 27) g, o) (grind (arith, nat_tests))

accepted_taken : (w c : ℕ) (o : Option Op) (g : Guard) → FitsGuard g → IfSome o (λ op. FitsOp op × HasConstant op c) →
    IfSome (accepted w (option_map (λ op. record { guard = g; op = op }) o)) (λ i. FitsInstr i × HasConstant i.op c
    × (instr_code i ≡ w))
accepted_taken w c None g f h = tt
accepted_taken w c (Some op) g f h = search (rules, nat_tests)

-- an instruction that is accepted has the word as its code
pub instr_taken : (w c : ℕ) → c < 2 ^ 32 → IfSome (instr_at w c) (λ i. FitsInstr i × HasConstant i.op c
    × (instr_code i ≡ w))
instr_taken w c h = accepted_taken w c (op_of (five_bits 22 w) w c) (guard_of (w / 2 ^ 27)) (omega arith)
    (op_taken (five_bits 22 w) w c h)
