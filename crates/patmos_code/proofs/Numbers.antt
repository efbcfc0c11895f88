-- Each list holds at the place of a number what has that number, and the numbers fit their fields.
use Rattle.std.proofs.Common.{◌≡◌, ℕ, ◌<◌, ◌%◌, refl, Some, slice_get, slice_index_or, arith}
use Rattle.std.proofs.lemmas.Grind.{common_steps}
use Rattle.patmos_instr.specs.Functions.{imm_func_number, alu_func_number, alu_funcs, cmp_func_number, cmp_funcs, pred_func_number, pred_funcs, stack_func_number, stack_funcs}
use Rattle.patmos_instr.specs.Specials.{special_number, specials, writable_special_number, writable_specials}
use Rattle.patmos_instr.specs.Memories.{mem_number, mems, width_number, widths, store_width_number, store_widths, mem_of}
use Rattle.patmos_instr.specs.declared.functions.ImmFunc.{ImmFunc}
use Rattle.patmos_instr.specs.declared.functions.AluFunc.{AluFunc}
use Rattle.patmos_instr.specs.declared.functions.AluFunc.TheVariants as alu_func
use Rattle.patmos_instr.specs.declared.functions.CmpFunc.{CmpFunc}
use Rattle.patmos_instr.specs.declared.functions.CmpFunc.TheVariants as cmp_func
use Rattle.patmos_instr.specs.declared.functions.PredFunc.{PredFunc}
use Rattle.patmos_instr.specs.declared.functions.PredFunc.TheVariants as pred_func
use Rattle.patmos_instr.specs.declared.functions.StackFunc.{StackFunc}
use Rattle.patmos_instr.specs.declared.functions.StackFunc.TheVariants as stack_func
use Rattle.patmos_instr.specs.declared.specials.Special.{Special}
use Rattle.patmos_instr.specs.declared.specials.Special.TheVariants as special
use Rattle.patmos_instr.specs.declared.specials.WritableSpecial.{WritableSpecial}
use Rattle.patmos_instr.specs.declared.specials.WritableSpecial.TheVariants as writable
use Rattle.patmos_instr.specs.declared.memories.Mem.{Mem}
use Rattle.patmos_instr.specs.declared.memories.Mem.TheVariants as mem
use Rattle.patmos_instr.specs.declared.memories.Width.{Width}
use Rattle.patmos_instr.specs.declared.memories.Width.TheVariants as width
use Rattle.patmos_instr.specs.declared.memories.StoreWidth.{StoreWidth}
use Rattle.patmos_instr.specs.declared.memories.StoreWidth.TheVariants as store_width

pub imm_func_small : (x : ImmFunc) → imm_func_number x < 8
imm_func_small x = grind (arith, common_steps)

pub alu_func_small : (x : AluFunc) → alu_func_number x < 11
alu_func_small x = grind (arith, common_steps)

pub alu_func_back : (x : AluFunc) → slice_get alu_funcs (alu_func_number x) ≡ Some x
alu_func_back x = elim x as (λ y. slice_get alu_funcs (alu_func_number y) ≡ Some y) [ alu_func.Add ↦ refl | _ ↦ refl ]

pub cmp_func_small : (x : CmpFunc) → cmp_func_number x < 7
cmp_func_small x = grind (arith, common_steps)

pub cmp_func_back : (x : CmpFunc) → slice_get cmp_funcs (cmp_func_number x) ≡ Some x
cmp_func_back x = elim x as (λ y. slice_get cmp_funcs (cmp_func_number y) ≡ Some y) [ cmp_func.Eq ↦ refl | _ ↦ refl ]

pub pred_func_small : (x : PredFunc) → pred_func_number x < 3
pred_func_small x = grind (arith, common_steps)

pub pred_func_back : (x : PredFunc) → slice_get pred_funcs (pred_func_number x) ≡ Some x
pred_func_back x =
    elim x as (λ y. slice_get pred_funcs (pred_func_number y) ≡ Some y) [ pred_func.Por ↦ refl | _ ↦ refl ]

pub stack_func_small : (x : StackFunc) → stack_func_number x < 3
stack_func_small x = grind (arith, common_steps)

pub stack_func_back : (x : StackFunc) → slice_get stack_funcs (stack_func_number x) ≡ Some x
stack_func_back x =
    elim x as (λ y. slice_get stack_funcs (stack_func_number y) ≡ Some y) [ stack_func.Sres ↦ refl | _ ↦ refl ]

pub special_small : (x : Special) → special_number x < 7
special_small x = grind (arith, common_steps)

pub special_back : (x : Special) → slice_get specials (special_number x) ≡ Some x
special_back x = elim x as (λ y. slice_get specials (special_number y) ≡ Some y) [ special.S0 ↦ refl | _ ↦ refl ]

pub writable_special_small : (x : WritableSpecial) → writable_special_number x < 5
writable_special_small x = grind (arith, common_steps)

pub writable_special_back : (x : WritableSpecial) → slice_get writable_specials (writable_special_number x) ≡ Some x
writable_special_back x =
    elim x as (λ y. slice_get writable_specials (writable_special_number y) ≡ Some y) [ writable.S0 ↦ refl | _ ↦ refl ]

pub mem_small : (x : Mem) → mem_number x < 4
mem_small x = grind (arith, common_steps)

mem_named : (x : Mem) → slice_index_or mems (mem_number x) mem.S ≡ x
mem_named x = elim x as (λ y. slice_index_or mems (mem_number y) mem.S ≡ y) [ mem.S ↦ refl | _ ↦ refl ]

pub mem_back : (x : Mem) (n : ℕ) → n % 4 ≡ mem_number x → mem_of n ≡ x
mem_back x n e = rw e (mem_named x)

pub width_small : (x : Width) → width_number x < 5
width_small x = grind (arith, common_steps)

pub width_back : (x : Width) → slice_get widths (width_number x) ≡ Some x
width_back x = elim x as (λ y. slice_get widths (width_number y) ≡ Some y) [ width.Word ↦ refl | _ ↦ refl ]

pub store_width_small : (x : StoreWidth) → store_width_number x < 3
store_width_small x = grind (arith, common_steps)

pub store_width_back : (x : StoreWidth) → slice_get store_widths (store_width_number x) ≡ Some x
store_width_back x =
    elim x as (λ y. slice_get store_widths (store_width_number y) ≡ Some y) [ store_width.Word ↦ refl | _ ↦ refl ]
