-- Bundles whose fields are in range, by a test.
use Rattle.std.proofs.Common.{◌≡◌, ℕ, ◌<◌, Bool, true, false, true≢false, Option, Some, None, IfSome, List, [], ◌∷◌, sym, ◌^◌}
use Rattle.std.specs.Prelude.{◌&&◌, nat_lt}
use Rattle.std.specs.List.{All, list_all}
use Rattle.std.proofs.lemmas.Bool.{and_parts, ltb-true}
use Rattle.std.proofs.lemmas.List.Elements.{All-nil, All-cons}
use Rattle.patmos_instr.specs.Bundles.{PlainBundle, is_legal, FitsBundle}
use Rattle.patmos_instr.specs.Instructions.{FitsOp, FitsInstr}
use Rattle.patmos_instr.specs.declared.instructions.Instr.{Instr}
use Rattle.patmos_instr.specs.declared.instructions.Op.{Op}
use Rattle.patmos_instr.specs.declared.instructions.Op.TheVariants.{AluImm, AluReg, AluLong, Cmp, CmpImm, Comb, ToSpecial, FromSpecial, Stack, Load, Store, Return}

-- the fields of an operation, but of a product or a flow with a place
abbrev is_op_fit : Op → Bool
is_op_fit (AluImm func rd ra imm) = nat_lt rd 32 && (nat_lt ra 32 && nat_lt imm 4096)
is_op_fit (AluReg func rd ra rb) = nat_lt rd 32 && (nat_lt ra 32 && nat_lt rb 32)
is_op_fit (AluLong func rd ra constant) = nat_lt rd 32 && (nat_lt ra 32 && nat_lt constant (2 ^ 32))
is_op_fit (Cmp func pd ra rb) = nat_lt pd 8 && (nat_lt ra 32 && nat_lt rb 32)
is_op_fit (CmpImm func pd ra imm) = nat_lt pd 8 && (nat_lt ra 32 && nat_lt imm 32)
is_op_fit (Comb func pd a b) = nat_lt pd 8 && (nat_lt a.pred 8 && nat_lt b.pred 8)
is_op_fit (ToSpecial to ra) = nat_lt ra 32
is_op_fit (FromSpecial rd from) = nat_lt rd 32
is_op_fit (Stack func count) = nat_lt count 4096
is_op_fit (Load space width rd ra imm) = nat_lt rd 32 && (nat_lt ra 32 && nat_lt imm 128)
is_op_fit (Store space width ra rs imm) = nat_lt ra 32 && (nat_lt rs 32 && nat_lt imm 128)
is_op_fit Return = true
is_op_fit _ = false

abbrev is_instr_fit : Instr → Bool
is_instr_fit i = nat_lt i.guard.pred 8 && is_op_fit i.op

abbrev is_second_fit : Option Instr → Bool
is_second_fit None = true
is_second_fit (Some i) = is_instr_fit i

abbrev pub is_fit : PlainBundle → Bool
is_fit b = is_legal b.first b.second && (is_instr_fit b.first && is_second_fit b.second)

-- what passes is in range
three : (a b c x y z : ℕ) → (nat_lt a x && (nat_lt b y && nat_lt c z)) ≡ true → (a < x) × (b < y) × (c < z)
three a b c x y z h =
    let one = and_parts (nat_lt a x) (nat_lt b y && nat_lt c z) h in
    let two = and_parts (nat_lt b y) (nat_lt c z) one.1 in
    (ltb-true a x one.0, ltb-true b y two.0, ltb-true c z two.1)

op_fits : (op : Op) → is_op_fit op ≡ true → FitsOp op
op_fits (AluImm func rd ra imm) h = three rd ra imm 32 32 4096 h
op_fits (AluReg func rd ra rb) h = three rd ra rb 32 32 32 h
op_fits (AluLong func rd ra constant) h = three rd ra constant 32 32 (2 ^ 32) h
op_fits (Cmp func pd ra rb) h = three pd ra rb 8 32 32 h
op_fits (CmpImm func pd ra imm) h = three pd ra imm 8 32 32 h
op_fits (Comb func pd a b) h = three pd a.pred b.pred 8 8 8 h
op_fits (ToSpecial to ra) h = ltb-true ra 32 h
op_fits (FromSpecial rd from) h = ltb-true rd 32 h
op_fits (Stack func count) h = ltb-true count 4096 h
op_fits (Load space width rd ra imm) h = three rd ra imm 32 32 128 h
op_fits (Store space width ra rs imm) h = three ra rs imm 32 32 128 h
op_fits Return h = tt
op_fits _ h = absurd (true≢false (sym h))

instr_fits : (i : Instr) → is_instr_fit i ≡ true → FitsInstr i
instr_fits i h = let both = and_parts (nat_lt i.guard.pred 8) (is_op_fit i.op) h in (
  ltb-true i.guard.pred 8 both.0,
  op_fits i.op both.1,
)

second_fits : (o : Option Instr) → is_second_fit o ≡ true → IfSome o FitsInstr
second_fits None h = tt
second_fits (Some i) h = instr_fits i h

pub all_fit : (bs : List PlainBundle) → list_all is_fit bs ≡ true → All FitsBundle bs
all_fit [] h = All-nil FitsBundle
all_fit (b ∷ bs) h =
    let both = and_parts (is_fit b) (list_all is_fit bs) h in
    let one = and_parts (is_legal b.first b.second) (is_instr_fit b.first && is_second_fit b.second) both.0 in
    let two = and_parts (is_instr_fit b.first) (is_second_fit b.second) one.1 in
    All-cons FitsBundle b bs (record {
      legal = one.0;
      first = instr_fits b.first two.0;
      second = second_fits b.second
          two.1;
    }) (all_fit bs both.1)
