-- To be believed. What an instruction reads and writes of the general registers and of the predicates
-- (Patmos Reference Handbook, instruction set).
use Rattle.std.specs.Prelude.{ℕ, ◌==◌, Bool, true, false, not, ◌&&◌, List, [], ◌∷◌}
use Rattle.std.specs.List.{list_all}
use Rattle.patmos_instr.specs.declared.instructions.Instr.{Instr}
use Rattle.patmos_instr.specs.declared.instructions.Op.{Op}
use Rattle.patmos_instr.specs.declared.instructions.Op.TheVariants.{AluImm, AluReg, AluLong, Mul, Cmp, CmpImm, Comb, ToSpecial, FromSpecial, Load, Store}
use Rattle.patmos_instr.specs.declared.specials.Special.TheVariants as read_special
use Rattle.patmos_instr.specs.declared.specials.WritableSpecial.TheVariants as special

-- ---- what is named

-- the numbers of all predicates
abbrev pub all_preds : List ℕ
all_preds = 0 ∷ 1 ∷ 2 ∷ 3 ∷ 4 ∷ 5 ∷ 6 ∷ 7 ∷ []

-- the general registers that it reads
abbrev pub reads : Op → List ℕ
reads (AluImm func rd ra imm) = ra ∷ []
reads (AluReg func rd ra rb) = ra ∷ rb ∷ []
reads (AluLong func rd ra constant) = ra ∷ []
reads (Mul unsigned ra rb) = ra ∷ rb ∷ []
reads (Cmp func pd ra rb) = ra ∷ rb ∷ []
reads (CmpImm func pd ra imm) = ra ∷ []
reads (ToSpecial to ra) = ra ∷ []
reads (Load space width rd ra imm) = ra ∷ []
reads (Store space width ra rs imm) = ra ∷ rs ∷ []
reads _ = []

-- the predicates that it reads
abbrev pub op_tests : Op → List ℕ
op_tests (Comb func pd a b) = a.pred ∷ b.pred ∷ []
op_tests (FromSpecial rd read_special.S0) = all_preds
op_tests _ = []

-- and with its guard
abbrev pub tests : Instr → List ℕ
tests i = i.guard.pred ∷ op_tests i.op

-- the general registers that it writes
abbrev pub results : Op → List ℕ
results (AluImm func rd ra imm) = rd ∷ []
results (AluReg func rd ra rb) = rd ∷ []
results (AluLong func rd ra constant) = rd ∷ []
results (FromSpecial rd from) = rd ∷ []
results (Load space width rd ra imm) = rd ∷ []
results _ = []

-- the predicates that it writes
abbrev pub flags : Op → List ℕ
flags (Cmp func pd ra rb) = pd ∷ []
flags (CmpImm func pd ra imm) = pd ∷ []
flags (Comb func pd a b) = pd ∷ []
flags (ToSpecial special.S0 ra) = all_preds
flags _ = []

-- ---- apart from one another

-- a number is not in a list, and none of a list
abbrev pub lacks : List ℕ → ℕ → Bool
lacks [] n = true
lacks (x ∷ xs) n = not (x == n) && lacks xs n

abbrev pub apart : List ℕ → List ℕ → Bool
apart xs ys = list_all (lacks xs) ys

-- it writes none of these predicates. A write of s0 writes all, whatever the list is
abbrev pub spares : Op → List ℕ → Bool
spares (ToSpecial special.S0 ra) ps = false
spares op ps = apart (flags op) ps
