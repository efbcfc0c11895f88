-- What the code of operators and accesses leaves in a register.
use Rattle.std.proofs.lemmas.Bool.{and_parts, leb-true, cases_lt, le-leb, lt-leb, lt-ltb, le-ltb, ltb-true}
use Rattle.std.proofs.Common.{◌⊎◌, inl, inr, ◌≡◌, ℕ, ◌+◌, ◌-◌, ◌*◌, ◌/◌, ◌%◌, ◌^◌, ◌<◌, ◌≤◌, ◌==◌, Bool, true, false, not, if◌then◌else◌, List, refl, ap, ◌∙◌, arith, bit_or, nat_lt, [], ◌∷◌, ap₂}
use Rattle.std.specs.Prelude.{nat_le}
use Rattle.std.specs.Int.Bits.{or_zero_r}
use Rattle.patmos_instr.specs.declared.guards.Guard.{Guard}
use Rattle.patmos_instr.specs.declared.functions.AluFunc.{AluFunc}
use Rattle.patmos_instr.specs.declared.functions.AluFunc.TheVariants as alu
use Rattle.patmos_instr.specs.declared.functions.CmpFunc.{CmpFunc}
use Rattle.patmos_instr.specs.declared.functions.CmpFunc.TheVariants as cmp
use Rattle.patmos_instr.specs.declared.functions.ImmFunc.{ImmFunc}
use Rattle.patmos_instr.specs.declared.functions.ImmFunc.TheVariants as imm
use Rattle.patmos_instr.specs.declared.functions.PredFunc.{PredFunc}
use Rattle.patmos_instr.specs.declared.instructions.Op.TheVariants.{AluImm, AluReg, AluLong, Cmp, CmpImm, Comb, FromSpecial}
use Rattle.patmos_instr.specs.declared.memories.Mem.{Mem}
use Rattle.patmos_instr.specs.declared.memories.Mem.TheVariants as mem
use Rattle.patmos_instr.specs.declared.specials.Special.TheVariants as special
use Rattle.tc_word.specs.Word.{product, low_word, high_word}
use Rattle.patmos_sem.specs.Effects.{address_of as address_by}
use Rattle.patmos_sem.specs.Operations.{alu_of, alu_value, compare_value, pred_value}
use Rattle.patmos_sem.specs.Registers.{holds}
use Rattle.patmos_sem.specs.declared.writes.Write.TheVariants as write
use Rattle.c_world.specs.Numbers.{flag, is_true}
use Rattle.c_world.specs.Shown.{room_in}
use Rattle.c_world.specs.World.{World}
use Rattle.sp_tree.specs.Formed.{all_rooms, first_of, cell_formed}
use Rattle.sp_tree.specs.Values.{cell_value}
use Rattle.sp_tree.specs.declared.expressions.SpCell.{SpCell}
use Rattle.sp_tree.specs.Operators.{unary_value}
use Rattle.sp_tree.specs.declared.operators.SpBinary.TheVariants as binary
use Rattle.sp_tree.specs.declared.operators.SpUnary.{SpUnary}
use Rattle.sp_tree.specs.declared.operators.SpUnary.TheVariants as unary
use Rattle.sp_shape.specs.Run.{Run, Sources, by_words, word_given, first_load, once, run, IsWhole}
use Rattle.sp_shape.specs.Trail.{Step, all_done, parts_trail}
use Rattle.sp_emit.specs.Expressions.{truth_of, truth_to, unary_code, binary_code, computed, both_code, compared_code, held_compared, address_of, cell_space, cell_code, held_computed}
use Rattle.sp_emit.specs.Holding.{held, so}
use Rattle.sp_emit.specs.Instructions.{always, where_so, set_long, set_short, with_short, compute, compare, compare_short, combine, from_special, load_from, load_slot, set_number, under}
use Rattle.sp_emit.specs.Means.{HasWords}
use Rattle.sp_emit.specs.declared.registers.TheConstants.{TEST, SECOND}
use Rattle.sp_emit.proofs.Cells.{cell_given, first_small}
use Rattle.sp_emit.proofs.Once.{with_written, loaded, did_write, did_nothing, did_multiply, did_load, whole_written, got, kept_by_pred, so_got, so_kept, so_by_register}
use Rattle.sp_emit.proofs.Numbers.{number_op_is}

-- ---- one bundle

pub did_compute : (from : Sources) (func : AluFunc) (rd ra rb : ℕ) (m : Run) → IsWhole m
    → once from (compute always func rd ra rb) m
    ≡ with_written (write.Register rd (alu_value func (held ra m) (held rb m))) m
did_compute from func rd ra rb m whole =
    did_write from always (AluReg func rd ra rb) m whole whole.fits.always refl refl

pub did_compare : (from : Sources) (func : CmpFunc) (pd ra rb : ℕ) (m : Run) → IsWhole m
    → once from (compare func pd ra rb) m
    ≡ with_written (write.Predicate pd (compare_value func (held ra m) (held rb m))) m
did_compare from func pd ra rb m whole = did_write from always (Cmp func pd ra rb) m whole whole.fits.always refl refl

pub did_compare_short : (from : Sources) (func : CmpFunc) (pd ra n : ℕ) (m : Run) → IsWhole m
    → once from (compare_short func pd ra n) m ≡ with_written (write.Predicate pd (compare_value func (held ra m) n)) m
did_compare_short from func pd ra n m whole =
    did_write from always (CmpImm func pd ra n) m whole whole.fits.always refl refl

pub did_combine : (from : Sources) (func : PredFunc) (pd a b : ℕ) (m : Run) → IsWhole m
    → once from (combine func pd a b) m ≡ with_written (write.Predicate pd (pred_value func (so a m) (so b m))) m
did_combine from func pd a b m whole =
    did_write from always (Comb func pd (where_so a) (where_so b)) m whole whole.fits.always refl refl

pub did_with_short : (from : Sources) (func : ImmFunc) (rd ra n : ℕ) (m : Run) → IsWhole m
    → once from (with_short always func rd ra n) m
    ≡ with_written (write.Register rd (alu_value (alu_of func) (held ra m) n)) m
did_with_short from func rd ra n m whole =
    did_write from always (AluImm func rd ra n) m whole whole.fits.always refl refl

pub did_set_short : (from : Sources) (g : Guard) (rd n : ℕ) (m : Run) → IsWhole m → holds m.regs g ≡ true
    → once from (set_short g rd n) m ≡ with_written (write.Register rd ((0 + n) % 2 ^ 32)) m
did_set_short from g rd n m whole on =
    did_write from g (AluImm imm.Add rd 0 n) m whole on refl refl
    ∙ ap (λ z. with_written (write.Register rd ((z + n) % 2 ^ 32)) m) whole.fits.zero

pub did_set_long : (from : Sources) (rd n : ℕ) (m : Run) → IsWhole m → once from (set_long rd n) m
    ≡ with_written (write.Register rd ((0 + n) % 2 ^ 32)) m
did_set_long from rd n m whole =
    did_write from always (AluLong alu.Add rd 0 n) m whole whole.fits.always refl refl
    ∙ ap (λ z. with_written (write.Register rd ((z + n) % 2 ^ 32)) m) whole.fits.zero

pub did_set_number : (from : Sources) (rd n : ℕ) (m : Run) → IsWhole m → once from (set_number rd n) m
    ≡ with_written (write.Register rd ((0 + n) % 2 ^ 32)) m
did_set_number from rd n m whole =
    number_op_is (λ op. once from (under always op) m ≡ with_written (write.Register rd ((0 + n) % 2 ^ 32)) m) rd n
    (did_set_short from always rd n m whole whole.fits.always) (did_set_long from rd n m whole)

-- ---- truths

-- the truth of a predicate stands in the register then
pub truth_leaves : (from : Sources) (p rd : ℕ) (b : Bool) (m : Run) → IsWhole m → 1 ≤ rd → rd < 32 → p < 8 → so p m ≡ b
    → held rd (run from (all_done (truth_of p rd)) m) ≡ flag b
truth_leaves from p rd b m whole some few pred test =
    let zero = with_written (write.Register rd 0) m in
    ap (λ t. held rd (once from (set_short (where_so p) rd 1) t))
    (did_set_short from always rd 0 m whole whole.fits.always)
    ∙ by b (so_by_register rd 0 p m whole pred ∙ test)
  where
    by : (b : Bool) → so p (with_written (write.Register rd 0) m) ≡ b → held rd (once from (set_short (where_so p) rd 1)
        (with_written (write.Register rd 0) m)) ≡ flag b
    by true on =
        let zeroed = whole_written (write.Register rd 0) m whole in
        ap (held rd) (did_set_short from (where_so p) rd 1 (with_written (write.Register rd 0) m) zeroed on)
        ∙ got rd 1 (with_written (write.Register rd 0) m) zeroed some few
    by false off =
        let zeroed = whole_written (write.Register rd 0) m whole in
        ap (held rd) (did_nothing from (where_so p) (AluImm imm.Add rd 0 1) (with_written (write.Register rd 0) m)
        zeroed off) ∙ got rd 0 m whole some few

-- a test, and its truth
pub compared_leaves : (from : Sources) (func : CmpFunc) (rd ra rb : ℕ) (m : Run) → IsWhole m → 1 ≤ rd → rd < 32
    → held rd (run from (all_done (compared_code func rd ra rb)) m) ≡ flag (compare_value func (held ra m) (held rb m))
compared_leaves from func rd ra rb m whole some few =
    let b = compare_value func (held ra m) (held rb m) in
    ap (λ t. held rd (run from (all_done (truth_to rd)) t)) (did_compare from func TEST ra rb m whole)
    ∙ truth_leaves from TEST rd b (with_written (write.Predicate TEST b) m) (whole_written (write.Predicate TEST b) m
    whole) some few (omega arith) (so_got TEST b m whole (omega arith) (omega arith))

pub held_compared_leaves : (from : Sources) (func : CmpFunc) (rd ra n : ℕ) (m : Run) → IsWhole m → 1 ≤ rd → rd < 32
    → held rd (run from (all_done (held_compared func rd ra n)) m) ≡ flag (compare_value func (held ra m) n)
held_compared_leaves from func rd ra n m whole some few =
    let b = compare_value func (held ra m) n in
    ap (λ t. held rd (run from (all_done (truth_to rd)) t)) (did_compare_short from func TEST ra n m whole)
    ∙ truth_leaves from TEST rd b (with_written (write.Predicate TEST b) m) (whole_written (write.Predicate TEST b) m
    whole) some few (omega arith) (so_got TEST b m whole (omega arith) (omega arith))

-- two tests, which are joined
abbrev pub both_seen : PredFunc → ℕ → ℕ → Run → Bool
both_seen func ra rb m = pred_value func (is_true (held ra m)) (is_true (held rb m))

abbrev pub with_both : PredFunc → ℕ → ℕ → Run → Run
with_both func ra rb m = with_written (write.Predicate TEST (both_seen func ra rb m))
    (with_written (write.Predicate SECOND (is_true (held rb m)))
    (with_written (write.Predicate TEST (is_true (held ra m))) m))

pub both_tested : (from : Sources) (func : PredFunc) (ra rb : ℕ) (m : Run) → IsWhole m → rb < 32
    → run from (all_done (compare_short cmp.Neq TEST ra 0 ∷ compare_short cmp.Neq SECOND rb 0
    ∷ combine func TEST TEST SECOND ∷ [])) m ≡ with_both func ra rb m
both_tested from func ra rb m whole second =
    let a = is_true (held ra m) in
    let b = is_true (held rb m) in
    let one = with_written (write.Predicate TEST a) m in
    let two = with_written (write.Predicate SECOND b) one in
    let whole_one = whole_written (write.Predicate TEST a) m whole in
    let test : so TEST two ≡ a = so_kept SECOND b TEST one whole_one (omega arith) (λ same. absurd
    (omega (arith, same))) ∙ so_got TEST a m whole (omega arith) (omega arith) in
    let other : so SECOND two ≡ b = so_got SECOND b one whole_one (omega arith) (omega arith) in
    ap (λ t. once from (combine func TEST TEST SECOND) (once from (compare_short cmp.Neq SECOND rb 0) t))
    (did_compare_short from cmp.Neq TEST ra 0 m whole)
    ∙ ap (once from (combine func TEST TEST SECOND)) (did_compare_short from cmp.Neq SECOND rb 0 one whole_one
    ∙ ap (λ x. with_written (write.Predicate SECOND (is_true x)) one) (kept_by_pred TEST a rb m whole second))
    ∙ did_combine from func TEST TEST SECOND two (whole_written (write.Predicate SECOND b) one whole_one)
    ∙ ap₂ (λ x y. with_written (write.Predicate TEST (pred_value func x y)) two) test other

both_tested_whole : (func : PredFunc) (ra rb : ℕ) (m : Run) → IsWhole m → IsWhole (with_both func ra rb m)
both_tested_whole func ra rb m whole =
    let one = with_written (write.Predicate TEST (is_true (held ra m))) m in
    let two = with_written (write.Predicate SECOND (is_true (held rb m))) one in
    whole_written (write.Predicate TEST (both_seen func ra rb m)) two
    (whole_written (write.Predicate SECOND (is_true (held rb m))) one
    (whole_written (write.Predicate TEST (is_true (held ra m))) m whole))

pub both_told : (func : PredFunc) (ra rb : ℕ) (m : Run) → IsWhole m → so TEST (with_both func ra rb m)
    ≡ both_seen func ra rb m
both_told func ra rb m whole =
    let one = with_written (write.Predicate TEST (is_true (held ra m))) m in
    let two = with_written (write.Predicate SECOND (is_true (held rb m))) one in
    so_got TEST (both_seen func ra rb m) two (whole_written (write.Predicate SECOND (is_true (held rb m))) one
    (whole_written (write.Predicate TEST (is_true (held ra m))) m whole)) (omega arith) (omega arith)

-- and the truth of what they come to
pub both_leaves : (from : Sources) (func : PredFunc) (rd ra rb : ℕ) (m : Run) → IsWhole m → 1 ≤ rd → rd < 32 → rb < 32
    → held rd (run from (all_done (both_code func rd ra rb)) m) ≡ flag (pred_value func (is_true (held ra m))
    (is_true (held rb m)))
both_leaves from func rd ra rb m whole some few second =
    ap (λ t. held rd (run from (all_done (truth_to rd)) t)) (both_tested from func ra rb m whole second)
    ∙ truth_leaves from TEST rd (both_seen func ra rb m) (with_both func ra rb m) (both_tested_whole func ra rb m whole)
    some few (omega arith) (both_told func ra rb m whole)

-- ---- operators on one word

not_not : (b : Bool) → flag b ≡ flag (not (not b))
not_not true = refl
not_not false = refl

pub unary_leaves : (from : Sources) (op : SpUnary) (rd ra : ℕ) (m : Run) → IsWhole m → 1 ≤ rd → rd < 32
    → held rd (run from (all_done (unary_code op rd ra)) m) ≡ unary_value op (held ra m)
unary_leaves from unary.Minus rd ra m whole some few =
    ap (held rd) (did_compute from alu.Sub rd 0 ra m whole) ∙ got rd _ m whole some few
    ∙ ap (λ z. (z + (2 ^ 32 - held ra m)) % 2 ^ 32) whole.fits.zero
unary_leaves from unary.Complement rd ra m whole some few =
    ap (held rd) (did_compute from alu.Nor rd ra 0 m whole) ∙ got rd _ m whole some few
    ∙ ap (λ z. 2 ^ 32 - 1 - bit_or (held ra m) z) whole.fits.zero ∙ ap (λ z. 2 ^ 32 - 1 - z) (or_zero_r (held ra m))
unary_leaves from unary.Not rd ra m whole some few =
    held_compared_leaves from cmp.Eq rd ra 0 m whole some few ∙ not_not (held ra m == 0)

-- ---- operators on two words

pub computed_leaves : (from : Sources) (f : ℕ → List Step) (func : AluFunc) (rd ra rb : ℕ) (m : Run) → IsWhole m
    → 1 ≤ rd → rd < 32
    → held rd (run from (parts_trail f (computed func rd ra rb)) m) ≡ alu_value func (held ra m) (held rb m)
computed_leaves from f func rd ra rb m whole some few =
    ap (held rd) (did_compute from func rd ra rb m whole) ∙ got rd _ m whole some few

-- a product is fetched from its register
pub times_leaves : (from : Sources) (f : ℕ → List Step) (rd ra rb : ℕ) (m : Run) → IsWhole m → 1 ≤ rd → rd < 32
    → held rd (run from (parts_trail f (binary_code binary.Times rd ra rb)) m)
    ≡ low_word (product (held ra m) (held rb m))
times_leaves from f rd ra rb m whole some few =
    let n = product (held ra m) (held rb m) in
    let w = write.Product (low_word n) (high_word n) in
    ap (λ t. held rd (once from (from_special rd special.Sl) t)) (did_multiply from always false ra rb m whole
    whole.fits.always)
    ∙ ap (held rd) (did_write from always (FromSpecial rd special.Sl) (with_written w m) (whole_written w m whole)
    (whole_written w m whole).fits.always refl refl)
    ∙ got rd (low_word n) (with_written w m) (whole_written w m whole) some few

pub not_lt : (a b : ℕ) → nat_le a b ≡ not (nat_lt b a)
not_lt a b = by (cases_lt b a)
  where
    by : (b < a) ⊎ (a ≤ b) → nat_le a b ≡ not (nat_lt b a)
    by (inl less) = rw (lt-leb a b less, lt-ltb b a less) refl
    by (inr more) = rw (le-leb a b more, le-ltb b a more) refl

pub held_computed_leaves : (from : Sources) (func : ImmFunc) (rd ra n : ℕ) (m : Run) → IsWhole m → 1 ≤ rd → rd < 32
    → held rd (run from (all_done (held_computed func rd ra n)) m) ≡ alu_value (alu_of func) (held ra m) n
held_computed_leaves from func rd ra n m whole some few =
    ap (held rd) (did_with_short from func rd ra n m whole) ∙ got rd _ m whole some few

-- ---- accesses

-- what is held after a load, in its register and in others
loaded_got : (from : Sources) (space : Mem) (rd address : ℕ) (m : Run) → IsWhole m → 1 ≤ rd → rd < 32
    → held rd (loaded from space rd address m) ≡ word_given from space address m
loaded_got from space rd address m whole some few = got rd (word_given from space address m) m whole some few

pub constant_leaves : (from : Sources) (rd n : ℕ) (m : Run) → IsWhole m → 1 ≤ rd → rd < 32 → n < 2 ^ 32
    → held rd (once from (set_long rd n) m) ≡ n
constant_leaves from rd n m whole some few word =
    ap (held rd) (did_set_long from rd n m whole) ∙ got rd _ m whole some few ∙ omega (arith, word)

pub number_leaves : (from : Sources) (rd n : ℕ) (m : Run) → IsWhole m → 1 ≤ rd → rd < 32 → n < 2 ^ 32
    → held rd (once from (set_number rd n) m) ≡ n
number_leaves from rd n m whole some few word =
    ap (held rd) (did_set_number from rd n m whole) ∙ got rd _ m whole some few ∙ omega (arith, word)

-- a word of the frame
pub slot_leaves : (from : Sources) (rd slot : ℕ) (m : Run) → from.stack ≡ true → IsWhole m → 1 ≤ rd → rd < 32
    → slot < 128 → held rd (once from (load_slot rd slot) m) ≡ m.stack (m.st + slot)
slot_leaves from rd slot m told whole some few named =
    ap (held rd) (did_load from always mem.S rd 0 slot m whole whole.fits.always)
    ∙ loaded_got from mem.S rd (address_by (held 0 m) slot 4) m whole some few
    ∙ ap (λ b. if b then m.stack (m.st + address_by (held 0 m) slot 4 / 4) else first_load m.loads) told
    ∙ ap (λ z. m.stack (m.st + address_by z slot 4 / 4)) whole.fits.zero
    ∙ ap (λ n. m.stack (m.st + n)) (let e : (0 + slot * 4) % 2 ^ 32 / 4 ≡ slot = omega (arith, named) in e)

-- a load at the address that the register holds
pub at_address : (from : Sources) (space : Mem) (rd address : ℕ) (m : Run) → IsWhole m → 1 ≤ rd → rd < 32
    → address < 2 ^ 32 → held rd m ≡ address
    → held rd (once from (load_from space rd rd 0) m) ≡ word_given from space address m
at_address from space rd address m whole some few small holds_it =
    ap (held rd) (did_load from always space rd rd 0 m whole whole.fits.always)
    ∙ loaded_got from space rd (address_by (held rd m) 0 4) m whole some few
    ∙ ap (λ a. word_given from space (address_by a 0 4) m) holds_it
    ∙ ap (λ a. word_given from space a m) (let e : (address + 0 * 4) % 2 ^ 32 ≡ address = omega (arith, small) in e)

-- a variable
pub cell_leaves : (c : SpCell) (rd : ℕ) (w : World) (m : Run) → IsWhole m → 1 ≤ rd → rd < 32 → cell_formed c ≡ true
    → HasWords w m.memory
    → held rd (run by_words (all_done (cell_code c rd)) m) ≡ cell_value c w
cell_leaves c rd w m whole some few formed shows =
    let parts = and_parts (nat_le (first_of c.region) c.word) (nat_lt c.word (room_in c.region all_rooms)) formed in
    let lies = ltb-true c.word (room_in c.region all_rooms) parts.1 in
    let at = address_of c.region c.word in
    let small = first_small c.region c.word (omega (arith, lies)) in
    let v = (0 + at) % 2 ^ 32 in
    let n = with_written (write.Register rd v) m in
    ap (λ t. held rd (once by_words (load_from (cell_space c.region) rd rd 0) t))
    (did_set_number by_words rd at m whole)
    ∙ at_address by_words (cell_space c.region) rd at n (whole_written (write.Register rd v) m whole) some few small
    (got rd v m whole some few ∙ omega (arith, small))
    ∙ cell_given c.region c.word w n shows (leb-true (first_of c.region) c.word parts.0) lies
