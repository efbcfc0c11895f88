-- The pieces of code that bodies are made of keep to a footprint that has what each of them names.
use Rattle.std.proofs.Common.{◌≡◌, ℕ, ◌<◌, ◌+◌, true, false, List, refl, arith}
use Rattle.std.specs.Prelude.{is_none}
use Rattle.std.proofs.lemmas.Bool.{and_parts, and_from, ltb-true, eqb-true}
use Rattle.patmos_instr.specs.Bundles.{PlainBundle}
use Rattle.patmos_instr.specs.declared.guards.Guard.{Guard}
use Rattle.patmos_instr.specs.declared.instructions.Op.{Op}
use Rattle.patmos_instr.specs.declared.instructions.Op.TheVariants.{AluImm, AluReg, AluLong, Cmp, CmpImm, Comb}
use Rattle.sp_tree.specs.declared.expressions.SpArray.{SpArray}
use Rattle.sp_tree.specs.declared.expressions.SpCell.{SpCell}
use Rattle.sp_tree.specs.declared.operators.SpBinary.{SpBinary}
use Rattle.sp_tree.specs.declared.operators.SpUnary.{SpUnary}
use Rattle.sp_shape.proofs.Lists.{all_weaker}
use Rattle.sp_emit.specs.Division.{operands, without_signs, highest_bit, digit_tail, unsigned_quotient_to, unsigned_rest_to, signed_quotient_to, signed_rest_to}
use Rattle.sp_emit.specs.Divisors.{factor_rest_to}
use Rattle.sp_emit.specs.Expressions.{address_of, unary_code, held_code, cell_code, element_code, word_code}
use Rattle.sp_emit.specs.Instructions.{always, under, idle, set_number}
use Rattle.sp_emit.specs.Places.{flag_of, in_register, stack_word, fetched_at, read_word, fetch_word, keep_word, set_word, seek_word, match_word, mask_test}
use Rattle.sp_emit.specs.Statements.{cell_write, element_write, send_code, overrun_code, iterations_begin, iterations_tail, call_tail, mask_handed}
use Rattle.sp_emit.specs.Truths.{bit_sought}
use Rattle.sp_emit.specs.declared.registers.TheConstants.{MASK, FIRST, TEST, SECOND, MORE, SPARE, DIVIDEND, DIVISOR, REMAINDER, DIGITS, OVERRUN, FLAGS}
use Rattle.sp_emit.specs.declared.stands.Homes.{Homes}
use Rattle.sp_emit.proofs.Effects.{Footprint, is_in, AreIn, keeps_to}
use Rattle.sp_emit.proofs.FlagWords.{seek_is, match_is, handed_is}
use Rattle.sp_emit.proofs.Held.{held_is}
use Rattle.sp_emit.proofs.Lasts.{is_alu}
use Rattle.sp_emit.proofs.Numbers.{number_op_is}
use Rattle.sp_emit.proofs.Offsets.{AddressAre, address_are}
use Rattle.sp_emit.proofs.Operands.{word_code_is}
use Rattle.sp_emit.proofs.TruthCode.{is_test_op, is_test_bundle, AreTests}
use Rattle.sp_emit.proofs.WordPlaces.{read_is, fetch_is, keep_is, set_op_is}

module _ (F : Footprint) where
  pub test : F.tells TEST ≡ true
  test = F.passing TEST (omega arith)

  pub second : F.tells SECOND ≡ true
  second = F.passing SECOND (omega arith)

  more : F.tells MORE ≡ true
  more = F.passing MORE (omega arith)

  spared : F.sets SPARE ≡ true
  spared = F.spare SPARE (omega arith)

  dividend : F.sets DIVIDEND ≡ true
  dividend = F.spare DIVIDEND (omega arith)

  divisor : F.sets DIVISOR ≡ true
  divisor = F.spare DIVISOR (omega arith)

  remainder : F.sets REMAINDER ≡ true
  remainder = F.spare REMAINDER (omega arith)

  left : F.sets DIGITS ≡ true
  left = F.spare DIGITS (omega arith)

  idle_in : is_in F idle ≡ true
  idle_in = rw (F.zero) refl

  pub tests_in : (bs : List PlainBundle) → AreTests bs → AreIn F bs
  tests_in bs tests = all_weaker is_test_bundle (is_in F) one bs tests
    where
      by : (g : Guard) (op : Op) → is_test_op op ≡ true → keeps_to F g op ≡ true
      by g (Cmp func pd ra rb) is = F.passing pd (ltb-true pd FLAGS is)
      by g (CmpImm func pd ra n) is = F.passing pd (ltb-true pd FLAGS is)
      by g (Comb func pd a b) is = F.passing pd (ltb-true pd FLAGS is)
      by g _ is = absurd cc

      one : (b : PlainBundle) → is_test_bundle b ≡ true → is_in F b ≡ true
      one b is = let both = and_parts (is_test_op b.first.op) (is_none b.second) is in
          and_from (keeps_to F b.first.guard b.first.op) (is_none b.second) (by b.first.guard b.first.op both.0) both.1

  -- an instruction that gives a register a value, under a guard
  pub alu_in : (g : Guard) (to : ℕ) (op : Op) → is_alu to op ≡ true → F.sets to ≡ true → is_in F (under g op) ≡ true
  alu_in g to (AluImm func rd ra n) alu sets = rw (eqb-true rd to alu, sets) refl
  alu_in g to (AluReg func rd ra rb) alu sets = rw (eqb-true rd to alu, sets) refl
  alu_in g to (AluLong func rd ra n) alu sets = rw (eqb-true rd to alu, sets) refl
  alu_in g to _ alu sets = absurd cc

  -- ---- operators

  pub unary_in : (op : SpUnary) (rd ra : ℕ) → F.sets rd ≡ true → AreIn F (unary_code op rd ra)
  unary_in op rd ra sets = let tells = test in grind (arith, sets, tells)

  pub held_in : (op : SpBinary) (rd ra n : ℕ) → F.sets rd ≡ true → AreIn F (held_code op rd ra n)
  unfolding factor_rest_to
  held_in op rd ra n sets =
      let a = test in
      let b = dividend in
      let c = divisor in
      let d = remainder in
      held_is (AreIn F) op rd ra n (grind (arith, sets, a, b)) (grind (arith, sets, a, b, c, d))

  pub operands_in : (ra rb : ℕ) → AreIn F (operands ra rb)
  operands_in ra rb = rw (dividend, divisor, remainder, left) refl

  pub signs_in : (p q : ℕ) → p < FLAGS → q < FLAGS → AreIn F (without_signs p q)
  signs_in p q own other = rw (F.passing p own, F.passing q other, dividend, divisor) refl

  pub highest_in : is_in F highest_bit ≡ true
  highest_in = rw (spared) refl

  pub digits_in : F.branches ≡ true → AreIn F digit_tail
  digits_in flows = rw (left, more, remainder, dividend, test, spared, flows, F.zero) refl

  pub unsigned_quotient_in : (rd ra : ℕ) → F.sets rd ≡ true → AreIn F (unsigned_quotient_to rd ra)
  unfolding unsigned_quotient_to
  unsigned_quotient_in rd ra sets = rw (second, test, dividend, sets) refl

  pub unsigned_rest_in : (rd ra : ℕ) → F.sets rd ≡ true → AreIn F (unsigned_rest_to rd ra)
  unsigned_rest_in rd ra sets = rw (second, test, remainder, sets) refl

  pub signed_quotient_in : (rd : ℕ) → F.sets rd ≡ true → AreIn F (signed_quotient_to rd)
  signed_quotient_in rd sets = rw (test, sets) refl

  pub signed_rest_in : (rd : ℕ) → F.sets rd ≡ true → AreIn F (signed_rest_to rd)
  signed_rest_in rd sets = rw (sets) refl

  -- ---- words of the frame, which may be read or stored where they stand in no register

  abbrev pub MayRead : ℕ → ℕ → Type 0
  MayRead homes slot = in_register homes slot ≡ false → F.reads (stack_word homes slot) ≡ true

  abbrev pub MayStore : ℕ → ℕ → Type 0
  MayStore homes slot = in_register homes slot ≡ false → F.stores (stack_word homes slot) ≡ true

  pub number_in : (rd n : ℕ) → F.sets rd ≡ true → is_in F (set_number rd n) ≡ true
  number_in rd n sets =
      number_op_is (λ op. is_in F (under always op) ≡ true) rd n (rw (sets) refl) (rw (sets) refl)

  pub read_in : (homes rd slot : ℕ) → F.sets rd ≡ true → MayRead homes slot → is_in F (read_word homes rd slot) ≡ true
  read_in homes rd slot sets reads =
      read_is (λ b. is_in F b ≡ true) homes rd slot (rw (sets) refl) (λ out. rw (sets, reads out) refl)

  pub fetch_in : (homes slot : ℕ) → MayRead homes slot → is_in F (fetch_word homes slot) ≡ true
  fetch_in homes slot reads =
      fetch_is (λ b. is_in F b ≡ true) homes slot idle_in (λ out. rw (spared, reads out) refl)

  pub keep_in : (homes slot : ℕ) → MayStore homes slot → is_in F (keep_word homes slot) ≡ true
  keep_in homes slot stores = keep_is (λ b. is_in F b ≡ true) homes slot idle_in (λ out. rw (stores out) refl)

  pub set_in : (homes : ℕ) (g : Guard) (slot rs : ℕ) → F.sets (homes + slot) ≡ true → MayStore homes slot
      → is_in F (set_word homes g slot rs) ≡ true
  set_in homes g slot rs sets stores = set_op_is (λ op. is_in F (under g op) ≡ true) homes slot rs (rw (sets) refl)
      (λ out. rw (stores out) refl)

  pub word_in : (homes : Homes) (to slot : ℕ) → F.sets to ≡ true → MayRead homes.first slot
      → AreIn F (word_code (flag_of homes.flags slot) homes.first to slot)
  word_in homes to slot sets reads = word_code_is (AreIn F) homes to slot (λ p. rw (sets) refl)
      (rw (read_in homes.first to slot sets reads) refl)

  pub bit_in : (homes slot : ℕ) → MayRead homes slot → AreIn F (bit_sought homes slot)
  bit_in homes slot reads = rw (fetch_in homes slot reads, second) refl

  pub seek_in : (homes : Homes) (mask : ℕ) → MayRead homes.first mask → is_in F (seek_word homes mask) ≡ true
  seek_in homes mask reads = seek_is (λ b. is_in F b ≡ true) homes mask idle_in (fetch_in homes.first mask reads)

  pub match_in : (homes : Homes) (mask : ℕ) → is_in F (match_word homes mask) ≡ true
  match_in homes mask = match_is (λ b. is_in F b ≡ true) homes mask idle_in (rw (test) refl)

  pub mask_test_in : (homes : Homes) (mask : ℕ) → MayRead homes.first mask → AreIn F (mask_test homes mask)
  mask_test_in homes mask reads = rw (seek_in homes mask reads, match_in homes mask) refl

  pub begin_in : (homes counter n : ℕ) → F.sets (fetched_at homes counter) ≡ true → MayStore homes counter
      → AreIn F (iterations_begin homes counter n)
  begin_in homes counter n sets stores =
      rw (number_in (fetched_at homes counter) n sets, keep_in homes counter stores) refl

  pub tail_in : (homes counter : ℕ) → F.sets (fetched_at homes counter) ≡ true → MayRead homes counter
      → MayStore homes counter → F.branches ≡ true → AreIn F (iterations_tail homes counter)
  tail_in homes counter sets reads stores flows =
      rw (fetch_in homes counter reads, sets, keep_in homes counter stores, more, flows, F.zero) refl

  pub handed_in : (homes : Homes) (mask : ℕ) → F.sets MASK ≡ true → MayRead homes.first mask
      → AreIn F (mask_handed homes mask)
  handed_in homes mask sets reads = handed_is (AreIn F) homes mask (λ p is. rw (sets) refl)
      (λ none. rw (read_in homes.first MASK mask sets reads, sets) refl)

  pub call_tail_in : F.calls ≡ true → AreIn F call_tail
  call_tail_in flows = rw (flows, F.zero) refl

  pub overrun_in : (homes : Homes) (mask : ℕ) → F.sets OVERRUN ≡ true → MayRead homes.first mask
      → AreIn F (overrun_code homes mask)
  overrun_in homes mask sets reads = rw (seek_in homes mask reads, match_in homes mask, second, test, sets) refl

  -- ---- variables and elements

  pub address_in : (a : SpArray) (pd rd ra : ℕ) → F.tells pd ≡ true → F.sets rd ≡ true
      → AddressAre (λ b. is_in F b ≡ true) a pd rd ra
  address_in a pd rd ra tells sets = address_are (λ b. is_in F b ≡ true) a pd rd ra idle_in
      (λ n. number_in SPARE n spared) (rw (tells) refl) (rw (tells) refl) (rw (sets) refl) (rw (sets) refl)

  pub cell_in : (c : SpCell) (rd : ℕ) → F.loads ≡ true → F.sets rd ≡ true → AreIn F (cell_code c rd)
  cell_in c rd loads sets = let address = number_in rd (address_of c.region c.word) sets in
      grind (arith, address, loads, sets)

  pub element_in : (a : SpArray) (rd ra : ℕ) → F.loads ≡ true → F.sets rd ≡ true → AreIn F (element_code a rd ra)
  element_in a rd ra loads sets =
      let x = address_in a TEST rd ra test sets in
      grind (arith, x.length, x.below, x.base, x.scaled, loads, sets)

  pub cell_write_in : (homes : Homes) (mask : ℕ) (c : SpCell) → F.writes ≡ true → MayRead homes.first mask
      → AreIn F (cell_write homes mask c)
  cell_write_in homes mask c writes reads =
      let seek = seek_in homes mask reads in
      let match = match_in homes mask in
      let address = number_in SPARE (address_of c.region c.word) spared in
      let spare = spared in
      grind (arith, seek, match, address, spare, writes)

  pub element_write_in : (homes : Homes) (mask : ℕ) (a : SpArray) → F.writes ≡ true → F.sets (FIRST + 1) ≡ true
      → MayRead homes.first mask → AreIn F (element_write homes mask a)
  element_write_in homes mask a writes sets reads =
      let seek = seek_in homes mask reads in
      let match = match_in homes mask in
      let x = address_in a SECOND (FIRST + 1) (FIRST + 1) second sets in
      let tells = test in
      grind (arith, seek, match, x.length, x.below, x.base, x.scaled, tells, sets, writes)

  pub send_in : (homes : Homes) (mask core : ℕ) → F.writes ≡ true → F.sets (FIRST + 3) ≡ true
      → MayRead homes.first mask → AreIn F (send_code homes mask core)
  send_in homes mask core writes sets reads =
      rw (seek_in homes mask reads, match_in homes mask, spared, sets, second, test, writes) refl
