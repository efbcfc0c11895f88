-- The registers keep holding words: through a bundle, at a load's value and at a return's place.
use Rattle.std.proofs.Common.{◌≡◌, ℕ, zero, suc, ◌+◌, ◌-◌, ◌*◌, ◌%◌, ◌^◌, ◌<◌, ◌≤◌, ◌==◌, Bool, true, false, if◌then◌else◌, Option, Some, None, List, [], ◌∷◌, replicate, slice_index, subst, arith, inl, inr}
use Rattle.std.specs.Prelude.{nat_lt, slice_index_or, IfSome}
use Rattle.std.specs.Int.{w32, w64, cast_signed}
use Rattle.std.specs.Int.Signed.{nat_abs-le}
use Rattle.std.specs.Int.RustNames.{unsigned_abs}
use Rattle.std.specs.List.{AllByRecursion as Each}
use Rattle.std.proofs.Math.Facts.{sfits_to_z, Fits-of_z}
use Rattle.std.proofs.Math.ListN.{length-replicate}
use Rattle.std.proofs.Math.Nat.{div-le_self}
use Rattle.std.proofs.lemmas.Bool.{cases_lt}
use Rattle.std.proofs.lemmas.Int.{fits_signed_mul}
use Rattle.std.proofs.lemmas.List.{get_or-replicate, get_or_past}
use Rattle.std.proofs.lemmas.Nat.{mod_below, div_below, mul-lt, or_lt, xor_lt, and_le_l}
use Rattle.tc_word.specs.Word.{product, moved_down, high_word}
use Rattle.patmos_instr.specs.Bundles.{PlainBundle}
use Rattle.patmos_instr.specs.declared.functions.AluFunc.{AluFunc}
use Rattle.patmos_instr.specs.declared.functions.AluFunc.TheVariants as alu
use Rattle.patmos_instr.specs.declared.instructions.Instr.{Instr}
use Rattle.patmos_instr.specs.declared.instructions.Op.{Op}
use Rattle.patmos_instr.specs.declared.instructions.Op.TheVariants.{AluImm, AluReg, AluLong, Mul, ToSpecial, FromSpecial, Store}
use Rattle.patmos_instr.specs.declared.memories.Mem.{Mem}
use Rattle.patmos_instr.specs.declared.memories.StoreWidth.{StoreWidth}
use Rattle.patmos_instr.specs.declared.specials.Special.{Special}
use Rattle.patmos_instr.specs.declared.specials.Special.TheVariants as from
use Rattle.patmos_instr.specs.declared.specials.WritableSpecial.TheVariants as special
use Rattle.patmos_sem.specs.declared.effects.Effect.{Effect}
use Rattle.patmos_sem.specs.declared.effects.Effect.TheVariants as effect
use Rattle.patmos_sem.specs.declared.pending.Pending.{Pending}
use Rattle.patmos_sem.specs.declared.pending.Pending.TheVariants as pending
use Rattle.patmos_sem.specs.declared.writes.Write.{Write}
use Rattle.patmos_sem.specs.declared.writes.Write.TheVariants as write
use Rattle.patmos_sem.specs.Operations.{alu_of, alu_value}
use Rattle.patmos_sem.specs.Registers.{Registers, word_in, holds, flag, preds_number, at_start}
use Rattle.patmos_sem.specs.Writes.{register_by, low_by, high_by, base_by, offset_by, last_by, register_after, renewed_from, after_writes, came}
use Rattle.patmos_sem.specs.Effects.{special_in, write_of, begun, asked}
use Rattle.patmos_sem.specs.Bundles.{slot_write, second_write, all_writes, after_bundle, effect_of, arrived}
use Rattle.patmos_model.specs.Range.{IsWord, PendingFits, HasWords, constant_of, ConstantsFit}

-- what a write gives is words
abbrev WriteFits : Write → Type 0
WriteFits (write.Register rd value) = IsWord value
WriteFits (write.Special special value) = IsWord value
WriteFits (write.Product low high) = IsWord low × IsWord high
WriteFits _ = Unit {0}

-- what a store stores is a word
abbrev StoreFits : Effect → Type 0
StoreFits (effect.Store space width address value) = IsWord value
StoreFits _ = Unit {0}

-- a number modulo 2^32
mod_word : (n : ℕ) → IsWord (n % 2 ^ 32)
mod_word n = mod_below n (2 ^ 32) (omega arith)

-- a number moved down is no greater
down_word : (a k : ℕ) → IsWord a → IsWord (moved_down a k)
down_word a k h = omega (arith, h, div-le_self a (2 ^ (k % 32)))

-- an operation on two words
alu_word : (func : AluFunc) (a b : ℕ) → IsWord a → IsWord b → IsWord (alu_value func a b)
alu_word alu.Add a b first second = mod_word (a + b)
alu_word alu.Sub a b first second = mod_word (a + (2 ^ 32 - b))
alu_word alu.Xor a b first second = xor_lt 32 a b first second
alu_word alu.Sl a b first second = mod_word (a * 2 ^ (b % 32))
alu_word alu.Sr a b first second = down_word a b first
alu_word alu.Sra a b first second =
    elim (nat_lt a (2 ^ 31)) as (λ low. IsWord (if low then moved_down a b else 2 ^ 32 - 1
    - moved_down (2 ^ 32 - 1 - a) b))
    [ true ↦ down_word a b first | false ↦ omega arith ]
alu_word alu.Or a b first second = or_lt 32 a b first second
alu_word alu.And a b first second = omega (arith, first, and_le_l a b)
alu_word alu.Nor a b first second = omega arith
alu_word alu.Shadd a b first second = mod_word (2 * a + b)
alu_word alu.Shadd2 a b first second = mod_word (4 * a + b)

-- a predicate as a bit
flag_bit : (preds : List Bool) (p : ℕ) → flag preds p ≤ 1
flag_bit preds p = elim (slice_index_or preds p false) as (λ set. (if set then 1 else 0) ≤ 1)
    [ true ↦ omega arith | false ↦ omega arith ]

-- the predicates as eight bits
preds_word : (preds : List Bool) → IsWord (preds_number preds)
preds_word preds =
    omega (
      arith,
      flag_bit preds 0,
      flag_bit preds 1,
      flag_bit preds 2,
      flag_bit preds 3,
      flag_bit preds 4,
      flag_bit preds 5,
      flag_bit preds 6,
      flag_bit preds 7,
    )

-- a special register
special_word : (st ss : ℕ) (regs : Registers) (special : Special) → HasWords regs
    → IsWord (special_in st ss regs special)
special_word st ss regs from.S0 h = preds_word regs.preds
special_word st ss regs from.Sl h = h.sl
special_word st ss regs from.Sh h = h.sh
special_word st ss regs from.Srb h = h.srb
special_word st ss regs from.Sro h = h.sro
special_word st ss regs from.St h = mod_word (4 * st)
special_word st ss regs from.Ss h = mod_word (4 * ss)

-- the write of an operation
write_fits : (st ss : ℕ) (regs : Registers) (op : Op) → HasWords regs → IsWord (constant_of op)
    → WriteFits (write_of st ss regs op)
write_fits st ss regs (AluImm func rd ra imm) h fits = alu_word (alu_of func) (word_in regs ra) imm (h.general ra) fits
write_fits st ss regs (AluReg func rd ra rb) h fits =
    alu_word func (word_in regs ra) (word_in regs rb) (h.general ra) (h.general rb)
write_fits st ss regs (AluLong func rd ra constant) h fits =
    alu_word func (word_in regs ra) constant (h.general ra) fits
write_fits st ss regs (ToSpecial special ra) h fits = h.general ra
write_fits st ss regs (FromSpecial rd special) h fits = special_word st ss regs special h
write_fits st ss regs _ h fits = tt

-- the write of a slot
slot_fits : (st ss : ℕ) (regs : Registers) (i : Instr) → HasWords regs → IsWord (constant_of i.op)
    → WriteFits (slot_write st ss regs i)
slot_fits st ss regs i h fits =
    elim (holds regs i.guard) as (λ acts. WriteFits (if acts then write_of st ss regs i.op else write.Nothing))
    [ true ↦ write_fits st ss regs i.op h fits | false ↦ tt ]

-- the write of the second slot
second_fits : (st ss : ℕ) (regs : Registers) (slot : Option Instr) → HasWords regs
    → IfSome slot (λ i. IsWord (constant_of i.op)) → WriteFits (second_write st ss regs slot)
second_fits st ss regs None h fits = tt
second_fits st ss regs (Some i) h fits = slot_fits st ss regs i h fits

-- what was pending
came_fits : (p : Pending) → PendingFits p → WriteFits (came p)
came_fits pending.Nothing h = tt
came_fits (pending.Value rd value) h = h
came_fits (pending.Product low high) h = h

-- a signed word is at most 2^31 away from 0
size_below : (n : ℕ) → IsWord n → unsigned_abs (cast_signed w32 n) ≤ 2 ^ 31
size_below n h = nat_abs-le (cast_signed w32 n) (sfits_to_z {w = w32} (record { fits = h })).sfits

-- the product of two signed words has 64 bits
product_below : (a b : ℕ) → IsWord a → IsWord b → product a b < 2 ^ 64
product_below a b first second =
    (Fits-of_z (fits_signed_mul w64 (cast_signed w32 a) (cast_signed w32 b) (2 ^ 31) (2 ^ 31) (size_below a first)
    (size_below b second) (omega arith))).fits

-- the high word of a number of 64 bits
high_is_word : (n : ℕ) → n < 2 ^ 64 → IsWord (high_word n)
high_is_word n h = div_below n (2 ^ 32) (2 ^ 32) (omega arith) (omega (arith, h))

-- the product that an operation begins
begun_fits : (regs : Registers) (op : Op) → HasWords regs → PendingFits (begun regs op)
begun_fits regs (Mul true ra rb) h = (
  mod_word (word_in regs ra * word_in regs rb),
  high_is_word (word_in regs ra * word_in regs rb)
      (omega (arith, mul-lt (word_in regs ra) (word_in regs rb) (2 ^ 32) (2 ^ 32) (h.general ra) (h.general rb))),
)
begun_fits regs (Mul false ra rb) h = (
  mod_word (product (word_in regs ra) (word_in regs rb)),
  high_is_word (product (word_in regs ra) (word_in regs rb))
      (product_below (word_in regs ra) (word_in regs rb) (h.general ra) (h.general rb)),
)
begun_fits regs _ h = tt

-- a general register after a write
register_keeps : (r : ℕ) (w : Write) (old : ℕ) → WriteFits w → IsWord old → IsWord (register_by r w old)
register_keeps r (write.Register rd value) old fits h =
    elim (rd == r) as (λ same. IsWord (if same then value else old)) [ true ↦ fits | false ↦ h ]
register_keeps r _ old fits h = h

-- the low half of a product after a write
low_keeps : (w : Write) (old : ℕ) → WriteFits w → IsWord old → IsWord (low_by w old)
low_keeps (write.Special special.Sl value) old fits h = fits
low_keeps (write.Product low high) old fits h = fits.0
low_keeps _ old fits h = h

-- the high half of a product after a write
high_keeps : (w : Write) (old : ℕ) → WriteFits w → IsWord old → IsWord (high_by w old)
high_keeps (write.Special special.Sh value) old fits h = fits
high_keeps (write.Product low high) old fits h = fits.1
high_keeps _ old fits h = h

-- the base of a return after a write
base_keeps : (w : Write) (old : ℕ) → WriteFits w → IsWord old → IsWord (base_by w old)
base_keeps (write.Special special.Srb value) old fits h = fits
base_keeps _ old fits h = h

-- the offset of a return after a write
offset_keeps : (w : Write) (old : ℕ) → WriteFits w → IsWord old → IsWord (offset_by w old)
offset_keeps (write.Special special.Sro value) old fits h = fits
offset_keeps _ old fits h = h

-- what holds a word after each write holds one after the last of them
last_word : (by : Write → ℕ → ℕ) → ((w : Write) (old : ℕ) → WriteFits w → IsWord old → IsWord (by w old))
    → (ws : List Write) (old : ℕ) → Each WriteFits ws → IsWord old → IsWord (last_by by ws old)
last_word by step [] old fits h = h
last_word by step (w ∷ ws) old fits h = last_word by step ws (by w old) fits.1 (step w old fits.0 h)

-- a general register after some writes
after_word : (ws : List Write) (r old : ℕ) → Each WriteFits ws → IsWord old → IsWord (register_after ws r old)
after_word ws r old fits h =
    elim (r == 0) as (λ first. IsWord (if first then 0 else last_by (register_by r) ws old))
    [ true ↦ omega arith | false ↦ last_word (register_by r) (register_keeps r) ws old fits h ]

-- a register file that is told from words
told_word : (n : ℕ) (f : ℕ → ℕ → ℕ) (xs : List ℕ) → ((r old : ℕ) → IsWord old → IsWord (f r old))
    → ((r : ℕ) → IsWord (slice_index xs r)) → (r : ℕ) → IsWord (slice_index (renewed_from n f xs) r)
told_word n f [] step h r = h r
told_word n f (x ∷ xs) step h zero = step n x (h 0)
told_word n f (x ∷ xs) step h (suc r) = told_word (n + 1) f xs step (λ q. h (suc q)) r

-- the registers hold words after a bundle
pub after_bundle_words : (st ss : ℕ) (b : PlainBundle) (regs : Registers) → HasWords regs → ConstantsFit b
    → HasWords (after_bundle st ss b regs)
after_bundle_words st ss b regs h constants =
    let ws : List Write = all_writes st ss b regs in
    let fits : Each WriteFits ws = (
      came_fits regs.pending h.pending,
      (
        slot_fits st ss regs b.first h constants.first,
        (second_fits st ss regs b.second h constants.second, tt),
      ),
    ) in
    record {
      general = told_word 0 (register_after ws) regs.general (λ r old. after_word ws r old fits) h.general;
      sl = last_word low_by low_keeps ws regs.sl fits h.sl;
      sh = last_word high_by high_keeps ws regs.sh fits h.sh;
      srb = last_word base_by base_keeps ws regs.srb fits h.srb;
      sro = last_word offset_by offset_keeps ws regs.sro fits h.sro;
      pending = elim (holds regs b.first.guard) as (λ acts. PendingFits
          (if acts then begun regs b.first.op else pending.Nothing))
          [ true ↦ begun_fits regs b.first.op h | false ↦ tt ];
    }

-- the registers hold words once what is pending has come
pub settled_words : (regs : Registers) → HasWords regs → HasWords (record (after_writes (came regs.pending ∷ []) regs) {
  pending = pending.Nothing;
})
settled_words regs h =
    let ws : List Write = came regs.pending ∷ [] in
    let fits : Each WriteFits ws = (came_fits regs.pending h.pending, tt) in
    record {
      general = told_word 0 (register_after ws) regs.general (λ r old. after_word ws r old fits) h.general;
      sl = last_word low_by low_keeps ws regs.sl fits h.sl;
      sh = last_word high_by high_keeps ws regs.sh fits h.sh;
      srb = last_word base_by base_keeps ws regs.srb fits h.srb;
      sro = last_word offset_by offset_keeps ws regs.sro fits h.sro;
      pending = tt;
    }

-- what an operation stores
asked_fits : (regs : Registers) (op : Op) → HasWords regs → StoreFits (asked regs op)
asked_fits regs (Store space width ra rs imm) h = h.general rs
asked_fits regs _ h = tt

-- a bundle stores a word
pub stored_word : (b : PlainBundle) (regs : Registers) (space : Mem) (width : StoreWidth) (address value : ℕ)
    → HasWords regs
    → effect_of b regs ≡ effect.Store space width address value → IsWord value
stored_word b regs space width address value h e =
    subst StoreFits e
    (elim (holds regs b.first.guard) as (λ acts. StoreFits (if acts then asked regs b.first.op else effect.Nothing))
    [ true ↦ asked_fits regs b.first.op h | false ↦ tt ])

-- the registers hold words once a load's value has come
pub arrived_words : (rd value : ℕ) (regs : Registers) → HasWords regs → IsWord value → HasWords (arrived rd value regs)
arrived_words rd value regs h fits =
    record { general = h.general; sl = h.sl; sh = h.sh; srb = h.srb; sro = h.sro; pending = fits }

-- the registers hold words at the start
pub at_start_words : HasWords at_start
at_start_words =
    record { general = none; sl = omega arith; sh = omega arith; srb = omega arith; sro = omega arith; pending = tt }
  where
    none : (r : ℕ) → IsWord (slice_index (replicate 32 0) r)
    none r = elim (cases_lt r 32) [
      | inl below ↦ omega (arith, get_or-replicate {A = ℕ} 32 r 0 0 below)
      | inr past ↦ omega (
        arith,
        get_or_past {X = ℕ} (replicate 32 0) r 0
            (omega (arith, length-replicate {A = ℕ} 32 0)),
      )
    ]

-- the registers hold words once a call has left the place to return to
pub with_return_words : (base offset : ℕ) (regs : Registers) → HasWords regs → IsWord base → IsWord offset
    → HasWords (record regs { srb = base; sro = offset })
with_return_words base offset regs h base_fits offset_fits =
    record { general = h.general; sl = h.sl; sh = h.sh; srb = base_fits; sro = offset_fits; pending = h.pending }
