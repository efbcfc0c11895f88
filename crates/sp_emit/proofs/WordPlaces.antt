-- Words of a frame, in registers and in the stack: what reading and setting one leaves.
use Rattle.std.proofs.Common.{◌≡◌, ℕ, zero, suc, ◌+◌, ◌%◌, ◌^◌, ◌<◌, ◌≤◌, ◌⊎◌, inl, inr, Bool, true, false, if◌then◌else◌, refl, ap, ◌∙◌, arith}
use Rattle.std.proofs.lemmas.Bool.{cases_lt, ltb-true, ltb-false, lt-ltb}
use Rattle.shared_order.specs.Words.{put}
use Rattle.patmos_instr.specs.Bundles.{PlainBundle}
use Rattle.patmos_instr.specs.declared.guards.Guard.{Guard}
use Rattle.patmos_instr.specs.declared.functions.ImmFunc.TheVariants as imm
use Rattle.patmos_instr.specs.declared.instructions.Op.TheVariants.{AluImm, Load, Store}
use Rattle.patmos_instr.specs.declared.instructions.Op.{Op}
use Rattle.patmos_instr.specs.declared.memories.Width.TheVariants as load
use Rattle.patmos_instr.specs.declared.memories.Mem.TheVariants as mem
use Rattle.patmos_instr.specs.declared.memories.StoreWidth.TheVariants as store
use Rattle.patmos_sem.specs.Registers.{holds}
use Rattle.patmos_sem.specs.declared.writes.Write.TheVariants as write
use Rattle.patmos_sem.specs.Effects.{address_of as address_by}
use Rattle.sp_shape.specs.Run.{Run, Sources, word_given, once, IsWhole}
use Rattle.sp_emit.specs.Holding.{held, so, Keeps, KeepsFrom, KeepsFlags}
use Rattle.sp_emit.specs.Instructions.{always, under, idle, copy, load_slot, store_slot}
use Rattle.sp_emit.specs.Means.{KeepsAfter}
use Rattle.sp_emit.specs.Places.{in_register, stack_word, word_of, read_op, read_word, fetch_op, fetch_word, fetched_at, keep_op, keep_word, set_op, set_word}
use Rattle.sp_emit.specs.declared.registers.TheConstants.{SPARE, OVERRUN}
use Rattle.sp_emit.proofs.Frames.{put_same, put_other}
use Rattle.sp_emit.proofs.Once.{with_written, stays_zero, did_write, did_nothing, did_load, got, kept, so_by_register, whole_written}
use Rattle.sp_emit.proofs.Leaving.{slot_leaves}
use Rattle.sp_emit.proofs.Storing.{with_slot_word, did_store_slot}

-- ---- words of the stack

-- an earlier word stands before a later one
pub stack_before : (homes slot count : ℕ) → slot < count → in_register homes slot ≡ false → stack_word homes slot
    < stack_word homes count
stack_before homes slot count lt out = omega (arith, lt, ltb-false (homes + slot) OVERRUN out)

-- no two words stand in one
stack_apart : (homes slot u : ℕ) → in_register homes slot ≡ false → in_register homes u ≡ false → (slot ≡ u → ⊥)
    → stack_word homes slot ≡ stack_word homes u → ⊥
stack_apart homes slot u out other apart same =
    apart (omega (arith, same, ltb-false (homes + slot) OVERRUN out, ltb-false (homes + u) OVERRUN other))

-- so it is one of the first so many, where a later one begins with them or before
pub stack_within : (homes slot most count : ℕ) → slot < most → stack_word homes most ≤ count → in_register homes slot
    ≡ false → stack_word homes slot < count
stack_within homes slot most count lt within out = omega (arith, within, stack_before homes slot most lt out)

-- words of a frame stand in registers, or among the first so many of the stack
abbrev pub Outside : ℕ → ℕ → ℕ → Type 0
Outside homes slots count = (slot : ℕ) → slot < slots → in_register homes slot ≡ false → stack_word homes slot < count

pub outside : (homes slots most count : ℕ) → slots ≤ most → stack_word homes most ≤ count → Outside homes slots count
outside homes slots most count le within slot lt = stack_within homes slot most count (omega (arith, lt, le)) within

-- ---- what holds of both bundles holds of the one

pub read_op_is : (P : Op → Type 0) (homes rd slot : ℕ) → P (AluImm imm.Add rd (homes + slot) 0)
    → (in_register homes slot ≡ false → P (Load mem.S load.Word rd 0 (stack_word homes slot)))
    → P (read_op homes rd slot)
unfolding read_op
read_op_is P homes rd slot here there = by (in_register homes slot) refl
  where
    by : (b : Bool) → in_register homes slot ≡ b → P (if b then AluImm imm.Add rd (homes + slot) 0 else Load mem.S
        load.Word rd 0 (stack_word homes slot))
    by true is = here
    by false is = there is

pub read_is : (P : PlainBundle → Type 0) (homes rd slot : ℕ) → P (copy rd (homes + slot))
    → (in_register homes slot ≡ false
    → P (load_slot rd (stack_word homes slot))) → P (read_word homes rd slot)
read_is P homes rd slot here there = read_op_is (λ op. P (under always op)) homes rd slot here there

pub fetch_op_is : (P : Op → Type 0) (homes slot : ℕ) → P (AluImm imm.Add 0 0 0) → (in_register homes slot ≡ false
    → P (Load mem.S load.Word SPARE 0 (stack_word homes slot))) → P (fetch_op homes slot)
unfolding fetch_op
fetch_op_is P homes slot here there = by (in_register homes slot) refl
  where
    by : (b : Bool) → in_register homes slot ≡ b → P (if b then AluImm imm.Add 0 0 0 else Load mem.S load.Word SPARE 0
        (stack_word homes slot))
    by true is = here
    by false is = there is

pub fetch_is : (P : PlainBundle → Type 0) (homes slot : ℕ) → P idle → (in_register homes slot ≡ false
    → P (load_slot SPARE (stack_word homes slot))) → P (fetch_word homes slot)
fetch_is P homes slot here there = fetch_op_is (λ op. P (under always op)) homes slot here there

-- the register to which it is fetched: its own, or the spare one
pub fetched_is : (P : ℕ → Type 0) (homes slot : ℕ) → (homes + slot < OVERRUN → P (homes + slot)) → P SPARE
    → P (fetched_at homes slot)
fetched_is P homes slot here there = by (in_register homes slot) refl
  where
    by : (b : Bool) → in_register homes slot ≡ b → P (if b then homes + slot else SPARE)
    by true is = here (ltb-true (homes + slot) OVERRUN is)
    by false is = there

pub fetched_some : (homes slot : ℕ) → 1 ≤ homes → 1 ≤ fetched_at homes slot
fetched_some homes slot some = fetched_is (λ r. 1 ≤ r) homes slot (λ lt. omega (arith, some)) (omega arith)

pub fetched_few : (homes slot : ℕ) → fetched_at homes slot < 32
fetched_few homes slot = fetched_is (λ r. r < 32) homes slot (λ lt. omega (arith, lt)) (omega arith)

pub keep_is : (P : PlainBundle → Type 0) (homes slot : ℕ) → P idle → (in_register homes slot ≡ false
    → P (store_slot always (stack_word homes slot) SPARE)) → P (keep_word homes slot)
unfolding keep_op
keep_is P homes slot here there = by (in_register homes slot) refl
  where
    by : (b : Bool) → in_register homes slot ≡ b
        → P (under always (if b then AluImm imm.Add 0 0 0 else Store mem.S store.Word 0 SPARE (stack_word homes slot)))
    by true is = here
    by false is = there is

pub set_op_is : (P : Op → Type 0) (homes slot rs : ℕ) → P (AluImm imm.Add (homes + slot) rs 0)
    → (in_register homes slot ≡ false → P (Store mem.S store.Word 0 rs (stack_word homes slot)))
    → P (set_op homes slot rs)
unfolding set_op
set_op_is P homes slot rs here there = by (in_register homes slot) refl
  where
    by : (b : Bool) → in_register homes slot ≡ b → P (if b then AluImm imm.Add (homes + slot) rs 0 else Store mem.S
        store.Word 0 rs (stack_word homes slot))
    by true is = here
    by false is = there is

-- ---- words

pub word_still : (homes slot : ℕ) (m t : Run) → KeepsFrom homes m t → t.stack ≡ m.stack → t.st ≡ m.st
    → word_of homes slot t ≡ word_of homes slot m
unfolding word_of
word_still homes slot m t high stack st = by (in_register homes slot) refl
  where
    by : (b : Bool) → in_register homes slot ≡ b → (if b then held (homes + slot) t else t.stack
        (t.st + stack_word homes slot)) ≡ (if b then held (homes + slot) m else m.stack (m.st + stack_word homes slot))
    by true is = high (homes + slot) (omega arith) (ltb-true (homes + slot) OVERRUN is)
    by false is =
        ap (λ words. words (t.st + stack_word homes slot)) stack ∙ ap (λ st. m.stack (st + stack_word homes slot)) st

-- where only those of the stack from its top on are known to stand
pub word_kept : (homes slot : ℕ) (m t : Run) → KeepsFrom homes m t → ((a : ℕ) → m.st ≤ a → t.stack a ≡ m.stack a) → t.st
    ≡ m.st → word_of homes slot t ≡ word_of homes slot m
unfolding word_of
word_kept homes slot m t high stack st = by (in_register homes slot) refl
  where
    by : (b : Bool) → in_register homes slot ≡ b → (if b then held (homes + slot) t else t.stack
        (t.st + stack_word homes slot)) ≡ (if b then held (homes + slot) m else m.stack (m.st + stack_word homes slot))
    by true is = high (homes + slot) (omega arith) (ltb-true (homes + slot) OVERRUN is)
    by false is =
        ap (λ st. t.stack (st + stack_word homes slot)) st ∙ stack (m.st + stack_word homes slot) (omega arith)

-- and where only those after it are
pub behind_word : (homes slot : ℕ) (m t : Run) → KeepsAfter (homes + slot) (stack_word homes slot) m t
    → word_of homes slot t ≡ word_of homes slot m
unfolding word_of
behind_word homes slot m t keeps = by (in_register homes slot) refl
  where
    by : (b : Bool) → in_register homes slot ≡ b → (if b then held (homes + slot) t else t.stack
        (t.st + stack_word homes slot)) ≡ (if b then held (homes + slot) m else m.stack (m.st + stack_word homes slot))
    by true is = keeps.high (homes + slot) (omega arith) (ltb-true (homes + slot) OVERRUN is)
    by false is = ap (λ st. t.stack (st + stack_word homes slot)) keeps.st
        ∙ keeps.stack (m.st + stack_word homes slot) (omega arith)

-- ---- reading

pub read_leaves : (from : Sources) (homes rd slot : ℕ) (m : Run) → from.stack ≡ true → IsWhole m → 1 ≤ rd → rd < 32
    → slot < 128 → word_of homes slot m < 2 ^ 32 → held rd (once from (read_word homes rd slot) m)
    ≡ word_of homes slot m
unfolding read_op word_of
read_leaves from homes rd slot m told whole some few near = by (in_register homes slot)
  where
    by : (b : Bool) → (if b then held (homes + slot) m else m.stack (m.st + stack_word homes slot)) < 2 ^ 32
        → held rd (once from (under always (if b then AluImm imm.Add rd (homes + slot) 0 else Load mem.S load.Word rd 0
        (stack_word homes slot))) m) ≡ (if b then held (homes + slot) m else m.stack (m.st + stack_word homes slot))
    by true word =
        ap (held rd) (did_write from always (AluImm imm.Add rd (homes + slot) 0) m whole whole.fits.always refl refl)
        ∙ got rd ((held (homes + slot) m + 0) % 2 ^ 32) m whole some few
        ∙ (let e : (held (homes + slot) m + 0) % 2 ^ 32 ≡ held (homes + slot) m = omega (arith, word) in e)
    by false word = slot_leaves from rd (stack_word homes slot) m told whole some few (omega (arith, near))

pub nothing_written : (v r : ℕ) (m : Run) → IsWhole m → r < 32 → held r (with_written (write.Register 0 v) m) ≡ held r m
nothing_written v zero m whole few = stays_zero (write.Register 0 v) m whole
nothing_written v (suc r) m whole few = kept 0 v (suc r) m whole few (λ same. absurd (omega (arith, same)))

pub fetch_leaves : (from : Sources) (homes slot : ℕ) (m : Run) → from.stack ≡ true → IsWhole m → slot < 128
    → held (fetched_at homes slot) (once from (fetch_word homes slot) m) ≡ word_of homes slot m
unfolding fetch_op word_of
fetch_leaves from homes slot m told whole near = by (in_register homes slot) refl
  where
    by : (b : Bool) → in_register homes slot ≡ b
        → held (if b then homes + slot else SPARE) (once from
        (under always (if b then AluImm imm.Add 0 0 0 else Load mem.S load.Word SPARE 0 (stack_word homes slot))) m)
        ≡ (if b then held (homes + slot) m else m.stack (m.st + stack_word homes slot))
    by true is =
        ap (held (homes + slot)) (did_write from always (AluImm imm.Add 0 0 0) m whole whole.fits.always refl refl)
        ∙ nothing_written ((held 0 m + 0) % 2 ^ 32) (homes + slot) m whole (omega
        (arith, ltb-true (homes + slot) OVERRUN is))
    by false is =
        slot_leaves from SPARE (stack_word homes slot) m told whole (omega arith) (omega arith) (omega (arith, near))

pub fetch_preds : (from : Sources) (homes slot q : ℕ) (m : Run) → IsWhole m → q < 8
    → so q (once from (fetch_word homes slot) m) ≡ so q m
unfolding fetch_op
fetch_preds from homes slot q m whole few = by (in_register homes slot)
  where
    by : (b : Bool)
        → so q (once from (under always (if b then AluImm imm.Add 0 0 0 else Load mem.S load.Word SPARE 0
        (stack_word homes slot))) m) ≡ so q m
    by true = ap (so q) (did_write from always (AluImm imm.Add 0 0 0) m whole whole.fits.always refl refl)
        ∙ so_by_register 0 ((held 0 m + 0) % 2 ^ 32) q m whole few
    by false =
        ap (so q) (did_load from always mem.S SPARE 0 (stack_word homes slot) m whole whole.fits.always)
        ∙ so_by_register SPARE (word_given from mem.S (address_by (held 0 m) (stack_word homes slot) 4) m) q m whole few

-- ---- a word that is changed where it was fetched

-- it goes back to its place, and stays where it was fetched
pub record Back (homes slot : ℕ) (m t : Run) : Type 0 where
  pub word : word_of homes slot t ≡ held (fetched_at homes slot) m
  pub stays : held (fetched_at homes slot) t ≡ held (fetched_at homes slot) m

pub keep_leaves : (from : Sources) (homes slot : ℕ) (m : Run) → IsWhole m → slot < 128
    → Back homes slot m (once from (keep_word homes slot) m)
unfolding keep_op word_of
keep_leaves from homes slot m whole near =
    record { word = word (in_register homes slot) refl; stays = stays (in_register homes slot) refl }
  where
    nothing : (r : ℕ) → r < 32 → held r (once from idle m) ≡ held r m
    nothing r few = ap (held r) (did_write from always (AluImm imm.Add 0 0 0) m whole whole.fits.always refl refl)
        ∙ nothing_written ((held 0 m + 0) % 2 ^ 32) r m whole few

    word : (b : Bool) → in_register homes slot ≡ b
        → (let t = once from (under always (if b then AluImm imm.Add 0 0 0 else Store mem.S store.Word 0 SPARE
        (stack_word homes slot))) m in if b then held (homes + slot) t else t.stack (t.st + stack_word homes slot))
        ≡ held (if b then homes + slot else SPARE) m
    word true is = nothing (homes + slot) (omega (arith, ltb-true (homes + slot) OVERRUN is))
    word false is = ap (λ t. t.stack (t.st + stack_word homes slot)) (did_store_slot from always (stack_word homes slot)
        SPARE m whole whole.fits.always (omega (arith, near)))
        ∙ put_same (m.st + stack_word homes slot) (held SPARE m) m.stack

    stays : (b : Bool) → in_register homes slot ≡ b → held (if b then homes + slot else SPARE) (once from
        (under always (if b then AluImm imm.Add 0 0 0 else Store mem.S store.Word 0 SPARE (stack_word homes slot))) m)
        ≡ held (if b then homes + slot else SPARE) m
    stays true is = nothing (homes + slot) (omega (arith, ltb-true (homes + slot) OVERRUN is))
    stays false is = ap (held SPARE) (did_store_slot from always (stack_word homes slot) SPARE m whole whole.fits.always
        (omega (arith, near)))

-- ---- setting

-- the run with a word set
unfoldable pub with_word : ℕ → ℕ → ℕ → Run → Run
with_word homes slot v m = if in_register homes slot then with_written (write.Register (homes + slot) v) m else
    with_slot_word (stack_word homes slot) v m

pub did_set_word : (from : Sources) (homes : ℕ) (g : Guard) (slot rs v : ℕ) (m : Run) → IsWhole m → holds m.regs g
    ≡ true → slot < 128 → held rs m ≡ v → v < 2 ^ 32 → once from (set_word homes g slot rs) m ≡ with_word homes slot v m
unfolding set_op with_word
did_set_word from homes g slot rs v m whole on near is word = by (in_register homes slot)
  where
    by : (b : Bool) → once from (under g (if b then AluImm imm.Add (homes + slot) rs 0 else Store mem.S store.Word 0 rs
        (stack_word homes slot))) m ≡ (if b then with_written (write.Register (homes + slot) v) m else with_slot_word
        (stack_word homes slot) v m)
    by true =
        did_write from g (AluImm imm.Add (homes + slot) rs 0) m whole on refl refl
        ∙ ap (λ n. with_written (write.Register (homes + slot) ((n + 0) % 2 ^ 32)) m) is
        ∙ ap (λ n. with_written (write.Register (homes + slot) n) m)
        (let e : (v + 0) % 2 ^ 32 ≡ v = omega (arith, word) in e)
    by false = did_store_slot from g (stack_word homes slot) rs m whole on (omega (arith, near))
        ∙ ap (λ n. with_slot_word (stack_word homes slot) n m) is

-- what stands after a word is set: all but this word and others of the window, of the registers those below a number
pub record Sets (most homes slot v : ℕ) (m t : Run) : Type 0 where
  pub whole : IsWhole t
  pub st : t.st ≡ m.st
  pub memory : t.memory ≡ m.memory
  pub own : word_of homes slot t ≡ v
  pub others : (u : ℕ) → (slot ≡ u → ⊥) → word_of homes u t ≡ word_of homes u m
  pub regs : (r : ℕ) → 1 ≤ r → r < most → (homes + slot ≡ r → ⊥) → held r t ≡ held r m
  pub flags : KeepsFlags m t
  pub flag : held OVERRUN t ≡ held OVERRUN m
  pub stack : (a : ℕ) → (in_register homes slot ≡ false → m.st + stack_word homes slot ≡ a → ⊥) → t.stack a ≡ m.stack a

from_next : (n r : ℕ) → n ≤ r → (n ≡ r → ⊥) → n + 1 ≤ r
from_next n r from apart = by (cases_lt n r)
  where
    by : (n < r) ⊎ (r ≤ n) → n + 1 ≤ r
    by (inl less) = omega (arith, less)
    by (inr more) = absurd (apart (omega (arith, from, more)))

pub sets_register : (homes slot v : ℕ) (m : Run) → 1 ≤ homes → IsWhole m → homes + slot < OVERRUN
    → Sets 32 homes slot v m (with_written (write.Register (homes + slot) v) m)
unfolding word_of
sets_register homes slot v m some whole lt = record {
  whole = whole_written (write.Register (homes + slot) v) m whole;
  st = refl;
  memory = refl;
  own = ap (λ c. if c then held (homes + slot) t else t.stack (t.st + stack_word homes slot)) (lt-ltb (homes + slot)
      OVERRUN lt) ∙ got (homes + slot) v m whole (omega (arith, some)) (omega (arith, lt));
  others = λ u apart. word u apart (in_register homes u) refl;
  regs = λ r least few apart. other r few apart;
  flags = λ p from few. so_by_register (homes + slot) v p m whole few;
  flag = other OVERRUN (omega arith) (λ same. absurd (omega (arith, same, lt)));
  stack = λ a apart. refl;
}
  where
    t : Run
    t = with_written (write.Register (homes + slot) v) m

    other : (r : ℕ) → r < 32 → (homes + slot ≡ r → ⊥) → held r t ≡ held r m
    other r few apart = kept (homes + slot) v r m whole few apart

    word : (u : ℕ) → (slot ≡ u → ⊥) → (c : Bool) → in_register homes u ≡ c → (if c then held (homes + u) t else t.stack
        (t.st + stack_word homes u)) ≡ (if c then held (homes + u) m else m.stack (m.st + stack_word homes u))
    word u apart true in_it =
        other (homes + u) (omega (arith, ltb-true (homes + u) OVERRUN in_it)) (λ same. apart (omega (arith, same)))
    word u apart false in_it = refl

-- the same where code keeps all but the register of the word, and spare ones
pub sets_straight : (homes slot v : ℕ) (m t : Run) → homes + slot < OVERRUN
    → Keeps (homes + slot) (homes + slot + 1) m t → held (homes + slot) t ≡ v → Sets OVERRUN homes slot v m t
unfolding word_of
sets_straight homes slot v m t lt keeps is = record {
  whole = keeps.whole;
  st = keeps.st;
  memory = keeps.memory;
  own = ap (λ c. if c then held (homes + slot) t else t.stack (t.st + stack_word homes slot)) (lt-ltb (homes + slot)
      OVERRUN lt) ∙ is;
  others = λ u apart. word u apart (in_register homes u) refl;
  regs = λ r least few apart. other r few apart (cases_lt r (homes + slot));
  flags = keeps.flags;
  flag = keeps.flag;
  stack = λ a apart. ap (λ words. words a) keeps.stack;
}
  where
    other : (r : ℕ) → r < OVERRUN → (homes + slot ≡ r → ⊥) → (r < homes + slot) ⊎ (homes + slot ≤ r)
        → held r t ≡ held r m
    other r few apart (inl below) = keeps.low r below
    other r few apart (inr from) = keeps.high r (from_next (homes + slot) r from apart) few

    word : (u : ℕ) → (slot ≡ u → ⊥) → (c : Bool) → in_register homes u ≡ c → (if c then held (homes + u) t else t.stack
        (t.st + stack_word homes u)) ≡ (if c then held (homes + u) m else m.stack (m.st + stack_word homes u))
    word u apart true in_it = other (homes + u) (ltb-true (homes + u) OVERRUN in_it)
        (λ same. apart (omega (arith, same))) (cases_lt (homes + u) (homes + slot))
    word u apart false in_it = ap (λ words. words (t.st + stack_word homes u)) keeps.stack
        ∙ ap (λ st. m.stack (st + stack_word homes u)) keeps.st

pub sets_stack : (homes slot v : ℕ) (m : Run) → IsWhole m → in_register homes slot ≡ false
    → Sets 32 homes slot v m (with_slot_word (stack_word homes slot) v m)
unfolding word_of
sets_stack homes slot v m whole is = record {
  whole = record { fits = whole.fits; pending = whole.pending };
  st = refl;
  memory = refl;
  own = ap (λ c. if c then held (homes + slot) t else t.stack (t.st + stack_word homes slot)) is
      ∙ put_same (m.st + stack_word homes slot) v m.stack;
  others = λ u apart. word u apart (in_register homes u) refl;
  regs = λ r least few apart. refl;
  flags = λ p from few. refl;
  flag = refl;
  stack = λ a apart. put_other (m.st + stack_word homes slot) a v m.stack (apart is);
}
  where
    t : Run
    t = with_slot_word (stack_word homes slot) v m

    word : (u : ℕ) → (slot ≡ u → ⊥) → (c : Bool) → in_register homes u ≡ c → (if c then held (homes + u) t else t.stack
        (t.st + stack_word homes u)) ≡ (if c then held (homes + u) m else m.stack (m.st + stack_word homes u))
    word u apart true other = refl
    word u apart false other = put_other (m.st + stack_word homes slot) (m.st + stack_word homes u) v m.stack
        (λ same. stack_apart homes slot u is other apart (omega (arith, same)))

pub sets_word : (homes slot v : ℕ) (m : Run) → 1 ≤ homes → IsWhole m → Sets 32 homes slot v m (with_word homes slot v m)
unfolding with_word
sets_word homes slot v m some whole = by (in_register homes slot) refl
  where
    by : (b : Bool) → in_register homes slot ≡ b → Sets 32 homes slot v m (if b then with_written
        (write.Register (homes + slot) v) m else with_slot_word (stack_word homes slot) v m)
    by true is = sets_register homes slot v m some whole (ltb-true (homes + slot) OVERRUN is)
    by false is = sets_stack homes slot v m whole is

pub in_stack : (homes slot : ℕ) (m : Run) → in_register homes slot ≡ false → word_of homes slot m
    ≡ m.stack (m.st + stack_word homes slot)
unfolding word_of
in_stack homes slot m is = ap (λ c. if c then held (homes + slot) m else m.stack (m.st + stack_word homes slot)) is

-- under a guard that is false
pub set_off : (from : Sources) (homes : ℕ) (g : Guard) (slot rs : ℕ) (m : Run) → IsWhole m → holds m.regs g ≡ false
    → once from (set_word homes g slot rs) m ≡ m
unfolding set_op
set_off from homes g slot rs m whole off = by (in_register homes slot)
  where
    by : (b : Bool) → once from (under g (if b then AluImm imm.Add (homes + slot) rs 0 else Store mem.S store.Word 0 rs
        (stack_word homes slot))) m ≡ m
    by true = did_nothing from g (AluImm imm.Add (homes + slot) rs 0) m whole off
    by false = did_nothing from g (Store mem.S store.Word 0 rs (stack_word homes slot)) m whole off

-- ---- beside

-- a word of the stack that is set is none in which one of the frame stands
pub beside_word : (homes at u v : ℕ) (m : Run) → (in_register homes u ≡ false → at ≡ stack_word homes u → ⊥)
    → word_of homes u (with_slot_word at v m) ≡ word_of homes u m
unfolding word_of
beside_word homes at u v m apart = by (in_register homes u) refl
  where
    by : (b : Bool) → in_register homes u ≡ b → (if b then held (homes + u) (with_slot_word at v m) else put
        (m.st + at) v m.stack (m.st + stack_word homes u)) ≡ (if b then held (homes + u) m else m.stack
        (m.st + stack_word homes u))
    by true is = refl
    by false is = put_other (m.st + at) (m.st + stack_word homes u) v m.stack (λ same. apart is (omega (arith, same)))

-- reading leaves all other registers
pub read_others : (from : Sources) (homes rd slot r : ℕ) (m : Run) → IsWhole m → r < 32 → (rd ≡ r → ⊥)
    → held r (once from (read_word homes rd slot) m) ≡ held r m
unfolding read_op
read_others from homes rd slot r m whole few apart = by (in_register homes slot)
  where
    by : (b : Bool)
        → held r (once from (under always (if b then AluImm imm.Add rd (homes + slot) 0 else Load mem.S load.Word rd 0
        (stack_word homes slot))) m) ≡ held r m
    by true = ap (held r) (did_write from always (AluImm imm.Add rd (homes + slot) 0) m whole whole.fits.always refl
        refl) ∙ kept rd ((held (homes + slot) m + 0) % 2 ^ 32) r m whole few apart
    by false = ap (held r) (did_load from always mem.S rd 0 (stack_word homes slot) m whole whole.fits.always)
        ∙ kept rd (word_given from mem.S (address_by (held 0 m) (stack_word homes slot) 4) m) r m whole few apart

pub in_place : (homes slot : ℕ) (m : Run) → in_register homes slot ≡ true → word_of homes slot m ≡ held (homes + slot) m
unfolding word_of
in_place homes slot m is = ap (λ c. if c then held (homes + slot) m else m.stack (m.st + stack_word homes slot)) is
