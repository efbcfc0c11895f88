-- What bundles may set, load, store and ask for: a footprint; and what a bundle that keeps to one asks for, and leaves.
use Rattle.std.proofs.Common.{◌≡◌, ℕ, ◌<◌, ◌*◌, ◌%◌, ◌^◌, ◌+◌, ◌==◌, nat_lt, Bool, true, false, not, ◌&&◌, if◌then◌else◌, is_none, List, refl, ap, sym, ◌∙◌, arith, ne_eqb, true≢false}
use Rattle.std.specs.List.{list_all}
use Rattle.std.proofs.lemmas.Bool.{and_parts, and_from, eqb-true}
use Rattle.patmos_instr.specs.Bundles.{PlainBundle}
use Rattle.patmos_instr.specs.declared.guards.Guard.{Guard}
use Rattle.patmos_instr.specs.declared.functions.StackFunc.{StackFunc}
use Rattle.patmos_instr.specs.declared.functions.StackFunc.TheVariants.{Sens}
use Rattle.patmos_instr.specs.declared.instructions.Op.{Op}
use Rattle.patmos_instr.specs.declared.instructions.Op.TheVariants.{AluImm, AluReg, AluLong, Mul, Cmp, CmpImm, Comb, ToSpecial, FromSpecial, Stack, Load, Store, Branch, Call, Return}
use Rattle.patmos_instr.specs.declared.memories.Mem.TheVariants as mem
use Rattle.patmos_instr.specs.declared.memories.StoreWidth.TheVariants as store
use Rattle.patmos_instr.specs.declared.memories.Width.TheVariants as load
use Rattle.patmos_instr.specs.declared.specials.WritableSpecial.TheVariants as special
use Rattle.patmos_sem.specs.Bundles.{effect_of}
use Rattle.patmos_sem.specs.Effects.{asked}
use Rattle.patmos_sem.specs.Registers.{Registers, holds, word_in}
use Rattle.patmos_sem.specs.declared.effects.Effect.{Effect}
use Rattle.patmos_sem.specs.declared.effects.Effect.TheVariants as effect
use Rattle.sp_shape.specs.Formed.{is_always}
use Rattle.sp_shape.specs.Run.{Run, Sources, once, IsWhole}
use Rattle.sp_emit.specs.declared.registers.TheConstants.{OVERRUN, FLAGS}
use Rattle.sp_emit.proofs.Untouched.{Operand, register, predicate, IsThere, Same, no_register, no_predicate, leaves_op, left_once}

-- registers and predicates that may be set; words of the stack, from its top, that may be read and stored, and stack
-- instructions; whether other memories may be read and written, and special registers set; and whether there may be
-- branches, calls and returns. No code needs that register 0, those past the flag of loops and the
-- predicates of tests stay as they are
pub record Footprint : Type 0 where
  pub sets : ℕ → Bool
  pub tells : ℕ → Bool
  pub reads : ℕ → Bool
  pub stores : ℕ → Bool
  pub stacks : StackFunc → ℕ → Bool
  pub loads : Bool
  pub writes : Bool
  pub specials : Bool
  pub branches : Bool
  pub calls : Bool
  pub returns : Bool
  pub zero : sets 0 ≡ true
  pub spare : (r : ℕ) → OVERRUN < r → sets r ≡ true
  pub passing : (p : ℕ) → p < FLAGS → tells p ≡ true

-- an instruction under a guard: where a transaction with main memory may be, it is always done
abbrev pub keeps_to : Footprint → Guard → Op → Bool
keeps_to F g (AluImm func rd ra n) = F.sets rd
keeps_to F g (AluReg func rd ra rb) = F.sets rd
keeps_to F g (AluLong func rd ra n) = F.sets rd
keeps_to F g (FromSpecial rd s) = F.sets rd
keeps_to F g (ToSpecial special.S0 ra) = false
keeps_to F g (ToSpecial s ra) = F.specials
keeps_to F g (Mul unsigned ra rb) = true
keeps_to F g (Cmp func pd ra rb) = F.tells pd
keeps_to F g (CmpImm func pd ra n) = F.tells pd
keeps_to F g (Comb func pd a b) = F.tells pd
keeps_to F g (Load mem.S load.Word rd ra word) = (ra == 0) && (F.sets rd && F.reads word)
keeps_to F g (Load space load.Word rd ra words) = is_always g && (F.loads && F.sets rd)
keeps_to F g (Store mem.S store.Word ra rs word) = (ra == 0) && F.stores word
keeps_to F g (Store mem.L store.Word ra rs words) = F.writes
keeps_to F g (Store space store.Word ra rs words) = is_always g && F.writes
keeps_to F g (Stack func count) = is_always g && F.stacks func count
keeps_to F g (Branch offset) = F.branches
keeps_to F g (Call target) = F.calls
keeps_to F g Return = F.returns
keeps_to F g _ = false

abbrev pub is_in : Footprint → PlainBundle → Bool
is_in F b = keeps_to F b.first.guard b.first.op && is_none b.second

abbrev pub AreIn : Footprint → List PlainBundle → Type 0
AreIn F bs = list_all (is_in F) bs ≡ true

-- all of them, and none
abbrev pub any : ℕ → Bool
any n = true

abbrev pub none : ℕ → Bool
none n = false

-- a predicate in which no word of a frame stands
abbrev pub is_passing : ℕ → Bool
is_passing p = nat_lt p FLAGS

-- a frame is brought back, where a function has returned
abbrev pub brings : StackFunc → ℕ → Bool
brings Sens count = true
brings _ count = false

-- all that functions do; and their bodies alone
abbrev pub everything : Footprint
everything = record {
  sets = any;
  tells = any;
  reads = any;
  stores = any;
  stacks = λ func count. true;
  loads = true;
  writes = true;
  specials = true;
  branches = true;
  calls = true;
  returns = true;
  zero = refl;
  spare = λ r lt. refl;
  passing = λ p lt. refl;
}

abbrev pub of_bodies : Footprint
of_bodies = record everything { stacks = brings; specials = false; returns = false }

-- where no register, and no word of the stack is left out
pub record IsWide (F : Footprint) : Type 0 where
  pub sets : (r : ℕ) → F.sets r ≡ true
  pub reads : (word : ℕ) → F.reads word ≡ true
  pub stores : (word : ℕ) → F.stores word ≡ true

-- ---- what is asked for

-- the address of a word of the stack that may be reached
abbrev pub IsWordOf : (ℕ → Bool) → ℕ → Type 0
IsWordOf may address = (word : ℕ) × (may word ≡ true) × (address ≡ word * 4 % 2 ^ 32)

abbrev pub AsksIn : Footprint → Effect → Type 0
AsksIn F (effect.Load mem.S width rd address) = (width ≡ load.Word) × IsWordOf F.reads address
AsksIn F (effect.Load space width rd address) = F.loads ≡ true
AsksIn F (effect.Store mem.S width address value) = (width ≡ store.Word) × IsWordOf F.stores address
AsksIn F (effect.Store space width address value) = F.writes ≡ true
AsksIn F (effect.StackOp func count) = F.stacks func count ≡ true
AsksIn F _ = Unit {0}

own_word : (ra word : ℕ) (regs : Registers) → word_in regs 0 ≡ 0 → (ra == 0) ≡ true
    → (word_in regs ra + word * 4) % 2 ^ 32 ≡ word * 4 % 2 ^ 32
own_word ra word regs zero_is top =
    let first : word_in regs ra ≡ 0 = ap (word_in regs) (eqb-true ra 0 top) ∙ zero_is in omega (arith, first)

asked_in : (F : Footprint) (g : Guard) (op : Op) (regs : Registers) → word_in regs 0 ≡ 0 → keeps_to F g op ≡ true
    → AsksIn F (asked regs op)
asked_in F g (Load mem.S load.Word rd ra word) regs zero_is keeps =
    let both = and_parts (ra == 0) (F.sets rd && F.reads word) keeps in
    (refl, (word, (and_parts (F.sets rd) (F.reads word) both.1).1, own_word ra word regs zero_is both.0))
asked_in F g (Load _ load.Word rd ra words) regs zero_is keeps =
    (and_parts F.loads (F.sets rd) (and_parts (is_always g) (F.loads && F.sets rd) keeps).1).0
asked_in F g (Store mem.S store.Word ra rs word) regs zero_is keeps =
    let both = and_parts (ra == 0) (F.stores word) keeps in
    (refl, (word, both.1, own_word ra word regs zero_is both.0))
asked_in F g (Store mem.L store.Word ra rs words) regs zero_is keeps = keeps
asked_in F g (Store _ store.Word ra rs words) regs zero_is keeps = (and_parts (is_always g) F.writes keeps).1
asked_in F g (Stack func count) regs zero_is keeps = (and_parts (is_always g) (F.stacks func count) keeps).1
asked_in F g (Load _ _ rd ra words) regs zero_is keeps = absurd cc
asked_in F g (Store _ _ ra rs words) regs zero_is keeps = absurd cc
asked_in F g _ regs zero_is keeps = tt

pub effect_in : (F : Footprint) (b : PlainBundle) (regs : Registers) → word_in regs 0 ≡ 0 → is_in F b ≡ true
    → AsksIn F (effect_of b regs)
effect_in F b regs zero_is within = by (holds regs b.first.guard)
  where
    by : (on : Bool) → AsksIn F (if on then asked regs b.first.op else effect.Nothing)
    by true = asked_in F b.first.guard b.first.op regs zero_is
        (and_parts (keeps_to F b.first.guard b.first.op) (is_none b.second) within).0
    by false = tt

-- ---- what is left as it was

abbrev pub Spared : Footprint → Operand → Type 0
Spared F (register r) = F.sets r ≡ false
Spared F (predicate p) = F.tells p ≡ false

other : (may : ℕ → Bool) (n k : ℕ) → may n ≡ true → may k ≡ false → not (n == k) ≡ true
other may n k named spared =
    ap not (ne_eqb n k (λ same. absurd (true≢false (sym named ∙ ap may same ∙ spared))))

other_register : (F : Footprint) (x : Operand) → Spared F x → (rd : ℕ) → F.sets rd ≡ true → no_register x rd ≡ true
other_register F (register r) spared rd sets = other F.sets rd r sets spared
other_register F (predicate p) spared rd sets = refl

other_predicate : (F : Footprint) (x : Operand) → Spared F x → (pd : ℕ) → F.tells pd ≡ true → no_predicate x pd ≡ true
other_predicate F (register r) spared pd tells = refl
other_predicate F (predicate p) spared pd tells = other F.tells pd p tells spared

spares : (F : Footprint) (x : Operand) → Spared F x → (g : Guard) (op : Op) → keeps_to F g op ≡ true
    → leaves_op x op ≡ true
spares F x spared g (AluImm func rd ra n) keeps = other_register F x spared rd keeps
spares F x spared g (AluReg func rd ra rb) keeps = other_register F x spared rd keeps
spares F x spared g (AluLong func rd ra n) keeps = other_register F x spared rd keeps
spares F x spared g (FromSpecial rd s) keeps = other_register F x spared rd keeps
spares F x spared g (Load mem.S load.Word rd ra word) keeps = other_register F x spared rd
    (and_parts (F.sets rd) (F.reads word) (and_parts (ra == 0) (F.sets rd && F.reads word) keeps).1).0
spares F x spared g (Load _ load.Word rd ra words) keeps = other_register F x spared rd
    (and_parts F.loads (F.sets rd) (and_parts (is_always g) (F.loads && F.sets rd) keeps).1).1
spares F x spared g (Load _ _ rd ra words) keeps = absurd cc
spares F x spared g (Cmp func pd ra rb) keeps = other_predicate F x spared pd keeps
spares F x spared g (CmpImm func pd ra n) keeps = other_predicate F x spared pd keeps
spares F x spared g (Comb func pd a b) keeps = other_predicate F x spared pd keeps
spares F (register r) spared g (ToSpecial s ra) keeps = refl
spares F (predicate p) spared g (ToSpecial special.S0 ra) keeps = absurd cc
spares F (predicate p) spared g (ToSpecial s ra) keeps = refl
spares F x spared g _ keeps = refl

pub spared_once : (from : Sources) (F : Footprint) (x : Operand) (b : PlainBundle) (m : Run) → IsThere x → IsWhole m
    → is_in F b ≡ true → Spared F x → Same x m (once from b m)
spared_once from F x b m there whole within spared =
    let both = and_parts (keeps_to F b.first.guard b.first.op) (is_none b.second) within in
    left_once from x b m there whole (and_from (leaves_op x b.first.op) (is_none b.second)
    (spares F x spared b.first.guard b.first.op both.0) both.1)
