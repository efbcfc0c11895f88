-- A plain instruction and a bundle with nothing in common, in either order: what comes of them read at once is the
-- same.
use Rattle.std.proofs.Common.{◌≡◌, ℕ, ◌==◌, Bool, true, false, true≢false, if◌then◌else◌, Option, Some, None, List, [], ◌∷◌, refl, sym, ap, ◌∙◌, subst}
use Rattle.std.specs.Prelude.{◌&&◌, ◌||◌, is_none}
use Rattle.std.specs.List.{list_all}
use Rattle.std.proofs.lemmas.Bool.{and_parts, and_from, eqb-true}
use Rattle.patmos_instr.specs.Bundles.{PlainBundle}
use Rattle.patmos_instr.specs.declared.instructions.Instr.{Instr}
use Rattle.patmos_instr.specs.declared.instructions.Op.{Op}
use Rattle.patmos_instr.specs.declared.instructions.Op.TheVariants.{AluImm, AluReg, AluLong, Mul, Cmp, CmpImm, Comb, ToSpecial, Load}
use Rattle.patmos_sem.specs.Bundles.{slot_write, second_write, slot_begun, slot_asked}
use Rattle.patmos_sem.specs.Effects.{address_of, width_bytes, write_of, begun, asked}
use Rattle.patmos_sem.specs.Narrow.{picked}
use Rattle.patmos_sem.specs.Operations.{alu_of, alu_value, compare_value, pred_value}
use Rattle.patmos_sem.specs.Registers.{Registers, word_in, pred_in, holds}
use Rattle.patmos_sem.specs.Writes.{came, register_after, pred_after, register_by, pred_by, low_by, high_by, base_by, offset_by}
use Rattle.patmos_sem.specs.declared.effects.Effect.TheVariants as effect
use Rattle.patmos_sem.specs.declared.pending.Pending.TheVariants as pending
use Rattle.patmos_sem.specs.declared.writes.Write.{Write}
use Rattle.patmos_sem.specs.declared.writes.Write.TheVariants as write
use Rattle.patmos_sem.proofs.Told.{renewed-renewed}
use Rattle.sp_shape.proofs.Whole.{once_whole}
use Rattle.sp_shape.specs.Run.{Run, IsWhole, Sources, word_given, effected, once}
use Rattle.bundle_sched.specs.Operands.{reads, op_tests, tests, results, flags, lacks, apart, spares}
use Rattle.patmos_instr.specs.Instructions.{is_long}
use Rattle.bundle_sched.specs.Packed.{lone, is_free, can_join, pair}
use Rattle.bundle_sched.specs.Ordered.{is_plain_op, all_plain, are_free, lets_by, goes_by}
use Rattle.bundle_sched.proofs.TwoInOne.{pairs}
use Rattle.bundle_sched.proofs.Commute.{both_of, no_second, two_writes, plain_once}
use Rattle.bundle_sched.proofs.Once.{with_regs, left_pending, effect_regs, pending_regs, three, late_write, once_told}
use Rattle.bundle_sched.proofs.Reading.{each_true, slot_same, plain_slot, specials_same, any_write, any_begun, any_asked}
use Rattle.bundle_sched.proofs.Unwritten.{alone, after_one, word_kept, pred_kept, word_spared, register_spared, pred_spared, second_lacks, second_spared, spares_each}

-- ---- writes that leave what an operation leaves

record Leaves (op : Op) (w : Write) : Type 0 where
  pub words : (r : ℕ) → lacks (results op) r ≡ true → (x : ℕ) → register_by r w x ≡ x
  pub preds : (p : ℕ) → spares op (p ∷ []) ≡ true → (x : Bool) → pred_by p w x ≡ x

slot_leaves : (st ss : ℕ) (regs : Registers) (i : Instr) → Leaves i.op (slot_write st ss regs i)
slot_leaves st ss regs i = record {
  words = λ r h x. register_spared (holds regs i.guard) i.op st ss regs r x h;
  preds = λ p h x. pred_spared (holds regs i.guard) i.op st ss regs p [] x h;
}

late_leaves : (from : Sources) (i : Instr) (m : Run) → Leaves i.op (late_write from i m)
late_leaves from i m = so (holds m.regs i.guard) i.op
  where
    so : (on : Bool) (op : Op) → Leaves op (came (left_pending from (if on then asked m.regs op else effect.Nothing) m
        (if on then begun m.regs op else pending.Nothing)))
    so false op = record { words = λ r h x. refl; preds = λ p h x. refl }
    so true (Load space width rd ra imm) = record {
      words = λ r h x. word_spared rd r (picked width (address_of (word_in m.regs ra) imm (width_bytes width))
          (word_given from space (address_of (word_in m.regs ra) imm (width_bytes width)) m)) x h;
      preds = λ p h x. refl;
    }
    so true (Mul unsigned ra rb) = record { words = λ r h x. refl; preds = λ p h x. refl }
    so true _ = record { words = λ r h x. refl; preds = λ p h x. refl }

-- ---- two writes in either order

record EitherOrder (w v : Write) : Type 0 where
  pub words : (r x : ℕ) → register_by r w (register_by r v x) ≡ register_by r v (register_by r w x)
  pub preds : (p : ℕ) (x : Bool) → pred_by p w (pred_by p v x) ≡ pred_by p v (pred_by p w x)

word_order : (rd value : ℕ) (v : Write) → ((x : ℕ) → register_by rd v x ≡ x) → EitherOrder (write.Register rd value) v
word_order rd value v kept = record { words = λ r x. so r x (rd == r) refl; preds = λ p x. refl }
  where
    so : (r x : ℕ) (is : Bool) → (rd == r) ≡ is → (if is then value else register_by r v x)
        ≡ register_by r v (if is then value else x)
    so r x true is = sym (subst (λ n. register_by n v value ≡ value) (eqb-true rd r is) (kept value))
    so r x false is = refl

pred_order : (pd : ℕ) (value : Bool) (v : Write) → ((x : Bool) → pred_by pd v x ≡ x)
    → EitherOrder (write.Predicate pd value) v
pred_order pd value v kept = record { words = λ r x. refl; preds = λ p x. so p x (pd == p) refl }
  where
    so : (p : ℕ) (x is : Bool) → (pd == p) ≡ is → (if is then value else pred_by p v x)
        ≡ pred_by p v (if is then value else x)
    so p x true is = sym (subst (λ n. pred_by n v value ≡ value) (eqb-true pd p is) (kept value))
    so p x false is = refl

-- a plain instruction's write, and one that leaves what an operation leaves that leaves what it writes
plain_order : (on : Bool) (op : Op) (st ss : ℕ) (regs : Registers) (other : Op) (v : Write) → is_plain_op op ≡ true
    → Leaves other v → apart (results other) (results op) ≡ true → spares other (flags op) ≡ true
    → EitherOrder (if on then write_of st ss regs op else write.Nothing) v
plain_order false op st ss regs other v plain leaves free spared = record { words = λ r x. refl; preds = λ p x. refl }
plain_order true (AluImm func rd ra imm) st ss regs other v plain leaves free spared =
    word_order rd (alu_value (alu_of func) (word_in regs ra) imm) v
    (leaves.words rd (and_parts (lacks (results other) rd) true free).0)
plain_order true (AluReg func rd ra rb) st ss regs other v plain leaves free spared =
    word_order rd (alu_value func (word_in regs ra) (word_in regs rb)) v
    (leaves.words rd (and_parts (lacks (results other) rd) true free).0)
plain_order true (AluLong func rd ra constant) st ss regs other v plain leaves free spared =
    word_order rd (alu_value func (word_in regs ra) constant) v
    (leaves.words rd (and_parts (lacks (results other) rd) true free).0)
plain_order true (Cmp func pd ra rb) st ss regs other v plain leaves free spared =
    pred_order pd (compare_value func (word_in regs ra) (word_in regs rb)) v (leaves.preds pd spared)
plain_order true (CmpImm func pd ra imm) st ss regs other v plain leaves free spared =
    pred_order pd (compare_value func (word_in regs ra) imm) v (leaves.preds pd spared)
plain_order true (Comb func pd a b) st ss regs other v plain leaves free spared =
    pred_order pd (pred_value func (holds regs a) (holds regs b)) v (leaves.preds pd spared)
plain_order true _ st ss regs other v plain leaves free spared = absurd (true≢false (sym plain))

-- it writes no special register
record NoSpecial (w : Write) : Type 0 where
  pub low : (x : ℕ) → low_by w x ≡ x
  pub high : (x : ℕ) → high_by w x ≡ x
  pub base : (x : ℕ) → base_by w x ≡ x
  pub offset : (x : ℕ) → offset_by w x ≡ x

plain_specials : (on : Bool) (op : Op) (st ss : ℕ) (regs : Registers) → is_plain_op op ≡ true
    → NoSpecial (if on then write_of st ss regs op else write.Nothing)
plain_specials false op st ss regs plain =
    record { low = λ x. refl; high = λ x. refl; base = λ x. refl; offset = λ x. refl }
plain_specials true (ToSpecial to ra) st ss regs plain = absurd (true≢false (sym plain))
plain_specials true _ st ss regs plain =
    record { low = λ x. refl; high = λ x. refl; base = λ x. refl; offset = λ x. refl }

-- one write before three, or after them
order_writes : (w a b c : Write) (regs : Registers) → NoSpecial w → EitherOrder w a → EitherOrder w b → EitherOrder w c
    → three a b c (after_one w regs) ≡ after_one w (three a b c regs)
order_writes w a b c regs none fa fb fc = λ k. record {
  general =
      (renewed-renewed 0 (register_after (alone w)) (register_after writes) (λ r x. register_after writes r
      (register_after (alone w) r x)) (λ r x. refl) regs.general
      ∙ sym (renewed-renewed 0 (register_after writes) (register_after (alone w)) (λ r x. register_after writes r
      (register_after (alone w) r x)) words regs.general)) k;
  preds =
      (renewed-renewed 0 (pred_after (alone w)) (pred_after writes)
      (λ p x. pred_after writes p (pred_after (alone w) p x)) (λ p x. refl) regs.preds
      ∙ sym (renewed-renewed 0 (pred_after writes) (pred_after (alone w))
      (λ p x. pred_after writes p (pred_after (alone w) p x)) preds regs.preds)) k;
  sl = (ap (λ x. low_by c (low_by b (low_by a x))) (none.low regs.sl)
      ∙ sym (none.low (low_by c (low_by b (low_by a regs.sl))))) k;
  sh = (ap (λ x. high_by c (high_by b (high_by a x))) (none.high regs.sh)
      ∙ sym (none.high (high_by c (high_by b (high_by a regs.sh))))) k;
  srb = (ap (λ x. base_by c (base_by b (base_by a x))) (none.base regs.srb)
      ∙ sym (none.base (base_by c (base_by b (base_by a regs.srb))))) k;
  sro = (ap (λ x. offset_by c (offset_by b (offset_by a x))) (none.offset regs.sro)
      ∙ sym (none.offset (offset_by c (offset_by b (offset_by a regs.sro))))) k;
  pending = pending.Nothing;
}
  where
    writes : List Write
    writes = write.Nothing ∷ a ∷ b ∷ c ∷ []

    words : (r x : ℕ) → register_after (alone w) r (register_after (write.Nothing ∷ a ∷ b ∷ c ∷ []) r x)
        ≡ register_after (write.Nothing ∷ a ∷ b ∷ c ∷ []) r (register_after (alone w) r x)
    words r x =
        elim (r == 0) as (λ z. (if z then 0 else register_by r w (if z then 0 else register_by r c
        (register_by r b (register_by r a x))))
        ≡ (if z then 0 else register_by r c (register_by r b (register_by r a (if z then 0 else register_by r w x))))) [
          | true ↦ refl
          | false ↦ fc.words r (register_by r b (register_by r a x))
              ∙ ap (register_by r c) (fb.words r (register_by r a x) ∙ ap (register_by r b) (fa.words r x))
        ]

    preds : (p : ℕ) (x : Bool) → pred_after (alone w) p (pred_after (write.Nothing ∷ a ∷ b ∷ c ∷ []) p x)
        ≡ pred_after (write.Nothing ∷ a ∷ b ∷ c ∷ []) p (pred_after (alone w) p x)
    preds p x =
        elim (p == 0) as (λ z. (if z then true else pred_by p w (if z then true else pred_by p c
        (pred_by p b (pred_by p a x))))
        ≡ (if z then true else pred_by p c (pred_by p b (pred_by p a (if z then true else pred_by p w x))))) [
          | true ↦ refl
          | false ↦ fc.preds p (pred_by p b (pred_by p a x)) ∙ ap (pred_by p c) (fb.preds p (pred_by p a x)
              ∙ ap (pred_by p b) (fa.preds p x))
        ]

-- ---- an instruction that neither reads nor writes what another writes

pub record IsFree (a b : Instr) : Type 0 where
  pub words : list_all (lacks (results a.op)) (reads b.op) ≡ true
  pub preds : list_all (λ p. spares a.op (p ∷ [])) (tests b) ≡ true
  pub writes : apart (results a.op) (results b.op) ≡ true
  pub flags : spares a.op (flags b.op) ≡ true

free_parts : (a b : Instr) → is_free a b ≡ true → IsFree a b
free_parts a b h =
    let one = and_parts (apart (results a.op) (reads b.op))
    (spares a.op (tests b) && (apart (results a.op) (results b.op) && spares a.op (flags b.op))) h in
    let two = and_parts (spares a.op (tests b)) (apart (results a.op) (results b.op) && spares a.op (flags b.op))
    one.1 in
    let three = and_parts (apart (results a.op) (results b.op)) (spares a.op (flags b.op)) two.1 in
    record { words = one.0; preds = spares_each a.op (tests b) two.0; writes = three.0; flags = three.1 }

pub record AreFree (a b : Instr) : Type 0 where
  pub this : IsFree a b
  pub that : IsFree b a

both_free : (a b : Instr) → are_free a b ≡ true → AreFree a b
both_free a b h = let both = and_parts (is_free a b) (is_free b a) h in record {
  this = free_parts a b both.0;
  that = free_parts b a both.1;
}

-- ---- the second slot, where there is one

abbrev pub SecondFree : Option Instr → Instr → Type 0
SecondFree None x = Unit {0}
SecondFree (Some i) x = AreFree i x

second_free : (o : Option Instr) (x : Instr) → (elim o as (λ _. Bool) [ None ↦ true | Some i ↦ are_free i x ]) ≡ true
    → SecondFree o x
second_free None x h = tt
second_free (Some i) x h = both_free i x h

abbrev second_left : Option Instr → ℕ → Bool
second_left o r = elim o as (λ _. Bool) [ None ↦ true | Some i ↦ lacks (results i.op) r ]

abbrev second_leaves : Option Instr → ℕ → Bool
second_leaves o p = elim o as (λ _. Bool) [ None ↦ true | Some i ↦ spares i.op (p ∷ []) ]

each_both : (f g : ℕ → Bool) (xs : List ℕ) → list_all f xs ≡ true → list_all g xs ≡ true → list_all (λ x. f x && g x) xs
    ≡ true
each_both f g [] hf hg = refl
each_both f g (x ∷ xs) hf hg =
    let p = and_parts (f x) (list_all f xs) hf in
    let q = and_parts (g x) (list_all g xs) hg in
    and_from (f x && g x) (list_all (λ y. f y && g y) xs) (and_from (f x) (g x) p.0 q.0) (each_both f g xs p.1 q.1)

second_words : (o : Option Instr) (x : Instr) → SecondFree o x → list_all (second_left o) (reads x.op) ≡ true
second_words None x free = each_true (reads x.op)
second_words (Some i) x free = free.this.words

second_preds : (o : Option Instr) (x : Instr) → SecondFree o x → list_all (second_leaves o) (tests x) ≡ true
second_preds None x free = each_true (tests x)
second_preds (Some i) x free = free.this.preds

-- ---- two bundles with nothing in common

abbrev pub SecondsFree : Option Instr → Option Instr → Type 0
SecondsFree o None = Unit {0}
SecondsFree o (Some j) = SecondFree o j

pub record Apart (b c : PlainBundle) : Type 0 where
  pub firsts : AreFree b.first c.first
  pub second : SecondFree b.second c.first
  pub other : SecondFree c.second b.first
  pub seconds : SecondsFree b.second c.second

abbrev pub SecondPlain : Option Instr → Type 0
SecondPlain None = Unit {0}
SecondPlain (Some i) = is_plain_op i.op ≡ true

second_plain : (o : Option Instr) → (elim o as (λ _. Bool) [ None ↦ true | Some i ↦ is_plain_op i.op ]) ≡ true
    → SecondPlain o
second_plain None h = tt
second_plain (Some i) h = h

-- what a bundle leaves of registers and of predicates
abbrev left_by : PlainBundle → ℕ → Bool
left_by b r = lacks (results b.first.op) r && second_left b.second r

abbrev leaves_by : PlainBundle → ℕ → Bool
leaves_by b p = spares b.first.op (p ∷ []) && second_leaves b.second p

-- ---- a bundle of plain instructions and any other

module _ (from : Sources) (b c : PlainBundle) (m : Run) (whole : IsWhole m) (plain : is_plain_op c.first.op ≡ true)
    (plains : SecondPlain c.second) (free : Apart b c) where
  abbrev w : Write
  w = slot_write m.st m.ss m.regs c.first

  abbrev w' : Write
  w' = second_write m.st m.ss m.regs c.second

  abbrev v : Write
  v = slot_write m.st m.ss m.regs b.first

  abbrev v' : Write
  v' = second_write m.st m.ss m.regs b.second

  abbrev u : Write
  u = late_write from b.first m

  abbrev next : Registers
  next = three w w' write.Nothing m.regs

  abbrev behind : Registers
  behind = three v v' u m.regs

  none : NoSpecial w
  none = plain_specials (holds m.regs c.first.guard) c.first.op m.st m.ss m.regs plain

  second_none : (o : Option Instr) → SecondPlain o → NoSpecial (second_write m.st m.ss m.regs o)
  second_none None h = record { low = λ x. refl; high = λ x. refl; base = λ x. refl; offset = λ x. refl }
  second_none (Some i) h = plain_specials (holds m.regs i.guard) i.op m.st m.ss m.regs h

  nones : NoSpecial w'
  nones = second_none c.second plains

  -- the bundle does the same after the plain one
  next_word : (r : ℕ) → left_by c r ≡ true → word_in next r ≡ word_in m.regs r
  next_word r h =
      let both = and_parts (lacks (results c.first.op) r) (second_left c.second r) h in
      word_kept (write.Nothing ∷ w ∷ w' ∷ write.Nothing ∷ []) m.regs r whole.fits (λ y.
      second_lacks c.second m.st m.ss m.regs r (register_by r w y) both.1
      ∙ (slot_leaves m.st m.ss m.regs c.first).words r both.0 y)

  next_pred : (p : ℕ) → leaves_by c p ≡ true → pred_in next p ≡ pred_in m.regs p
  next_pred p h =
      let both = and_parts (spares c.first.op (p ∷ [])) (second_leaves c.second p) h in
      pred_kept (write.Nothing ∷ w ∷ w' ∷ write.Nothing ∷ []) m.regs p whole.fits (λ y.
      second_spared c.second m.st m.ss m.regs p (pred_by p w y) both.1
      ∙ (slot_leaves m.st m.ss m.regs c.first).preds p both.0 y)

  low_next : next.sl ≡ m.regs.sl
  low_next = nones.low (low_by w m.regs.sl) ∙ none.low m.regs.sl

  high_next : next.sh ≡ m.regs.sh
  high_next = nones.high (high_by w m.regs.sh) ∙ none.high m.regs.sh

  base_next : next.srb ≡ m.regs.srb
  base_next = nones.base (base_by w m.regs.srb) ∙ none.base m.regs.srb

  offset_next : next.sro ≡ m.regs.sro
  offset_next = nones.offset (offset_by w m.regs.sro) ∙ none.offset m.regs.sro

  -- an instruction that neither of the plain ones changes for
  words_next : (i : Instr) → IsFree c.first i → SecondFree c.second i → list_all (left_by c) (reads i.op) ≡ true
  words_next i one two = each_both (lacks (results c.first.op)) (second_left c.second) (reads i.op) one.words
      (second_words c.second i two)

  preds_next : (i : Instr) → IsFree c.first i → SecondFree c.second i → list_all (leaves_by c) (tests i) ≡ true
  preds_next i one two = each_both (λ p. spares c.first.op (p ∷ [])) (second_leaves c.second) (tests i) one.preds
      (second_preds c.second i two)

  slot_next : (i : Instr) → IsFree c.first i → SecondFree c.second i → slot_write m.st m.ss next i
      ≡ slot_write m.st m.ss m.regs i
  slot_next i one two =
      let all = preds_next i one two in
      let tested = (and_parts (leaves_by c i.guard.pred) (list_all (leaves_by c) (op_tests i.op)) all).1 in
      slot_same m.regs next (left_by c) (leaves_by c) next_word next_pred (write_of m.st m.ss) write.Nothing i all
      (any_write m.regs next (left_by c) (leaves_by c) next_word next_pred m.st m.ss i.op (words_next i one two) tested
      (specials_same m.regs next (left_by c) (leaves_by c) next_word next_pred low_next high_next base_next offset_next
      m.st m.ss i.op tested))

  -- the second slots, told from the other side
  turned : (o p : Option Instr) → SecondsFree o p → (i : Instr) → o ≡ Some i → SecondFree p i
  turned o None h i is = tt
  turned None (Some j) h i is = absurd (true≢false (ap (λ (x : Option Instr). is_none x) is))
  turned (Some k) (Some j) h i is =
      let free = subst (λ x. SecondFree x j) is h in record { this = free.that; that = free.this }

  second_next : second_write m.st m.ss next b.second ≡ second_write m.st m.ss m.regs b.second
  second_next = so b.second refl free.second
    where
      so : (o : Option Instr) → b.second ≡ o → SecondFree o c.first → second_write m.st m.ss next o
          ≡ second_write m.st m.ss m.regs o
      so None is h = refl
      so (Some i) is h = slot_next i h.that (turned b.second c.second free.seconds i is)

  asked_next : slot_asked next b.first ≡ slot_asked m.regs b.first
  asked_next =
      slot_same m.regs next (left_by c) (leaves_by c) next_word next_pred asked effect.Nothing b.first
      (preds_next b.first free.firsts.that free.other)
      (any_asked m.regs next (left_by c) (leaves_by c) next_word next_pred base_next offset_next b.first.op
      (words_next b.first free.firsts.that free.other))

  begun_next : slot_begun next b.first ≡ slot_begun m.regs b.first
  begun_next =
      slot_same m.regs next (left_by c) (leaves_by c) next_word next_pred begun pending.Nothing b.first
      (preds_next b.first free.firsts.that free.other)
      (any_begun m.regs next (left_by c) (leaves_by c) next_word next_pred b.first.op
      (words_next b.first free.firsts.that free.other))

  -- and the plain ones after the bundle
  behind_word : (r : ℕ) → left_by b r ≡ true → word_in behind r ≡ word_in m.regs r
  behind_word r h =
      let both = and_parts (lacks (results b.first.op) r) (second_left b.second r) h in
      word_kept (write.Nothing ∷ v ∷ v' ∷ u ∷ []) m.regs r whole.fits (λ y.
      (late_leaves from b.first m).words r both.0 (register_by r v' (register_by r v y))
      ∙ second_lacks b.second m.st m.ss m.regs r (register_by r v y) both.1
      ∙ (slot_leaves m.st m.ss m.regs b.first).words r both.0 y)

  after_pred : (p : ℕ) → leaves_by b p ≡ true → pred_in behind p ≡ pred_in m.regs p
  after_pred p h =
      let both = and_parts (spares b.first.op (p ∷ [])) (second_leaves b.second p) h in
      pred_kept (write.Nothing ∷ v ∷ v' ∷ u ∷ []) m.regs p whole.fits (λ y.
      (late_leaves from b.first m).preds p both.0 (pred_by p v' (pred_by p v y))
      ∙ second_spared b.second m.st m.ss m.regs p (pred_by p v y) both.1
      ∙ (slot_leaves m.st m.ss m.regs b.first).preds p both.0 y)

  slot_after : (i : Instr) (st ss : ℕ) → is_plain_op i.op ≡ true → IsFree b.first i → SecondFree b.second i
      → slot_write st ss behind i ≡ slot_write m.st m.ss m.regs i
  slot_after i st ss kind one two =
      plain_slot m.regs behind (left_by b) (leaves_by b) behind_word after_pred m.st m.ss st ss i kind
      (each_both (lacks (results b.first.op)) (second_left b.second) (reads i.op) one.words
      (second_words b.second i two))
      (each_both (λ p. spares b.first.op (p ∷ [])) (second_leaves b.second) (tests i) one.preds
      (second_preds b.second i two))

  second_behind : (o : Option Instr) (st ss : ℕ) → SecondPlain o → SecondFree o b.first → SecondsFree b.second o
      → second_write st ss behind o ≡ second_write m.st m.ss m.regs o
  second_behind None st ss kind one two = refl
  second_behind (Some i) st ss kind one two = slot_after i st ss kind one.that two

  -- their writes in either order
  second_order : (i : Instr) (o : Option Instr) → is_plain_op i.op ≡ true → SecondFree o i
      → EitherOrder (slot_write m.st m.ss m.regs i) (second_write m.st m.ss m.regs o)
  second_order i None kind free = record { words = λ r y. refl; preds = λ p y. refl }
  second_order i (Some j) kind free = plain_order (holds m.regs i.guard) i.op m.st m.ss m.regs j.op
      (slot_write m.st m.ss m.regs j) kind (slot_leaves m.st m.ss m.regs j) free.this.writes free.this.flags

  one_order : (i : Instr) (regs : Registers) → is_plain_op i.op ≡ true → IsFree b.first i → SecondFree b.second i
      → three v v' u (after_one (slot_write m.st m.ss m.regs i) regs) ≡ after_one (slot_write m.st m.ss m.regs i)
      (three v v' u regs)
  one_order i regs kind one two =
      let on = holds m.regs i.guard in
      order_writes (slot_write m.st m.ss m.regs i) v v' u regs (plain_specials on i.op m.st m.ss m.regs kind)
      (plain_order on i.op m.st m.ss m.regs b.first.op v kind (slot_leaves m.st m.ss m.regs b.first)
      one.writes one.flags)
      (second_order i b.second kind two)
      (plain_order on i.op m.st m.ss m.regs b.first.op u kind (late_leaves from b.first m) one.writes one.flags)

  other_order : (o : Option Instr) (regs : Registers) → SecondPlain o → SecondFree o b.first → SecondsFree b.second o
      → three v v' u (after_one (second_write m.st m.ss m.regs o) regs) ≡ after_one (second_write m.st m.ss m.regs o)
      (three v v' u regs)
  other_order None regs kind one two =
      order_writes write.Nothing v v' u regs (second_none None tt) idle_order idle_order idle_order
    where
      idle_order : {x : Write} → EitherOrder write.Nothing x
      idle_order = record { words = λ r y. refl; preds = λ p y. refl }
  other_order (Some i) regs kind one two = one_order i regs kind one.that two

  ordered_writes : three v v' u next ≡ three w w' write.Nothing behind
  ordered_writes =
      ap (three v v' u) (sym (two_writes w w' m.regs))
      ∙ other_order c.second (after_one w m.regs) plains free.other free.seconds
      ∙ ap (after_one w') (one_order c.first m.regs plain free.firsts.this free.second)
      ∙ two_writes w w' behind

  pub plainly_swapped : once from b (once from c m) ≡ once from c (once from b m)
  plainly_swapped =
      let e = slot_asked m.regs b.first in
      let t = with_regs m next in
      let c_is = plain_once from c m whole plain in
      let b_is = once_told from b m whole in
      let s = with_regs (effected from e m) behind in
      let whole_t = subst IsWhole c_is (once_whole from c m whole) in
      let whole_s = subst IsWhole b_is (once_whole from b m whole) in
      let slot_b = slot_next b.first free.firsts.that free.other in
      let slot_c = slot_after c.first s.st s.ss plain free.firsts.this free.second in
      let slot_d = second_behind c.second s.st s.ss plains free.other free.seconds in
      ap (once from b) c_is
      ∙ once_told from b t whole_t
      ∙ (λ k. with_regs (effected from (asked_next k) t) (three (slot_b k) (second_next k)
      (came (left_pending from (asked_next k) t (begun_next k))) next))
      ∙ (λ k. with_regs (effect_regs from e m next k)
      (three v v' (came (pending_regs from e m next (slot_begun m.regs b.first) k)) next))
      ∙ ap (with_regs (effected from e m)) (ordered_writes
      ∙ (λ k. three (sym slot_c k) (sym slot_d k) write.Nothing behind))
      ∙ sym (plain_once from c s whole_s plain)
      ∙ ap (once from c) (sym b_is)

-- ---- one that goes by another

-- nothing in common, told from the other side
turned_free : (a b : Instr) → AreFree a b → AreFree b a
turned_free a b free = record { this = free.that; that = free.this }

second_turned : (o : Option Instr) (x : Instr) → SecondFree o x → SecondsFree None o
second_turned None x h = tt
second_turned (Some i) x h = tt

by_parts : (b x : PlainBundle) → lets_by b x ≡ true → AreFree b.first x.first × SecondFree b.second x.first
by_parts b x by =
    let both = and_parts (are_free b.first x.first)
    (elim b.second as (λ _. Bool) [ None ↦ true | Some i ↦ are_free i x.first ]) by in
    (both_free b.first x.first both.0, second_free b.second x.first both.1)

plain_goes : (from : Sources) (b : PlainBundle) (x : Instr) (m : Run) → IsWhole m → is_plain_op x.op ≡ true
    → lets_by b (lone x) ≡ true → once from b (once from (lone x) m) ≡ once from (lone x) (once from b m)
plain_goes from b x m whole plain by =
    let free = by_parts b (lone x) by in
    plainly_swapped from b (lone x) m whole plain tt (record {
      firsts = free.0;
      second = free.1;
      other = tt;
      seconds = tt;
    })

plain_stays : (from : Sources) (b : PlainBundle) (x : Instr) (m : Run) → IsWhole m → all_plain b ≡ true
    → lets_by b (lone x)
    ≡ true → once from b (once from (lone x) m) ≡ once from (lone x) (once from b m)
plain_stays from b x m whole plain by =
    let free = by_parts b (lone x) by in
    let kind = and_parts (is_plain_op b.first.op)
    (elim b.second as (λ _. Bool) [ None ↦ true | Some i ↦ is_plain_op i.op ]) plain in
    sym (plainly_swapped from (lone x) b m whole kind.0 (second_plain b.second kind.1)
    (record {
      firsts = turned_free b.first x free.0;
      second = tt;
      other = free.1;
      seconds = second_turned b.second x free.1;
    }))

pub swap_once : (from : Sources) (b x : PlainBundle) (m : Run) → IsWhole m → goes_by b x ≡ true
    → once from x (once from b m)
    ≡ once from b (once from x m)
swap_once from b x m whole by =
    let one = and_parts (is_none x.second) (lets_by b x && (is_plain_op x.first.op || all_plain b)) by in
    let two = and_parts (lets_by b x) (is_plain_op x.first.op || all_plain b) one.1 in
    let x_is = no_second x one.0 in
    let free = ap (lets_by b) (sym x_is) ∙ two.0 in
    (λ k. once from (x_is k) (once from b m)) ∙ sym (so (is_plain_op x.first.op) refl two.1 free)
    ∙ (λ k. once from b (once from (sym x_is k) m))
  where
    so : (p : Bool) → is_plain_op x.first.op ≡ p → (p || all_plain b) ≡ true → lets_by b (lone x.first) ≡ true
        → once from b (once from (lone x.first) m) ≡ once from (lone x.first) (once from b m)
    so true is h free = plain_goes from b x.first m whole is free
    so false is h free = plain_stays from b x.first m whole h free

-- ---- two in one

-- the second's write, after what comes late of the first
late_order : (w v u : Write) (regs : Registers) → NoSpecial w → EitherOrder w u
    → after_one w (three v write.Nothing u regs) ≡ three v w u regs
late_order w v u regs none order = λ k. record {
  general = renewed-renewed 0 (register_after before) (register_after (alone w))
      (register_after (write.Nothing ∷ v ∷ w ∷ u ∷ [])) words regs.general k;
  preds = renewed-renewed 0 (pred_after before) (pred_after (alone w)) (pred_after (write.Nothing ∷ v ∷ w ∷ u ∷ []))
      preds regs.preds k;
  sl = (none.low (low_by u (low_by v regs.sl)) ∙ ap (low_by u) (sym (none.low (low_by v regs.sl)))) k;
  sh = (none.high (high_by u (high_by v regs.sh)) ∙ ap (high_by u) (sym (none.high (high_by v regs.sh)))) k;
  srb = (none.base (base_by u (base_by v regs.srb)) ∙ ap (base_by u) (sym (none.base (base_by v regs.srb)))) k;
  sro = (none.offset (offset_by u (offset_by v regs.sro)) ∙ ap (offset_by u) (sym (none.offset (offset_by v regs.sro))))
      k;
  pending = pending.Nothing;
}
  where
    before : List Write
    before = write.Nothing ∷ v ∷ write.Nothing ∷ u ∷ []

    words : (r x : ℕ) → register_after (alone w) r (register_after (write.Nothing ∷ v ∷ write.Nothing ∷ u ∷ []) r x)
        ≡ register_after (write.Nothing ∷ v ∷ w ∷ u ∷ []) r x
    words r x =
        elim (r == 0) as (λ z. (if z then 0 else register_by r w (if z then 0 else register_by r u (register_by r v x)))
        ≡ (if z then 0 else register_by r u (register_by r w (register_by r v x)))) [
          | true ↦ refl
          | false ↦ order.words r (register_by r v x)
        ]

    preds : (p : ℕ) (x : Bool) → pred_after (alone w) p (pred_after (write.Nothing ∷ v ∷ write.Nothing ∷ u ∷ []) p x)
        ≡ pred_after (write.Nothing ∷ v ∷ w ∷ u ∷ []) p x
    preds p x =
        elim (p == 0) as (λ z. (if z then true else pred_by p w (if z then true else pred_by p u (pred_by p v x)))
        ≡ (if z then true else pred_by p u (pred_by p w (pred_by p v x)))) [
          | true ↦ refl
          | false ↦ order.preds p (pred_by p v x)
        ]

pub joined_once : (from : Sources) (x y : Instr) (m : Run) → IsWhole m → is_plain_op y.op ≡ true → IsFree x y
    → once from (both_of x y) m ≡ once from (lone y) (once from (lone x) m)
joined_once from x y m whole plain free =
    let e = slot_asked m.regs x in
    let v = slot_write m.st m.ss m.regs x in
    let w = slot_write m.st m.ss m.regs y in
    let u = late_write from x m in
    let out = effected from e m in
    let mid = three v write.Nothing u m.regs in
    let x_is = once_told from (lone x) m whole in
    let whole_t = subst IsWhole x_is (once_whole from (lone x) m whole) in
    let word = λ (r : ℕ) (h : lacks (results x.op) r ≡ true). word_kept (write.Nothing ∷ v ∷ write.Nothing ∷ u ∷ [])
    m.regs r whole.fits (λ z. (late_leaves from x m).words r h (register_by r v z)
    ∙ (slot_leaves m.st m.ss m.regs x).words r h z) in
    let pred = λ (p : ℕ) (h : spares x.op (p ∷ []) ≡ true). pred_kept (write.Nothing ∷ v ∷ write.Nothing ∷ u ∷ [])
    m.regs p whole.fits (λ z. (late_leaves from x m).preds p h (pred_by p v z)
    ∙ (slot_leaves m.st m.ss m.regs x).preds p h z) in
    let same = plain_slot m.regs mid (lacks (results x.op)) (λ p. spares x.op (p ∷ [])) word pred m.st m.ss out.st
    out.ss y plain free.words free.preds in
    let on = holds m.regs y.guard in
    let order = plain_order on y.op m.st m.ss m.regs x.op u plain (late_leaves from x m) free.writes free.flags in
    once_told from (both_of x y) m whole
    ∙ ap (with_regs out) (sym (late_order w v u m.regs (plain_specials on y.op m.st m.ss m.regs plain) order)
    ∙ ap (λ z. after_one z mid) (sym same))
    ∙ sym (plain_once from (lone y) (with_regs out mid) whole_t plain)
    ∙ ap (once from (lone y)) (sym x_is)

pub join_once : (from : Sources) (a b : PlainBundle) (m : Run) → IsWhole m → can_join a b ≡ true
    → once from (pair a b) m
    ≡ once from b (once from a m)
join_once from a b m whole h =
    let p = pairs a b h in
    let a_is = no_second a p.first_alone in
    let b_is = no_second b p.second_alone in
    joined_once from a.first b.first m whole (ap (λ second. second || is_long b.first.op) p.kind) (free_parts a.first
    b.first p.free) ∙ (λ k. once from (sym b_is k) (once from (sym a_is k) m))
