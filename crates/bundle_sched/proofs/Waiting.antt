-- What comes of code read at once comes of spaced code read late.
use Rattle.std.proofs.Common.{◌≡◌, ℕ, Bool, true, false, not, true≢false, if◌then◌else◌, Option, Some, None, List, [], ◌∷◌, ◌++◌, refl, sym, ap, ◌∙◌, subst}
use Rattle.std.specs.Prelude.{◌&&◌}
use Rattle.std.proofs.lemmas.Bool.{and_parts, not-true, not-false}
use Rattle.patmos_instr.specs.Bundles.{PlainBundle}
use Rattle.patmos_instr.specs.declared.instructions.Instr.{Instr}
use Rattle.patmos_instr.specs.declared.instructions.Op.{Op}
use Rattle.patmos_instr.specs.declared.instructions.Op.TheVariants.{Mul, FromSpecial, Stack, Load, Store}
use Rattle.patmos_instr.specs.declared.specials.Special.{Special}
use Rattle.patmos_instr.specs.declared.specials.Special.TheVariants as special
use Rattle.patmos_sem.specs.Bundles.{slot_write, second_write, slot_begun, effect_of}
use Rattle.patmos_sem.specs.Effects.{address_of, store_bytes, special_in, write_of, begun, asked}
use Rattle.patmos_sem.specs.Registers.{Registers, FitsRegisters, word_in, pred_in, holds, preds_number}
use Rattle.patmos_sem.specs.Writes.{after_writes, came, register_by, pred_by, low_by, high_by, base_by, offset_by}
use Rattle.patmos_sem.specs.declared.effects.Effect.TheVariants as effect
use Rattle.patmos_sem.specs.declared.pending.Pending.{Pending}
use Rattle.patmos_sem.specs.declared.pending.Pending.TheVariants as pending
use Rattle.patmos_sem.specs.declared.writes.Write.{Write}
use Rattle.patmos_sem.specs.declared.writes.Write.TheVariants as write
use Rattle.patmos_sem.proofs.Told.{kept_preds, after_writes-append}
use Rattle.sp_shape.proofs.Whole.{with_pending, behind, stored_regs, stacked_regs, once_whole, late_fits}
use Rattle.sp_shape.specs.Run.{Run, IsWhole, Sources, effected, late, once, settled, with_settled, run_late, run}
use Rattle.sp_shape.specs.Small.{idle}
use Rattle.sp_shape.specs.Trail.{all_done}
use Rattle.sp_shape.specs.Words.{is_late}
use Rattle.bundle_sched.specs.Operands.{reads, op_tests, tests, lacks, apart}
use Rattle.bundle_sched.specs.Placed.{reads_product, ignores, second_ignores, ignores_both, is_awaited, spaced}
use Rattle.bundle_sched.proofs.Reading.{SameSpecial, each_true, slot_same, any_write, any_begun, any_asked}
use Rattle.bundle_sched.proofs.Unwritten.{word_kept, pred_kept, word_spared}
use Rattle.bundle_sched.proofs.Once.{with_regs, early_once, idle_settles}

-- ---- what is pending, and what does not read it

-- an operation does not read what is pending
abbrev Unread : Pending → Op → Type 0
Unread pending.Nothing op = Unit {0}
Unread (pending.Value rd value) op = apart (rd ∷ []) (reads op) ≡ true
Unread (pending.Product low high) op = reads_product op ≡ false

abbrev UnreadSecond : Pending → Option Instr → Type 0
UnreadSecond p None = Unit {0}
UnreadSecond p (Some i) = Unread p i.op

-- nor a bundle
abbrev UnreadBoth : Pending → PlainBundle → Type 0
UnreadBoth p b = Unread p b.first.op × UnreadSecond p b.second

-- the registers that what is pending goes to
abbrev goes_to : Pending → List ℕ
goes_to pending.Nothing = []
goes_to (pending.Value rd value) = rd ∷ []
goes_to (pending.Product low high) = []

none_apart : (rs : List ℕ) → apart [] rs ≡ true
none_apart [] = refl
none_apart (r ∷ rs) = none_apart rs

unread_apart : (p : Pending) (op : Op) → Unread p op → apart (goes_to p) (reads op) ≡ true
unread_apart pending.Nothing op unread = none_apart (reads op)
unread_apart (pending.Value rd value) op unread = unread
unread_apart (pending.Product low high) op unread = none_apart (reads op)

register_left : (p : Pending) (r x : ℕ) → lacks (goes_to p) r ≡ true → register_by r (came p) x ≡ x
register_left pending.Nothing r x h = refl
register_left (pending.Value rd value) r x h = word_spared rd r value x h
register_left (pending.Product low high) r x h = refl

pred_left : (p : Pending) (n : ℕ) (x : Bool) → pred_by n (came p) x ≡ x
pred_left pending.Nothing n x = refl
pred_left (pending.Value rd value) n x = refl
pred_left (pending.Product low high) n x = refl

base_left : (p : Pending) (x : ℕ) → base_by (came p) x ≡ x
base_left pending.Nothing x = refl
base_left (pending.Value rd value) x = refl
base_left (pending.Product low high) x = refl

offset_left : (p : Pending) (x : ℕ) → offset_by (came p) x ≡ x
offset_left pending.Nothing x = refl
offset_left (pending.Value rd value) x = refl
offset_left (pending.Product low high) x = refl

low_left : (p : Pending) (rd x : ℕ) → Unread p (FromSpecial rd special.Sl) → low_by (came p) x ≡ x
low_left pending.Nothing rd x unread = refl
low_left (pending.Value r value) rd x unread = refl
low_left (pending.Product low high) rd x unread = absurd (true≢false unread)

high_left : (p : Pending) (rd x : ℕ) → Unread p (FromSpecial rd special.Sh) → high_by (came p) x ≡ x
high_left pending.Nothing rd x unread = refl
high_left (pending.Value r value) rd x unread = refl
high_left (pending.Product low high) rd x unread = absurd (true≢false unread)

-- ---- an instruction that does not read what is pending does the same before it has come and after

module _ (regs : Registers) (fits : FitsRegisters regs) where
  abbrev arriving : Pending
  arriving = regs.pending

  word_stays : (r : ℕ) → lacks (goes_to arriving) r ≡ true → word_in (settled regs) r ≡ word_in regs r
  word_stays r h = word_kept (came arriving ∷ []) regs r fits (λ x. register_left arriving r x h)

  pred_stays : (p : ℕ) → true ≡ true → pred_in (settled regs) p ≡ pred_in regs p
  pred_stays p h = pred_kept (came arriving ∷ []) regs p fits (λ x. pred_left arriving p x)

  special_stays : (st ss rd : ℕ) (from : Special) → Unread arriving (FromSpecial rd from)
      → special_in st ss (settled regs) from ≡ special_in st ss regs from
  special_stays st ss rd special.S0 unread =
      ap preds_number (sym (kept_preds (came arriving) regs.preds fits.always (λ p old ne. pred_left arriving p old)))
  special_stays st ss rd special.Sl unread = low_left arriving rd regs.sl unread
  special_stays st ss rd special.Sh unread = high_left arriving rd regs.sh unread
  special_stays st ss rd special.Srb unread = base_left arriving regs.srb
  special_stays st ss rd special.Sro unread = offset_left arriving regs.sro
  special_stays st ss rd special.St unread = refl
  special_stays st ss rd special.Ss unread = refl

  specials_stay : (st ss : ℕ) (op : Op) → Unread arriving op → SameSpecial st ss regs (settled regs) op
  specials_stay st ss (FromSpecial rd from) unread = special_stays st ss rd from unread
  specials_stay st ss _ unread = tt

  write_stays : (st ss : ℕ) (op : Op) → Unread arriving op → write_of st ss (settled regs) op ≡ write_of st ss regs op
  write_stays st ss op unread =
      any_write regs (settled regs) (lacks (goes_to arriving)) (λ p. true) word_stays pred_stays st ss op
      (unread_apart arriving op unread) (each_true (op_tests op)) (specials_stay st ss op unread)

  begun_stays : (op : Op) → Unread arriving op → begun (settled regs) op ≡ begun regs op
  begun_stays op unread = any_begun regs (settled regs) (lacks (goes_to arriving)) (λ p. true) word_stays pred_stays op
      (unread_apart arriving op unread)

  asked_stays : (op : Op) → Unread arriving op → asked (settled regs) op ≡ asked regs op
  asked_stays op unread =
      any_asked regs (settled regs) (lacks (goes_to arriving)) (λ p. true) word_stays pred_stays
      (base_left arriving regs.srb) (offset_left arriving regs.sro) op (unread_apart arriving op unread)

  slot_stays : {A : Type 0} (f : Registers → Op → A) (none : A) (i : Instr) → f (settled regs) i.op ≡ f regs i.op
      → (if holds (settled regs) i.guard then f (settled regs) i.op else none)
      ≡ (if holds regs i.guard then f regs i.op else none)
  slot_stays f none i same = slot_same regs (settled regs) (lacks (goes_to arriving)) (λ p. true) word_stays pred_stays
      f none i (each_true (tests i)) same

  second_stays : (st ss : ℕ) (second : Option Instr) → UnreadSecond arriving second
      → second_write st ss (settled regs) second ≡ second_write st ss regs second
  second_stays st ss None unread = refl
  second_stays st ss (Some i) unread = slot_stays (write_of st ss) write.Nothing i (write_stays st ss i.op unread)

-- ---- what is pending comes first, whether in the bundle or before it

three_writes : (u v w : Write) (p : Pending) (regs : Registers)
    → with_pending (after_writes (write.Nothing ∷ v ∷ w ∷ []) (with_pending (after_writes (u ∷ []) regs)
    pending.Nothing)) p ≡ with_pending (after_writes (u ∷ v ∷ w ∷ []) regs) p
three_writes u v w p regs = ap (λ r. with_pending r p) (after_writes-append (u ∷ []) (write.Nothing ∷ v ∷ w ∷ []) regs)

-- ---- a bundle that does not read what is pending

unread_late : (from : Sources) (b : PlainBundle) (m : Run) → FitsRegisters m.regs → UnreadBoth m.regs.pending b
    → late from b (with_settled m) ≡ late from b m
unread_late from b m fits unread =
    let asks = slot_stays m.regs fits asked effect.Nothing b.first (asked_stays m.regs fits b.first.op unread.0) in
    let begins = slot_stays m.regs fits begun pending.Nothing b.first (begun_stays m.regs fits b.first.op unread.0) in
    let first = slot_stays m.regs fits (write_of m.st m.ss) write.Nothing b.first
    (write_stays m.regs fits m.st m.ss b.first.op unread.0) in
    let second = second_stays m.regs fits m.st m.ss b.second unread.1 in
    (λ k. effected from (asks k)
    (with_regs m (with_pending (after_writes (write.Nothing ∷ first k ∷ second k ∷ []) (settled m.regs))
    (begins k))))
    ∙ ap (λ regs. effected from (effect_of b m.regs) (with_regs m regs))
    (three_writes (came m.regs.pending) (slot_write m.st m.ss m.regs b.first) (second_write m.st m.ss m.regs b.second)
    (slot_begun m.regs b.first) m.regs)

-- what is pending after an operation is not read by what ignores it
pending_unread : (from : Sources) (on : Bool) (op other : Op) (regs : Registers) (m : Run) → ignores op other ≡ true
    → m.regs.pending ≡ (if on then begun regs op else pending.Nothing)
    → Unread (effected from (if on then asked regs op else effect.Nothing) m).regs.pending other
pending_unread from false op other regs m h is = subst (λ p. Unread p other) (sym is) tt
pending_unread from true (Load space width rd ra imm) other regs m h is = h
pending_unread from true (Mul unsigned ra rb) other regs m h is =
    subst (λ p. Unread p other) (sym is) (not-true (reads_product other) h)
pending_unread from true (Store space width ra rs imm) other regs m h is =
    subst (λ r. Unread r.pending other)
    (sym (stored_regs space width (address_of (word_in regs ra) imm (store_bytes width)) (word_in regs rs) m))
    (subst (λ p. Unread p other) (sym is) tt)
pending_unread from true (Stack func count) other regs m h is =
    subst (λ r. Unread r.pending other) (sym (stacked_regs func count m)) (subst (λ p. Unread p other) (sym is) tt)
pending_unread from true _ other regs m h is = subst (λ p. Unread p other) (sym is) tt

unread_after : (from : Sources) (a b : PlainBundle) (m : Run) → ignores_both a.first.op b ≡ true
    → UnreadBoth (late from a m).regs.pending b
unread_after from a b m h = let both = and_parts (ignores a.first.op b.first.op) (second_ignores a.first.op b.second)
    h in (own b.first.op both.0, second b.second both.1)
  where
    own : (op : Op) → ignores a.first.op op ≡ true → Unread (late from a m).regs.pending op
    own op ignored = pending_unread from (holds m.regs a.first.guard) a.first.op op m.regs (behind a m) ignored refl

    second : (o : Option Instr) → second_ignores a.first.op o ≡ true → UnreadSecond (late from a m).regs.pending o
    second None ignored = tt
    second (Some i) ignored = own i.op ignored

-- ---- bundles

-- where what comes late of a bundle is not waited for, the next one does the same before it has come and after
can_pass : (from : Sources) (a b : PlainBundle) (bs : List PlainBundle) (m : Run) → IsWhole m
    → is_awaited a (b ∷ bs) ≡ false
    → late from b (late from a m) ≡ late from b (once from a m)
can_pass from a b bs m whole none = so (is_late a.first.op) refl
  where
    so : (is : Bool) → is_late a.first.op ≡ is → late from b (late from a m) ≡ late from b (once from a m)
    so false early = ap (late from b) (early_once from a m whole early)
    so true late_one =
        let ignored = not-false (ignores_both a.first.op b)
        (sym (ap (λ l. l && not (ignores_both a.first.op b)) late_one) ∙ none) in
        sym (unread_late from b (late from a m) (late_fits from a m whole.fits) (unread_after from a b m ignored))

-- what comes of spaced code depends on what its first bundle leaves
by_first : (from : Sources) (b : PlainBundle) (bs : List PlainBundle) (m n : Run) → late from b m ≡ late from b n
    → run_late from (all_done (spaced (b ∷ bs))) m ≡ run_late from (all_done (spaced (b ∷ bs))) n
by_first from b bs m n same =
    elim (is_awaited b bs) as (λ awaited. run_late from (all_done ((if awaited then b ∷ idle ∷ [] else b ∷ [])
    ++ spaced bs)) m ≡ run_late from (all_done ((if awaited then b ∷ idle ∷ [] else b ∷ []) ++ spaced bs)) n) [
      | true ↦ ap (λ x. run_late from (all_done (spaced bs)) (late from idle x)) same
      | false ↦ ap (run_late from (all_done (spaced bs))) same
    ]

-- the code after a bundle
rest_runs : (from : Sources) (a : PlainBundle) (bs : List PlainBundle) (m : Run) → IsWhole m → is_awaited a bs ≡ false
    → run_late from (all_done (spaced bs)) (late from a m) ≡ run_late from (all_done (spaced bs)) (once from a m)
rest_runs from a [] m whole none = early_once from a m whole none
rest_runs from a (b ∷ bs) m whole none =
    by_first from b bs (late from a m) (once from a m) (can_pass from a b bs m whole none)

pub in_time : (from : Sources) (bs : List PlainBundle) (m : Run) → IsWhole m → run_late from (all_done (spaced bs)) m
    ≡ run from (all_done bs) m
in_time from [] m whole = refl
in_time from (a ∷ bs) m whole = so (is_awaited a bs) refl ∙ in_time from bs (once from a m) (once_whole from a m whole)
  where
    so : (awaited : Bool) → is_awaited a bs ≡ awaited
        → run_late from (all_done ((if awaited then a ∷ idle ∷ [] else a ∷ []) ++ spaced bs)) m
        ≡ run_late from (all_done (spaced bs)) (once from a m)
    so true is =
        ap (run_late from (all_done (spaced bs))) (idle_settles from (late from a m) (late_fits from a m whole.fits))
    so false is = rest_runs from a bs m whole is
