-- What the code of loops leaves: the counter of iterations stands in a word that no tree names, in a register or in the
-- frame.
use Rattle.std.proofs.Common.{◌≡◌, ℕ, zero, suc, ◌+◌, ◌%◌, ◌^◌, ◌<◌, ◌≤◌, Bool, true, false, if◌then◌else◌, List, [], ◌∷◌, ◌++◌, refl, sym, ap, ◌∙◌, subst, arith, append-nil}
use Rattle.patmos_instr.specs.declared.functions.CmpFunc.TheVariants as cmp
use Rattle.patmos_instr.specs.declared.functions.ImmFunc.TheVariants as imm
use Rattle.patmos_instr.specs.declared.instructions.Op.TheVariants.{AluImm, Store}
use Rattle.patmos_instr.specs.declared.memories.Mem.TheVariants as mem
use Rattle.patmos_instr.specs.declared.memories.StoreWidth.TheVariants as store
use Rattle.patmos_sem.specs.Operations.{alu_of, alu_value}
use Rattle.patmos_sem.specs.declared.writes.Write.TheVariants as write
use Rattle.sp_tree.specs.Straight.{State, times}
use Rattle.sp_shape.proofs.Whole.{run_append}
use Rattle.sp_shape.specs.Parts.{straight, repeats, PlainParts, one, joined}
use Rattle.sp_shape.specs.Run.{Run, by_words, once, run, IsWhole}
use Rattle.sp_shape.specs.Trail.{Step, all_done, copies, parts_trail}
use Rattle.sp_emit.specs.Holding.{held, Keeps, KeepsFlags}
use Rattle.sp_emit.specs.Instructions.{always, under, idle, set_number, with_short, compare_short, branch}
use Rattle.sp_emit.specs.Means.{Follows, HasWords, KeepsAfter}
use Rattle.sp_emit.specs.Places.{in_register, word_of, fetch_word, fetched_at, keep_op, keep_word, stack_word}
use Rattle.sp_emit.specs.Statements.{iterations_begin, iterations_tail}
use Rattle.sp_emit.specs.declared.registers.TheConstants.{SPARE, OVERRUN, MORE}
use Rattle.sp_emit.proofs.Calm.{calm, calm_done, keeps_register, spare_free}
use Rattle.sp_emit.proofs.Effects.{AreIn}
use Rattle.sp_emit.proofs.Leaving.{did_with_short, did_set_number}
use Rattle.sp_emit.proofs.Masks.{Done, behind_still, keeps_set}
use Rattle.sp_emit.proofs.Once.{with_written}
use Rattle.sp_emit.proofs.Passing.{kept_all, keeps_then}
use Rattle.sp_emit.proofs.Storing.{did_store_slot}
use Rattle.sp_emit.proofs.Values.{run_joined}
use Rattle.sp_emit.proofs.FlagWords.{shown_by}
use Rattle.sp_emit.proofs.WordPlaces.{Sets, fetch_is, fetched_is, word_still, sets_register, sets_stack}
use Rattle.sp_emit.specs.declared.stands.Homes.{Homes}

-- ---- what is done about a counter

-- all but the word of a counter, the spare register and predicates is as it was
record Beside (homes counter : ℕ) (m t : Run) : Type 0 where
  whole : IsWhole t
  memory : t.memory ≡ m.memory
  flags : KeepsFlags m t
  flag : held OVERRUN t ≡ held OVERRUN m
  words : (u : ℕ) → u < counter → word_of homes u t ≡ word_of homes u m
  keeps : KeepsAfter (homes + (counter + 1)) (stack_word homes (counter + 1)) m t

beside_then : {homes counter : ℕ} {m n t : Run} → Beside homes counter m n → Beside homes counter n t
    → Beside homes counter m t
beside_then a b = record {
  whole = b.whole;
  memory = b.memory ∙ a.memory;
  flags = λ p from lt. b.flags p from lt ∙ a.flags p from lt;
  flag = b.flag ∙ a.flag;
  words = λ u lt. b.words u lt ∙ a.words u lt;
  keeps = keeps_then a.keeps b.keeps;
}

beside_kept : {homes counter : ℕ} {m t : Run} → Keeps SPARE homes m t → Beside homes counter m t
beside_kept {homes} {counter} {m} {t} keeps = record {
  whole = keeps.whole;
  memory = keeps.memory;
  flags = keeps.flags;
  flag = keeps.flag;
  words = λ u lt. word_still homes u m t keeps.high keeps.stack keeps.st;
  keeps = behind_still (counter + 1) keeps;
}

beside_set : {most homes counter v : ℕ} {m t : Run} → 1 ≤ homes → OVERRUN ≤ most → Sets most homes counter v m t
    → Beside homes counter m t
beside_set {most} {homes} {counter} some least set = record {
  whole = set.whole;
  memory = set.memory;
  flags = set.flags;
  flag = set.flag;
  words = λ u lt. set.others u (λ is. absurd (omega (arith, is, lt)));
  keeps = keeps_set homes (counter + 1) some least (omega arith) set;
}

-- the register in which it is counted is written
beside_written : (homes counter v : ℕ) (m : Run) → 1 ≤ homes → IsWhole m
    → Beside homes counter m (with_written (write.Register (fetched_at homes counter) v) m)
beside_written homes counter v m some whole =
    fetched_is (λ r. Beside homes counter m (with_written (write.Register r v) m)) homes counter
    (λ lt. beside_set some (omega arith) (sets_register homes counter v m some whole lt))
    (beside_kept (keeps_register SPARE homes SPARE v m (omega arith) whole (spare_free SPARE homes SPARE (omega arith))))

beside_back : (homes counter : ℕ) (m : Run) → 1 ≤ homes → counter < 128 → IsWhole m
    → Beside homes counter m (once by_words (keep_word homes counter) m)
unfolding keep_op
beside_back homes counter m some few whole = by (in_register homes counter) refl
  where
    by : (b : Bool) → in_register homes counter ≡ b
        → Beside homes counter m (once by_words
        (under always (if b then AluImm imm.Add 0 0 0 else Store mem.S store.Word 0 SPARE
        (stack_word homes counter))) m)
    by true is = beside_kept (calm_done by_words SPARE homes (idle ∷ []) m (omega arith) whole refl)
    by false is = subst (Beside homes counter m) (sym (did_store_slot by_words always (stack_word homes counter) SPARE m
        whole whole.fits.always (omega (arith, few)))) (beside_set some (omega arith)
        (sets_stack homes counter (held SPARE m) m whole is))

beside_done : (homes : Homes) (slots counter : ℕ) (s : State) (m t : Run) → slots ≤ counter
    → Beside homes.first counter m t → Follows homes slots s m → Done homes slots (counter + 1) s m t
beside_done homes slots counter s m t le b x = record {
  follows = record {
    whole = b.whole;
    shows = record {
      frame = λ u lt. shown_by homes u m t (b.words u (omega (arith, lt, le))) b.flags
          ∙ x.shows.frame u lt;
      world = subst (HasWords s.world) (sym b.memory) x.shows.world;
    };
    words = x.words;
    flag = b.flag ∙ x.flag;
  };
  keeps = b.keeps;
}

begin_beside : (homes counter count : ℕ) (m : Run) → 1 ≤ homes → counter < 128 → IsWhole m
    → Beside homes counter m (run by_words (all_done (iterations_begin homes counter count)) m)
begin_beside homes counter count m some few whole =
    let first = subst (Beside homes counter m) (sym (did_set_number by_words (fetched_at homes counter) count m whole))
    (beside_written homes counter ((0 + count) % 2 ^ 32) m some whole) in
    beside_then first (beside_back homes counter (once by_words (set_number (fetched_at homes counter) count) m) some
    few first.whole)

tail_beside : (homes counter : ℕ) (m : Run) → 1 ≤ homes → counter < 128 → IsWhole m
    → Beside homes counter m (run by_words (all_done (iterations_tail homes counter)) m)
tail_beside homes counter m some few whole =
    let left = fetched_at homes counter in
    let first : Beside homes counter m (once by_words (fetch_word homes counter) m) =
    beside_kept (calm_done by_words SPARE homes (fetch_word homes counter ∷ []) m (omega arith) whole
    (fetch_is (λ b. AreIn (calm SPARE homes) (b ∷ [])) homes counter refl (λ out. refl))) in
    let n = once by_words (fetch_word homes counter) m in
    let counted = subst (Beside homes counter n) (sym (did_with_short by_words imm.Sub left left 1 n first.whole))
    (beside_written homes counter (alu_value (alu_of imm.Sub) (held left n) 1) n some first.whole) in
    let u = once by_words (with_short always imm.Sub left left 1) n in
    let back = beside_back homes counter u some few counted.whole in
    let last = calm_done by_words SPARE homes (compare_short cmp.Neq MORE left 0 ∷ branch MORE ∷ idle ∷ idle
    ∷ []) (once by_words (keep_word homes counter) u) (omega arith) back.whole refl in
    beside_then first (beside_then counted (beside_then back (beside_kept last)))

-- ---- loops

pub done_then : {homes : Homes} {slots count : ℕ} {z : State} {m n t : Run}
    → KeepsAfter (homes.first + count) (stack_word homes.first count) m n → Done homes slots count z n t
    → Done homes slots count z m t
done_then keeps d = record { follows = d.follows; keeps = keeps_then keeps d.keeps }

-- so many iterations of a body
iterations_run : (homes : Homes) (f : ℕ → List Step) (slots counter low : ℕ) (body : PlainParts)
    (change : State → State) → 1 ≤ homes.first → slots ≤ counter → counter < 128
    → ((s : State) (m : Run) → low ≤ m.st → Follows homes slots s m → Done homes slots (counter + 1) (change s) m
    (run by_words (parts_trail f body) m))
    → (count : ℕ) (s : State) (m : Run) → low ≤ m.st → Follows homes slots s m
    → Done homes slots (counter + 1) (times count change s) m (run by_words
    (copies count (parts_trail f body ++ all_done (iterations_tail homes.first counter))) m)
iterations_run homes f slots counter low body change some beside few iteration zero s m enough x =
    record { follows = x; keeps = kept_all (homes.first + (counter + 1)) (stack_word homes.first (counter + 1)) m }
iterations_run homes f slots counter low body change some beside few iteration (suc count) s m enough x =
    let one_iteration = parts_trail f body ++ all_done (iterations_tail homes.first counter) in
    let n = run by_words (parts_trail f body) m in
    let d = iteration s m enough x in
    let t = run by_words (all_done (iterations_tail homes.first counter)) n in
    let tail = beside_done homes slots counter (change s) n t beside (tail_beside homes.first counter n some few
    d.follows.whole) d.follows in
    let rest = iterations_run homes f slots counter low body change some beside few iteration count (change s) t
    (subst (λ st. low ≤ st) (sym (keeps_then d.keeps tail.keeps).st) enough) tail.follows in
    subst (Done homes slots (counter + 1) (times (suc count) change s) m)
    (sym (run_append by_words one_iteration (copies count one_iteration) m
    ∙ ap (run by_words (copies count one_iteration)) (run_append by_words (parts_trail f body)
    (all_done (iterations_tail homes.first counter)) m)))
    (done_then (keeps_then d.keeps tail.keeps) rest)

-- a loop
pub iterations_done : (homes : Homes) (f : ℕ → List Step) (slots counter low count : ℕ) (body : PlainParts)
    (change : State → State) (s : State) (m : Run) → 1 ≤ homes.first → slots ≤ counter → counter < 128
    → ((s : State) (m : Run) → low ≤ m.st → Follows homes slots s m → Done homes slots (counter + 1) (change s) m
    (run by_words (parts_trail f body) m)) → low ≤ m.st → Follows homes slots s m
    → Done homes slots (counter + 1) (times count change s) m (run by_words
    (parts_trail f (joined (one (straight (iterations_begin homes.first counter count)))
    (one (repeats count body (iterations_tail homes.first counter))))) m)
iterations_done homes f slots counter low count body change s m some beside few iteration enough x =
    let n = run by_words (all_done (iterations_begin homes.first counter count)) m in
    let begin = beside_done homes slots counter s m n beside (begin_beside homes.first counter count m some few x.whole)
    x in
    let rest = iterations_run homes f slots counter low body change some beside few iteration count s n
    (subst (λ st. low ≤ st) (sym begin.keeps.st) enough) begin.follows in
    subst (Done homes slots (counter + 1) (times count change s) m)
    (sym (run_joined by_words f (one (straight (iterations_begin homes.first counter count)))
    (one (repeats count body (iterations_tail homes.first counter))) m
    ∙ ap (λ steps. run by_words steps n) (append-nil
    (copies count (parts_trail f body ++ all_done (iterations_tail homes.first counter))))))
    (done_then begin.keeps rest)
