-- What the code of a loop's flag leaves.
use Rattle.std.proofs.Common.{◌≡◌, ℕ, ◌+◌, ◌<◌, ◌≤◌, ◌==◌, Bool, true, false, ◌&&◌, ◌||◌, if◌then◌else◌, List, [], ◌∷◌, refl, sym, ap, ◌∙◌, subst, arith}
use Rattle.patmos_instr.specs.declared.functions.CmpFunc.TheVariants as cmp
use Rattle.patmos_instr.specs.declared.functions.ImmFunc.TheVariants as imm
use Rattle.patmos_instr.specs.declared.functions.PredFunc.TheVariants as comb
use Rattle.patmos_instr.specs.declared.instructions.Op.TheVariants.{AluImm}
use Rattle.patmos_sem.specs.declared.writes.Write.TheVariants as write
use Rattle.c_world.specs.World.{with_overrun}
use Rattle.c_world.specs.Numbers.{flag, is_true}
use Rattle.sp_tree.specs.Formed.{expr_formed}
use Rattle.sp_tree.specs.Plain.{PlainSp}
use Rattle.sp_tree.specs.Statements.{overruns}
use Rattle.sp_tree.specs.Straight.{State, worth, in_world, where_on, overrun_done}
use Rattle.sp_shape.specs.Parts.{straight, one}
use Rattle.sp_shape.specs.Run.{Run, by_words, once, run, IsWhole}
use Rattle.sp_shape.specs.Trail.{Step, all_done, parts_trail}
use Rattle.sp_emit.specs.Expressions.{expr_code}
use Rattle.sp_emit.specs.Holding.{held, so}
use Rattle.sp_emit.specs.Instructions.{where_so, set_short, compare_short, combine}
use Rattle.sp_emit.specs.Means.{HasWordConstants, Follows}
use Rattle.sp_emit.specs.Statements.{overrun_code, stmt_code}
use Rattle.sp_emit.specs.declared.registers.TheConstants.{FIRST, SPARE, OVERRUN, TEST, SECOND}
use Rattle.sp_tree.specs.Need.{need}
use Rattle.sp_emit.proofs.FlagWords.{told_few, told_other, shown_still}
use Rattle.sp_emit.specs.Places.{mask_test, told_at}
use Rattle.sp_emit.proofs.Calm.{calm_done}
use Rattle.sp_emit.proofs.Leaving.{did_compare_short, did_combine, did_set_short}
use Rattle.sp_emit.proofs.Passing.{keeps_then}
use Rattle.sp_emit.proofs.Masks.{Done, ready, follows_still, behind_still, tested}
use Rattle.sp_emit.proofs.Once.{with_written, did_nothing, whole_written, held_written, kept, so_written, so_kept, so_by_register}
use Rattle.sp_emit.proofs.Values.{behind, fits_of, expr_keeps, run_joined, value_left}
use Rattle.sp_emit.specs.declared.stands.Homes.{Homes}

-- a predicate gets the truth of both, and of the second as a test of a word
pub both_test : (told : ℕ) (b : Bool) (v : ℕ) (r : Run) → IsWhole r → told < 8 → (SECOND ≡ told → ⊥) → so told r ≡ b
    → held FIRST r ≡ v
    → so TEST (once by_words (combine comb.Pand TEST told SECOND) (once by_words (compare_short cmp.Neq SECOND FIRST 0)
    r)) ≡ (b && is_true v)
both_test told b v r whole few other test is =
    let w1 = write.Predicate SECOND (is_true (held FIRST r)) in
    let r1 = with_written w1 r in
    let h1 = whole_written w1 r whole in
    ap (λ t. so TEST (once by_words (combine comb.Pand TEST told SECOND) t)) (did_compare_short by_words cmp.Neq SECOND
    FIRST 0 r whole)
    ∙ ap (so TEST) (did_combine by_words comb.Pand TEST told SECOND r1 h1)
    ∙ so_written (write.Predicate TEST (so told r1 && so SECOND r1)) TEST r1 h1 (omega arith)
    ∙ ap (λ x. x && so SECOND r1) (so_kept SECOND (is_true (held FIRST r)) told r whole few other ∙ test)
    ∙ ap (λ x. b && x) (so_written w1 SECOND r whole (omega arith) ∙ ap is_true is)

or_true : (b : Bool) → (b || true) ≡ true
or_true true = refl
or_true false = refl

or_false : (b : Bool) → (b || false) ≡ b
or_false true = refl
or_false false = refl

-- the flag where it is set or not
pub flag_where : (homes : Homes) (slots count : ℕ) (s : State) (r : Run) (b : Bool) → Follows homes slots s r
    → so TEST r ≡ b
    → Done homes slots count (record s { world = record s.world { overrun = s.world.overrun || b } }) r (once by_words
    (set_short (where_so TEST) OVERRUN 1) r)
flag_where homes slots count s r true x on =
    let w = write.Register OVERRUN 1 in
    subst (Done homes slots count _ r) (sym (did_set_short by_words (where_so TEST) OVERRUN 1 r x.whole on)) (record {
      follows = record {
        whole = whole_written w r x.whole;
        shows = record {
          frame = λ u lt. shown_still homes u r (with_written w r) (λ q at below. kept OVERRUN 1 q r
              x.whole (omega (arith, below)) (λ same. absurd (omega (arith, same, below)))) (λ q from lt. so_by_register
              OVERRUN 1 q r x.whole lt) refl refl ∙ x.shows.frame u lt;
          world = record {
            scratch =
                x.shows.world.scratch;
            comm = x.shows.world.comm;
            private = x.shows.world.private;
            shared =
                x.shows.world.shared;
            starts = x.shows.world.starts;
          };
        };
        words = record {
          frame = x.words.frame;
          world = record {
            scratch = x.words.world.scratch;
            comm = x.words.world.comm;
            private = x.words.world.private;
            shared = x.words.world.shared;
          };
        };
        flag = held_written w OVERRUN r x.whole (omega arith) ∙ ap flag (sym (or_true s.world.overrun));
      };
      keeps = record {
        st = refl;
        stack = λ a above. refl;
        high = λ q at below. kept OVERRUN 1 q r x.whole
            (omega (arith, below)) (λ same. absurd (omega (arith, same, below)));
      };
    })
flag_where homes slots count s r false x off =
    subst (Done homes slots count _ r) (sym (did_nothing by_words (where_so TEST) (AluImm imm.Add OVERRUN 0 1) r x.whole
    off)) (record {
      follows = record {
        whole = x.whole;
        shows = record {
          frame = x.shows.frame;
          world = record {
            scratch = x.shows.world.scratch;
            comm = x.shows.world.comm;
            private =
                x.shows.world.private;
            shared = x.shows.world.shared;
            starts = x.shows.world.starts;
          };
        };
        words = record {
          frame = x.words.frame;
          world = record {
            scratch = x.words.world.scratch;
            comm = x.words.world.comm;
            private = x.words.world.private;
            shared = x.words.world.shared;
          };
        };
        flag = x.flag ∙ ap flag (sym (or_false s.world.overrun));
      };
      keeps = record { st = refl; stack = λ a above. refl; high = λ r at lt. refl };
    })

same_state : (b : Bool) (v : ℕ) (s : State)
    → record s { world = record s.world { overrun = s.world.overrun || (b && is_true v) } }
    ≡ (if b then in_world s (with_overrun (is_true v) s.world) else s)
same_state true v s = refl
same_state false v s = ap (λ o. record s { world = record s.world { overrun = o } }) (or_false s.world.overrun)

-- the flag, set where the condition still holds
pub overrun_is_done : (homes : Homes) (f : ℕ → List Step) (frame counter slots mask : ℕ) (e : PlainSp) (s : State)
    (m : Run) → slots ≤ 128 → mask < slots → expr_formed slots e ≡ true → HasWordConstants e
    → FIRST + need e ≤ homes.first
    → Follows homes slots s m → Done homes slots (counter + 1) (where_on mask (overrun_done e) s) m (run by_words
    (parts_trail f (stmt_code homes frame counter (overruns mask e))) m)
overrun_is_done homes f frame counter slots mask e s m most masked formed constants free x =
    let r = ready homes slots FIRST e s m (omega arith) (omega arith) free most formed constants x in
    let n = behind homes f e FIRST m in
    let keeps = expr_keeps homes by_words f e FIRST m (fits_of r) r.free x.whole in
    let y = follows_still keeps x in
    let t = tested homes slots mask s n most masked y in
    let u = run by_words (all_done (mask_test homes mask)) n in
    let told = told_at homes mask in
    let bs = compare_short cmp.Neq SECOND FIRST 0 ∷ combine comb.Pand TEST told SECOND ∷ [] in
    let joined_keeps = calm_done by_words SPARE homes.first bs u (omega arith) t.keeps.whole refl in
    let w = run by_words (all_done bs) u in
    let test = both_test told (s.frame mask == 1) (worth e s) u t.keeps.whole (told_few homes mask).1
    (told_other homes mask) t.test (t.keeps.low FIRST (omega arith) ∙ value_left f e r) in
    let done = flag_where homes slots (counter + 1) s w ((s.frame mask == 1) && is_true (worth e s))
    (follows_still joined_keeps (follows_still t.keeps y)) test in
    subst (Done homes slots (counter + 1) (where_on mask (overrun_done e) s) m)
    (sym (run_joined by_words f (expr_code homes e FIRST) (one (straight (overrun_code homes mask))) m)) (record {
      follows = subst (λ z. Follows homes slots z (once by_words (set_short (where_so TEST) OVERRUN 1) w))
          (same_state (s.frame mask == 1) (worth e s) s) done.follows;
      keeps = keeps_then (behind_still (counter + 1) keeps) (keeps_then (behind_still (counter + 1) t.keeps)
          (keeps_then (behind_still (counter + 1) joined_keeps) done.keeps));
    })
