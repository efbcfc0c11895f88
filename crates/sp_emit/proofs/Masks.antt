-- What the code of masks and of writes to words of the frame leaves.
use Rattle.std.proofs.Common.{◌≡◌, ℕ, ◌+◌, ◌<◌, ◌≤◌, ◌^◌, ◌==◌, ◌⊎◌, inl, inr, Bool, true, false, true≢false, not, ◌&&◌, if◌then◌else◌, None, Some, List, [], ◌∷◌, ◌++◌, refl, sym, ap, ◌∙◌, subst, arith}
use Rattle.std.specs.Prelude.{nat_le, is_some}
use Rattle.c_world.specs.Numbers.{flag}
use Rattle.patmos_sem.specs.declared.writes.Write.TheVariants as write
use Rattle.std.proofs.lemmas.Bool.{and_parts, cases_eq, leb-true, ltb-true}
use Rattle.patmos_instr.specs.declared.functions.CmpFunc.TheVariants as cmp
use Rattle.patmos_instr.specs.declared.instructions.Op.{Op}
use Rattle.sp_tree.specs.Formed.{names_words, expr_formed}
use Rattle.sp_tree.specs.Need.{need}
use Rattle.sp_tree.specs.Plain.{PlainSp}
use Rattle.sp_tree.specs.Statements.{masks, writes, to_slot}
use Rattle.sp_tree.specs.Straight.{State, worth, with_slot, where_on, write_done}
use Rattle.sp_shape.specs.Parts.{straight, one, joined}
use Rattle.sp_shape.specs.Run.{Run, by_words, once, run, IsWhole}
use Rattle.sp_shape.specs.Trail.{Step, all_done, parts_trail}
use Rattle.sp_emit.specs.Holding.{held, Keeps, so}
use Rattle.shared_order.specs.Words.{put}
use Rattle.sp_emit.specs.Means.{HasWords, HasWordConstants, IsReady, Follows, KeepsAfter}
use Rattle.sp_emit.specs.Expressions.{value_code, operands_code, expr_to, expr_code}
use Rattle.sp_emit.specs.Instructions.{always, where_so, under, idle, compare_short}
use Rattle.sp_emit.specs.Statements.{slot_set, target_write, guarded_code, stmt_code}
use Rattle.sp_emit.specs.declared.registers.TheConstants.{FIRST, SPARE, OVERRUN, TEST}
use Rattle.sp_shape.proofs.Whole.{once_whole}
use Rattle.sp_emit.specs.Flags.{stmt_hinders}
use Rattle.sp_emit.specs.Truths.{is_truth, flag_code}
use Rattle.sp_emit.specs.Places.{flag_of, shown_word, fetch_word, fetched_at, set_word, mask_test, told_in, told_at, stack_word}
use Rattle.sp_emit.proofs.Calm.{calm, calm_done, keeps_all, keeps_both, keeps_fewer}
use Rattle.sp_emit.proofs.Effects.{AreIn}
use Rattle.sp_emit.proofs.Leaving.{did_compare_short}
use Rattle.sp_emit.proofs.WordPlaces.{with_word, Sets, fetch_is, fetch_leaves, did_set_word, set_off, sets_word, sets_straight, stack_before}
use Rattle.sp_emit.proofs.Once.{with_written, whole_written, kept_by_pred, so_got, did_nothing}
use Rattle.sp_emit.proofs.FlagCode.{flag_sets}
use Rattle.sp_emit.proofs.FlagWords.{flag_range, test_is, shown_plain, shown_flag, shown_set, shown_beside, flag_own, flag_beside}
use Rattle.sp_emit.proofs.Frames.{put_same, put_other, put_word}
use Rattle.sp_emit.proofs.Lasts.{Gives, alu_on, slot_write_is}
use Rattle.sp_emit.proofs.Passing.{kept_all, keeps_then}
use Rattle.sp_emit.proofs.Operands.{mask_is}
use Rattle.sp_emit.proofs.Values.{behind, worked, fits_of, shows_still, worked_keeps, value_keeps, expr_keeps, run_joined, value_sent, value_left, value_small}
use Rattle.sp_emit.specs.declared.stands.Homes.{Homes}

-- a word of the frame that is set in the run is set in the tree's state
pub follows_set : {most : ℕ} (homes : Homes) (slots slot v : ℕ) (s : State) (m t : Run) → v < 2 ^ 32
    → flag_of homes.flags slot ≡ None → Sets most homes.first slot v m t → Follows homes slots s m
    → Follows homes slots (with_slot slot v s) t
follows_set homes slots slot v s m t word plain set x = record {
  whole = set.whole;
  shows = record {
    frame = λ u lt. at u lt (cases_eq slot u);
    world = subst (HasWords s.world) (sym set.memory)
        x.shows.world;
  };
  words = record {
    frame = λ u lt. put_word slot v u s.frame (2 ^ 32) word (x.words.frame u lt);
    world = x.words.world;
  };
  flag = set.flag ∙ x.flag;
}
  where
    at : (u : ℕ) → u < slots → (slot ≡ u) ⊎ (slot ≡ u → ⊥) → shown_word homes u t ≡ put slot v s.frame u
    at u lt (inl same) = ap (λ n. shown_word homes n t) (sym same) ∙ shown_set homes set plain
        ∙ sym (put_same slot v s.frame) ∙ ap (put slot v s.frame) same
    at u lt (inr other) = shown_beside homes u set other ∙ x.shows.frame u lt ∙ sym (put_other slot u v s.frame other)

pub follows_slot : (homes : Homes) (slots slot v : ℕ) (s : State) (m : Run) → 1 ≤ homes.first → v < 2 ^ 32
    → flag_of homes.flags slot ≡ None → Follows homes slots s m → Follows homes slots (with_slot slot v s)
    (with_word homes.first slot v m)
follows_slot homes slots slot v s m some word plain x = follows_set homes slots slot v s m
    (with_word homes.first slot v m) word plain (sets_word homes.first slot v m some x.whole) x

-- so is one in a predicate
follows_flag : (homes : Homes) (slots slot p v : ℕ) (b : Bool) (s : State) (m : Run) → flag_of homes.flags slot ≡ Some p
    → flag b ≡ v → Follows homes slots s m → Follows homes slots (with_slot slot v s) (with_written
    (write.Predicate p b) m)
follows_flag homes slots slot p v b s m stands is x = record {
  whole = whole_written (write.Predicate p b) m x.whole;
  shows = record { frame = λ u lt. at u lt (cases_eq slot u); world = x.shows.world };
  words = record {
    frame = λ u lt. put_word slot v u s.frame (2 ^ 32) (subst (λ n. n < 2 ^ 32) is (small b)) (x.words.frame u lt);
    world = x.words.world;
  };
  flag = kept_by_pred p b OVERRUN m x.whole (omega arith) ∙ x.flag;
}
  where
    t : Run
    t = with_written (write.Predicate p b) m

    small : (b : Bool) → flag b < 2 ^ 32
    small true = omega arith
    small false = omega arith

    at : (u : ℕ) → u < slots → (slot ≡ u) ⊎ (slot ≡ u → ⊥) → shown_word homes u t ≡ put slot v s.frame u
    at u lt (inl same) = ap (λ n. shown_word homes n t) (sym same) ∙ flag_own homes slot p b m x.whole stands ∙ is
        ∙ sym (put_same slot v s.frame) ∙ ap (put slot v s.frame) same
    at u lt (inr other) = flag_beside homes slot u p b m x.whole stands other ∙ x.shows.frame u lt
        ∙ sym (put_other slot u v s.frame other)

pub keeps_set : {most slot v : ℕ} {m t : Run} (homes count : ℕ) → 1 ≤ homes → OVERRUN ≤ most → slot < count
    → Sets most homes slot v m t → KeepsAfter (homes + count) (stack_word homes count) m t
keeps_set {most} {slot} homes count some least named set = record {
  st = set.st;
  stack = λ a above. set.stack a (λ out is. absurd (omega (arith, is, above, stack_before homes slot count named out)));
  high = λ r at lt. set.regs r (omega (arith, at, some)) (omega (arith, lt, least))
      (λ is. absurd (omega (arith, is, at, named)));
}

pub keeps_slot : (homes : Homes) (count slot v : ℕ) (m : Run) → 1 ≤ homes.first → IsWhole m → slot < count
    → KeepsAfter (homes.first + count) (stack_word homes.first count) m (with_word homes.first slot v m)
keeps_slot homes count slot v m some whole named =
    keeps_set homes.first count some (omega arith) named (sets_word homes.first slot v m some whole)

-- a predicate is written
by_predicate : (top count p : ℕ) (b : Bool) (m : Run) → IsWhole m
    → KeepsAfter top count m (with_written (write.Predicate p b) m)
by_predicate top count p b m whole =
    record { st = refl; stack = λ a above. refl; high = λ r at lt. kept_by_pred p b r m whole (omega (arith, lt)) }

-- code of values leaves the run where the state is
pub follows_still : {homes : Homes} {slots rd : ℕ} {s : State} {m t : Run} → Keeps rd homes.first m t
    → Follows homes slots s m → Follows homes slots s t
follows_still {homes} {slots} {rd} {s} {m} {t} keeps x = record {
  whole = keeps.whole;
  shows = shows_still keeps x.shows;
  words = x.words;
  flag = keeps.flag ∙ x.flag;
}

pub behind_still : {homes rd : ℕ} {m t : Run} (count : ℕ) → Keeps rd homes m t
    → KeepsAfter (homes + count) (stack_word homes count) m t
behind_still count keeps = record {
  st = keeps.st;
  stack = λ a above. ap (λ words. words a) keeps.stack;
  high = λ r at lt. keeps.high r (omega (arith, at)) lt;
}

-- ---- what a statement leaves

pub record Done (homes : Homes) (slots count : ℕ) (s : State) (m t : Run) : Type 0 where
  pub follows : Follows homes slots s t
  pub keeps : KeepsAfter (homes.first + count) (stack_word homes.first count) m t

-- an expression of a statement is ready from a register on
pub ready : (homes : Homes) (slots rd : ℕ) (e : PlainSp) (s : State) (m : Run) → 1 ≤ rd → rd ≤ 9
    → rd + need e ≤ homes.first → slots ≤ 128 → expr_formed slots e ≡ true → HasWordConstants e
    → Follows homes slots s m → IsReady homes slots e rd s m
ready homes slots rd e s m some few free most formed constants x =
    let parts = and_parts (names_words slots e) (nat_le (need e) 12) formed in
    record {
      some = some;
      most = most;
      names = parts.0;
      registers = omega (arith, few, leb-true (need e) 12 parts.1);
      free = free;
      constants = constants;
      words = x.words;
      whole = x.whole;
      shows = x.shows;
    }

-- a value that goes straight to the register of a word, after code of values
straight_done : (homes : Homes) (slots count slot v : ℕ) (s : State) (m n t : Run) → flag_of homes.flags slot ≡ None
    → 1 ≤ homes.first → slot < count → homes.first + slot < OVERRUN → v < 2 ^ 32 → Keeps FIRST homes.first m n
    → Keeps (homes.first + slot) (homes.first + slot + 1) n t → held (homes.first + slot) t ≡ v
    → Follows homes slots s m → Done homes slots count (with_slot slot v s) m t
straight_done homes slots count slot v s m n t plain some named lt word before last is x =
    let set = sets_straight homes.first slot v n t lt last is in
    record {
      follows = follows_set homes slots slot v s n t word plain set (follows_still before x);
      keeps = keeps_then (behind_still count before) (keeps_set homes.first count some (omega arith) named set);
    }

-- a mask, set whatever it was
pub mask_done : (homes : Homes) (f : ℕ → List Step) (frame counter slots slot : ℕ) (e : PlainSp) (s : State) (m : Run)
    → slots ≤ 128 → slots ≤ counter + 1 → slot < slots → expr_formed slots e ≡ true → HasWordConstants e
    → FIRST + need e ≤ homes.first
    → stmt_hinders homes.flags (masks slot e) ≡ false → Follows homes slots s m
    → Done homes slots (counter + 1) (with_slot slot (worth e s) s) m (run by_words
    (parts_trail f (stmt_code homes frame counter (masks slot e))) m)
mask_done homes f frame counter slots slot e s m most fits named formed constants free stands x =
    mask_is (λ ps. Done homes slots (counter + 1) (with_slot slot (worth e s) s) m (run by_words (parts_trail f ps) m))
    homes slot e flagged (λ plain is. here plain (ltb-true (homes.first + slot) OVERRUN is))
    (λ plain is. there plain)
  where
    r : IsReady homes slots e FIRST s m
    r = ready homes slots FIRST e s m (omega arith) (omega arith) free most formed constants x

    some : 1 ≤ homes.first
    some = omega (arith, free)

    truth : (p : ℕ) → flag_of homes.flags slot ≡ Some p → is_truth homes.flags e ≡ true
    truth p is = by (is_truth homes.flags e) (ap (λ o. is_some o && not (is_truth homes.flags e)) (sym is) ∙ stands)
      where
        by : (b : Bool) → not b ≡ false → b ≡ true
        by true off = refl
        by false off = absurd (true≢false off)

    flagged : (p : ℕ) → flag_of homes.flags slot ≡ Some p → Done homes slots (counter + 1) (with_slot slot
        (worth e s) s) m (run by_words (parts_trail f (flag_code homes p e)) m)
    flagged p is =
        let set = flag_sets f p e r (truth p is) in
        subst (Done homes slots (counter + 1) (with_slot slot (worth e s) s) m) (sym set.is) (record {
          follows = follows_flag homes slots slot p (worth e s) set.truth s set.before is set.value
              (follows_still set.keeps x);
          keeps = keeps_then (behind_still (counter + 1) set.keeps) (by_predicate (homes.first + (counter + 1))
              (stack_word homes.first (counter + 1)) p set.truth set.before set.keeps.whole);
        })

    here : flag_of homes.flags slot ≡ None → homes.first + slot < OVERRUN
        → Done homes slots (counter + 1) (with_slot slot (worth e s) s) m (run by_words
        (parts_trail f (expr_to homes e FIRST (homes.first + slot))) m)
    here plain lt =
        let n = worked homes f e FIRST m in
        subst (Done homes slots (counter + 1) (with_slot slot (worth e s) s) m)
        (sym (run_joined by_words f (operands_code homes e FIRST) (value_code homes e FIRST (homes.first + slot))
        m))
        (straight_done homes slots (counter + 1) slot (worth e s) s m n
        (run by_words (parts_trail f (value_code homes e FIRST (homes.first + slot))) n) plain some
        (omega (arith, named, fits)) lt (value_small e r)
        (worked_keeps f e r) (value_keeps homes by_words f e FIRST (homes.first + slot) n lt (worked_keeps f e r).whole)
        (value_sent f e r n (keeps_all SPARE homes.first n (worked_keeps f e r).whole) (homes.first + slot)
        (omega (arith, some)) lt) x)

    there : flag_of homes.flags slot ≡ None → Done homes slots (counter + 1) (with_slot slot (worth e s) s) m
        (run by_words (parts_trail f (joined (expr_code homes e FIRST) (slot_set homes.first slot))) m)
    there plain =
        let n = behind homes f e FIRST m in
        let keeps = expr_keeps homes by_words f e FIRST m (fits_of r) free x.whole in
        let steps = run_joined by_words f (expr_code homes e FIRST) (slot_set homes.first slot) m
        ∙ did_set_word by_words homes.first always slot FIRST (worth e s) n keeps.whole keeps.whole.fits.always
        (omega (arith, named, most)) (value_left f e r) (value_small e r) in
        subst (Done homes slots (counter + 1) (with_slot slot (worth e s) s) m) (sym steps) (record {
          follows = follows_slot homes slots slot (worth e s) s n some (value_small e r) plain (follows_still keeps x);
          keeps = keeps_then (behind_still (counter + 1) keeps) (keeps_slot homes (counter + 1) slot (worth e s) n some
              keeps.whole (omega (arith, named, fits)));
        })

-- ---- what is done where a mask is 1

-- the test of a mask keeps the registers below the spare one, the stack and all memories
pub record Tested (homes : Homes) (mask : ℕ) (s : State) (n r : Run) : Type 0 where
  pub keeps : Keeps SPARE homes.first n r
  pub test : so (told_at homes mask) r ≡ (s.frame mask == 1)

flag_back : (b : Bool) (v : ℕ) → flag b ≡ v → b ≡ (v == 1)
flag_back true v is = ap (λ n. n == 1) is
flag_back false v is = ap (λ n. n == 1) is

pub tested : (homes : Homes) (slots mask : ℕ) (s : State) (n : Run) → slots ≤ 128 → mask < slots
    → Follows homes slots s n → Tested homes mask s n (run by_words (all_done (mask_test homes mask)) n)
tested homes slots mask s n most named x =
    test_is (λ bs. Tested homes mask s n (run by_words (all_done bs) n)) homes mask flagged plain
  where
    flagged : (p : ℕ) → flag_of homes.flags mask ≡ Some p
        → Tested homes mask s n (run by_words (all_done (idle ∷ idle ∷ [])) n)
    flagged p is =
        let keeps = calm_done by_words SPARE homes.first (idle ∷ idle ∷ []) n (omega arith) x.whole refl in
        let range = flag_range homes.flags mask p is in
        record {
          keeps = keeps;
          test = ap (λ o. so (told_in o) (run by_words (all_done (idle ∷ idle ∷ [])) n)) is
              ∙ keeps.flags p range.0 range.1 ∙ flag_back (so p n) (s.frame mask) (sym (shown_flag homes mask p n is)
              ∙ x.shows.frame mask named);
        }

    r1 : Run
    r1 = once by_words (fetch_word homes.first mask) n

    whole_r1 : IsWhole r1
    whole_r1 = once_whole by_words (fetch_word homes.first mask) n x.whole

    at : ℕ
    at = fetched_at homes.first mask

    plain : flag_of homes.flags mask ≡ None
        → Tested homes mask s n (run by_words
        (all_done (fetch_word homes.first mask ∷ compare_short cmp.Eq TEST at 1 ∷ [])) n)
    plain is = record {
      keeps = calm_done by_words SPARE homes.first (fetch_word homes.first mask ∷ compare_short cmp.Eq TEST at 1 ∷ []) n (omega arith) x.whole
          (fetch_is (λ b. AreIn (calm SPARE homes.first) (b ∷ compare_short cmp.Eq TEST at 1 ∷ []))
          homes.first mask refl (λ out. refl));
      test = ap (λ o. so (told_in o) (once by_words (compare_short cmp.Eq TEST at 1) r1)) is
          ∙ ap (so TEST) (did_compare_short by_words cmp.Eq TEST at 1 r1 whole_r1)
          ∙ so_got TEST (held at r1 == 1) r1 whole_r1 (omega arith) (omega arith)
          ∙ ap (λ n. n == 1) (fetch_leaves by_words homes.first mask n refl x.whole (omega (arith, named, most))
          ∙ sym (shown_plain homes mask n is) ∙ x.shows.frame mask named);
    }

-- a store under the test is made where it holds, and else leaves all as it is
pub slot_where : (homes : Homes) (slots count p slot rs v : ℕ) (s : State) (r : Run) (on : Bool)
    → flag_of homes.flags slot ≡ None → 1 ≤ homes.first → slots ≤ 128 → slot < slots → slots ≤ count → v < 2 ^ 32
    → Follows homes slots s r → held rs r ≡ v → so p r ≡ on
    → Done homes slots count (if on then with_slot slot v s else s) r (once by_words
    (set_word homes.first (where_so p) slot rs) r)
slot_where homes slots count p slot rs v s r true plain some most named fits word x is on =
    subst (Done homes slots count (with_slot slot v s) r)
    (sym (did_set_word by_words homes.first (where_so p) slot rs v r x.whole on (omega (arith, named, most)) is
    word)) (record {
      follows = follows_slot homes slots slot v s r some word plain x;
      keeps = keeps_slot homes count slot v r some x.whole (omega (arith, named, fits));
    })
slot_where homes slots count p slot rs v s r false plain some most named fits word x is off =
    subst (Done homes slots count s r) (sym (set_off by_words homes.first (where_so p) slot rs r x.whole off))
    (record { follows = x; keeps = kept_all (homes.first + count) (stack_word homes.first count) r })

-- so is the last instruction of a value, which sets the register of the word
guarded_done : (homes : Homes) (f : ℕ → List Step) (slots count p slot : ℕ) (e : PlainSp) (op : Op) (s : State)
    (m u : Run) (on : Bool) → flag_of homes.flags slot ≡ None → IsReady homes slots e FIRST s m → slot < slots
    → slots ≤ count → homes.first + slot < OVERRUN → Gives (homes.first + slot) (value_code homes e FIRST
    (homes.first + slot)) op
    → Keeps SPARE homes.first (worked homes f e FIRST m) u → so p u ≡ on → Follows homes slots s m
    → Done homes slots count (if on then with_slot slot (worth e s) s else s) m (once by_words
    (under (where_so p) op) u)
guarded_done homes f slots count p slot e op s m u true plain r named fits lt gives keeps on x =
    let some : 1 ≤ homes.first = omega (arith, r.free) in
    let t = run by_words (parts_trail f (value_code homes e FIRST (homes.first + slot))) u in
    let steps : once by_words (under (where_so p) op) u ≡ t =
    alu_on by_words (homes.first + slot) (where_so p) op u gives.alu keeps.whole on
    ∙ ap (λ ps. run by_words (parts_trail f ps) u) (sym gives.is) in
    subst (Done homes slots count (with_slot slot (worth e s) s) m) (sym steps)
    (straight_done homes slots count slot (worth e s) s m u t plain some (omega (arith, named, fits)) lt
    (value_small e r) (keeps_both (worked_keeps f e r) (keeps_fewer FIRST (omega arith) keeps))
    (value_keeps homes by_words f e FIRST (homes.first + slot) u lt keeps.whole)
    (value_sent f e r u keeps (homes.first + slot) (omega (arith, some)) lt) x)
guarded_done homes f slots count p slot e op s m u false plain r named fits lt gives keeps off x =
    let before = keeps_both (worked_keeps f e r) (keeps_fewer FIRST (omega arith) keeps) in
    subst (Done homes slots count s m) (sym (did_nothing by_words (where_so p) op u keeps.whole off))
    (record { follows = follows_still before x; keeps = behind_still count before })

-- a value that is set in a word of the frame
pub slot_done : (homes : Homes) (f : ℕ → List Step) (frame counter slots mask slot : ℕ) (e : PlainSp) (s : State)
    (m : Run) → slots ≤ 128 → slots ≤ counter + 1 → mask < slots → slot < slots → expr_formed slots e ≡ true
    → HasWordConstants e → FIRST + need e ≤ homes.first
    → flag_of homes.flags slot ≡ None → Follows homes slots s m → Done homes slots (counter + 1) (where_on mask
    (write_done (to_slot slot) e) s) m
    (run by_words (parts_trail f (stmt_code homes frame counter (writes mask (to_slot slot) e))) m)
slot_done homes f frame counter slots mask slot e s m most fits masked named formed constants free plain x =
    slot_write_is (λ ps. Done homes slots (counter + 1) (where_on mask (write_done (to_slot slot) e) s) m
    (run by_words (parts_trail f ps) m)) homes mask slot e stored guarded
  where
    r : IsReady homes slots e FIRST s m
    r = ready homes slots FIRST e s m (omega arith) (omega arith) free most formed constants x

    guarded : (op : Op) → homes.first + slot < OVERRUN → Gives (homes.first + slot) (value_code homes e FIRST
        (homes.first + slot)) op
        → Done homes slots (counter + 1) (where_on mask (write_done (to_slot slot) e) s) m (run by_words
        (parts_trail f (guarded_code homes mask e op)) m)
    guarded op lt gives =
        let n = worked homes f e FIRST m in
        let t = tested homes slots mask s n most masked (follows_still (worked_keeps f e r) x) in
        let u = run by_words (all_done (mask_test homes mask)) n in
        subst (Done homes slots (counter + 1) (where_on mask (write_done (to_slot slot) e) s) m)
        (sym (run_joined by_words f (operands_code homes e FIRST)
        (one (straight (mask_test homes mask ++ under (where_so (told_at homes mask)) op ∷ []))) m))
        (guarded_done homes f slots (counter + 1) (told_at homes mask) slot e op s m u (s.frame mask == 1) plain r named
        fits lt gives t.keeps t.test x)

    stored : Done homes slots (counter + 1) (where_on mask (write_done (to_slot slot) e) s) m
        (run by_words (parts_trail f (joined (expr_code homes e FIRST) (target_write homes mask (to_slot slot)))) m)
    stored =
        let n = behind homes f e FIRST m in
        let keeps = expr_keeps homes by_words f e FIRST m (fits_of r) free x.whole in
        let y = follows_still keeps x in
        let t = tested homes slots mask s n most masked y in
        let u = run by_words (all_done (mask_test homes mask)) n in
        let done = slot_where homes slots (counter + 1) (told_at homes mask) slot FIRST (worth e s) s u
        (s.frame mask == 1) plain (omega (arith, free)) most named fits (value_small e r) (follows_still t.keeps y)
        (t.keeps.low FIRST (omega arith) ∙ value_left f e r) t.test in
        subst (Done homes slots (counter + 1) (where_on mask (write_done (to_slot slot) e) s) m)
        (sym (run_joined by_words f (expr_code homes e FIRST) (target_write homes mask (to_slot slot)) m)) (record {
          follows = done.follows;
          keeps = keeps_then (behind_still (counter + 1) keeps)
              (keeps_then (behind_still (counter + 1) t.keeps) done.keeps);
        })
