-- What the code of a call leaves, where the function's code does what it is to do.
use Rattle.std.proofs.Common.{◌≡◌, ℕ, zero, suc, ◌+◌, ◌<◌, ◌≤◌, ◌^◌, ◌%◌, ◌==◌, Bool, true, false, if◌then◌else◌, Option, None, Some, List, [], ◌∷◌, ◌++◌, length, slice_index, refl, sym, ap, ◌∙◌, subst, arith, append-nil, ne_eqb}
use Rattle.std.specs.Prelude.{bit_xor, nat_le}
use Rattle.patmos_instr.specs.declared.functions.ImmFunc.TheVariants as imm
use Rattle.patmos_instr.specs.declared.functions.StackFunc.TheVariants.{Sens}
use Rattle.patmos_instr.specs.declared.instructions.Op.TheVariants.{AluImm, Call}
use Rattle.std.proofs.lemmas.Bool.{and_parts, ltb-true}
use Rattle.patmos_sem.specs.Effects.{asked}
use Rattle.patmos_sem.specs.Registers.{holds}
use Rattle.patmos_sem.specs.declared.effects.Effect.TheVariants as effect
use Rattle.patmos_sem.specs.declared.pending.Pending.TheVariants as pending
use Rattle.patmos_sem.specs.declared.writes.Write.TheVariants as write
use Rattle.sp_tree.specs.Formed.{names_words, expr_formed, args_formed, result_formed}
use Rattle.sp_tree.specs.Plain.{PlainSp}
use Rattle.sp_tree.specs.Straight.{State, Outcome, Serves, args_worth, in_world, where_on, with_result, stmt_done}
use Rattle.sp_tree.specs.Statements.{calls}
use Rattle.c_world.specs.World.{World}
use Rattle.sp_shape.specs.Parts.{straight, one, joined}
use Rattle.sp_shape.specs.Run.{Run, Sources, by_words, once, run, begun, effected, with_settled, settled, IsWhole}
use Rattle.sp_shape.specs.Run as runs
use Rattle.sp_shape.specs.Trail.{Step, all_done, parts_trail}
use Rattle.sp_emit.specs.Holding.{held, Keeps, KeepsFrom, so}
use Rattle.sp_emit.specs.Instructions.{always, idle, call, with_short, stack_op, where_so, set_short}
use Rattle.sp_emit.specs.Means.{HasArgsConstants, HasWords, HasWordFrame, Follows, KeepsAfter}
use Rattle.sp_emit.specs.Serving.{CalledWith, Answers}
use Rattle.sp_emit.specs.Statements.{args_code, mask_handed, call_tail, call_code, way_to, after_call, result_write, stmt_code}
use Rattle.sp_emit.specs.declared.registers.TheConstants.{RESULT, MASK, FIRST, OVERRUN, FLAGS}
use Rattle.sp_tree.specs.Need.{need}
use Rattle.sp_shape.proofs.Whole.{once_whole}
use Rattle.sp_emit.specs.Places.{flag_of, word_of, read_word, mask_test, told_at, args_least, stack_word}
use Rattle.sp_emit.proofs.Calm.{calm, calm_done, own_free}
use Rattle.sp_emit.proofs.Effects.{AreIn}
use Rattle.sp_emit.proofs.Words.{value_word}
use Rattle.sp_emit.proofs.FlagWords.{shown_plain, shown_still, shown_kept, handed_is, flag_range, shown_flag, is_none_off}
use Rattle.sp_emit.proofs.WordPlaces.{read_is, read_leaves, read_others}
use Rattle.sp_emit.proofs.Leaving.{did_with_short, did_set_short}
use Rattle.sp_emit.proofs.Passing.{keeps_then}
use Rattle.sp_emit.proofs.Masks.{Done, follows_still, behind_still, tested, slot_where}
use Rattle.sp_emit.proofs.Values.{run_joined, run_lone}
use Rattle.sp_emit.proofs.Arguments.{with_stack, did_stack, arguments_left}
use Rattle.sp_emit.proofs.Once.{behind_slot, slot_after, unchanged, with_regs, with_written, did_write, whole_written, stays_zero, kept, got, so_by_register}
use Rattle.sp_emit.specs.declared.stands.Homes.{Homes}
use Rattle.sp_emit.specs.Flags.{AreAbove, result_hinders}
use Rattle.sp_emit.proofs.Dividing.{written_where}
use Rattle.sp_emit.proofs.Untouched.{register, left_run}
use Rattle.c_world.specs.Numbers.{flag}

-- a call is asked for
did_call : (m : Run) → IsWhole m → once by_words call m ≡ record m { ways = m.ways ++ runs.calls ∷ [] }
unfolding slot_after with_regs
did_call m whole =
    ap (λ e. with_settled (effected by_words e (with_regs m (slot_after (holds m.regs always) (Call 0) m))))
    (ap (λ h. if h then asked m.regs (Call 0) else effect.Nothing) whole.fits.always)
    ∙ ap (λ h. with_regs (record m { ways = m.ways ++ runs.calls ∷ [] }) (settled (slot_after h (Call 0) m)))
    whole.fits.always
    ∙ ap (with_regs (record m { ways = m.ways ++ runs.calls ∷ [] })) (behind_slot write.Nothing pending.Nothing m.regs
    whole.pending ∙ unchanged m.regs whole.fits whole.pending)

did_idle : (m : Run) → IsWhole m → once by_words idle m ≡ with_written (write.Register 0 ((held 0 m + 0) % 2 ^ 32)) m
did_idle m whole = did_write by_words always (AluImm imm.Add 0 0 0) m whole whole.fits.always refl refl

-- after a call and its delay slots the function begins, with all registers as they were
pub record Begins (m t : Run) : Type 0 where
  pub whole : IsWhole t
  pub regs : (x : ℕ) → x < 32 → held x t ≡ held x m
  pub preds : (p : ℕ) → p < 8 → so p t ≡ so p m
  pub stack : t.stack ≡ m.stack
  pub st : t.st ≡ m.st
  pub memory : t.memory ≡ m.memory

pub idle_begins : (m n : Run) → Begins m n → Begins m (once by_words idle n)
idle_begins m n b =
    let v = (held 0 n + 0) % 2 ^ 32 in
    subst (Begins m) (sym (did_idle n b.whole)) (record {
      whole = whole_written (write.Register 0 v) n b.whole;
      regs = λ x lt. same v x lt ∙ b.regs x lt;
      preds =
          λ p lt. so_by_register 0 v p n b.whole lt ∙ b.preds p lt;
      stack = b.stack;
      st = b.st;
      memory = b.memory;
    })
  where
    same : (v x : ℕ) → x < 32 → held x (with_written (write.Register 0 v) n) ≡ held x n
    same v zero lt = stays_zero (write.Register 0 v) n b.whole
    same v (suc x) lt = kept 0 v (suc x) n b.whole lt (λ is. absurd (omega (arith, is)))

pub tail_begins : (m : Run) → IsWhole m → Begins m (begun (run by_words (all_done call_tail) m))
tail_begins m whole =
    let c : Begins m (once by_words call m) = subst (Begins m) (sym (did_call m whole))
    (record {
      whole = record { fits = whole.fits; pending = whole.pending };
      regs = λ x lt. refl;
      preds = λ p lt.
          refl;
      stack = refl;
      st = refl;
      memory = refl;
    }) in
    let i = idle_begins m _ (idle_begins m _ (idle_begins m _ c)) in
    record {
      whole = record {
        fits = record {
          count = i.whole.fits.count;
          pred_count = i.whole.fits.pred_count;
          zero = i.whole.fits.zero;
          always = i.whole.fits.always;
        };
        pending = i.whole.pending;
      };
      regs = i.regs;
      preds = i.preds;
      stack = i.stack;
      st = i.st;
      memory = i.memory;
    }

-- ---- the mask is handed

pub record Hands (homes : Homes) (handed : ℕ) (n u : Run) : Type 0 where
  keeps : Keeps MASK homes.first n u
  masked : held MASK u ≡ handed
  others : (x : ℕ) → x < 32 → (MASK ≡ x → ⊥) → held x u ≡ held x n

handed_flag : (b : Bool) → (if b then 0 else 1) ≡ bit_xor (flag b) 1
handed_flag true = refl
handed_flag false = refl

pub hands_mask : (homes : Homes) (slots mask : ℕ) (s : State) (n : Run) → MASK < homes.first → slots ≤ 128
    → mask < slots → Follows homes slots s n → Hands homes (bit_xor (s.frame mask) 1) n (run by_words
    (all_done (mask_handed homes mask)) n)
hands_mask homes slots mask s n within most named x =
    handed_is (λ bs. Hands homes (bit_xor (s.frame mask) 1) n (run by_words (all_done bs) n)) homes mask flagged plain
  where
    flagged : (p : ℕ) → flag_of homes.flags mask ≡ Some p → Hands homes (bit_xor (s.frame mask) 1) n (run by_words
        (all_done (set_short always MASK 1 ∷ set_short (where_so p) MASK 0 ∷ [])) n)
    flagged p is =
        let range = flag_range homes.flags mask p is in
        let bs = set_short always MASK 1 ∷ set_short (where_so p) MASK 0 ∷ [] in
        let n1 = once by_words (set_short always MASK 1) n in
        let h1 = once_whole by_words (set_short always MASK 1) n x.whole in
        let first = did_set_short by_words always MASK 1 n x.whole x.whole.fits.always in
        let one : held MASK n1 ≡ 1 = ap (held MASK) first ∙ got MASK 1 n x.whole (omega arith) (omega arith) in
        let told : so p n1 ≡ so p n = ap (so p) first ∙ so_by_register MASK 1 p n x.whole range.1 in
        let value : flag (so p n) ≡ s.frame mask = sym (shown_flag homes mask p n is) ∙ x.shows.frame mask named in
        let free = own_free MASK homes.first MASK (omega arith) (omega arith) within in
        record {
          keeps = calm_done by_words MASK homes.first bs n (omega arith) x.whole (grind (arith, free));
          masked = written_where by_words p MASK 0 (AluImm imm.Add MASK 0 0) n1 h1 (omega arith) (omega arith)
              (ap (λ z. write.Register MASK ((z + 0) % 2 ^ 32)) h1.fits.zero) refl refl
              ∙ ap (λ b. if b then 0 else held MASK n1) told ∙ ap (λ v. if so p n then 0 else v) one
              ∙ handed_flag (so p n) ∙ ap (λ v. bit_xor v 1) value;
          others = λ y lt other. left_run by_words (register y) bs n lt x.whole (rw (ne_eqb MASK y other) refl);
        }

    plain : flag_of homes.flags mask ≡ None → Hands homes (bit_xor (s.frame mask) 1) n (run by_words
        (all_done (read_word homes.first MASK mask ∷ with_short always imm.Xor MASK MASK 1 ∷ [])) n)
    plain none =
        let bs = read_word homes.first MASK mask ∷ with_short always imm.Xor MASK MASK 1 ∷ [] in
        let is : word_of homes.first mask n ≡ s.frame mask =
        sym (shown_plain homes mask n none) ∙ x.shows.frame mask named in
        let u1 = once by_words (read_word homes.first MASK mask) n in
        let h1 = once_whole by_words (read_word homes.first MASK mask) n x.whole in
        let word = subst (λ v. v < 2 ^ 32) (sym is) (x.words.frame mask named) in
        let value : held MASK u1 ≡ s.frame mask = read_leaves by_words homes.first MASK mask n refl x.whole
        (omega arith) (omega arith) (omega (arith, named, most)) word ∙ is in
        let w = bit_xor (held MASK u1) 1 in
        let steps : run by_words (all_done bs) n ≡ with_written (write.Register MASK w) u1 =
        did_with_short by_words imm.Xor MASK MASK 1 u1 h1 in
        let free = own_free MASK homes.first MASK (omega arith) (omega arith) within in
        record {
          keeps = calm_done by_words MASK homes.first bs n (omega arith) x.whole
              (read_is (λ b. AreIn (calm MASK homes.first) (b ∷ with_short always imm.Xor MASK MASK 1 ∷ [])) homes.first MASK mask (grind (arith, free)) (λ out. grind (arith, free)));
          masked = ap (held MASK) steps ∙ got MASK w u1 h1 (omega arith) (omega arith) ∙ ap (λ b. bit_xor b 1) value;
          others = λ y lt other. ap (held y) steps ∙ kept MASK w y u1 h1 lt other
              ∙ read_others by_words homes.first MASK mask y n x.whole lt other;
        }

-- arguments are words
pub args_word : (homes : Homes) (slots : ℕ) (args : List PlainSp) (s : State) (m : Run) → slots ≤ 128
    → args_formed slots args ≡ true → HasArgsConstants args → HasWordFrame slots s → (i : ℕ)
    → slice_index (args_worth args s) i < 2 ^ 32
args_word homes slots [] s m most formed constants x i = omega arith
args_word homes slots (e ∷ args) s m most formed constants x zero =
    let a = and_parts (expr_formed slots e) (args_formed slots args) formed in
    value_word slots s e (and_parts (names_words slots e) (nat_le (need e) 12) a.0).0 constants.0 x
args_word homes slots (e ∷ args) s m most formed constants x (suc i) =
    args_word homes slots args s m most (and_parts (expr_formed slots e) (args_formed slots args) formed).1
    constants.1 x i

-- ---- what the function gave

pub result_done : (homes : Homes) (slots count frame mask : ℕ) (result : Option ℕ) (v : ℕ) (s : State) (t : Run)
    → result_hinders homes.flags result ≡ false → 1 ≤ homes.first → slots ≤ 128 → slots ≤ count → mask < slots
    → result_formed slots result ≡ true → v < 2 ^ 32 → Follows homes slots s t → held RESULT t ≡ v
    → Done homes slots count (where_on mask (with_result result v) s) t (run by_words
    (all_done (result_write homes mask result)) t)
result_done homes slots count frame mask None v s t none some most fits masked formed word x is =
    record {
      follows = subst (λ z. Follows homes slots z t) (same (s.frame mask == 1)) x;
      keeps = record { st = refl; stack = λ a above. refl; high = λ r at lt. refl };
    }
  where
    same : (b : Bool) → s ≡ (if b then s else s)
    same true = refl
    same false = refl
result_done homes slots count frame mask (Some slot) v s t none some most fits masked formed word x is =
    let named = ltb-true slot slots formed in
    let test = tested homes slots mask s t most masked x in
    let u = run by_words (all_done (mask_test homes mask)) t in
    let d = slot_where homes slots count (told_at homes mask) slot RESULT v s u (s.frame mask == 1)
    (is_none_off (flag_of homes.flags slot) none) some most named fits word (follows_still test.keeps x)
    (test.keeps.low RESULT (omega arith) ∙ is) test.test in
    record { follows = d.follows; keeps = keeps_then (behind_still count test.keeps) d.keeps }

-- ---- the whole

-- a function has given this, and left the registers from the end of its window on
pub record Returns (top : ℕ) (g : Outcome) (m t : Run) : Type 0 where
  pub answers : Answers g m t
  pub high : KeepsFrom top m t

-- the code of a function does what it gives
unfoldable pub ServedBy : (ℕ → List Step) → Serves → ℕ → ℕ → ℕ → ℕ → Type 0
ServedBy f g k arguments room top = (mask : ℕ) (args : List ℕ) (w : World) (m : Run) → length args ≡ arguments
    → room ≤ m.st → CalledWith mask args w m → Returns top (g k mask args w) m (run by_words (f k) m)

-- a frame's words after a call, and the world that the function gave
follows_answer : (homes : Homes) (slots : ℕ) (s : State) (g : Outcome) (m c t : Run)
    → ((slot p : ℕ) → flag_of homes.flags slot ≡ Some p → so p t ≡ so p m) → Follows homes slots s m
    → KeepsFrom homes.first m t → c.stack ≡ m.stack → c.st ≡ m.st → Answers g c t
    → Follows homes slots (in_world s g.world) t
follows_answer homes slots s g m c t flags x high same_stack same_st a = record {
  whole = a.carries.whole;
  shows = record {
    frame = λ slot lt. shown_kept homes slot m t (flags slot) high (λ at above. a.stack at (subst (λ st. st ≤ at)
        (sym same_st) above) ∙ ap (λ words. words at) same_stack) (a.st ∙ same_st) ∙ x.shows.frame slot lt;
    world = a.carries.has;
  };
  words = record { frame = x.words.frame; world = a.carries.words };
  flag = a.carries.flag;
}

pub call_run : (homes : Homes) (from : Sources) (f : ℕ → List Step) (frame mask k : ℕ) (result : Option ℕ) (n : Run)
    → run from (parts_trail f (call_code homes frame mask k result)) n
    ≡ run from (all_done (after_call homes frame mask result)) (run from (f k)
    (begun (run from (all_done call_tail) (run from (all_done (mask_handed homes mask)) n))))
call_run homes from f frame mask k result n =
    let u = run from (all_done (mask_handed homes mask)) n in
    run_joined from f (one (straight (mask_handed homes mask)))
    (joined (one (way_to k)) (one (straight (after_call homes frame mask result)))) n
    ∙ ap (run from (parts_trail f (joined (one (way_to k)) (one (straight (after_call homes frame mask result))))))
    (run_lone from f (mask_handed homes mask) n)
    ∙ run_joined from f (one (way_to k)) (one (straight (after_call homes frame mask result))) u
    ∙ ap (λ steps. run from (parts_trail f (one (straight (after_call homes frame mask result))))
    (run from steps (begun (run from (all_done call_tail) u)))) (append-nil (f k))
    ∙ run_lone from f (after_call homes frame mask result) (run from (f k) (begun (run from (all_done call_tail) u)))

args_count : (args : List PlainSp) (s : State) → length (args_worth args s) ≡ length args
args_count [] s = refl
args_count (e ∷ args) s = ap suc (args_count args s)

pub first_least : (args : List PlainSp) (rd : ℕ) → rd ≤ args_least args rd
first_least [] rd = omega arith
first_least (e ∷ args) rd = omega arith

-- a function that is called does not set predicates from one on
abbrev pub Spares : (ℕ → List Step) → ℕ → ℕ → Type 0
Spares f k used = (p : ℕ) → FLAGS + used ≤ p → p < 8 → (m : Run) → IsWhole m → so p (run by_words (f k) m) ≡ so p m

pub call_is_done : (homes : Homes) (f : ℕ → List Step) (g : Serves) (frame counter slots room top mask k : ℕ)
    (args : List PlainSp) (result : Option ℕ) (used : ℕ) (s : State) (m : Run) → result_hinders homes.flags result
    ≡ false → AreAbove used homes.flags → Spares f k used → slots ≤ 128 → slots ≤ counter + 1 → mask < slots
    → length args ≤ 7 → args_formed slots args ≡ true
    → HasArgsConstants args → result_formed slots result ≡ true → ServedBy f g k (length args) room top
    → top ≤ homes.first → args_least args FIRST ≤ homes.first → room ≤ m.st → Follows homes slots s m
    → Done homes slots (counter + 1) (stmt_done g (calls mask k args result) s) m (run by_words
    (parts_trail f (stmt_code homes frame counter (calls mask k args result))) m)
unfolding ServedBy
call_is_done homes f g frame counter slots room top mask k args result used s m none above spared most fits masked few
    formed constants result_named served windows free enough x =
    let least : FIRST ≤ homes.first = omega (arith, first_least args FIRST, free) in
    let a = arguments_left homes f slots args FIRST s m (omega arith) (omega (arith, few)) most formed
    constants free x in
    let n = run by_words (parts_trail f (args_code homes args FIRST)) m in
    let y = follows_still a.keeps x in
    let h = hands_mask homes slots mask s n (omega (arith, least)) most masked y in
    let u = run by_words (all_done (mask_handed homes mask)) n in
    let z = follows_still h.keeps y in
    let b = tail_begins u h.keeps.whole in
    let c = begun (run by_words (all_done call_tail) u) in
    let values = args_worth args s in
    let count = args_count args s in
    let returned = served (s.frame mask) values s.world c count
    (subst (λ st. room ≤ st) (sym (b.st ∙ h.keeps.st ∙ a.keeps.st)) enough) (record {
      carries = record {
        whole = b.whole;
        has = subst (HasWords s.world) (sym b.memory) z.shows.world;
        words = z.words.world;
        flag = b.regs OVERRUN (omega arith) ∙ z.flag;
      };
      masked = b.regs MASK (omega arith) ∙ h.masked;
      mask_word = x.words.frame mask masked;
      given = λ i lt. let small : FIRST + i < 32 = omega (arith, lt, count, few) in b.regs (FIRST + i) small
          ∙ h.others (FIRST + i) small (λ is. absurd (omega (arith, is))) ∙ a.values i lt;
      arg_words = args_word homes slots args s m most formed constants x.words;
    }) in
    let answers = returned.answers in
    let given = g k (s.frame mask) values s.world in
    let t1 = run by_words (f k) c in
    let high : KeepsFrom homes.first u t1 =
    λ r from lt. returned.high r (omega (arith, windows, from, lt)) lt ∙ b.regs r (omega (arith, lt)) in
    let w = follows_answer homes slots s given u c t1 (λ slot p is. let range = flag_range homes.flags slot p is in
    spared p (above slot p is) range.1 c b.whole ∙ b.preds p range.1) z high b.stack b.st answers in
    let t2 = once by_words (stack_op Sens frame) t1 in
    let sens = did_stack by_words Sens frame t1 w.whole in
    let w2 : Follows homes slots (in_world s given.world) t2 = subst (Follows homes slots (in_world s given.world))
    (sym sens) (record {
      whole = record { fits = w.whole.fits; pending = w.whole.pending };
      shows = record {
        frame = λ slot lt. shown_still homes slot t1 (with_stack Sens frame t1) (λ r from lt. refl)
            (λ p from lt. refl) refl refl ∙ w.shows.frame slot lt;
        world =
            w.shows.world;
      };
      words = w.words;
      flag = w.flag;
    }) in
    let d = result_done homes slots (counter + 1) frame mask result given.value (in_world s given.world) t2 none
    (omega (arith, least)) most fits masked result_named answers.value_word w2 (ap (held RESULT) sens
    ∙ answers.value) in
    let behind : KeepsAfter (homes.first + (counter + 1)) (stack_word homes.first (counter + 1)) u t2 =
    subst (KeepsAfter (homes.first + (counter + 1)) (stack_word homes.first (counter + 1)) u) (sym sens) (record {
      st = answers.st ∙ b.st;
      stack = λ at above. answers.stack at (subst (λ st. st ≤ at) (sym b.st) (omega (arith, above)))
          ∙ ap (λ words. words at) b.stack;
      high = λ r from lt. high r (omega (arith, from)) lt;
    }) in
    subst (Done homes slots (counter + 1) (stmt_done g (calls mask k args result) s) m)
    (sym (run_joined by_words f (args_code homes args FIRST) (call_code homes frame mask k result) m
    ∙ call_run homes by_words f frame mask k result n)) (record {
      follows = d.follows;
      keeps = keeps_then (behind_still (counter + 1) a.keeps) (keeps_then (behind_still (counter + 1) h.keeps)
          (keeps_then behind d.keeps));
    })
