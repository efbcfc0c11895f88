-- Loops that act: iteration by iteration, up to their bound.
use Rattle.std.proofs.Common.{◌≡◌, ◌≢◌, ℕ, zero, suc, ◌+◌, ◌<◌, ◌≤◌, ◌==◌, Bool, true, false, Option, refl, ap, sym, ◌∙◌, arith, eq-eqb, eqb-true, true≢false, if◌then◌else◌, ap₂, subst, ◌⊎◌, inl, inr}
use Rattle.std.specs.Prelude.{bit_and, not}
use Rattle.std.proofs.lemmas.Bool.{cases_eq}
use Rattle.c_world.specs.Numbers.{flag, is_true, difference_of}
use Rattle.c_world.specs.World.{with_overrun}
use Rattle.sp_tree.specs.Plain.{PlainSp, frame_word}
use Rattle.sp_tree.specs.Statements.{masks, overruns, PlainStmts, no_stmt, one, joined}
use Rattle.sp_tree.specs.Straight.{State, Serves, with_slot, in_world, overrun_done, worth, times, stmt_done, stmts_done}
use Rattle.sp_tree.proofs.Joins.{joined_done}
use Rattle.sp_tree.proofs.Runs.{on as on_mask}
use Rattle.c_meaning.specs.Actions.{PlainAssignment, PlainAction}
use Rattle.c_meaning.specs.declared.ways.Way.{Way}
use Rattle.c_meaning.specs.declared.ways.Way.TheVariants as way
use Rattle.c_meaning.specs.Meaning.{Done, goes_on, iteration_done, iterations_done, way_value}
use Rattle.c_meaning.specs.Meaning as meaning
use Rattle.c_meaning.specs.Resolved as resolved
use Rattle.c_meaning.specs.Values as values
use Rattle.single_path.specs.declared.part_words.PartWords.{PartWords}
use Rattle.single_path.specs.PartWords.{in_loop, where_so, where_not_returned, bit_of, not_zero}
use Rattle.single_path.specs.Made.{made_step, made_again, made_on, made_behind, made_iteration, made_loop, ends}
use Rattle.single_path.specs.Widths.{expr_words, step_words}
use Rattle.single_path.proofs.Frames.{put_here, put_there, Order, Still, still_here, still_on, fewer, set_after}
use Rattle.single_path.proofs.Idle.{Idle, left, gone, Dead, Left, order_loop, still_dead, behind_still, ended_still, flagged_still}
use Rattle.single_path.proofs.Agreeing.{Agrees, step_set, still_agrees, worth_same}
use Rattle.single_path.proofs.Ways.{Acted, Live, Went, function_of, loop_of, begun_live, low_acted}
use Rattle.single_path.proofs.Leaving.{on_acted, stays_acted}
use Rattle.single_path.proofs.Arming.{tested}

-- after the iterations of a loop and its flag: the loop has ended, and its part goes on or the function has returned;
-- the masks of the part stand
record Iterated (n : ℕ) (p : PartWords) (s : State) (d : Done) (u : State) : Type 0 where
  same : Agrees n u d.state
  result : u.frame p.result ≡ way_value d.way
  function : u.frame p.function ≡ function_of d.way
  settled : function_of d.way ≡ loop_of p.counted d.way
  others : (x : ℕ) → n ≤ x → x < p.free → x ≢ p.result → x ≢ p.function → u.frame x ≡ s.frame x

iterated_still : (n : ℕ) (p : PartWords) (s : State) (d : Done) (u v : State) → Order n p → Iterated n p s d u
    → Still p.free u v → Iterated n p s d v
iterated_still n p s d u v o h k = record {
  same = still_agrees n p.free u v d.state (omega (arith, o.result, o.function, o.loop, o.own, o.free)) k h.same;
  result = k.frame p.result (omega (arith, o.function, o.loop, o.own, o.free)) ∙ h.result;
  function = k.frame p.function (omega (arith, o.loop, o.own, o.free)) ∙ h.function;
  settled = h.settled;
  others = λ x behind below r f. k.frame x below ∙ h.others x behind below r f;
}

iterated_from : (n : ℕ) (p : PartWords) (s t : State) (d : Done) (u : State)
    → ((x : ℕ) → n ≤ x → x < p.free → x ≢ p.result → x ≢ p.function → t.frame x ≡ s.frame x) → Iterated n p t d u
    → Iterated n p s d u
iterated_from n p s t d u before h = record {
  same = h.same;
  result = h.result;
  function = h.function;
  settled = h.settled;
  others = λ x behind below r f. h.others x behind below r f ∙ before x behind below r f;
}

-- the masks of a loop that was left in its iteration
left_there : (n : ℕ) (p : PartWords) (t : State) (w : Way) (m : values.State) (u : State) → loop_of false w ≡ 0
    → Idle 0 0 (function_of w)
    → Went n (in_loop p) t (record { way = w; state = m }) u → Left p u
left_there n p t w m u is idle h = record {
  dead = record {
    own_word = 0;
    loop_word = 0;
    function_word = function_of w;
    idle = idle;
    own = h.loop ∙ is;
    loop = h.loop ∙ is;
    function = h.function;
    alone = λ two. absurd (omega (arith, two));
  };
  off = h.loop ∙ is;
}

-- what a loop needs of its body
pub record Body (g : Serves) (n : ℕ) (p : PartWords) (body : PlainStmts) (meant : values.State → Done) : Type 0 where
  pub acts : (t : State) (m : values.State) → Live (in_loop p) t → Agrees n t m
      → Went n (in_loop p) t (meant m) (stmts_done g body t)
  pub idles : (t : State) → Dead (in_loop p) t → Still (p.free + 1) t (stmts_done g body t)

no_iteration : (g : Serves) (n : ℕ) (p : PartWords) (condition : PlainSp) (s : State) (l : values.State)
    → Live (in_loop p) s → Agrees n s l → expr_words condition ≤ n
    → Iterated n p s (goes_on (meaning.in_world l (with_overrun (resolved.holds condition l) l.world))) (stmt_done g
    (overruns p.free condition) s)
no_iteration g n p condition s l live h within =
    let flagged : stmt_done g (overruns p.free condition) s
    ≡ in_world s (with_overrun (resolved.holds condition l) l.world) =
    on_mask p.free (overrun_done condition) s (eq-eqb (s.frame p.free) 1 live.own)
    ∙ ap₂ (λ a w. in_world s (with_overrun (is_true a) w)) (worth_same n condition s l h within) h.world in
    subst (λ u. Iterated n p s (goes_on (meaning.in_world l (with_overrun (resolved.holds condition l) l.world))) u)
    (sym flagged) (record {
      same = record { locals = h.locals; world = refl };
      result = live.result;
      function = live.function;
      settled = refl;
      others = λ x behind below r f. refl;
    })

iterated : (g : Serves) (n : ℕ) (p : PartWords) (condition : PlainSp) (exits : Bool) (body : PlainStmts)
    (step : Option PlainAssignment) (meant : values.State → Done)
    → (exits ≡ false → (m : values.State) → (meant m).way ≢ way.Continued) → Order n p → expr_words condition ≤ n
    → step_words step ≤ n → Body g n p body meant → (k : ℕ) (s : State) (l : values.State)
    → Live (in_loop p) s → Agrees n s l
    → Iterated n p s (iterations_done (resolved.holds condition) meant (resolved.step_done step) k l)
    (stmt_done g (overruns p.free condition) (times k (stmts_done g (made_iteration p condition exits body step)) s))
iterated g n p condition exits body step meant once o within step_within b zero s l live h =
    no_iteration g n p condition s l live h within
iterated g n p condition exits body step meant once o within step_within b (suc k) s l live h =
    tests (λ x m. iterated g n p condition exits body step meant once o within step_within b k x m)
    (resolved.holds condition l) refl
  where
    t : State
    t = with_slot p.free (worth (where_so p.free condition) s) s

    begun : Still p.free s t
    begun = set_after p.free p.free (worth (where_so p.free condition) s) s (omega arith)

    test_word : (holds : Bool) → resolved.holds condition l ≡ holds → t.frame p.free ≡ flag holds
    test_word holds is = put_here p.free (worth (where_so p.free condition) s) s.frame
        ∙ tested (in_loop p) condition holds s live.own (ap is_true (worth_same n condition s l h within) ∙ is)

    function_there : t.frame p.function ≡ 1
    function_there = begun.frame p.function (omega (arith, o.loop, o.own, o.free)) ∙ live.function

    agrees : Agrees n t l
    agrees = still_agrees n p.free s t l (omega (arith, o.result, o.function, o.loop, o.own, o.free)) begun h

    iteration : State → State
    iteration = stmts_done g (made_iteration p condition exits body step)

    end_of_iteration : PlainStmts
    end_of_iteration = joined (made_again p exits) (made_step p.free step)

    more : values.State → Done
    more = iterations_done (resolved.holds condition) meant (resolved.step_done step) k

    ends_as : State → State
    ends_as v = stmt_done g (overruns p.free condition) (times k iteration v)

    u : State
    u = stmts_done g body t

    -- the loop was left in this iteration
    over : (w : Way) (m : values.State) → Went n (in_loop p) t (record { way = w; state = m }) u → loop_of false w ≡ 0
        → Idle 0 0 (function_of w)
        → Still p.free u (ends_as (stmts_done g end_of_iteration u))
    over w m went is idle =
        let off_there = left_there n p t w m u is idle went in
        let v = stmts_done g end_of_iteration u in
        let ended = ended_still g n p exits step u o off_there in
        still_on p.free u v (ends_as v) (fewer (p.free + 1) p.free u v (omega arith) ended)
        (flagged_still g n p condition exits body step o b.idles k v (record {
          dead = still_dead n (in_loop p) u v (order_loop n p o) ended off_there.dead;
          off = ended.frame p.free (omega arith) ∙ off_there.off;
        }))

    below_u : (d : Done) → Went n (in_loop p) t d u → (x : ℕ) → n ≤ x → x < p.free → x ≢ p.result → x ≢ p.function
        → u.frame x ≡ s.frame x
    below_u d went x behind below r f =
        went.others x behind (omega (arith, below)) r f (omega (arith, below)) (omega (arith, below))
        ∙ begun.frame x below

    -- what is so of the iterations that are left
    Rest : Type 0
    Rest = (x : State) (m : values.State) → Live (in_loop p) x → Agrees n x m → Iterated n p x (more m) (ends_as x)

    -- the next iteration comes, from where the loop's mask is 1
    goes_further : Rest → (w : Way) (m : values.State) → Went n (in_loop p) t (record { way = w; state = m }) u
        → function_of w ≡ 1
        → way_value w ≡ 0 → (v : State) → Still p.free u v → v.frame p.free ≡ 1
        → Iterated n p s (more (resolved.step_done step m)) (ends_as (stmts_done g (made_step p.free step) v))
    goes_further further w m went function value v again one_there =
        let stepped = step_set g n p.free step v m one_there (still_agrees n p.free u v m
        (omega (arith, o.result, o.function, o.loop, o.own, o.free)) again went.same) step_within in
        let x = stmts_done g (made_step p.free step) v in
        let live_there : Live (in_loop p) x = record {
          own = stepped.others p.free (omega (arith, o.result, o.function, o.loop, o.own, o.free)) ∙ one_there;
          loop = stepped.others p.free (omega (arith, o.result, o.function, o.loop, o.own, o.free)) ∙ one_there;
          function = stepped.others p.function (omega (arith, o.result, o.function))
              ∙ again.frame p.function (omega (arith, o.loop, o.own, o.free))
              ∙ went.function ∙ function;
          result = stepped.others p.result o.result ∙ again.frame p.result (omega (
            arith,
            o.function,
            o.loop,
            o.own,
            o.free,
          )) ∙ went.result ∙ value;
        } in
        iterated_from n p s x (more (resolved.step_done step m)) (ends_as x)
        (λ y behind below r f. stepped.others y behind ∙ again.frame y below
        ∙ below_u (record { way = w; state = m }) went y behind below r f)
        (further x (resolved.step_done step m) live_there stepped.agrees)

    -- its mask is set to 1 where it may be 2
    again_further : Rest → (w : Way) (m : values.State) → Went n (in_loop p) t (record { way = w; state = m }) u
        → not (loop_of false w == 0) ≡ true → function_of w ≡ 1
        → way_value w ≡ 0 → (again : Bool) → (again ≡ false → loop_of false w ≡ 1)
        → Iterated n p s (more (resolved.step_done step m)) (ends_as
        (stmts_done g (joined (made_again p again) (made_step p.free step)) u))
    again_further further w m went is function value true one_word =
        let v = with_slot p.free (worth (not_zero (frame_word p.free)) u) u in
        goes_further further w m went function value v (set_after p.free p.free (worth (not_zero (frame_word p.free)) u)
        u (omega arith))
        (put_here p.free (worth (not_zero (frame_word p.free)) u) u.frame ∙ ap (λ a. flag (not (a == 0))) went.loop
        ∙ ap flag is)
    again_further further w m went is function value false one_word =
        goes_further further w m went function value u (still_here p.free u) (went.loop ∙ one_word refl)

    by_way : Rest → (w : Way) (m : values.State) → (exits ≡ false → w ≢ way.Continued)
        → Went n (in_loop p) t (record { way = w; state = m }) u
        → Iterated n p s (iteration_done more (resolved.step_done step) (record { way = w; state = m })) (ends_as
        (stmts_done g end_of_iteration u))
    by_way further way.On m not_again went = again_further further way.On m went refl refl refl exits (λ none. refl)
    by_way further way.Continued m not_again went =
        again_further further way.Continued m went refl refl refl exits (λ none. absurd (not_again none refl))
    by_way further way.Broken m not_again went =
        iterated_still n p s (goes_on m) u (ends_as (stmts_done g end_of_iteration u)) o (record {
          same = went.same;
          result = went.result;
          function = went.function;
          settled = refl;
          others = below_u (record { way = way.Broken; state = m }) went;
        }) (over way.Broken m went refl left)
    by_way further (way.Returned v) m not_again went = iterated_still n p s (record { way = way.Returned v; state = m })
        u (ends_as (stmts_done g end_of_iteration u)) o (record {
          same = went.same;
          result = went.result;
          function = went.function;
          settled = refl;
          others = below_u (record { way = way.Returned v; state = m }) went;
        }) (over (way.Returned v) m went refl gone)

    tests : Rest → (holds : Bool) → resolved.holds condition l ≡ holds
        → Iterated n p s (elim holds as (λ _. Done) [
          | true ↦ iteration_done more (resolved.step_done step)
              (meant l)
          | false ↦ goes_on l
        ]) (ends_as (iteration s))
    tests further true is =
        let live_there : Live (in_loop p) t = record {
          own = test_word true is;
          loop = test_word true is;
          function = function_there;
          result = begun.frame p.result (omega (arith, o.function, o.loop, o.own, o.free)) ∙ live.result;
        } in
        subst (λ v. Iterated n p s (iteration_done more (resolved.step_done step) (meant l)) (ends_as v))
        (sym (joined_done g body end_of_iteration t))
        (by_way further (meant l).way (meant l).state (λ none. once none l) (b.acts t l live_there agrees))
    tests further false is =
        let off_there : Left p t = record {
          dead = record {
            own_word = 0;
            loop_word = 0;
            function_word = 1;
            idle = left;
            own = test_word false is;
            loop = test_word false is;
            function = function_there;
            alone = λ two. absurd (omega (arith, two));
          };
          off = test_word false is;
        } in
        let v = iteration s in
        let iterated_by = behind_still g n p exits body step o b.idles t off_there in
        let so_far = still_on p.free s t v begun (fewer (p.free + 1) p.free t v (omega arith) iterated_by) in
        iterated_still n p s (goes_on l) v (ends_as v) o (record {
          same = still_agrees n p.free s v l (omega (arith, o.result, o.function, o.loop, o.own, o.free)) so_far h;
          result = so_far.frame p.result (omega (arith, o.function, o.loop, o.own, o.free)) ∙ live.result;
          function = so_far.frame p.function (omega (arith, o.loop, o.own, o.free)) ∙ live.function;
          settled = refl;
          others = λ x behind below r f. so_far.frame x below;
        })
        (flagged_still g n p condition exits body step o b.idles k v (record {
          dead = still_dead n (in_loop p) t v (order_loop n p o) iterated_by off_there.dead;
          off = iterated_by.frame p.free (omega arith) ∙ off_there.off;
        }))

-- after a loop its part's masks are repaired
after_loop : (a : PlainAction) (g : Serves) (n : ℕ) (p : PartWords) (returned : Bool) (s : State) (d : Done) (u : State)
    → ends a ≡ false
    → (returned ≡ false → d.way ≡ way.On) → Order n p → Live p s → Iterated n p s d u
    → Acted a n p s d (stmts_done g (made_behind p returned) u)
after_loop a g n p returned s d u stays on o live h = by returned on
  where
    own : p.own ≢ p.iteration → u.frame p.own ≡ 1
    own apart = h.others p.own (omega (arith, o.result, o.function, o.loop, o.own)) o.free
        (omega (arith, o.function, o.loop, o.own))
        (λ e. apart (omega (arith, o.loop, o.own, e))) ∙ live.own

    loop_word : p.function ≢ p.iteration → u.frame p.iteration ≡ 1
    loop_word nested = h.others p.iteration (omega (arith, o.result, o.function, o.loop)) (omega (arith, o.own, o.free))
        (omega (arith, o.function, o.loop)) (λ e. nested (sym e)) ∙ live.loop

    -- where the loop's mask stands
    went : u.frame p.iteration ≡ loop_of p.counted d.way → Went n p s d u
    went loop = record {
      same = h.same;
      result = h.result;
      function = h.function;
      loop = loop;
      own = λ apart. inl (own apart);
      others = λ x behind below r f q w. h.others x behind below r f;
    }

    outer : Bool → PlainStmts
    outer outside = if outside then no_stmt else one (masks p.iteration (where_not_returned p))

    word_in : (w : Way) → bit_and 1 (difference_of 0 (function_of w)) ≡ function_of w
    word_in way.On = refl
    word_in _ = refl

    repaired : (outside : Bool) → (p.function == p.iteration) ≡ outside → Went n p s d (stmts_done g (outer outside) u)
    repaired true is = went (ap u.frame (sym (eqb-true p.function p.iteration is)) ∙ h.function ∙ h.settled)
    repaired false is =
        let nested : p.function ≢ p.iteration = λ e. true≢false (sym (eq-eqb p.function p.iteration e) ∙ is) in
        let v = worth (where_not_returned p) u in
        let there : (x : ℕ) → x ≢ p.iteration → (with_slot p.iteration v u).frame x ≡ u.frame x =
        λ x other. put_there p.iteration v x u.frame (λ e. other (sym e)) in
        record {
          same = still_agrees n p.iteration u (with_slot p.iteration v u) d.state
              (omega (arith, o.result, o.function, o.loop)) (set_after p.iteration p.iteration v u (omega arith))
              h.same;
          result = there p.result (omega (arith, o.function, o.loop)) ∙ h.result;
          function = there p.function nested ∙ h.function;
          loop = put_here p.iteration v u.frame ∙ ap₂ (λ b c. bit_and b (difference_of 0 c)) (loop_word nested)
              h.function ∙ word_in d.way ∙ h.settled;
          own = λ apart. inl (there p.own apart ∙ own apart);
          others = λ x behind below r f q w. there x q ∙ h.others x behind below r f;
        }

    stands : d.way ≡ way.On → (p.function ≡ p.iteration) ⊎ (p.function ≢ p.iteration) → u.frame p.iteration
        ≡ loop_of p.counted d.way
    stands on (inl alone) = ap u.frame (sym alone) ∙ h.function ∙ h.settled
    stands on (inr nested) = loop_word nested ∙ sym (ap (loop_of p.counted) on)

    by : (returned : Bool) → (returned ≡ false → d.way ≡ way.On)
        → Acted a n p s d (stmts_done g (made_behind p returned) u)
    by true on =
        subst (Acted a n p s d) (sym (joined_done g (outer (p.function == p.iteration)) (made_on p) u))
        (on_acted a g n p s d (stmts_done g (outer (p.function == p.iteration)) u) stays o
        (repaired (p.function == p.iteration) refl))
    by false on = stays_acted a n p s d u stays (on refl) (went (stands (on refl) (cases_eq p.function p.iteration)))

pub loop_acted : (a : PlainAction) (g : Serves) (n : ℕ) (p : PartWords) (most : ℕ) (condition : PlainSp)
    (returned exits : Bool) (body : PlainStmts)
    (step : Option PlainAssignment) (meant : values.State → Done) (s : State) (l : values.State) → ends a ≡ false
    → (returned ≡ false → (iterations_done (resolved.holds condition) meant (resolved.step_done step) most l).way
    ≡ way.On)
    → (exits ≡ false → (m : values.State) → (meant m).way ≢ way.Continued) → Order n p → expr_words condition ≤ n
    → step_words step ≤ n
    → Body g n p body meant → Live p s → Agrees n s l
    → Acted a n p s (iterations_done (resolved.holds condition) meant (resolved.step_done step) most l)
    (stmts_done g (made_loop p most condition returned (made_iteration p condition exits body step)) s)
loop_acted a g n p zero condition returned exits body step meant s l stays on once o within step_within b live h =
    let m = meaning.in_world l (with_overrun (resolved.holds condition l) l.world) in
    let flagged : stmt_done g (overruns p.own condition) s
    ≡ in_world s (with_overrun (resolved.holds condition l) l.world) =
    on_mask p.own (overrun_done condition) s (eq-eqb (s.frame p.own) 1 live.own)
    ∙ ap₂ (λ v w. in_world s (with_overrun (is_true v) w)) (worth_same n condition s l h within) h.world in
    subst (λ u. Acted a n p s (goes_on m) u) (sym flagged) (low_acted a n p s (in_world s m.world) m stays o live
    (record { locals = h.locals; world = refl }) (λ x behind below. refl))
loop_acted a g n p (suc k) condition returned exits body step meant s l stays on once o within step_within b live h =
    let t = with_slot p.free (worth (bit_of p.own) s) s in
    let begun = set_after p.free p.free (worth (bit_of p.own) s) s (omega arith) in
    let d = iterations_done (resolved.holds condition) meant (resolved.step_done step) (suc k) l in
    let u = stmt_done g (overruns p.free condition)
    (times (suc k) (stmts_done g (made_iteration p condition exits body step)) t) in
    let there = iterated g n p condition exits body step meant once o within step_within b (suc k) t l
    (begun_live n p false s o live)
    (still_agrees n p.free s t l (omega (arith, o.result, o.function, o.loop, o.own, o.free)) begun h) in
    after_loop a g n p returned s d u stays on o live
    (iterated_from n p s t d u (λ x behind below r f. begun.frame x below) there)
