-- Arms that are taken, and that are not.
use Rattle.std.proofs.Common.{◌≡◌, ℕ, ◌+◌, ◌<◌, ◌==◌, Bool, true, false, if◌then◌else◌, refl, ap, sym, ◌∙◌, arith, ap₂, subst, inl}
use Rattle.std.specs.Prelude.{bit_and, bit_xor}
use Rattle.c_world.specs.Numbers.{flag, is_true}
use Rattle.sp_tree.specs.Plain.{PlainSp, frame_word}
use Rattle.sp_tree.specs.Statements.{PlainStmts}
use Rattle.sp_tree.specs.Straight.{State, Serves, with_slot, worth, stmts_done}
use Rattle.sp_tree.proofs.Joins.{joined_done}
use Rattle.c_meaning.specs.declared.ways.Way.{Way}
use Rattle.c_meaning.specs.declared.ways.Way.TheVariants as way
use Rattle.c_meaning.specs.Meaning.{Done, goes_on}
use Rattle.c_meaning.specs.Values as values
use Rattle.single_path.specs.declared.part_words.PartWords.{PartWords}
use Rattle.single_path.specs.PartWords.{in_arm, where_so, where_not_taken, where_other, bit_of}
use Rattle.single_path.specs.Made.{made_arm, made_otherwise}
use Rattle.single_path.proofs.Truths.{truth_worth}
use Rattle.single_path.proofs.Frames.{put_here, Order, Still, still_on, fewer, set_after}
use Rattle.single_path.proofs.Idle.{Idle, left, armed, waits, gone, Dead}
use Rattle.single_path.proofs.Agreeing.{Agrees, still_agrees}
use Rattle.single_path.proofs.Ways.{Live, Went, function_of, loop_of, went_own, went_still}

-- a part that acts in an arm, told of the part in which the arm stands
arm_went : (n : ℕ) (p : PartWords) (s t : State) (d : Done) (u : State) → Order n p → Live p s
    → ((x : ℕ) → x < p.free → t.frame x ≡ s.frame x)
    → Went n (in_arm p) t d u → Went n p s d u
arm_went n p s t d u o live below h = record {
  same = h.same;
  result = h.result;
  function = h.function;
  loop = h.loop;
  own = λ apart. inl (
      h.others p.own (omega (arith, o.result, o.function, o.loop, o.own)) (omega (arith, o.free))
      (omega (arith, o.function, o.loop, o.own))
      (λ e. apart (omega (arith, o.loop, o.own, e))) apart (omega (arith, o.free))
      ∙ below p.own o.free ∙ live.own);
  others = λ x behind free r f q w. h.others x behind (omega (arith, free)) r f q (omega (arith, free)) ∙ below x free;
}

-- after an arm that was taken the mask of what stands after `else` is 0
not_taken : (counted : Bool) (w : Way) (own free : ℕ) → (w ≡ way.On → own ≡ 1) → (w ≡ way.On → free ≡ 1)
    → bit_and (bit_and (loop_of counted w) 1) (bit_xor own free) ≡ 0
not_taken counted way.On own free own_on free_on = ap₂ (λ a f. bit_and 1 (bit_xor a f)) (own_on refl) (free_on refl)
not_taken counted way.Broken own free own_on free_on = refl
not_taken true way.Continued own free own_on free_on = refl
not_taken false way.Continued own free own_on free_on = refl
not_taken counted (way.Returned v) own free own_on free_on = refl

idle_armed : (counted : Bool) (w : Way) → Idle 0 (loop_of counted w) (function_of w)
idle_armed counted way.On = armed
idle_armed counted way.Broken = left
idle_armed true way.Continued = left
idle_armed false way.Continued = waits
idle_armed counted (way.Returned v) = gone

-- where the arm did not go elsewhere, both masks are 1
other_word : (p : PartWords) (u : State) (own free : ℕ) → u.frame p.own ≡ own → u.frame p.free ≡ free
    → bit_and own 1 ≡ own
    → worth (where_other p) u ≡ bit_xor own free
other_word p u own free is_own is_free small = ap₂ bit_xor (by (p.own == p.iteration)) is_free
  where
    by : (alone : Bool) → worth (if alone then bit_of p.own else frame_word p.own) u ≡ own
    by true = ap (λ a. bit_and a 1) is_own ∙ small
    by false = is_own

-- what stands after `else`, where the arm was taken
otherwise_idle : (g : Serves) (n : ℕ) (p : PartWords) (exits nothing : Bool) (rest : PlainStmts) (s : State) (d : Done)
    (u : State) → Order n p
    → (exits ≡ false → d.way ≡ way.On)
    → ((t : State) → Dead (in_arm p) t → Still (p.free + 1) t (stmts_done g rest t)) → Went n p s d u
    → (d.way ≡ way.On → u.frame p.free ≡ 1)
    → Went n p s d (stmts_done g (made_otherwise p exits nothing rest) u)
otherwise_idle g n p exits true rest s d u o on each h free_on = h
otherwise_idle g n p exits false rest s d u o on each h free_on = by exits on
  where
    by : (exits : Bool) → (exits ≡ false → d.way ≡ way.On)
        → Went n p s d (stmts_done g rest
        (with_slot p.free (worth (if exits then where_not_taken p else where_other p) u) u))
    by exits on =
        let w = worth (if exits then where_not_taken p else where_other p) u in
        let v = with_slot p.free w u in
        let begun = set_after p.free p.free w u (omega arith) in
        let idle_there : Dead (in_arm p) v = record {
          own_word = 0;
          loop_word = loop_of p.counted d.way;
          function_word = function_of d.way;
          idle = idle_armed p.counted d.way;
          own = put_here p.free w u.frame ∙ value exits on;
          loop = begun.frame p.iteration (omega (arith, o.own, o.free)) ∙ h.loop;
          function = begun.frame p.function (omega (arith, o.loop, o.own, o.free)) ∙ h.function;
          alone = λ two. absurd (omega (arith, two));
        } in
        went_still n p s d u (stmts_done g rest v) o h
        (still_on p.free u v (stmts_done g rest v) begun (fewer (p.free + 1) p.free v (stmts_done g rest v)
        (omega arith) (each v idle_there)))
      where
        value : (exits : Bool) → (exits ≡ false → d.way ≡ way.On)
            → worth (if exits then where_not_taken p else where_other p) u ≡ 0
        value true on =
            ap (λ b. bit_and (bit_and b 1) (bit_xor (u.frame p.own) (u.frame p.free))) h.loop
            ∙ not_taken p.counted d.way (u.frame p.own) (u.frame p.free) (went_own n p s d u h) free_on
        value false on = other_word p u 1 1 (went_own n p s d u h (on refl)) (free_on (on refl)) refl

-- the mask of an arm
pub tested : (p : PartWords) (condition : PlainSp) (holds : Bool) (s : State) → s.frame p.own ≡ 1
    → is_true (worth condition s) ≡ holds
    → worth (where_so p.own condition) s ≡ flag holds
tested p condition true s is held = ap₂ bit_and is (truth_worth condition s ∙ ap flag held)
tested p condition false s is held = ap₂ bit_and is (truth_worth condition s ∙ ap flag held)

-- the arm is taken
pub taken_went : (g : Serves) (n : ℕ) (p : PartWords) (condition : PlainSp) (arm : PlainStmts) (exits nothing : Bool)
    (rest : PlainStmts) (s : State) (l : values.State) (d : Done)
    → Order n p → Live p s → Agrees n s l → is_true (worth condition s) ≡ true → (exits ≡ false → d.way ≡ way.On)
    → ((t : State) → Live (in_arm p) t → Agrees n t l → Went n (in_arm p) t d (stmts_done g arm t))
    → ((t : State) → Dead (in_arm p) t → Still (p.free + 1) t (stmts_done g rest t))
    → Went n p s d (stmts_done g (made_arm p condition arm (made_otherwise p exits nothing rest)) s)
taken_went g n p condition arm exits nothing rest s l d o live h holds on acts idles =
    let t = with_slot p.free (worth (where_so p.own condition) s) s in
    let begun = set_after p.free p.free (worth (where_so p.own condition) s) s (omega arith) in
    let live_there : Live (in_arm p) t = record {
      own = put_here p.free (worth (where_so p.own condition) s) s.frame ∙ tested p condition true s live.own holds;
      loop = begun.frame p.iteration (omega (arith, o.own, o.free)) ∙ live.loop;
      function = begun.frame p.function (omega (arith, o.loop, o.own, o.free)) ∙ live.function;
      result = begun.frame p.result (omega (arith, o.function, o.loop, o.own, o.free)) ∙ live.result;
    } in
    let u = stmts_done g arm t in
    let inner = acts t live_there (still_agrees n p.free s t l (omega (
      arith,
      o.result,
      o.function,
      o.loop,
      o.own,
      o.free,
    )) begun h) in
    let went = arm_went n p s t d u o live begun.frame inner in
    subst (λ v. Went n p s d v) (sym (joined_done g arm (made_otherwise p exits nothing rest) t))
    (otherwise_idle g n p exits nothing rest s d u o on idles went (went_own n (in_arm p) t d u inner))

-- the arm is not taken
pub skipped_went : (g : Serves) (n : ℕ) (p : PartWords) (condition : PlainSp) (arm : PlainStmts) (exits nothing : Bool)
    (rest : PlainStmts) (s : State) (l : values.State) (d : Done)
    → Order n p → Live p s → Agrees n s l → is_true (worth condition s) ≡ false
    → ((t : State) → Dead (in_arm p) t → Still (p.free + 1) t (stmts_done g arm t))
    → ((t : State) → Live (in_arm p) t → Agrees n t l → Went n (in_arm p) t d (stmts_done g rest t))
    → (nothing ≡ true → d ≡ goes_on l)
    → Went n p s d (stmts_done g (made_arm p condition arm (made_otherwise p exits nothing rest)) s)
skipped_went g n p condition arm exits nothing rest s l d o live h holds idles acts no_more =
    subst (λ v. Went n p s d v) (sym (joined_done g arm (made_otherwise p exits nothing rest) t)) (by nothing no_more)
  where
    t : State
    t = with_slot p.free (worth (where_so p.own condition) s) s

    begun : Still p.free s t
    begun = set_after p.free p.free (worth (where_so p.own condition) s) s (omega arith)

    off_there : t.frame p.free ≡ 0
    off_there = put_here p.free (worth (where_so p.own condition) s) s.frame ∙ tested p condition false s live.own holds

    idle_there : Dead (in_arm p) t
    idle_there = record {
      own_word = 0;
      loop_word = 1;
      function_word = 1;
      idle = armed;
      own = off_there;
      loop = begun.frame p.iteration (omega (arith, o.own, o.free)) ∙ live.loop;
      function = begun.frame p.function (omega (arith, o.loop, o.own, o.free)) ∙ live.function;
      alone = λ two. absurd (omega (arith, two));
    }

    u : State
    u = stmts_done g arm t

    skipped : Still (p.free + 1) t u
    skipped = idles t idle_there

    so_far : Still p.free s u
    so_far = still_on p.free s t u begun (fewer (p.free + 1) p.free t u (omega arith) skipped)

    agrees : Agrees n u l
    agrees = still_agrees n p.free s u l (omega (arith, o.result, o.function, o.loop, o.own, o.free)) so_far h

    own_there : u.frame p.own ≡ 1
    own_there = so_far.frame p.own o.free ∙ live.own

    loop_there : u.frame p.iteration ≡ 1
    loop_there = so_far.frame p.iteration (omega (arith, o.own, o.free)) ∙ live.loop

    function_there : u.frame p.function ≡ 1
    function_there = so_far.frame p.function (omega (arith, o.loop, o.own, o.free)) ∙ live.function

    result_there : u.frame p.result ≡ 0
    result_there = so_far.frame p.result (omega (arith, o.function, o.loop, o.own, o.free)) ∙ live.result

    free_there : u.frame p.free ≡ 0
    free_there = skipped.frame p.free (omega arith) ∙ off_there

    value : (exits : Bool) → worth (if exits then where_not_taken p else where_other p) u ≡ 1
    value true = ap₂ (λ b a. bit_and (bit_and b 1) (bit_xor a (u.frame p.free))) loop_there own_there
        ∙ ap (λ f. bit_and 1 (bit_xor 1 f)) free_there
    value false = other_word p u 1 0 own_there free_there refl

    by : (nothing : Bool) → (nothing ≡ true → d ≡ goes_on l)
        → Went n p s d (stmts_done g (made_otherwise p exits nothing rest) u)
    by true no_more = subst (λ e. Went n p s e u) (sym (no_more refl)) (record {
      same = agrees;
      result = result_there;
      function = function_there;
      loop = loop_there;
      own = λ apart. inl own_there;
      others = λ x behind below r f q w. so_far.frame x below;
    })
    by false no_more =
        let other = worth (if exits then where_not_taken p else where_other p) u in
        let v = with_slot p.free other u in
        let again = set_after p.free p.free other u (omega arith) in
        let live_there : Live (in_arm p) v = record {
          own = put_here p.free other u.frame ∙ value exits;
          loop = again.frame p.iteration (omega (arith, o.own, o.free)) ∙ loop_there;
          function = again.frame p.function (omega (arith, o.loop, o.own, o.free)) ∙ function_there;
          result = again.frame p.result (omega (arith, o.function, o.loop, o.own, o.free)) ∙ result_there;
        } in
        arm_went n p s v d (stmts_done g rest v) o live (still_on p.free s u v so_far again).frame
        (acts v live_there (still_agrees n p.free u v l (omega (arith, o.result, o.function, o.loop, o.own, o.free))
        again agrees))
