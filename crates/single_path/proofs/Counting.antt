-- Loops that count: their condition holds in each iteration of their bound, and after the last it does not.
use Rattle.std.proofs.Common.{◌≡◌, ◌≢◌, ℕ, zero, suc, ◌+◌, ◌-◌, ◌*◌, ◌%◌, ◌^◌, ◌<◌, ◌≤◌, Bool, true, false, if◌then◌else◌, Option, Some, None, refl, ap, ap₂, sym, ◌∙◌, arith, subst, lt-ltb, true≢false, ◌⊎◌, inl, inr}
use Rattle.std.specs.Prelude.{nat_lt, nat_le, not, ◌&&◌, int_lt}
use Rattle.std.specs.Int.{w32}
use Rattle.std.proofs.lemmas.Bool.{and_parts, cases_eq, eqb-true, le-ltb, ltb-true, ltb-false, leb-true, not-true}
use Rattle.std.proofs.lemmas.Int.{to_z_pos}
use Rattle.std.proofs.Math.Bool.{or-false}
use Rattle.shared_order.specs.Words.{put}
use Rattle.tc_word.specs.Word.{is_less}
use Rattle.c_world.specs.Numbers.{flag, is_true, sum_of}
use Rattle.c_world.specs.World.{with_overrun}
use Rattle.sp_tree.specs.Operators.{binary_value}
use Rattle.sp_tree.specs.Plain.{PlainSp, constant, frame_word, between_two}
use Rattle.sp_tree.specs.declared.operators.SpBinary.{SpBinary}
use Rattle.sp_tree.specs.declared.operators.SpBinary.TheVariants as binary
use Rattle.sp_tree.specs.Statements.{PlainStmts, joined}
use Rattle.sp_tree.specs.Straight.{State, Serves, with_slot, worth, times, stmts_done}
use Rattle.c_meaning.specs.Actions.{PlainTarget, to_level, PlainAssignment, PlainAction, sets, PlainActions}
use Rattle.c_meaning.specs.Actions as actions
use Rattle.c_meaning.specs.declared.ways.Way.{Way}
use Rattle.c_meaning.specs.declared.ways.Way.TheVariants as way
use Rattle.c_meaning.specs.Meaning.{Done, goes_on, iteration_done, iterations_done, way_value}
use Rattle.c_meaning.specs.Meaning as meaning
use Rattle.c_meaning.specs.Resolved as resolved
use Rattle.c_meaning.specs.Values as values
use Rattle.single_path.specs.declared.counted.Start.{Start}
use Rattle.single_path.specs.declared.part_words.PartWords.{PartWords}
use Rattle.single_path.specs.Counted.{is_variable, constant_of, start_at, start_of, is_level, actions_set, limit_by, limit_of, added, more_in, more_by, counts}
use Rattle.single_path.specs.PartWords.{in_counted, bit_of}
use Rattle.single_path.specs.Made.{made_step, any_exit, by_leaving, by_continue, actions_exit, is_counted, counted_part, made_begun, made_counted, made}
use Rattle.single_path.specs.Widths.{step_words}
use Rattle.single_path.proofs.Frames.{put_here, put_there, Order, set_after}
use Rattle.single_path.proofs.Exiting.{Avoids, on_only, actions_avoid, actions_stay}
use Rattle.single_path.proofs.Keeping.{actions_keep}
use Rattle.single_path.proofs.Idle.{three_done}
use Rattle.single_path.proofs.Agreeing.{Agrees, still_agrees, step_set}
use Rattle.single_path.proofs.Ways.{Acted, Live, Went, function_of, begun_live, low_went, went_here, went_live, went_on}
use Rattle.single_path.proofs.Leaving.{stays_acted}

-- ---- what is known before an action

-- the variable is what it was set to
abbrev pub Begins : Option Start → values.State → Type 0
Begins None l = Unit {0}
Begins (Some s) l = l.locals s.level ≡ s.value

started : (target : PlainTarget) (e : PlainSp) (l : values.State)
    → Begins (start_at target e) (resolved.with_target target (resolved.worth e l) l)
started (to_level at) (constant n) l = put_here at n l.locals
started (actions.to_cell cell) e l = tt
started (actions.to_array array index) e l = tt
started (to_level at) _ l = tt

pub begins_after : (gc : resolved.Serves) (a : PlainAction) (l : values.State)
    → Begins (start_of a) (resolved.action_done gc a l).state
begins_after gc (sets a) l = started a.target a.value l
begins_after gc _ l = tt

-- ---- the condition and the step

-- small numbers are ordered with a sign as without
less_small : (a b : ℕ) → a < 2 ^ 31 → b < 2 ^ 31 → is_less a b ≡ nat_lt a b
less_small a b first second = ap₂ int_lt (to_z_pos w32 a first) (to_z_pos w32 b second)

truth_of : (b : Bool) → is_true (flag b) ≡ b
truth_of true = refl
truth_of false = refl

not_below : (n v : ℕ) → not (nat_lt n v) ≡ nat_lt v (n + 1)
not_below n v = by (nat_lt n v) refl
  where
    by : (b : Bool) → nat_lt n v ≡ b → not b ≡ nat_lt v (n + 1)
    by true is = sym (le-ltb v (n + 1) (let past = ltb-true n v is in omega (arith, past)))
    by false is = sym (lt-ltb v (n + 1) (let within = ltb-false n v is in omega (arith, within)))

-- a number that is 0 in all other cases
picked : (b : Bool) (n : ℕ) → 1 ≤ (if b then n else 0) → (b ≡ true) × (1 ≤ n)
picked true n some = (refl, some)
picked false n some = absurd (omega (arith, some))

variable_worth : (level : ℕ) (e : PlainSp) (l : values.State) → is_variable level e ≡ true → resolved.worth e l
    ≡ l.locals level
variable_worth level (frame_word at) l is = ap l.locals (eqb-true at level is)
variable_worth level _ l is = absurd (true≢false (sym is))

limited : (op : SpBinary) (n v : ℕ) → v < 2 ^ 31 → 1 ≤ limit_by (Some n) op → limit_by (Some n) op < 2 ^ 31
    → is_true (binary_value op v n) ≡ nat_lt v (limit_by (Some n) op)
limited binary.Less n v small some within = truth_of (is_less v n) ∙ less_small v n small within
limited binary.LessUnsigned n v small some within = truth_of (nat_lt v n)
limited binary.LessEqual n v small some within =
    truth_of (not (is_less n v)) ∙ ap not (less_small n v (omega (arith, within)) small) ∙ not_below n v
limited binary.LessEqualUnsigned n v small some within = truth_of (not (nat_lt n v)) ∙ not_below n v
limited op n v small some within = absurd (omega (arith, some))

limited_by : (op : SpBinary) (e : PlainSp) (v : ℕ) (l : values.State) → v < 2 ^ 31 → 1 ≤ limit_by (constant_of e) op
    → limit_by (constant_of e) op < 2 ^ 31 → is_true (binary_value op v (resolved.worth e l))
    ≡ nat_lt v (limit_by (constant_of e) op)
limited_by op (constant n) v l small some within = limited op n v small some within
limited_by op e v l small some within = absurd (omega (arith, some))

holds_below : (level : ℕ) (condition : PlainSp) (v : ℕ) (l : values.State) → l.locals level ≡ v → v < 2 ^ 31
    → 1 ≤ limit_of level condition
    → limit_of level condition < 2 ^ 31 → resolved.holds condition l ≡ nat_lt v (limit_of level condition)
holds_below level (between_two op a b) v l is small some within =
    let limit = limit_by (constant_of b) op in
    let both = picked (is_variable level a) limit some in
    let same = ap (λ t. if t then limit else 0) both.0 in
    ap (λ x. is_true (binary_value op x (resolved.worth b l))) (variable_worth level a l both.0 ∙ is)
    ∙ limited_by op b v l small both.1 (omega (arith, within, same)) ∙ ap (nat_lt v) (sym same)
holds_below level condition v l is small some within = absurd (omega (arith, some))

constant_worth : (e : PlainSp) (l : values.State) → 1 ≤ added (constant_of e) → resolved.worth e l
    ≡ added (constant_of e)
constant_worth (constant n) l some = refl
constant_worth e l some = absurd (omega (arith, some))

more_worth : (level : ℕ) (e : PlainSp) (v : ℕ) (l : values.State) → l.locals level ≡ v → 1 ≤ more_in level e
    → v + more_in level e < 2 ^ 32
    → resolved.worth e l ≡ v + more_in level e
more_worth level (between_two binary.Plus a b) v l is some small =
    let more = added (constant_of b) in
    let both = picked (is_variable level a) more some in
    let same = ap (λ t. if t then more else 0) both.0 in
    ap₂ sum_of (variable_worth level a l both.0 ∙ is) (constant_worth b l both.1)
    ∙ (let whole : (v + more) % 2 ^ 32 ≡ v + more = omega (arith, small, same) in whole) ∙ ap (λ m. v + m) (sym same)
more_worth level e v l is some small = absurd (omega (arith, some))

level_set : (level : ℕ) (target : PlainTarget) (v : ℕ) (l : values.State) → is_level level target ≡ true
    → (resolved.with_target target v l).locals level ≡ v
level_set level (to_level at) v l is = ap (put at v l.locals) (sym (eqb-true at level is)) ∙ put_here at v l.locals
level_set level (actions.to_cell cell) v l is = absurd (true≢false (sym is))
level_set level (actions.to_array array index) v l is = absurd (true≢false (sym is))

steps_by : (level : ℕ) (step : Option PlainAssignment) (v : ℕ) (l : values.State) → l.locals level ≡ v
    → 1 ≤ more_by level step
    → v + more_by level step < 2 ^ 32 → (resolved.step_done step l).locals level ≡ v + more_by level step
steps_by level None v l is some small = absurd (omega (arith, some))
steps_by level (Some a) v l is some small =
    let more = more_in level a.value in
    let both = picked (is_level level a.target) more some in
    let same = ap (λ t. if t then more else 0) both.0 in
    level_set level a.target (resolved.worth a.value l) l both.0 ∙ more_worth level a.value v l is both.1 (omega
    (arith, small, same)) ∙ ap (λ m. v + m) (sym same)

-- ---- iterations

-- what is so of the variable while so many iterations are left
abbrev Remains : ℕ → ℕ → ℕ → ℕ → Type 0
Remains more limit zero v = (limit ≤ v) × (v < 2 ^ 31)
Remains more limit (suc k) v = (v + k * more < limit) × (limit ≤ v + suc k * more) × (v + suc k * more < 2 ^ 31)

remains_next : (more limit k v : ℕ) → Remains more limit (suc k) v → Remains more limit k (v + more)
remains_next more limit zero v h = (omega (arith, h.1), omega (arith, h.2))
remains_next more limit (suc k) v h = (omega (arith, h.0), omega (arith, h.1), omega (arith, h.2))

-- the loop of a variable, with what it needs of its body and of what begins its iterations: told of the part around it
-- the body always goes on
record Loop (g : Serves) (n : ℕ) (p : PartWords) (level : ℕ) (condition : PlainSp) (step : Option PlainAssignment)
    (begun body : PlainStmts)
    (meant : values.State → Done) : Type 0 where
  order : Order n p
  within : step_words step ≤ n
  some : 1 ≤ limit_of level condition
  small : limit_of level condition < 2 ^ 31
  goes : 1 ≤ more_by level step
  on : (m : values.State) → Avoids by_leaving (meant m).way
  keeps : (m : values.State) → (meant m).state.locals level ≡ m.locals level
  acts : (t : State) (m : values.State) → Live p t → Agrees n t m
      → Went n p t (goes_on (meant m).state) (stmts_done g body (stmts_done g begun t))

-- they go on, as the actions do
abbrev Runs : ℕ → PartWords → State → Done → State → Type 0
Runs n p s d t = (d.way ≡ way.On) × Went n p s d t

no_more_iterations : (n : ℕ) (p : PartWords) (condition : PlainSp) (s : State) (l : values.State)
    → resolved.holds condition l ≡ false → Live p s → Agrees n s l
    → Runs n p s (goes_on (meaning.in_world l (with_overrun (resolved.holds condition l) l.world))) s
no_more_iterations n p condition s l over live h =
    let same : meaning.in_world l (with_overrun (resolved.holds condition l) l.world) ≡ l =
    ap (λ b. meaning.in_world l (with_overrun b l.world)) over
    ∙ ap (λ b. meaning.in_world l (record l.world { overrun = b })) (or-false l.world.overrun) in
    (refl, subst (λ m. Went n p s (goes_on m) s) (sym same) (went_here n p s l live h))

iterated : (g : Serves) (n : ℕ) (p : PartWords) (level : ℕ) (condition : PlainSp) (step : Option PlainAssignment)
    (begun body : PlainStmts)
    (meant : values.State → Done) → Loop g n p level condition step begun body meant → (k v : ℕ) (s : State)
    (l : values.State) → l.locals level ≡ v
    → Remains (more_by level step) (limit_of level condition) k v → Live p s → Agrees n s l
    → Runs n p s (iterations_done (resolved.holds condition) meant (resolved.step_done step) k l)
    (times k (stmts_done g (joined begun (joined body (made_step p.own step)))) s)
iterated g n p level condition step begun body meant b zero v s l is left live h =
    no_more_iterations n p condition s l (holds_below level condition v l is left.1 b.some b.small
    ∙ le-ltb v (limit_of level condition) left.0) live h
iterated g n p level condition step begun body meant b (suc k) v s l is left live h =
    tests (λ u x m. iterated g n p level condition step begun body meant b k u x m) (resolved.holds condition l) refl
  where
    more : values.State → Done
    more = iterations_done (resolved.holds condition) meant (resolved.step_done step) k

    iterations_of : State → State
    iterations_of = times k (stmts_done g (joined begun (joined body (made_step p.own step))))

    u : State
    u = stmts_done g body (stmts_done g begun s)

    goes : resolved.holds condition l ≡ true
    goes = holds_below level condition v l is (let last = left.2 in omega (arith, last)) b.some b.small
        ∙ lt-ltb v (limit_of level condition) (let last = left.0 in omega (arith, last))

    Rest : Type 0
    Rest = (w : ℕ) (x : State) (m : values.State) → m.locals level ≡ w
        → Remains (more_by level step) (limit_of level condition) k w → Live p x → Agrees n x m
        → Runs n p x (more m) (iterations_of x)

    goes_further : Rest → (m : values.State) → m.locals level ≡ v → Went n p s (goes_on m) u
        → Runs n p s (more (resolved.step_done step m)) (iterations_of (stmts_done g (made_step p.own step) u))
    goes_further rest m kept went =
        let there = went_live n p s m u went in
        let stepped = step_set g n p.own step u m there.own went.same b.within in
        let x = stmts_done g (made_step p.own step) u in
        let next = resolved.step_done step m in
        let here = low_went n p u x next b.order there stepped.agrees (λ y behind below. stepped.others y behind) in
        let value = steps_by level step v m kept b.goes (let last = left.2 in omega (arith, last)) in
        let iterated_on = rest (v + more_by level step) x next value (remains_next (more_by level step)
        (limit_of level condition) k v left)
        (went_live n p u next x here) stepped.agrees in (
          iterated_on.0,
          went_on n p s m u (more next) (iterations_of x) went (went_on n p u next x (more next)
              (iterations_of x) here iterated_on.1),
        )

    by_way : Rest → (w : Way) (m : values.State) → Avoids by_leaving w → m.locals level ≡ v → Went n p s (goes_on m) u
        → Runs n p s (iteration_done more (resolved.step_done step) (record { way = w; state = m })) (iterations_of
        (stmts_done g (made_step p.own step) u))
    by_way rest way.On m on kept went = goes_further rest m kept went
    by_way rest way.Continued m on kept went = goes_further rest m kept went
    by_way rest way.Broken m on kept went = absurd (true≢false on)
    by_way rest (way.Returned w) m on kept went = absurd (true≢false on)

    tests : Rest → (holds : Bool) → resolved.holds condition l ≡ holds
        → Runs n p s (elim holds as (λ _. Done) [
          | true ↦ iteration_done more (resolved.step_done step)
              (meant l)
          | false ↦ goes_on l
        ])
        (iterations_of (stmts_done g (joined begun (joined body (made_step p.own step))) s))
    tests rest true is_on =
        subst (λ t. Runs n p s (iteration_done more (resolved.step_done step) (meant l)) (iterations_of t))
        (sym (three_done g begun body (made_step p.own step) s))
        (by_way rest (meant l).way (meant l).state (b.on l) (b.keeps l ∙ is) (b.acts s l live h))
    tests rest false is_off = absurd (true≢false (sym goes ∙ is_off))

-- ---- an iteration, told of the part around it

settles : (w : Way) → Avoids by_leaving w → (way_value w ≡ 0) × (function_of w ≡ 1)
settles way.On stays = (refl, refl)
settles way.Continued stays = (refl, refl)
settles way.Broken stays = absurd (true≢false stays)
settles (way.Returned v) stays = absurd (true≢false stays)

-- one with a mask of its own goes on there, whether it came to its end or to a `continue`
resumed_went : (n : ℕ) (p : PartWords) (s : State) (d : Done) (u : State) → Order n p → Live p s
    → Avoids by_leaving d.way
    → Went n (in_counted p) (with_slot p.free (worth (bit_of p.own) s) s) d u → Went n p s (goes_on d.state) u
resumed_went n p s d u o live stays h = record {
  same = h.same;
  result = h.result ∙ (settles d.way stays).0;
  function = function_there;
  loop = loop_there (cases_eq p.iteration p.function);
  own = λ apart. inl (stands p.own (omega (arith, o.result, o.function, o.loop, o.own)) o.free
      (omega (arith, o.function, o.loop, o.own))
      (λ e. apart (omega (arith, o.loop, o.own, e))) ∙ live.own);
  others = λ x behind below r f q w. stands x behind below r f;
}
  where
    stands : (x : ℕ) → n ≤ x → x < p.free → x ≢ p.result → x ≢ p.function → u.frame x ≡ s.frame x
    stands x behind below r f =
        h.others x behind (omega (arith, below)) r f (omega (arith, below)) (omega (arith, below))
        ∙ put_there p.free (worth (bit_of p.own) s) x s.frame (omega (arith, below))

    function_there : u.frame p.function ≡ 1
    function_there = h.function ∙ (settles d.way stays).1

    loop_there : (p.iteration ≡ p.function) ⊎ (p.iteration ≢ p.function) → u.frame p.iteration ≡ 1
    loop_there (inl same) = ap u.frame same ∙ function_there
    loop_there (inr apart) =
        stands p.iteration (omega (arith, o.result, o.function, o.loop)) (omega (arith, o.own, o.free)) (omega
        (arith, o.function, o.loop)) apart ∙ live.loop

-- what an iteration does before its step, with a mask of its own and without
front_acted : (g : Serves) (n : ℕ) (p : PartWords) (resumes : Bool) (body : PlainStmts) (meant : values.State → Done)
    → Order n p
    → ((m : values.State) → Avoids by_leaving (meant m).way) → (resumes ≡ false → (m : values.State)
    → (meant m).way ≡ way.On)
    → ((t : State) (m : values.State) → Live (counted_part p resumes) t → Agrees n t m
    → Went n (counted_part p resumes) t (meant m) (stmts_done g body t))
    → (t : State) (m : values.State) → Live p t → Agrees n t m
    → Went n p t (goes_on (meant m).state) (stmts_done g body (stmts_done g (made_begun p resumes) t))
front_acted g n p true body meant o stays on acts t m live h =
    let begun = with_slot p.free (worth (bit_of p.own) t) t in
    resumed_went n p t (meant m) (stmts_done g body begun) o live (stays m) (acts begun m (begun_live n p true t o live)
    (still_agrees n p.free t begun m (omega (arith, o.result, o.function, o.loop, o.own, o.free))
    (set_after p.free p.free (worth (bit_of p.own) t) t (omega arith)) h))
front_acted g n p false body meant o stays on acts t m live h =
    subst (λ w. Went n p t (record { way = w; state = (meant m).state }) (stmts_done g body t)) (on refl m)
    (acts t m live h)

-- ---- a loop that counts

counts_remains : (more limit most v : ℕ) → counts v more limit most ≡ true → Remains more limit most v × (1 ≤ limit)
    × (limit < 2 ^ 31) × (1 ≤ more)
counts_remains more limit zero v is = absurd (true≢false (sym is))
counts_remains more limit (suc k) v is =
    let first = and_parts _ _ is in
    let second = and_parts _ _ first.1 in
    let below = ltb-true (v + k * more) limit first.0 in
    let reached = leb-true limit (v + suc k * more) second.0 in
    let small = ltb-true (v + suc k * more) (2 ^ 31) second.1 in
    ((below, reached, small), omega (arith, below), omega (arith, reached, small), omega (arith, below, reached))

pub counted_acted : (gc : resolved.Serves) (g : Serves) (n : ℕ) (p : PartWords) (known : Option Start) (most : ℕ)
    (condition : PlainSp) (body : PlainActions)
    (step : Option PlainAssignment) (s : State) (l : values.State) → is_counted known most condition body step ≡ true
    → Begins known l → Order n p
    → step_words step ≤ n
    → (actions_exit any_exit body ≡ false → (t : State) (m : values.State) → Live p t → Agrees n t m
    → Went n p t (resolved.actions_done gc body m) (stmts_done g (made None p body) t))
    → ((t : State) (m : values.State) → Live (in_counted p) t → Agrees n t m
    → Went n (in_counted p) t (resolved.actions_done gc body m) (stmts_done g (made None (in_counted p) body) t))
    → Live p s → Agrees n s l
    → Acted (actions.iterations most condition body step) n p s (resolved.action_done gc
    (actions.iterations most condition body step) l)
    (stmts_done g (made_counted p most (actions_exit by_continue body)
    (made None (counted_part p (actions_exit by_continue body)) body) step) s)
counted_acted gc g n p None most condition body step s l is begins o within inner resumed live h =
    absurd (true≢false (sym is))
counted_acted gc g n p (Some start) most condition body step s l is begins o within inner resumed live h =
    let resumes = actions_exit by_continue body in
    let inside = made None (counted_part p resumes) body in
    let level = start.level in
    let first = and_parts _ _ is in
    let second = and_parts _ _ first.1 in
    let unset = not-true (actions_set level body) second.0 in
    let stays = not-true (actions_exit by_leaving body) second.1 in
    let avoids : (m : values.State) → Avoids by_leaving (resolved.actions_done gc body m).way =
    λ m. actions_avoid gc by_leaving body m stays in
    let counted = counts_remains (more_by level step) (limit_of level condition) most start.value first.0 in
    let runs = iterated g n p level condition step (made_begun p resumes) inside (resolved.actions_done gc body)
    (record {
      order = o;
      within = within;
      some = counted.1;
      small = counted.2;
      goes = counted.3;
      on = avoids;
      keeps = actions_keep gc level body unset;
      acts = front_acted g n p resumes inside (resolved.actions_done gc body) o avoids
          (λ none m. on_only (resolved.actions_done gc body m).way (actions_avoid gc any_exit body m
          (actions_stay body stays none)))
          (part (actions_exit by_continue body) refl stays);
    }) most start.value s l begins counted.0 live h in
    stays_acted (actions.iterations most condition body step) n p s
    (resolved.action_done gc (actions.iterations most condition body step) l)
    (stmts_done g (made_counted p most resumes inside step) s) refl runs.0 runs.1
  where
    part : (resumes : Bool) → actions_exit by_continue body ≡ resumes → actions_exit by_leaving body ≡ false
        → (t : State) (m : values.State) → Live (counted_part p resumes) t → Agrees n t m
        → Went n (counted_part p resumes) t (resolved.actions_done gc body m) (stmts_done g
        (made None (counted_part p resumes) body) t)
    part true is_so stays = resumed
    part false is_so stays = inner (actions_stay body stays is_so)

-- the same of a number of iterations that is not 0
pub counts_by : (first more limit most : ℕ) → most ≢ 0
    → counts first more limit most
    ≡ (nat_lt (first + (most - 1) * more) limit
    && (nat_le limit (first + (most - 1) * more + more) && nat_lt (first + (most - 1) * more + more) (2 ^ 31)))
counts_by first more limit zero other = absurd (other refl)
counts_by first more limit (suc k) other =
    ap (λ x. nat_lt (first + k * more) limit && (nat_le limit x && nat_lt x (2 ^ 31)))
    (let same : first + suc k * more ≡ first + k * more + more = omega arith in same)
    ∙ ap (λ j. nat_lt (first + j * more) limit && (nat_le limit (first + j * more + more)
    && nat_lt (first + j * more + more) (2 ^ 31)))
    (let less : k ≡ suc k - 1 = omega arith in less)
