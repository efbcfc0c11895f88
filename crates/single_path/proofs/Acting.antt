-- Parts that act: under masks that are 1 they do what their actions do, and leave the masks as the way on says.
use Rattle.std.proofs.Common.{◌≡◌, ◌≢◌, ℕ, ◌≤◌, Bool, true, false, if◌then◌else◌, Some, None, refl, ap, sym, arith, subst, Option}
use Rattle.std.specs.Prelude.{◌&&◌, ◌||◌}
use Rattle.c_world.specs.Numbers.{is_true}
use Rattle.sp_tree.specs.Statements.{masks, PlainStmts, no_stmt, one}
use Rattle.sp_tree.specs.Statements as tree
use Rattle.sp_tree.specs.Straight.{State, Serves, worth, stmt_done, stmts_done}
use Rattle.sp_tree.proofs.Joins.{joined_done}
use Rattle.c_meaning.specs.Actions.{to_level, PlainAction, sets, calls, transfers, chooses, iterations, breaks, continues, returns, PlainActions, no_action, action, PlainBranches, no_branch, branch}
use Rattle.c_meaning.specs.Actions as actions
use Rattle.c_meaning.specs.declared.ways.Way.{Way}
use Rattle.c_meaning.specs.declared.ways.Way.TheVariants as way
use Rattle.c_meaning.specs.Meaning.{Done, goes_on, then_done}
use Rattle.c_meaning.specs.Resolved as resolved
use Rattle.c_meaning.specs.Values as values
use Rattle.single_path.specs.declared.counted.Start.{Start}
use Rattle.single_path.specs.declared.part_words.PartWords.{PartWords}
use Rattle.single_path.specs.PartWords.{in_arm, in_loop, in_counted}
use Rattle.single_path.specs.Counted.{start_of}
use Rattle.single_path.specs.Made.{is_counted, counted_part, made_counted, made_loop, made_iteration, made, made_action, made_branches, made_assignment, made_arm, made_otherwise, made_after, any_exit, by_continue, by_return, actions_exit, branches_exit, is_no_branch, is_no_action, ends}
use Rattle.single_path.specs.Widths.{action_words, words, branches_words}
use Rattle.single_path.proofs.Sound.{sound, SoundAction, AllSound, SoundBranches}
use Rattle.single_path.proofs.Keeping.{actions_stay}
use Rattle.single_path.proofs.Exiting.{on_only, no_continue, action_avoids, actions_avoid}
use Rattle.single_path.proofs.Frames.{Order, Still}
use Rattle.single_path.proofs.Idle.{Quiet, Dead, order_arm, order_loop, order_counted, dead, dead_branches}
use Rattle.single_path.proofs.Agreeing.{Agrees, assignment_set, worth_same}
use Rattle.single_path.proofs.Ways.{Acted, Live, Went, went_here, low_acted, set_acted, went_live, went_on, went_still}
use Rattle.single_path.proofs.Calling.{Serving, given_set, level_set, nothing_set, sent}
use Rattle.single_path.proofs.Leaving.{Nest, broken_acted, continued_acted, after_acted, returned_acted}
use Rattle.single_path.proofs.Arming.{skipped_went, taken_went}
use Rattle.single_path.proofs.Looping.{loop_acted}
use Rattle.single_path.proofs.Counting.{Begins, begins_after, counted_acted}

nest_loop : (n : ℕ) (p : PartWords) → Order n p → Nest true (in_loop p)
nest_loop n p o is = omega (arith, o.loop, o.own, o.free)

-- what stands after the last `else`
record Otherwise (g : Serves) (n : ℕ) (inside : Bool) (nothing : Bool) (otherwise : PartWords → PlainStmts)
    (meant : values.State → Done) : Type 0 where
  acts : (q : PartWords) (t : State) (m : values.State) → Order n q → Nest inside q → Live q t → Agrees n t m
      → Went n q t (meant m) (stmts_done g (otherwise q) t)
  idles : (q : PartWords) (t : State) → Order n q → Dead q t → Still q.free t (stmts_done g (otherwise q) t)
  empty : (m : values.State) → nothing ≡ true → meant m ≡ goes_on m

no_otherwise : (gc : resolved.Serves) (rest : PlainBranches) (nothing : Bool) (meant : values.State → Done)
    (m : values.State)
    → ((l : values.State) → nothing ≡ true → meant l ≡ goes_on l) → (is_no_branch rest && nothing) ≡ true
    → resolved.branches_done gc rest meant m ≡ goes_on m
no_otherwise gc no_branch nothing meant m empty is = empty m is
no_otherwise gc (branch condition body rest) nothing meant m empty is = absurd (cc)

nothing_done : (gc : resolved.Serves) (all : PlainActions) (m : values.State) → is_no_action all ≡ true
    → resolved.actions_done gc all m ≡ goes_on m
nothing_done gc no_action m is = refl
nothing_done gc (action a rest) m is = absurd (cc)

-- after one action the rest, where it goes on
next_went : (g : Serves) → Quiet g → (gc : resolved.Serves) (n : ℕ) (p : PartWords) (a : PlainAction)
    (rest : PlainActions) (s t : State) (m : values.State) → Order n p
    → (Live p t → Agrees n t m → Went n p t (resolved.actions_done gc rest m) (stmts_done g
    (made (start_of a) p rest) t))
    → (w : Way) → Acted a n p s (record { way = w; state = m }) t
    → Went n p s (then_done (resolved.actions_done gc rest) (record { way = w; state = m })) (stmts_done g
    (if ends a then no_stmt else made (start_of a) p rest) t)
next_went g quiet gc n p a rest s t m o further w acted = by (ends a) refl w acted
  where
    next : PlainStmts
    next = made (start_of a) p rest

    stays : (w : Way) → w ≢ way.On → Acted a n p s (record { way = w; state = m }) t → ends a ≡ false
        → Went n p s (record { way = w; state = m }) (stmts_done g next t)
    stays w other acted is =
        went_still n p s (record { way = w; state = m }) t (stmts_done g next t) o acted.went
        (dead g quiet n rest (start_of a) p t o (acted.idle is other))

    by : (ended : Bool) → ends a ≡ ended → (w : Way) → Acted a n p s (record { way = w; state = m }) t
        → Went n p s (then_done (resolved.actions_done gc rest) (record { way = w; state = m })) (stmts_done g
        (if ended then no_stmt else next) t)
    by true is way.On acted = absurd (acted.ended is refl)
    by false is way.On acted = went_on n p s m t (resolved.actions_done gc rest m) (stmts_done g next t) acted.went
        (further (went_live n p s m t acted.went) acted.went.same)
    by true is _ acted = acted.went
    by false is other acted = stays other (λ e. absurd (cc)) acted is

mutual
  live_action : (Fit : ℕ → ℕ → Type 0) (gc : resolved.Serves) (g : Serves) → Serving Fit gc g
      → (n : ℕ) (a : PlainAction) (inside : Bool) (known : Option Start)
      (p : PartWords) (s : State) (l : values.State) → Order n p → Nest inside p → action_words a ≤ n
      → SoundAction Fit inside a → Begins known l → Live p s → Agrees n s l
      → Acted a n p s (resolved.action_done gc a l) (stmts_done g (made_action known p a) s)
  live_action Fit gc g serving n (sets a) inside known p s l o nest within so begins live h =
      set_acted (sets a) n p s (stmt_done g (made_assignment p.own a) s) (resolved.assignment_done a l) refl o live
      (assignment_set g n p.own a s l live.own h within)
  live_action Fit gc g serving n (calls k args None) inside known p s l o nest within so begins live h =
      set_acted (calls k args None) n p s (stmt_done g (tree.calls p.own k args None) s)
      (resolved.outcome_done None l (gc k (resolved.args_worth args l) l.world)) refl o live
      (nothing_set Fit gc g serving n p.own k args s l live.own h (omega (arith, within)) so.0)
  live_action Fit gc g serving n (calls k args (Some (to_level at))) inside known p s l o nest within so
      begins live h =
      set_acted (calls k args (Some (to_level at))) n p s (stmt_done g (tree.calls p.own k args (Some at)) s)
      (resolved.outcome_done (Some (to_level at)) l (gc k (resolved.args_worth args l) l.world)) refl o live
      (level_set Fit gc g serving n p.own k args at s l live.own h (omega (arith, within)) (omega (arith, within))
      so.0)
  live_action Fit gc g serving n (calls k args (Some (actions.to_cell cell))) inside known p s l o nest within so
      begins live h =
      let given = given_set Fit gc g serving n p k args (actions.to_cell cell) s l o live.own h (omega (arith, within))
      (omega arith) so.0 in
      low_acted (calls k args (Some (actions.to_cell cell))) n p s
      (stmts_done g (made_action known p (calls k args (Some (actions.to_cell cell)))) s)
      (resolved.outcome_done (Some (actions.to_cell cell)) l (gc k (resolved.args_worth args l) l.world)) refl o live
      given.0 given.1
  live_action Fit gc g serving n (calls k args (Some (actions.to_array array index))) inside known p s l o nest within
      so begins live h =
      let given = given_set Fit gc g serving n p k args (actions.to_array array index) s l o live.own h
      (omega (arith, within)) (omega (arith, within)) so.0 in
      low_acted (calls k args (Some (actions.to_array array index))) n p s
      (stmts_done g (made_action known p (calls k args (Some (actions.to_array array index)))) s)
      (resolved.outcome_done (Some (actions.to_array array index)) l (gc k (resolved.args_worth args l) l.world)) refl o
      live given.0 given.1
  live_action Fit gc g serving n (transfers core source target count) inside known p s l o nest within so
      begins live h =
      set_acted (transfers core source target count) n p s
      (stmt_done g (tree.transfers p.own core source target count) s)
      (resolved.transfer_done core source target count l) refl o live (sent g n p.own core source target count s l
      live.own h within)
  live_action Fit gc g serving n (chooses branches otherwise) inside known p s l o nest within so begins live h =
      let arms = made_branches p branches (is_no_action otherwise) (λ q. made None q otherwise) in
      let d = resolved.branches_done gc branches (resolved.actions_done gc otherwise) l in
      let went = live_branches Fit gc g serving n branches inside (is_no_action otherwise) (λ q. made None q otherwise)
      (resolved.actions_done gc otherwise) (record {
        acts = λ q t m o' nest' live' h'. live_all Fit gc g serving n otherwise inside None q t m o' nest'
            (omega (arith, within)) so.1 tt live' h';
        idles = λ q t. dead g serving.quiet n otherwise None q t;
        empty = λ m. nothing_done gc otherwise m;
      }) p s l o nest (omega (arith, within)) so.0 live h in
      let exits = branches_exit any_exit branches || actions_exit any_exit otherwise in
      subst (λ u. Acted (chooses branches otherwise) n p s d u) (sym (joined_done g arms (made_after p exits) s))
      (after_acted (chooses branches otherwise) g n p s d (stmts_done g arms s) exits refl o
      (λ none. on_only d.way (action_avoids gc any_exit (chooses branches otherwise) l none)) went)
  live_action Fit gc g serving n (iterations most condition body step) inside known p s l o nest within so
      begins live h =
      by (is_counted known most condition body step) refl
      (λ none t m live' h'. live_all Fit gc g serving n body inside None p t m o nest (omega (arith, within))
      (actions_stay (sound Fit) inside body none so.1) tt live' h')
      (λ t m live' h'. live_all Fit gc g serving n body true None (in_counted p) t m (order_counted n p o)
      (nest_loop n p o) (omega (arith, within)) so.1 tt live' h')
      (λ t m live' h'. live_all Fit gc g serving n body true None (in_loop p) t m (order_loop n p o) (nest_loop n p o)
      (omega (arith, within)) so.1 tt live' h')
    where
      iteration : PlainStmts
      iteration = made_iteration p condition (actions_exit by_continue body) (made None (in_loop p) body) step

      inside_counted : PlainStmts
      inside_counted = made None (counted_part p (actions_exit by_continue body)) body

      by : (counted : Bool) → is_counted known most condition body step ≡ counted
          → (actions_exit any_exit body ≡ false → (t : State) (m : values.State) → Live p t → Agrees n t m
          → Went n p t (resolved.actions_done gc body m) (stmts_done g (made None p body) t))
          → ((t : State) (m : values.State) → Live (in_counted p) t → Agrees n t m
          → Went n (in_counted p) t (resolved.actions_done gc body m) (stmts_done g (made None (in_counted p) body) t))
          → ((t : State) (m : values.State) → Live (in_loop p) t → Agrees n t m
          → Went n (in_loop p) t (resolved.actions_done gc body m) (stmts_done g (made None (in_loop p) body) t))
          → Acted (iterations most condition body step) n p s (resolved.action_done gc
          (iterations most condition body step) l)
          (stmts_done g (if counted then made_counted p most (actions_exit by_continue body) inside_counted step
          else made_loop p most condition (actions_exit by_return body) iteration) s)
      by true is inner resumed behind = counted_acted gc g n p known most condition body step s l is begins o
          (omega (arith, within)) inner resumed live h
      by false is inner resumed behind =
          loop_acted (iterations most condition body step) g n p most condition (actions_exit by_return body)
          (actions_exit by_continue body) (made None (in_loop p) body) step
          (resolved.actions_done gc body) s l refl
          (λ none. on_only (resolved.action_done gc (iterations most condition body step) l).way
          (action_avoids gc any_exit (iterations most condition body step) l none))
          (λ none m. no_continue (resolved.actions_done gc body m).way (actions_avoid gc by_continue body m none)) o
          (omega (arith, within)) (omega (arith, within)) (record {
            acts = behind;
            idles = λ t. dead g serving.quiet n body None (in_loop p) t (order_loop n p o);
          }) live h
  live_action Fit gc g serving n breaks inside known p s l o nest within so begins live h =
      broken_acted gc g n p s l o (nest so) live h
  live_action Fit gc g serving n continues inside known p s l o nest within so begins live h =
      continued_acted gc g n p s l o (nest so) live h
  live_action Fit gc g serving n (returns e) inside known p s l o nest within so begins live h =
      returned_acted gc g n p e s l o live h within

  pub live_all : (Fit : ℕ → ℕ → Type 0) (gc : resolved.Serves) (g : Serves) → Serving Fit gc g
      → (n : ℕ) (all : PlainActions) (inside : Bool) (known : Option Start)
      (p : PartWords) (s : State) (l : values.State) → Order n p → Nest inside p → words all ≤ n
      → AllSound Fit inside all
      → Begins known l → Live p s → Agrees n s l
      → Went n p s (resolved.actions_done gc all l) (stmts_done g (made known p all) s)
  live_all Fit gc g serving n no_action inside known p s l o nest within so begins live h = went_here n p s l live h
  live_all Fit gc g serving n (action a rest) inside known p s l o nest within so begins live h =
      let d = resolved.action_done gc a l in
      let t = stmts_done g (made_action known p a) s in
      let acted = live_action Fit gc g serving n a inside known p s l o nest (omega (arith, within)) so.0
      begins live h in
      subst (λ u. Went n p s (then_done (resolved.actions_done gc rest) d) u)
      (sym (joined_done g (made_action known p a) (if ends a then no_stmt else made (start_of a) p rest) s))
      (next_went g serving.quiet gc n p a rest s t d.state o
      (λ live' h'. live_all Fit gc g serving n rest inside (start_of a) p t d.state o nest (omega (arith, within))
      so.1 (begins_after gc a l) live' h') d.way acted)

  live_branches : (Fit : ℕ → ℕ → Type 0) (gc : resolved.Serves) (g : Serves) → Serving Fit gc g
      → (n : ℕ) (bs : PlainBranches) (inside nothing : Bool)
      (otherwise : PartWords → PlainStmts) (meant : values.State → Done) → Otherwise g n inside nothing otherwise meant
      → (p : PartWords) (s : State)
      (l : values.State) → Order n p → Nest inside p → branches_words bs ≤ n → SoundBranches Fit inside bs
      → Live p s → Agrees n s l
      → Went n p s (resolved.branches_done gc bs meant l) (stmts_done g (made_branches p bs nothing otherwise) s)
  live_branches Fit gc g serving n no_branch inside nothing otherwise meant last p s l o nest within so live h =
      last.acts p s l o nest live h
  live_branches Fit gc g serving n (branch condition body rest) inside nothing otherwise meant last p s l o nest
      within so live h =
      let on : actions_exit any_exit body ≡ false → (resolved.actions_done gc body l).way ≡ way.On = λ none.
      on_only (resolved.actions_done gc body l).way (actions_avoid gc any_exit body l none) in
      by on (resolved.holds condition l) (ap is_true (worth_same n condition s l h (omega (arith, within))))
      (λ t live' h'. live_all Fit gc g serving n body inside None (in_arm p) t l (order_arm n p o) nest
      (omega (arith, within)) so.1 tt live' h')
      (λ t live' h'. live_branches Fit gc g serving n rest inside nothing otherwise meant last (in_arm p) t l
      (order_arm n p o) nest (omega (arith, within)) so.2 live' h')
    where
      arm : PlainStmts
      arm = made None (in_arm p) body

      others : PlainStmts
      others = made_branches (in_arm p) rest nothing otherwise

      by : (actions_exit any_exit body ≡ false → (resolved.actions_done gc body l).way ≡ way.On) → (holds : Bool)
          → is_true (worth condition s) ≡ holds
          → ((t : State) → Live (in_arm p) t → Agrees n t l → Went n (in_arm p) t (resolved.actions_done gc body l)
          (stmts_done g arm t))
          → ((t : State) → Live (in_arm p) t → Agrees n t l → Went n (in_arm p) t (resolved.branches_done gc rest meant
          l) (stmts_done g others t))
          → Went n p s (elim holds as (λ _. Done) [
            | true ↦ resolved.actions_done gc body l
            | false ↦
                resolved.branches_done gc rest meant l
          ])
          (stmts_done g (made_arm p condition arm (made_otherwise p (actions_exit any_exit body)
          (is_no_branch rest && nothing) others)) s)
      by on true is inner further =
          taken_went g n p condition arm (actions_exit any_exit body) (is_no_branch rest && nothing) others s l
          (resolved.actions_done gc body l) o live h is on inner
          (λ t. dead_branches g serving.quiet n rest nothing otherwise last.idles (in_arm p) t (order_arm n p o))
      by on false is inner further =
          skipped_went g n p condition arm (actions_exit any_exit body) (is_no_branch rest && nothing) others s l
          (resolved.branches_done gc rest meant l) o live h is
          (λ t. dead g serving.quiet n body None (in_arm p) t (order_arm n p o)) further
          (no_otherwise gc rest nothing meant l last.empty)
