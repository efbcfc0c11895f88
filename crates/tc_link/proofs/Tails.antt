-- How a core goes on over the tails of loops, calls and functions.
use Rattle.std.proofs.Common.{◌≡◌, ℕ, ℤ, pos, negsuc, ◌-ℤ◌, zero, suc, ◌+◌, ◌-◌, ◌%◌, ◌^◌, ◌<◌, ◌==◌, Bool, true, false, not, ◌&&◌, if◌then◌else◌, Option, None, Some, List, [], ◌∷◌, ◌++◌, length, get_or, slice_index_or, refl, sym, ap, ◌∙◌, subst, arith, true≢false, length-append, append-nil, cond}
use Rattle.std.proofs.lemmas.Bool.{and_parts, lt-ltb, le-leb, eqb-true}
use Rattle.std.proofs.lemmas.List.{get_or_push}
use Rattle.patmos_code.specs.Images.{Parts}
use Rattle.patmos_instr.specs.Bundles.{PlainBundle}
use Rattle.patmos_instr.specs.declared.guards.Guard.{Guard}
use Rattle.patmos_instr.specs.declared.instructions.Op.{Op}
use Rattle.patmos_instr.specs.declared.instructions.Op.TheVariants.{Branch, Call, Return}
use Rattle.patmos_model.specs.Bundle.{fetched_at, asked_flow}
use Rattle.patmos_model.specs.Flows.{branch_target, flow_of}
use Rattle.patmos_model.specs.Site.{size_at, has_place}
use Rattle.patmos_model.specs.declared.fetched.Fetched.TheVariants.{Found}
use Rattle.patmos_model.specs.declared.flow.Goal.{Goal}
use Rattle.patmos_model.specs.declared.flow.Goal.TheVariants as goal
use Rattle.patmos_sem.specs.Bundles.{effect_of}
use Rattle.patmos_sem.specs.Registers.{Registers, FitsRegisters, holds}
use Rattle.patmos_sem.specs.declared.effects.Effect.{Effect}
use Rattle.patmos_sem.specs.declared.effects.Effect.TheVariants as effect
use Rattle.patmos_sem.specs.declared.effects.FlowKind.{FlowKind}
use Rattle.patmos_sem.specs.declared.effects.FlowKind.TheVariants as kind
use Rattle.sp_shape.proofs.Whole.{behind, late_fits, late_append}
use Rattle.sp_shape.specs.Formed.{is_branch, is_call, is_return, is_flow, is_always, are_calm, are_delay_slots, is_iteration, is_way}
use Rattle.sp_shape.specs.Run.{Run, Way, Back, branches, calls, fills, returns, Sources, effected, late, first_back, other_backs, run_late}
use Rattle.sp_shape.specs.Trail.{Step, begins, all_done}
use Rattle.sp_shape.specs.Words.{bundle_words, bundles_words}
use Rattle.sp_shape.specs.Iterating.{back_of}
use Rattle.tc_link.specs.Backs.{back}
use Rattle.tc_link.specs.Flat.{with_op, branch_back, called, turned}
use Rattle.tc_link.specs.Dues.{undue, way_dues, iteration_dues}
use Rattle.tc_link.specs.Walk.{Walk, due, due_in, erased, bundle_done, with_back, Does}
use Rattle.tc_link.proofs.Erased.{late_same}
use Rattle.tc_link.proofs.Late.{not_flow, calm_first, calm_rest, late_backs, late_ways, done_backs, done_fits, calm_ways}
use Rattle.tc_link.proofs.Walking.{FetchAt, free, waiting, Comes, Goes, does_then, elsewhere, step, calm_then, calm_goes, slots_do}

-- ---- flows that are asked for

-- a guard that is always true holds
always_on : (on : Bool) (regs : Registers) (pred : ℕ) → FitsRegisters regs → ((pred == 0) && not on) ≡ true
    → (if on then not (slice_index_or regs.preds pred false) else slice_index_or regs.preds pred false) ≡ true
always_on true regs pred fits e = absurd (true≢false (sym (and_parts (pred == 0) false e).1))
always_on false regs pred fits e =
    ap (λ p. slice_index_or regs.preds p false) (eqb-true pred 0 (and_parts (pred == 0) true e).0) ∙ fits.always

pub always_holds : (g : Guard) (regs : Registers) → FitsRegisters regs → is_always g ≡ true → holds regs g ≡ true
always_holds g regs fits e = always_on g.negated regs g.pred fits e

-- which operation it is, by the tests of well-formed shapes
branch_of : (op : Op) → is_branch op ≡ true → (by : ℤ) × (op ≡ Branch by)
branch_of (Branch by) is = (by, refl)
branch_of _ is = absurd (true≢false (sym is))

call_of : (op : Op) → is_call op ≡ true → (target : ℕ) × (op ≡ Call target)
call_of (Call target) is = (target, refl)
call_of _ is = absurd (true≢false (sym is))

return_is : (op : Op) → is_return op ≡ true → op ≡ Return
return_is Return is = refl
return_is _ is = absurd (true≢false (sym is))

-- bundles without a flow get no target
calm_branch : (words : ℕ) (b : PlainBundle) → is_flow b.first.op ≡ false → branch_back words b ≡ b
calm_branch words b calm = so b.first.op calm
  where
    so : (op : Op) → is_flow op ≡ false → branch_back words (with_op op b) ≡ with_op op b
    so (Branch by) calm = absurd (true≢false calm)
    so _ calm = refl

calm_turned : (words : ℕ) (bs : List PlainBundle) → are_calm bs ≡ true → turned words bs ≡ bs
calm_turned words [] calm = refl
calm_turned words (b ∷ bs) calm =
    ap (λ x. x ∷ turned (words + bundle_words b) bs) (calm_branch words b (calm_first b bs calm))
    ∙ ap (λ xs. b ∷ xs) (calm_turned (words + bundle_words b) bs (calm_rest b bs calm))

-- a branch back over so many words
back_target : (top words : ℕ) → top + words < 2 ^ 32 → branch_target (top + words) (pos 0 -ℤ pos words) ≡ top
back_target top zero few = omega (arith, few)
back_target top (suc n) few =
    let less : suc n - 1 ≡ n = omega arith in
    let so : (top + suc n + (2 ^ 32 - (n + 1))) % 2 ^ 32 ≡ top = omega (arith, few) in
    ap (λ b. branch_target (top + suc n) (cond b (negsuc (suc n - 1)) (pos (0 - suc n)))) (le-leb 1 (suc n)
    (omega arith)) ∙ ap (λ k. branch_target (top + suc n) (negsuc k)) less ∙ so

no_way : (ways : List Way) (way : Way) → ways ≡ ways ++ way ∷ [] → ⊥
no_way ways way e = omega (arith, ap length e, length-append ways (way ∷ []))

same_last : (ways : List Way) (x y : Way) → ways ++ x ∷ [] ≡ ways ++ y ∷ [] → x ≡ y
same_last ways x y e = sym (get_or_push ways x x (length ways) refl) ∙ ap (λ l. get_or l (length ways) x) e
    ∙ get_or_push ways y x (length ways) refl

-- to where a return goes
abbrev place_of : Way → Back
place_of branches = back 0 0
place_of calls = back 0 0
place_of fills = back 0 0
place_of (returns base offset) = back base offset

-- ---- what comes of tails

-- of a loop's: another iteration, or what stands after the loop
pub record Iterations (image : Parts) (from : Sources) (tail : List PlainBundle) (base top next : ℕ) (rest : List Back)
    (w : Walk) (m : Run) : Type 0 where
  pub again : (run_late from (all_done tail) m).ways ≡ m.ways ++ branches ∷ []
      → Goes image from (all_done tail) (iteration_dues (goal.Within top) tail) base top rest w (run_late from
      (all_done tail) m)
  pub no_more : (run_late from (all_done tail) m).ways ≡ m.ways → Goes image from (all_done tail) (undue tail) base next
      rest w (run_late from (all_done tail) m)

-- of a function's: its return to a place is due
pub record Left (image : Parts) (from : Sources) (steps : List Step) (ds : List (Option Goal)) (home : Back)
    (rest : List Back) (w : Walk) (m : Run) : Type 0 where
  pub last : Walk
  pub does_so : Does image from steps ds w last
  pub run : last.run ≡ m
  pub flow : last.flow ≡ Some (record { goal = goal.Return home.base home.offset; slots = 0 })
  pub fits : FitsRegisters m.regs
  pub backs : m.backs ≡ rest

-- of a call's: the function that starts at a place begins, and is to return to another
pub record Begins (image : Parts) (from : Sources) (tail : List PlainBundle) (start : ℕ) (home : Back)
    (rest : List Back)
    (w : Walk) (m : Run) : Type 0 where
  pub goes : Goes image from (all_done tail ++ begins ∷ []) (way_dues (goal.Call start) tail) start 0 rest w
      (run_late from (all_done tail ++ begins ∷ []) m)
  pub returns_to : back_of (run_late from (all_done tail ++ begins ∷ []) m) ≡ home

module _ (image : Parts) (from : Sources) where
  -- a flow that is taken, and its delay slots
  flow_waits : (b c : PlainBundle) (bs : List PlainBundle) (flow : FlowKind) (base at : ℕ) (rest : List Back)
      (m : Run) (w : Walk)
      → effect_of c m.regs ≡ effect.Flow flow → erased c ≡ erased b → bundle_words c ≡ bundle_words b
      → length bs ≡ (flow_of at flow).slots → are_calm bs ≡ true → FetchAt image base at (c ∷ bs)
      → Comes image base at rest m w
      → Does image from (all_done (b ∷ bs)) (way_dues (flow_of at flow).goal (b ∷ bs)) w (waiting (flow_of at flow).goal
      0 base (at + bundles_words (b ∷ bs)) (run_late from (all_done (b ∷ bs)) m))
  flow_waits b c bs flow base at rest m w asks same size count calm h c_at =
      let last = λ (n : ℕ). waiting (flow_of at flow).goal 0 base n (run_late from (all_done (b ∷ bs)) m) in
      let after_it = at + bundle_words b in
      let done : bundle_done from c (bundle_words c) (free base at m)
      ≡ waiting (flow_of at flow).goal (length bs) base after_it (late from b m) =
      ap (λ e. record { run = late from c m; base = base; offset = at + bundle_words c; flow = asked_flow at e }) asks
      ∙ ap (λ n. waiting (flow_of at flow).goal (flow_of at flow).slots base (at + n) (late from c m)) size
      ∙ ap (λ r. waiting (flow_of at flow).goal (flow_of at flow).slots base after_it r) (late_same from c b m same)
      ∙ ap (λ n. waiting (flow_of at flow).goal n base after_it (late from b m)) (sym count) in
      let slots = slots_do image from bs (flow_of at flow).goal base after_it (late from b m) calm
      (subst (λ n. FetchAt image base (at + n) bs) size h.1) in
      let there : after_it + bundles_words bs ≡ at + bundles_words (b ∷ bs) = omega arith in
      step image from b c (all_done bs) (due_in (length bs) (flow_of at flow).goal) (way_dues (flow_of at flow).goal bs)
      w (free base at m) (last (at + bundles_words (b ∷ bs))) c_at.placed c_at.lands (sym c_at.run_is) same h.0 tt
      (ap (λ (x : Walk). due x.flow) done)
      (subst (λ x. Does image from (all_done bs) (way_dues (flow_of at flow).goal bs) x
      (last (at + bundles_words (b ∷ bs)))) (sym done)
      (subst (λ n. Does image from (all_done bs) (way_dues (flow_of at flow).goal bs) (waiting (flow_of at flow).goal
      (length bs) base after_it (late from b m)) (last n)) there slots))

  flow_ways : (b : PlainBundle) (bs : List PlainBundle) (e : Effect) (m : Run) → effect_of b m.regs ≡ e
      → are_calm bs ≡ true
      → (run_late from (all_done (b ∷ bs)) m).ways ≡ (effected from e (behind b m)).ways
  flow_ways b bs e m asks calm =
      calm_ways from bs (late from b m) calm ∙ ap (λ x. (effected from x (behind b m)).ways) asks

  -- ---- a loop's branch

  branch_iterations : (b : PlainBundle) (by : ℤ) (bs : List PlainBundle) (base top words : ℕ)
      (rest : List Back) (m : Run)
      (w : Walk) → are_delay_slots 2 bs ≡ true → top + words < 2 ^ 32 → top < size_at image base
      → FetchAt image base (top + words) (with_op (Branch (pos 0 -ℤ pos words)) b ∷ bs)
      → Comes image base (top + words) rest m w
      → Iterations image from (with_op (Branch by) b ∷ bs) base top (top + words + bundles_words (with_op (Branch by) b
      ∷ bs)) rest w m
  branch_iterations b by bs base top words rest m w formed few inside h c = by_guard (holds m.regs b.first.guard) refl
    where
      by_guard : (on : Bool) → holds m.regs b.first.guard ≡ on → Iterations image from (with_op (Branch by) b
          ∷ bs) base top (top + words + bundles_words (with_op (Branch by) b ∷ bs)) rest w m
      by_guard true on =
          let it = with_op (Branch by) b in
          let there = with_op (Branch (pos 0 -ℤ pos words)) b in
          let parts = and_parts (length bs == 2) (are_calm bs) formed in
          record {
            again = λ e. record {
              last = waiting (goal.Within (branch_target (top + words) (pos 0 -ℤ pos words))) 0 base
                  (top + words + bundles_words (it ∷ bs)) (run_late from (all_done (it ∷ bs)) m);
              does_so = subst (λ n. Does image from (all_done (it ∷ bs)) (way_dues (goal.Within n) (it ∷ bs)) w
                  (waiting (goal.Within (branch_target (top + words) (pos 0 -ℤ pos words))) 0 base
                  (top + words + bundles_words (it ∷ bs)) (run_late from (all_done (it ∷ bs)) m)))
                  (back_target top words few)
                  (flow_waits it there bs (kind.Branch (pos 0 -ℤ pos words)) base (top + words) rest m w
                  (ap (λ g. if g then effect.Flow (kind.Branch (pos 0 -ℤ pos words)) else effect.Nothing) on) refl
                  refl
                  (eqb-true (length bs) 2 parts.0) parts.1 h c);
              comes = record {
                placed = lt-ltb (branch_target (top + words) (pos 0 -ℤ pos words)) (size_at image base)
                    (subst (λ n. n < size_at image base) (sym (back_target top words few)) inside);
                lands = ap (λ n. free base n (run_late from (all_done (it ∷ bs)) m)) (back_target top words few);
                run_is = refl;
                fits = done_fits from (it ∷ bs) m c.fits;
                backs = done_backs from (it ∷ bs) m ∙ c.backs;
              };
            };
            no_more = λ e. absurd (no_way m.ways branches (sym e ∙ flow_ways it bs (effect.Flow (kind.Branch by)) m (ap
                (λ g. if g then effect.Flow (kind.Branch by) else effect.Nothing) on) parts.1));
          }
      by_guard false off =
          let it = with_op (Branch by) b in
          let there = with_op (Branch (pos 0 -ℤ pos words)) b in
          let parts = and_parts (length bs == 2) (are_calm bs) formed in
          record {
            again = λ e. absurd
                (no_way m.ways branches
                (sym (flow_ways it bs effect.Nothing m
                (ap (λ g. if g then effect.Flow (kind.Branch by) else effect.Nothing) off) parts.1) ∙ e));
            no_more = λ e.
                let done : bundle_done from there (bundle_words there) (free base (top + words) m)
                ≡ free base (top + words + bundle_words it) (late from it m) =
                ap (λ x. record {
                  run = late from there m;
                  base = base;
                  offset = top + words + bundle_words it;
                  flow = asked_flow (top + words) (if x then effect.Flow (kind.Branch (pos 0 -ℤ pos words)) else
                      effect.Nothing);
                }) off
                ∙ ap (free base (top + words + bundle_words it)) (late_same from there it m refl) in
                let g = calm_goes image from bs base (top + words + bundle_words it) rest (late from it m)
                (free base (top + words + bundle_words it) (late from it m)) parts.1 h.1
                (record {
                  placed = tt;
                  lands = refl;
                  run_is = refl;
                  fits = late_fits from it m c.fits;
                  backs = late_backs from it m ∙ c.backs;
                }) in
                elsewhere image from (all_done (it ∷ bs)) (undue (it ∷ bs)) base (top + words + bundle_words it
                + bundles_words bs) (top + words + bundles_words (it ∷ bs)) rest w
                (run_late from (all_done (it ∷ bs)) m) (omega arith)
                (record {
                  last = g.last;
                  does_so = step image from it there (all_done bs) None (undue bs) w (free base (top + words) m) g.last
                      c.placed c.lands (sym c.run_is) refl h.0 tt (ap (λ (x : Walk). due x.flow) done)
                      (subst (λ x. Does image from (all_done bs) (undue bs) x g.last) (sym done) g.does_so);
                  comes = g.comes;
                });
          }

  iteration_first : (b : PlainBundle) (bs : List PlainBundle) (base top words : ℕ) (rest : List Back)
      (m : Run) (w : Walk)
      → ((more : ℕ) (n : Run) (x : Walk) → is_iteration bs ≡ true → top + more + bundles_words bs < 2 ^ 32
      → FetchAt image base (top + more) (turned more bs) → Comes image base (top + more) rest n x
      → Iterations image from bs base top (top + more + bundles_words bs) rest x n)
      → (t : Bool) → is_branch b.first.op ≡ t → is_iteration (b ∷ bs) ≡ true → top + words + bundles_words (b ∷ bs)
      < 2 ^ 32 → top < size_at image base
      → FetchAt image base (top + words) (turned words (b ∷ bs)) → Comes image base (top + words) rest m w
      → Iterations image from (b ∷ bs) base top (top + words + bundles_words (b ∷ bs)) rest w m
  iteration_first b bs base top words rest m w others true is formed few inside h c =
      let by = branch_of b.first.op is in
      let slots : are_delay_slots 2 bs ≡ true =
      sym (ap (λ t. if t then are_delay_slots 2 bs else (not (is_flow b.first.op) && is_iteration bs)) is)
      ∙ formed in
      let calm = (and_parts (length bs == 2) (are_calm bs) slots).1 in
      let it = with_op (Branch (pos 0 -ℤ pos words)) b in
      let told : turned words (b ∷ bs) ≡ it ∷ bs = ap (λ t. (if t then it else b) ∷ turned (words + bundle_words b) bs)
      is ∙ ap (λ xs. it ∷ xs) (calm_turned (words + bundle_words b) bs calm) in
      subst (λ op. Iterations image from (with_op op b ∷ bs) base top (top + words + bundles_words (with_op op b ∷ bs))
      rest w m) (sym by.1)
      (branch_iterations b by.0 bs base top words rest m w slots (omega (arith, few)) inside
      (subst (FetchAt image base (top + words)) told h) c)
  iteration_first b bs base top words rest m w others false is formed few inside h c =
      let calm_iteration : (not (is_flow b.first.op) && is_iteration bs) ≡ true =
      sym (ap (λ t. if t then are_delay_slots 2 bs else (not (is_flow b.first.op) && is_iteration bs)) is)
      ∙ formed in
      let parts = and_parts (not (is_flow b.first.op)) (is_iteration bs) calm_iteration in
      let calm = not_flow (is_flow b.first.op) parts.0 in
      let first : branch_back words b ≡ b = ap (λ t. if t then with_op (Branch (pos 0 -ℤ pos words)) b else b) is in
      let found : fetched_at image base (top + words) ≡ Found b (bundle_words b) =
      subst (λ x. fetched_at image base (top + words) ≡ Found x (bundle_words x)) first h.0 in
      let there : top + words + bundle_words (branch_back words b) ≡ top + (words + bundle_words b) =
      ap (λ x. top + words + bundle_words x) first ∙ omega arith in
      let next = λ (d : Comes image base (top + words + bundle_words b) rest (late from b m) (free base
      (top + words + bundle_words b) (late from b m))).
      let same : top + words + bundle_words b ≡ top + (words + bundle_words b) = omega arith in
      others (words + bundle_words b) (late from b m) (free base (top + words + bundle_words b) (late from b m)) parts.1
      (omega (arith, few)) (subst (λ n. FetchAt image base n (turned (words + bundle_words b) bs)) there h.1)
      (subst (λ n. Comes image base n rest (late from b m) (free base (top + words + bundle_words b) (late from b m)))
      same d) in
      record {
        again = λ e. subst (λ t. Goes image from (all_done (b ∷ bs))
            (if t then way_dues (goal.Within top) (b ∷ bs) else None ∷ iteration_dues (goal.Within top) bs) base top
            rest w (run_late from (all_done (b ∷ bs)) m)) (sym is)
            (calm_then image from b (all_done bs) (iteration_dues (goal.Within top) bs) base (top + words) base top rest
            rest m (run_late from (all_done (b ∷ bs)) m) w calm found c
            (λ d. (next d).again (e ∙ ap (λ ways. ways ++ branches ∷ []) (sym (late_ways from b m calm)))));
        no_more = λ e. calm_then image from b (all_done bs) (undue bs) base (top + words) base
            (top + words + bundles_words (b ∷ bs)) rest rest m (run_late from (all_done (b ∷ bs)) m) w calm found c
            (λ d. elsewhere image from (all_done bs) (undue bs) base (top + (words + bundle_words b) + bundles_words bs)
            (top + words + bundles_words (b ∷ bs)) rest (free base (top + words + bundle_words b) (late from b m))
            (run_late from (all_done (b ∷ bs)) m) (omega arith)
            ((next d).no_more (e ∙ sym (late_ways from b m calm))));
      }

  pub iteration_goes : (tail : List PlainBundle) (base top words : ℕ) (rest : List Back) (m : Run) (w : Walk)
      → is_iteration tail ≡ true → top + words + bundles_words tail < 2 ^ 32 → top < size_at image base
      → FetchAt image base (top + words) (turned words tail) → Comes image base (top + words) rest m w
      → Iterations image from tail base top (top + words + bundles_words tail) rest w m
  iteration_goes [] base top words rest m w formed few inside h c = absurd (true≢false (sym formed))
  iteration_goes (b ∷ bs) base top words rest m w formed few inside h c =
      iteration_first b bs base top words rest m w (λ more n x formed few h c. iteration_goes bs base top more rest n x
      formed few inside h c) (is_branch b.first.op) refl formed few inside h c

  -- ---- calls

  call_waits : (b : PlainBundle) (target : ℕ) (bs : List PlainBundle) (start base at : ℕ) (rest : List Back)
      (m : Run) (w : Walk)
      → is_always b.first.guard ≡ true → are_delay_slots 3 bs ≡ true → has_place image start 0 ≡ true
      → FetchAt image base at (with_op (Call start) b ∷ bs)
      → Comes image base at (back base (at + bundles_words (with_op (Call target) b ∷ bs)) ∷ rest) m w
      → Begins image from (with_op (Call target) b ∷ bs) start (back base
      (at + bundles_words (with_op (Call target) b ∷ bs))) rest w m
  call_waits b target bs start base at rest m w always slots placed h c =
      let parts = and_parts (length bs == 3) (are_calm bs) slots in
      let it = with_op (Call target) b in
      let home = back base (at + bundles_words (it ∷ bs)) in
      let after_it = run_late from (all_done (it ∷ bs)) m in
      let there = waiting (goal.Call start) 0 base home.offset after_it in
      let does_tail = flow_waits it (with_op (Call start) b) bs (kind.Call start) base at (home ∷ rest) m w
      (ap (λ g. if g then effect.Flow (kind.Call start) else effect.Nothing)
      (always_holds b.first.guard m.regs c.fits always)) refl refl (eqb-true (length bs) 3 parts.0) parts.1 h c in
      let backs : after_it.backs ≡ home ∷ rest = done_backs from (it ∷ bs) m ∙ c.backs in
      let entered = with_back base home.offset after_it in
      let same : entered ≡ run_late from (all_done (it ∷ bs) ++ begins ∷ []) m =
      ap (λ x. record after_it {
        regs = record after_it.regs { srb = x.base; sro = x.offset };
        backs = other_backs after_it.backs;
      }) (sym (ap first_back backs))
      ∙ sym (late_append from (all_done (it ∷ bs)) (begins ∷ []) m) in
      let fits = done_fits from (it ∷ bs) m c.fits in
      record {
        goes = subst (Goes image from (all_done (it ∷ bs) ++ begins ∷ []) (way_dues (goal.Call start) (it ∷ bs)) start 0
            rest w) same (record {
              last = free start 0 entered;
              does_so = subst (λ ds. Does image from (all_done (it ∷ bs) ++ begins ∷ []) ds w (free start 0 entered))
                  (append-nil (way_dues (goal.Call start) (it ∷ bs)))
                  (does_then image from (all_done (it ∷ bs)) (begins ∷ []) (way_dues (goal.Call start) (it ∷ bs)) [] w
                  there
                  (free start 0 entered) does_tail
                  (record {
                    placed = placed;
                    calls = tt;
                    run_is = ap (λ x. record after_it {
                      regs = record after_it.regs { srb = x.base; sro = x.offset };
                      backs = other_backs after_it.backs;
                    }) (sym (ap first_back backs));
                    rest = (refl, refl);
                  }));
              comes = record {
                placed = tt;
                lands = refl;
                run_is = refl;
                fits = record {
                  count = fits.count;
                  pred_count = fits.pred_count;
                  zero = fits.zero;
                  always = fits.always;
                };
                backs = ap other_backs backs;
              };
            });
        returns_to = ap back_of (sym same);
      }

  pub call_goes : (tail : List PlainBundle) (start base at : ℕ) (rest : List Back) (m : Run) (w : Walk)
      → is_way is_call tail
      ≡ true → has_place image start 0 ≡ true → FetchAt image base at (called start tail)
      → Comes image base at (back base (at + bundles_words tail) ∷ rest) m w
      → Begins image from tail start (back base (at + bundles_words tail)) rest w m
  call_goes [] start base at rest m w formed placed h c = absurd (true≢false (sym formed))
  call_goes (b ∷ bs) start base at rest m w formed placed h c =
      let parts = and_parts (is_call b.first.op) (is_always b.first.guard && are_delay_slots 3 bs) formed in
      let more = and_parts (is_always b.first.guard) (are_delay_slots 3 bs) parts.1 in
      let target = call_of b.first.op parts.0 in
      let told : called start (b ∷ bs) ≡ with_op (Call start) b ∷ bs =
      ap (λ t. (if t then with_op (Call start) b else b) ∷ bs) parts.0 in
      let size = λ (op : Op). at + bundles_words (with_op op b ∷ bs) in
      subst (λ op. Begins image from (with_op op b ∷ bs) start (back base (size op)) rest w m) (sym target.1)
      (call_waits b target.0 bs start base at rest m w more.0 more.1 placed (subst (FetchAt image base at) told h)
      (subst (λ op. Comes image base at (back base (size op) ∷ rest) m w) target.1 c))

  -- ---- returns

  return_waits : (b : PlainBundle) (bs : List PlainBundle) (home : Back) (base at : ℕ) (rest : List Back)
      (m : Run) (w : Walk)
      → is_always b.first.guard ≡ true → are_delay_slots 3 bs ≡ true
      → FetchAt image base at (with_op Return b ∷ bs) → Comes image base at rest m w
      → (run_late from (all_done (with_op Return b ∷ bs)) m).ways ≡ m.ways ++ returns home.base home.offset ∷ []
      → Left image from (all_done (with_op Return b ∷ bs)) (way_dues (goal.Return home.base home.offset)
      (with_op Return b ∷ bs)) home rest w (run_late from (all_done (with_op Return b ∷ bs)) m)
  return_waits b bs home base at rest m w always slots h c asks =
      let parts = and_parts (length bs == 3) (are_calm bs) slots in
      let it = with_op Return b in
      let flow = kind.Return m.regs.srb m.regs.sro in
      let asked = ap (λ g. if g then effect.Flow flow else effect.Nothing)
      (always_holds b.first.guard m.regs c.fits always) in
      let way : returns m.regs.srb m.regs.sro ≡ returns home.base home.offset =
      same_last m.ways (returns m.regs.srb m.regs.sro) (returns home.base home.offset)
      (sym (flow_ways it bs (effect.Flow flow) m asked parts.1) ∙ asks) in
      record {
        last = waiting (goal.Return m.regs.srb m.regs.sro) 0 base (at + bundles_words (it ∷ bs))
            (run_late from (all_done (it ∷ bs)) m);
        does_so = subst (λ x. Does image from (all_done (it ∷ bs))
            (way_dues (goal.Return (place_of x).base (place_of x).offset) (it ∷ bs)) w
            (waiting (goal.Return m.regs.srb m.regs.sro) 0 base (at + bundles_words (it ∷ bs))
            (run_late from (all_done (it ∷ bs)) m))) way
            (flow_waits it it bs flow base at rest m w asked refl refl (eqb-true (length bs) 3 parts.0) parts.1 h c);
        run = refl;
        flow = ap (λ x. Some (record { goal = goal.Return (place_of x).base (place_of x).offset; slots = 0 })) way;
        fits = done_fits from (it ∷ bs) m c.fits;
        backs = done_backs from (it ∷ bs) m ∙ c.backs;
      }

  pub return_goes : (tail : List PlainBundle) (home : Back) (base at : ℕ) (rest : List Back) (m : Run) (w : Walk)
      → is_way is_return tail ≡ true → FetchAt image base at tail → Comes image base at rest m w
      → (run_late from (all_done tail) m).ways ≡ m.ways ++ returns home.base home.offset ∷ []
      → Left image from (all_done tail) (way_dues (goal.Return home.base home.offset) tail) home rest w
      (run_late from (all_done tail) m)
  return_goes [] home base at rest m w formed h c asks = absurd (true≢false (sym formed))
  return_goes (b ∷ bs) home base at rest m w formed h c asks =
      let parts = and_parts (is_return b.first.op) (is_always b.first.guard && are_delay_slots 3 bs) formed in
      let more = and_parts (is_always b.first.guard) (are_delay_slots 3 bs) parts.1 in
      let is = return_is b.first.op parts.0 in
      subst (λ op. Left image from (all_done (with_op op b ∷ bs)) (way_dues (goal.Return home.base home.offset)
      (with_op op b ∷ bs)) home rest w (run_late from (all_done (with_op op b ∷ bs)) m)) (sym is)
      (return_waits b bs home base at rest m w more.0 more.1
      (subst (λ op. FetchAt image base at (with_op op b ∷ bs)) is h) c
      (subst (λ op. (run_late from (all_done (with_op op b ∷ bs)) m).ways ≡ m.ways ++ returns home.base home.offset
      ∷ []) is asks))
