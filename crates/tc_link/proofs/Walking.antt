-- How a core that fetches bundles goes on, bundle by bundle.
use Rattle.std.proofs.Common.{◌≡◌, ℕ, suc, ◌+◌, ◌-◌, true, false, Option, None, Some, List, [], ◌∷◌, ◌++◌, length, refl, sym, ap, ◌∙◌, subst, arith}
use Rattle.patmos_code.specs.Images.{Parts}
use Rattle.patmos_instr.specs.Bundles.{PlainBundle}
use Rattle.patmos_model.specs.Bundle.{fetched_at, asked_flow}
use Rattle.patmos_model.specs.Flows.{counted}
use Rattle.patmos_model.specs.declared.fetched.Fetched.TheVariants.{Found}
use Rattle.patmos_model.specs.declared.flow.Goal.{Goal}
use Rattle.patmos_sem.specs.Bundles.{effect_of}
use Rattle.patmos_sem.specs.Registers.{FitsRegisters}
use Rattle.sp_shape.proofs.Whole.{late_fits}
use Rattle.sp_shape.specs.Formed.{is_flow, are_calm}
use Rattle.sp_shape.specs.Run.{Run, Back, Sources, late, run_late}
use Rattle.sp_shape.specs.Trail.{Step, does, begins, all_done}
use Rattle.sp_shape.specs.Words.{bundle_words, bundles_words}
use Rattle.tc_link.specs.Dues.{undue, way_dues}
use Rattle.tc_link.specs.Walk.{Walk, due, due_in, flowed, IsPlaced, bundle_done, erased, IsAlone, Fetches, Does}
use Rattle.tc_link.proofs.Late.{calm_first, calm_rest, calm_asks, late_backs}

-- bundles are what is fetched from an offset of a function on
abbrev pub FetchAt : Parts → ℕ → ℕ → List PlainBundle → Type 0
FetchAt image base at [] = Unit {0}
FetchAt image base at (b ∷ bs) =
    (fetched_at image base at ≡ Found b (bundle_words b)) × FetchAt image base (at + bundle_words b) bs

-- at a place, with nothing pending, or with a flow that has so many delay slots left
abbrev pub free : ℕ → ℕ → Run → Walk
free base offset m = record { run = m; base = base; offset = offset; flow = None }

abbrev pub waiting : Goal → ℕ → ℕ → ℕ → Run → Walk
waiting goal slots base offset m =
    record { run = m; base = base; offset = offset; flow = Some (record { goal = goal; slots = slots }) }

-- a walk comes to a place with this run, and these are the places to which later calls return
pub record Comes (image : Parts) (base offset : ℕ) (rest : List Back) (m : Run) (w : Walk) : Type 0 where
  pub placed : IsPlaced image w
  pub lands : flowed w ≡ free base offset m
  pub run_is : w.run ≡ m
  pub fits : FitsRegisters m.regs
  pub backs : m.backs ≡ rest

-- it does steps, and comes to a place with a run
pub record Goes (image : Parts) (from : Sources) (steps : List Step) (ds : List (Option Goal)) (base offset : ℕ)
    (rest : List Back) (w : Walk) (m : Run) : Type 0 where
  pub last : Walk
  pub does_so : Does image from steps ds w last
  pub comes : Comes image base offset rest m last

module _ (image : Parts) (from : Sources) where
  -- ---- trails

  pub does_then : (xs ys : List Step) (ds es : List (Option Goal)) (w e last : Walk) → Does image from xs ds w e
      → Does image from ys es e last → Does image from (xs ++ ys) (ds ++ es) w last
  does_then [] ys ds es w e last a b = subst (λ l. Does image from ys (l ++ es) w last) (sym a.0)
      (subst (λ x. Does image from ys es x last) (sym a.1) b)
  does_then (does x ∷ xs) ys [] es w e last a b = absurd a
  does_then (does x ∷ xs) ys (d ∷ ds) es w e last a b = record {
    placed = a.placed;
    run_is = a.run_is;
    fetches = a.fetches;
    due_is = a.due_is;
    rest = does_then xs ys ds es (bundle_done from a.fetches.bundle a.fetches.words (flowed w)) e last a.rest b;
  }
  does_then (begins ∷ xs) ys ds es w e last a b = record {
    placed = a.placed;
    calls = a.calls;
    run_is = a.run_is;
    rest = does_then xs ys ds es (flowed w) e last a.rest b;
  }

  pub elsewhere : (steps : List Step) (ds : List (Option Goal)) (base offset other : ℕ) (rest : List Back) (w : Walk)
      (m : Run) → offset ≡ other → Goes image from steps ds base offset rest w m
      → Goes image from steps ds base other rest w m
  elsewhere steps ds base offset other rest w m is g = subst (λ n. Goes image from steps ds base n rest w m) is g

  -- ---- a bundle

  pub step : (b c : PlainBundle) (steps : List Step) (d : Option Goal) (ds : List (Option Goal)) (w at e : Walk)
      → IsPlaced image w → flowed w ≡ at → at.run ≡ w.run → erased c ≡ erased b → fetched_at image at.base at.offset
      ≡ Found c (bundle_words c)
      → IsAlone at.flow (asked_flow at.offset (effect_of c at.run.regs))
      → due (bundle_done from c (bundle_words c) at).flow ≡ d → Does image from steps ds (bundle_done from c
      (bundle_words c) at) e → Does image from (does b ∷ steps) (d ∷ ds) w e
  step b c steps d ds w at e placed lands kept same found alone is_due then_on =
      let all = subst (λ x. (x.run ≡ w.run)
      × ((f : Fetches image b x) × ((due (bundle_done from f.bundle f.words x).flow ≡ d)
      × Does image from steps ds (bundle_done from f.bundle f.words x) e))) (sym lands) (
        kept,
        (
          record { bundle = c; words = bundle_words c; same = same; found = found; alone = alone },
          (is_due, then_on),
        ),
      ) in
      record { placed = placed; run_is = all.0; fetches = all.1.0; due_is = all.1.1.0; rest = all.1.1.1 }

  calm_done : (b : PlainBundle) (w : Walk) → is_flow b.first.op ≡ false
      → bundle_done from b (bundle_words b) w ≡ record {
        run = late from b w.run;
        base = w.base;
        offset = w.offset
            + bundle_words b;
        flow = counted w.flow None;
      }
  calm_done b w calm =
      ap (λ f. record {
        run = late from b w.run;
        base = w.base;
        offset = w.offset + bundle_words b;
        flow = counted w.flow f;
      }) (calm_asks w.offset b w.run.regs calm)

  -- ---- without a flow

  -- a bundle, and what is done after it
  pub calm_then : (b : PlainBundle) (steps : List Step) (ds : List (Option Goal)) (base at other offset : ℕ)
      (rest later : List Back) (m n : Run) (w : Walk) → is_flow b.first.op ≡ false
      → fetched_at image base at ≡ Found b (bundle_words b) → Comes image base at rest m w
      → (Comes image base (at + bundle_words b) rest (late from b m) (free base (at + bundle_words b) (late from b m))
      → Goes image from steps ds other offset later (free base (at + bundle_words b) (late from b m)) n)
      → Goes image from (does b ∷ steps) (None ∷ ds) other offset later w n
  calm_then b steps ds base at other offset rest later m n w calm found c more =
      let g = more (record {
        placed = tt;
        lands = refl;
        run_is = refl;
        fits = late_fits from b m c.fits;
        backs = late_backs from b m ∙ c.backs;
      }) in
      record {
        last = g.last;
        does_so = step b b steps None ds w (free base at m) g.last c.placed c.lands (sym c.run_is) refl found tt
            (ap (λ (x : Walk). due x.flow) (calm_done b (free base at m) calm))
            (subst (λ x. Does image from steps ds x g.last) (sym (calm_done b (free base at m) calm)) g.does_so);
        comes = g.comes;
      }

  pub calm_goes : (bs : List PlainBundle) (base at : ℕ) (rest : List Back) (m : Run) (w : Walk) → are_calm bs ≡ true
      → FetchAt image base at bs → Comes image base at rest m w
      → Goes image from (all_done bs) (undue bs) base (at + bundles_words bs) rest w (run_late from (all_done bs) m)
  calm_goes [] base at rest m w calm h c =
      elsewhere [] [] base at (at + 0) rest w m (omega arith) (record { last = w; does_so = (refl, refl); comes = c })
  calm_goes (b ∷ bs) base at rest m w calm h c =
      let end = run_late from (all_done (b ∷ bs)) m in
      calm_then b (all_done bs) (undue bs) base at base (at + bundles_words (b ∷ bs)) rest rest m end w
      (calm_first b bs calm) h.0 c
      (λ d. elsewhere (all_done bs) (undue bs) base (at + bundle_words b + bundles_words bs)
      (at + bundles_words (b ∷ bs)) rest (free base (at + bundle_words b) (late from b m)) end (omega arith)
      (calm_goes bs base (at + bundle_words b) rest (late from b m) (free base (at + bundle_words b) (late from b m))
      (calm_rest b bs calm) h.1 d))

  -- ---- delay slots

  slot_done : (b : PlainBundle) (goal : Goal) (left base at : ℕ) (m : Run) → is_flow b.first.op ≡ false
      → bundle_done from b (bundle_words b) (waiting goal (suc left) base at m)
      ≡ waiting goal left base (at + bundle_words b) (late from b m)
  slot_done b goal left base at m calm =
      let one : suc left - 1 ≡ left = omega arith in
      calm_done b (waiting goal (suc left) base at m) calm ∙ ap (λ n. waiting goal n base (at + bundle_words b)
      (late from b m)) one

  pub slots_do : (bs : List PlainBundle) (goal : Goal) (base at : ℕ) (m : Run) → are_calm bs ≡ true
      → FetchAt image base at bs
      → Does image from (all_done bs) (way_dues goal bs) (waiting goal (length bs) base at m) (waiting goal 0 base
      (at + bundles_words bs) (run_late from (all_done bs) m))
  slots_do [] goal base at m calm h =
      let none : at ≡ at + 0 = omega arith in (refl, ap (λ n. waiting goal 0 base n m) none)
  slots_do (b ∷ bs) goal base at m calm h =
      let w = waiting goal (suc (length bs)) base at m in
      let next = waiting goal (length bs) base (at + bundle_words b) (late from b m) in
      let end = λ (n : ℕ). waiting goal 0 base n (run_late from (all_done (b ∷ bs)) m) in
      let so = slots_do bs goal base (at + bundle_words b) (late from b m) (calm_rest b bs calm) h.1 in
      let there : at + bundle_words b + bundles_words bs ≡ at + bundles_words (b ∷ bs) = omega arith in
      let done = slot_done b goal (length bs) base at m (calm_first b bs calm) in
      step b b (all_done bs) (due_in (length bs) goal) (way_dues goal bs) w w (end (at + bundles_words (b ∷ bs))) tt
      refl refl refl h.0 (calm_asks at b m.regs (calm_first b bs calm)) (ap (λ (x : Walk). due x.flow) done)
      (subst (λ x. Does image from (all_done bs) (way_dues goal bs) x (end (at + bundles_words (b ∷ bs)))) (sym done)
      (subst (λ n. Does image from (all_done bs) (way_dues goal bs) next (end n)) there so))
