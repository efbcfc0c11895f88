-- Loops that make all their iterations make them in packed code too.
use Rattle.std.proofs.Common.{ℕ, zero, suc, ◌≡◌, ◌<◌, ◌==◌, Bool, true, false, not, true≢false, arith, if◌then◌else◌, List, [], ◌∷◌, ◌++◌, length, map, slice_index_or, refl, sym, ap, ◌∙◌, subst, append-nil}
use Rattle.std.specs.Prelude.{◌&&◌}
use Rattle.std.proofs.lemmas.Bool.{and_parts, not-true}
use Rattle.std.proofs.lemmas.List.{length-map}
use Rattle.patmos_instr.specs.Bundles.{PlainBundle}
use Rattle.patmos_instr.specs.declared.functions.StackFunc.TheVariants.{Sres, Sens, Sfree}
use Rattle.patmos_instr.specs.declared.instructions.Op.{Op}
use Rattle.patmos_instr.specs.declared.instructions.Op.TheVariants.{Stack, Load, Store, Branch, Call, BranchFill, Return}
use Rattle.patmos_instr.specs.declared.memories.Mem.TheVariants as mem
use Rattle.patmos_sem.specs.Effects.{asked}
use Rattle.patmos_sem.specs.Registers.{Registers, holds}
use Rattle.patmos_sem.specs.declared.effects.Effect.TheVariants as effect
use Rattle.sp_shape.specs.Formed.{is_call, is_return, is_flow, are_calm, is_iteration, is_way}
use Rattle.sp_shape.specs.Parts.{joined, PlainPart, straight, repeats, calls_to, leaves, PlainParts, no_part, part, PlainShape}
use Rattle.sp_shape.proofs.Whole.{behind, run_append, run_whole}
use Rattle.sp_shape.specs.Run.{Run, IsWhole, Back, Sources, branches, returns, effected, once, run}
use Rattle.sp_shape.specs.Trail.{Step, does, begins, all_done, part_trail, parts_trail, trails}
use Rattle.sp_shape.specs.Iterating.{Returns, AllIterations, PartGoes, PartsGo, back_of, FunctionsGo, ShapeIterations, ShapeLoops}
use Rattle.sp_shape.proofs.Lists.{done_append}
use Rattle.bundle_sched.specs.Packed.{last_or}
use Rattle.bundle_sched.specs.Packing.{packed, can_move, has_room, but_last, goes_down, kept_by_one, way_by_one, kept_after, freed, kept, way, iteration_packed, straights, left_over, parts_merged, function_merged, merged}
use Rattle.bundle_sched.specs.declared.slots.TheConstants.{MOST_SLOTS}
use Rattle.bundle_sched.proofs.Alike.{Alike, alike_same, packed_alike, body_alike, in_front, leave_front, way_front, call_front, repeat_front, merged_alike, merged_at, functions_alike}
use Rattle.bundle_sched.proofs.Shaped.{parts_shaped, left_calm}
use Rattle.bundle_sched.proofs.AfterFlow.{moved_ways}
use Rattle.bundle_sched.proofs.SpacedIterations.{chosen}

-- ---- iterations of which some of the body comes with the tail

iterations_alike : (from : Sources) (xs us : List Step) (Inside Late : Run → Type 0) (tail next : List PlainBundle)
    → Alike from (xs ++ all_done next) (us ++ all_done tail)
    → ((m : Run) → IsWhole m → (run from xs m).ways ≡ (run from us m).ways)
    → ((m : Run) → IsWhole m → Inside m → Late m)
    → (n : ℕ) (m : Run) → IsWhole m → AllIterations (run from) Inside us tail n m
    → AllIterations (run from) Late xs next n m
iterations_alike from xs us Inside Late tail next iteration ways inside zero m whole h = tt
iterations_alike from xs us Inside Late tail next iteration ways inside (suc zero) m whole h = (
  inside m whole h.0,
  ap (λ t. t.ways) (sym (run_append from xs (all_done next) m) ∙ iteration.runs m whole
      ∙ run_append from us (all_done tail) m) ∙ h.1 ∙ sym (ways m whole),
)
iterations_alike from xs us Inside Late tail next iteration ways inside (suc (suc n)) m whole h =
    let others = iterations_alike from xs us Inside Late tail next iteration ways inside (suc n)
    (run from (us ++ all_done tail) m) (run_whole from (us ++ all_done tail) m whole) h.2 in (
      inside m whole h.0,
      ap (λ t. t.ways) (sym (run_append from xs (all_done next) m) ∙ iteration.runs m whole
          ∙ run_append from us (all_done tail) m) ∙ h.1 ∙ ap (λ ws. ws ++ branches ∷ []) (sym (ways m whole)),
      subst (AllIterations (run from) Late xs next (suc n)) (sym (iteration.runs m whole)) others,
    )

-- ---- straight code asks for no flow

calm_asked : (from : Sources) (on : Bool) (op : Op) (regs : Registers) (m : Run) → is_flow op ≡ false
    → (effected from (if on then asked regs op else effect.Nothing) m).ways ≡ m.ways
calm_asked from false op regs m calm = refl
calm_asked from true (Load space width rd ra imm) regs m calm = refl
calm_asked from true (Store mem.S width ra rs imm) regs m calm = refl
calm_asked from true (Store _ width ra rs imm) regs m calm = refl
calm_asked from true (Stack Sres count) regs m calm = refl
calm_asked from true (Stack Sens count) regs m calm = refl
calm_asked from true (Stack Sfree count) regs m calm = refl
calm_asked from true (Branch offset) regs m calm = absurd (true≢false calm)
calm_asked from true (Call target) regs m calm = absurd (true≢false calm)
calm_asked from true (BranchFill target) regs m calm = absurd (true≢false calm)
calm_asked from true Return regs m calm = absurd (true≢false calm)
calm_asked from true _ regs m calm = refl

calm_ways : (from : Sources) (bs : List PlainBundle) (m : Run) → are_calm bs ≡ true → (run from (all_done bs) m).ways
    ≡ m.ways
calm_ways from [] m calm = refl
calm_ways from (b ∷ bs) m calm =
    let both = and_parts (not (is_flow b.first.op)) (are_calm bs) calm in
    calm_ways from bs (once from b m) both.1 ∙ calm_asked from (holds m.regs b.first.guard) b.first.op m.regs
    (behind b m) (not-true (is_flow b.first.op) both.0)

-- a bundle that goes into a delay slot asks for no flow
one_ways : (from : Sources) (bs tail : List PlainBundle) (m : Run) → (run from (all_done (kept_by_one bs tail)) m).ways
    ≡ (run from (all_done bs) m).ways
one_ways from [] tail m = refl
one_ways from (b ∷ bs) tail m =
    elim (goes_down (b ∷ bs) tail) as (λ down. goes_down (b ∷ bs) tail ≡ down
    → (run from (all_done (if down then but_last b bs else b ∷ bs)) m).ways ≡ (run from (all_done (b ∷ bs)) m).ways) [
      | true ↦ λ is.
          let can = (and_parts (can_move (last_or b bs)) (has_room (last_or b bs) tail) is).0 in
          let last = last_or b bs in
          let front = all_done (but_last b bs) in
          sym (moved_ways from last can (run from front m))
          ∙ ap (λ t. t.ways) (sym (run_append from front (does last ∷ []) m))
          ∙ ap (λ xs. (run from xs m).ways) (sym (done_append (but_last b bs) (last ∷ []))
          ∙ ap all_done (in_front b bs []) ∙ ap (λ xs. all_done (b ∷ xs)) (append-nil bs))
      | false ↦ λ is. refl
    ] refl

kept_ways : (from : Sources) (n : ℕ) (bs tail : List PlainBundle) (m : Run)
    → (run from (all_done (kept_after n bs tail)) m).ways ≡ (run from (all_done bs) m).ways
kept_ways from zero bs tail m = refl
kept_ways from (suc n) bs tail m =
    kept_ways from n (kept_by_one bs tail) (way_by_one bs tail) m ∙ one_ways from bs tail m

module _ (from : Sources) (f g : ℕ → List Step) (Called Late : ℕ → Run → Type 0)
    (each : (k : ℕ) → Alike from (g k) (f k))
    (called : (k : ℕ) (m : Run) → IsWhole m → Called k m → Late k m)
    (AtReturn AtNewReturn : List PlainBundle → Run → Type 0)
    (at_return : (held tail : List PlainBundle) (m : Run) → IsWhole m → AtReturn tail (run from (all_done held) m)
    → AtNewReturn (way (packed held) tail) (run from (all_done (kept (packed held) tail)) m)) where
  straights_iteration : (bs : List PlainBundle) (rest : PlainParts) (m : Run)
      → PartsGo (run from) g Late AtNewReturn rest
      (run from (all_done bs) m) → PartsGo (run from) g Late AtNewReturn (straights bs rest) m
  straights_iteration [] rest m h = h
  straights_iteration (b ∷ bs) rest m h = (tt, h)

  -- what runs after straight code and a part begins with the same
  after_part : (bs held : List PlainBundle) (q p : PlainPart) (rest : PlainParts) (m : Run) → IsWhole m
      → Alike from (all_done bs ++ part_trail g q) (all_done held ++ part_trail f p)
      → PartsGo (run from) g Late AtNewReturn rest (run from (part_trail f p) (run from (all_done held) m))
      → PartsGo (run from) g Late AtNewReturn rest (run from (part_trail g q) (run from (all_done bs) m))
  after_part bs held q p rest m whole a h =
      subst (PartsGo (run from) g Late AtNewReturn rest)
      (sym (sym (run_append from (all_done bs) (part_trail g q) m) ∙ a.runs m whole
      ∙ run_append from (all_done held) (part_trail f p) m)) h

  -- a body of which straight code comes with the tail
  body_ways : (body : PlainParts) → parts_shaped body ≡ true → (m : Run) → IsWhole m
      → (run from (parts_trail g (parts_merged [] body)) m).ways ≡ (run from (parts_trail f body) m).ways
  body_ways body shaped m whole =
      let left = left_over [] body in
      let xs = parts_trail g (parts_merged [] body) in
      sym (calm_ways from left (run from xs m) (left_calm [] body refl shaped))
      ∙ ap (λ t. t.ways) (sym (run_append from xs (all_done left) m)
      ∙ (merged_alike from f g each [] body).runs m whole)

  pub merged_iteration : (held : List PlainBundle) (ps : PlainParts) (m : Run) → IsWhole m → parts_shaped ps ≡ true
      → PartsGo (run from) f Called AtReturn ps (run from (all_done held) m)
      → PartsGo (run from) g Late AtNewReturn (parts_merged held ps) m
  merged_iteration held no_part m whole shaped h = tt
  merged_iteration held (part (straight bs) rest) m whole shaped h =
      merged_iteration (held ++ bs) rest m whole (and_parts (are_calm bs) (parts_shaped rest) shaped).1
      (subst (PartsGo (run from) f Called AtReturn rest) (sym (ap (λ xs. run from xs m) (done_append held bs)
      ∙ run_append from (all_done held) (all_done bs) m)) h.1)
  merged_iteration held (part (repeats count body tail) rest) m whole shaped h =
      let s = and_parts (parts_shaped body && is_iteration tail) (parts_shaped rest) shaped in
      let body_shaped = (and_parts (parts_shaped body) (is_iteration tail) s.0).0 in
      let at = run from (all_done held) m in
      let whole_at = run_whole from (all_done held) m whole in
      let left = left_over [] body in
      let next = repeats count (parts_merged [] body) (iteration_packed left tail) in
      let body_is = merged_alike from f g each [] body in
      let iterations = iterations_alike from (parts_trail g (parts_merged [] body)) (parts_trail f body)
      (λ t. PartsGo (run from) f Called AtReturn body t) (λ t. PartsGo (run from) g Late AtNewReturn
      (parts_merged [] body) t) tail (iteration_packed left tail)
      (body_alike from (parts_trail g (parts_merged [] body)) (parts_trail f body) left tail body_is)
      (body_ways body body_shaped) (λ t whole_t inside. merged_iteration [] body t whole_t body_shaped inside) count
      at whole_at h.0 in
      let others = merged_iteration [] rest (run from (part_trail f (repeats count body tail)) at)
      (run_whole from (part_trail f (repeats count body tail)) at whole_at) s.1 h.1 in
      straights_iteration (packed held) (part next (parts_merged [] rest)) m (
        subst (PartGoes (run from) g Late AtNewReturn next) (sym ((packed_alike from held).runs m whole)) iterations,
        after_part (packed held) held next (repeats count body tail) (parts_merged [] rest) m whole
            (repeat_front from f g each held count body tail body_is) others,
      )
  merged_iteration held (part (calls_to k tail) rest) m whole shaped h =
      let s = and_parts (is_way is_call tail) (parts_shaped rest) shaped in
      let at = run from (all_done held) m in
      let whole_at = run_whole from (all_done held) m whole in
      let p = kept (packed held) tail in
      let q = way (packed held) tail in
      let here = called k (run from (all_done tail ++ begins ∷ []) at) (run_whole from (all_done tail ++ begins ∷ []) at
      whole_at) h.0 in
      let begun_is = way_front from f g each held tail (begins ∷ []) (begins ∷ []) (alike_same from (begins ∷ [])) in
      let others = merged_iteration [] rest (run from (all_done tail ++ begins ∷ f k) at)
      (run_whole from (all_done tail ++ begins ∷ f k) at whole_at) s.1 h.1 in
      straights_iteration p (part (calls_to k q) (parts_merged [] rest)) m (
        subst (Late k) (sym (sym (run_append from (all_done p) (all_done q ++ begins ∷ []) m) ∙ begun_is.runs m whole
            ∙ run_append from (all_done held) (all_done tail ++ begins ∷ []) m)) here,
        after_part p held (calls_to k q) (calls_to k tail) (parts_merged [] rest) m whole
            (call_front from f g each held k tail) others,
      )
  merged_iteration held (part (leaves tail) rest) m whole shaped h =
      let s = and_parts (is_way is_return tail) (parts_shaped rest) shaped in
      let at = run from (all_done held) m in
      let whole_at = run_whole from (all_done held) m whole in
      let p = kept (packed held) tail in
      let q = way (packed held) tail in
      let others = merged_iteration [] rest (run from (all_done tail) at) (run_whole from (all_done tail) at whole_at)
      s.1 h.1 in
      straights_iteration p (part (leaves q) (parts_merged [] rest)) m (
        at_return held tail m whole h.0,
        after_part p held (leaves q) (leaves tail) (parts_merged [] rest) m whole
            (leave_front from f g each held tail) others,
      )

  -- straight code at the end
  end_iteration : (ps : PlainParts) (bs : List PlainBundle) (m : Run) → PartsGo (run from) g Late AtNewReturn ps m
      → PartsGo (run from) g Late AtNewReturn (joined ps (straights bs no_part)) m
  end_iteration no_part [] m h = tt
  end_iteration no_part (b ∷ bs) m h = (tt, tt)
  end_iteration (part p rest) bs m h = (h.0, end_iteration rest bs (run from (part_trail g p) m) h.1)

  pub function_iteration : (ps : PlainParts) (m : Run) → IsWhole m → parts_shaped ps ≡ true
      → PartsGo (run from) f Called AtReturn ps m → PartsGo (run from) g Late AtNewReturn (function_merged ps) m
  function_iteration ps m whole shaped h =
      end_iteration (parts_merged [] ps) (packed (left_over [] ps)) m (merged_iteration [] ps m whole shaped h)

-- ---- returns

abbrev no_steps : ℕ → List Step
no_steps k = []

-- a return goes where it went
returns_left : (from : Sources) (back : Back) (held tail : List PlainBundle) (m : Run) → IsWhole m
    → Returns (run from) tail back (run from (all_done held) m)
    → Returns (run from) (way (packed held) tail) back (run from (all_done (kept (packed held) tail)) m)
returns_left from back held tail m whole h =
    let p = kept (packed held) tail in
    let q = way (packed held) tail in
    let same = sym (run_append from (all_done p) (all_done q) m)
    ∙ (leave_front from no_steps no_steps (λ k. alike_same from []) held tail).runs m whole
    ∙ run_append from (all_done held) (all_done tail) m in
    let ways = kept_ways from MOST_SLOTS (packed held) (freed tail) m
    ∙ ap (λ t. t.ways) ((packed_alike from held).runs m whole) in
    ap (λ t. t.ways) same ∙ h ∙ ap (λ ws. ws ++ returns back.base back.offset ∷ []) (sym ways)

-- ---- functions and shapes

module _ (from : Sources) (AtReturn AtNewReturn : Run → List PlainBundle → Run → Type 0)
    (at_return : (begun : Run) (held tail : List PlainBundle) (m : Run) → IsWhole m → AtReturn begun tail (run from
    (all_done held) m) → AtNewReturn begun (way (packed held) tail) (run from
    (all_done (kept (packed held) tail)) m)) where
  functions_go : (fs : List PlainParts) (n k : ℕ) (m : Run) → IsWhole m
      → ((j : ℕ) → j < n → parts_shaped (slice_index_or fs j no_part) ≡ true)
      → FunctionsGo (run from) AtReturn fs n k m → FunctionsGo (run from) AtNewReturn (map function_merged fs) n k m
  functions_go fs zero k m whole shaped h = tt
  functions_go fs (suc n) k m whole shaped h =
      let gs = map function_merged fs in
      let earlier = λ (j : ℕ) (below : j < n). shaped j (omega (arith, below)) in
      let own = λ (own : PartsGo (run from) (trails fs n) (FunctionsGo (run from) AtReturn fs n) (AtReturn m)
      (slice_index_or fs n no_part) m).
      subst (λ ps. PartsGo (run from) (trails gs n) (FunctionsGo (run from) AtNewReturn gs n) (AtNewReturn m) ps m)
      (sym (merged_at fs n))
      (function_iteration from (trails fs n) (trails gs n) (FunctionsGo (run from) AtReturn fs n)
      (FunctionsGo (run from) AtNewReturn gs n) (λ j. functions_alike from fs n j)
      (λ j t whole h. functions_go fs n j t whole earlier h) (AtReturn m) (AtNewReturn m) (at_return m)
      (slice_index_or fs n no_part) m whole (shaped n (omega arith)) own) in
      chosen (k == n) own (λ other. functions_go fs n k m whole earlier other) h

  shape_goes : (s : PlainShape) (m : Run) → IsWhole m → ((j : ℕ) → j < length s.functions
      → parts_shaped (slice_index_or s.functions j no_part) ≡ true)
      → FunctionsGo (run from) AtReturn s.functions (length s.functions) s.entry m
      → FunctionsGo (run from) AtNewReturn (merged s).functions (length (merged s).functions) s.entry m
  shape_goes s m whole shaped h =
      subst (λ n. FunctionsGo (run from) AtNewReturn (map function_merged s.functions) n s.entry m)
      (sym (length-map s.functions function_merged))
      (functions_go s.functions (length s.functions) s.entry m whole shaped h)

pub merged_iterations : (s : PlainShape) (from : Sources) (m : Run) → IsWhole m → ((j : ℕ) → j < length s.functions
    → parts_shaped (slice_index_or s.functions j no_part) ≡ true)
    → ShapeIterations (run from) s m → ShapeIterations (run from) (merged s) m
merged_iterations s from m whole shaped h =
    shape_goes from (λ begun tail t. Returns (run from) tail (back_of begun) t) (λ begun tail t. Returns (run from) tail
    (back_of begun) t) (λ begun. returns_left from (back_of begun)) s m whole shaped h

pub merged_loops : (s : PlainShape) (from : Sources) (m : Run) → IsWhole m → ((j : ℕ) → j < length s.functions
    → parts_shaped (slice_index_or s.functions j no_part) ≡ true)
    → ShapeLoops (run from) s m → ShapeLoops (run from) (merged s) m
merged_loops s from m whole shaped h = shape_goes from (λ begun tail t. Unit {0}) (λ begun tail t. Unit {0})
    (λ begun held tail t whole h. tt) s m whole shaped h
