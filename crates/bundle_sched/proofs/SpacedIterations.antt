-- Loops that make all their iterations where the trail is read at once make them where the spaced one is read late.
use Rattle.std.proofs.Common.{ℕ, zero, suc, ◌≡◌, ◌==◌, Bool, true, false, List, [], ◌∷◌, ◌++◌, length, map, slice_index_or, sym, subst}
use Rattle.std.specs.Bool.{MatchBool}
use Rattle.std.proofs.lemmas.List.{length-map}
use Rattle.patmos_instr.specs.Bundles.{PlainBundle}
use Rattle.sp_shape.specs.Parts.{PlainPart, straight, repeats, calls_to, leaves, PlainParts, no_part, part, PlainShape}
use Rattle.sp_shape.specs.Run.{Run, IsWhole, Back, Sources, branches, returns, run_late, run}
use Rattle.sp_shape.specs.Trail.{Step, begins, all_done, part_trail, trails}
use Rattle.sp_shape.specs.Iterating.{Returns, AllIterations, PartGoes, PartsGo, back_of, FunctionsGo, ShapeIterations, ShapeLoops}
use Rattle.bundle_sched.specs.Placed.{spaced, part_placed, parts_placed, placed}
use Rattle.bundle_sched.proofs.SpacedRuns.{Same, same_nothing, same_then, same_begun, same_bundles, same_part, same_parts, same_functions, placed_at}

-- what is said of the runs before and after a tail
after_tail : {from : Sources} {xs us : List Step} (P : Run → Run → Type 0) (tail : List PlainBundle) → Same from xs us
    → (m : Run) → IsWhole m
    → P (run from us m) (run from (all_done tail) (run from us m))
    → P (run_late from xs m) (run_late from (all_done (spaced tail)) (run_late from xs m))
after_tail {from} {xs} {us} P tail a m whole h =
    subst (λ t. P t (run_late from (all_done (spaced tail)) t)) (sym (a.runs m whole))
    (subst (λ u. P (run from us m) u) (sym ((same_bundles from tail).runs (run from us m) (a.whole m whole))) h)

iterations_same : {from : Sources} {xs us : List Step} (Inside Late : Run → Type 0) (tail : List PlainBundle)
    → Same from xs us → ((m : Run) → IsWhole m → Inside m → Late m)
    → (n : ℕ) (m : Run) → IsWhole m → AllIterations (run from) Inside us tail n m
    → AllIterations (run_late from) Late xs (spaced tail) n m
iterations_same Inside Late tail a inside zero m whole h = tt
iterations_same Inside Late tail a inside (suc zero) m whole h =
    (inside m whole h.0, after_tail (λ t u. u.ways ≡ t.ways) tail a m whole h.1)
iterations_same {from} {xs} {us} Inside Late tail a inside (suc (suc n)) m whole h =
    let iteration = same_then a (same_bundles from tail) in
    let others = iterations_same Inside Late tail a inside (suc n) (run from (us ++ all_done tail) m)
    (iteration.whole m whole) h.2 in (
      inside m whole h.0,
      after_tail (λ t u. u.ways ≡ t.ways ++ branches ∷ []) tail a m whole h.1,
      subst (AllIterations (run_late from) Late xs (spaced tail) (suc n)) (sym (iteration.runs m whole)) others,
    )

-- ---- parts, over functions whose trails are the same and that make their iterations

module _ (from : Sources) (f g : ℕ → List Step) (Called Late : ℕ → Run → Type 0)
    (each : (k : ℕ) → Same from (g k) (f k))
    (called : (k : ℕ) (m : Run) → IsWhole m → Called k m → Late k m)
    (AtReturn AtNewReturn : List PlainBundle → Run → Type 0)
    (at_return : (tail : List PlainBundle) (m : Run) → IsWhole m → AtReturn tail m → AtNewReturn (spaced tail) m) where
  mutual
    part_iterations : (p : PlainPart) (m : Run) → IsWhole m → PartGoes (run from) f Called AtReturn p m
        → PartGoes (run_late from) g Late AtNewReturn (part_placed p) m
    part_iterations (straight bs) m whole h = tt
    part_iterations (repeats count body tail) m whole h =
        iterations_same (λ t. PartsGo (run from) f Called AtReturn body t)
        (λ t. PartsGo (run_late from) g Late AtNewReturn (parts_placed body) t) tail (same_parts f g each body)
        (λ t whole h. parts_iteration body t whole h) count m whole h
    part_iterations (calls_to k tail) m whole h =
        let way = same_then (same_bundles from tail) (same_begun (same_nothing from)) in
        subst (Late k) (sym (way.runs m whole)) (called k (run from (all_done tail ++ begins ∷ []) m)
        (way.whole m whole) h)
    part_iterations (leaves tail) m whole h = at_return tail m whole h

    pub parts_iteration : (ps : PlainParts) (m : Run) → IsWhole m → PartsGo (run from) f Called AtReturn ps m
        → PartsGo (run_late from) g Late AtNewReturn (parts_placed ps) m
    parts_iteration no_part m whole h = tt
    parts_iteration (part p rest) m whole h =
        let before = same_part f g each p in (
          part_iterations p m whole h.0,
          subst (PartsGo (run_late from) g Late AtNewReturn (parts_placed rest)) (sym (before.runs m whole))
              (parts_iteration rest (run from (part_trail f p) m) (before.whole m whole) h.1),
        )

-- ---- functions and shapes

-- what is said by a test
pub chosen : {A B C D : Type 0} (b : Bool) → (A → C) → (B → D) → MatchBool b A B → MatchBool b C D
chosen true here there h = here h
chosen false here there h = there h

-- a return goes where it went
returns_left : (from : Sources) (back : Back) (tail : List PlainBundle) (m : Run) → IsWhole m
    → Returns (run from) tail back m
    → Returns (run_late from) (spaced tail) back m
returns_left from back tail m whole h =
    subst (λ t. t.ways ≡ m.ways ++ returns back.base back.offset ∷ []) (sym ((same_bundles from tail).runs m whole)) h

module _ (from : Sources) (AtReturn AtNewReturn : Run → List PlainBundle → Run → Type 0)
    (at_return : (begun : Run) (tail : List PlainBundle) (m : Run) → IsWhole m → AtReturn begun tail m
    → AtNewReturn begun (spaced tail) m) where
  functions_go : (fs : List PlainParts) (n k : ℕ) (m : Run) → IsWhole m → FunctionsGo (run from) AtReturn fs n k m
      → FunctionsGo (run_late from) AtNewReturn (map parts_placed fs) n k m
  functions_go fs zero k m whole h = tt
  functions_go fs (suc n) k m whole h =
      let gs = map parts_placed fs in
      let own = λ (own : PartsGo (run from) (trails fs n) (FunctionsGo (run from) AtReturn fs n) (AtReturn m)
      (slice_index_or fs n no_part) m).
      subst (λ ps. PartsGo (run_late from) (trails gs n) (FunctionsGo (run_late from) AtNewReturn gs n) (AtNewReturn m)
      ps m) (sym (placed_at fs n))
      (parts_iteration from (trails fs n) (trails gs n) (FunctionsGo (run from) AtReturn fs n)
      (FunctionsGo (run_late from) AtNewReturn gs n) (same_functions from fs n)
      (λ j t whole h. functions_go fs n j t whole h) (AtReturn m) (AtNewReturn m) (at_return m)
      (slice_index_or fs n no_part) m whole own) in
      chosen (k == n) own (λ other. functions_go fs n k m whole other) h

  shape_goes : (s t : PlainShape) → t ≡ placed s → (m : Run) → IsWhole m → FunctionsGo (run from) AtReturn s.functions
      (length s.functions) s.entry m
      → FunctionsGo (run_late from) AtNewReturn t.functions (length t.functions) t.entry m
  shape_goes s t told m whole h =
      subst (λ (x : PlainShape). FunctionsGo (run_late from) AtNewReturn x.functions (length x.functions) x.entry m)
      (sym told)
      (subst (λ n. FunctionsGo (run_late from) AtNewReturn (map parts_placed s.functions) n s.entry m)
      (sym (length-map s.functions parts_placed))
      (functions_go s.functions (length s.functions) s.entry m whole h))

pub spaced_iterations : (s t : PlainShape) → t ≡ placed s → (from : Sources) (m : Run) → IsWhole m
    → ShapeIterations (run from) s m → ShapeIterations (run_late from) t m
spaced_iterations s t told from m whole h =
    shape_goes from (λ begun tail t. Returns (run from) tail (back_of begun) t)
    (λ begun tail t. Returns (run_late from) tail (back_of begun) t) (λ begun. returns_left from (back_of begun)) s
    t told m whole h

pub spaced_loops : (s t : PlainShape) → t ≡ placed s → (from : Sources) (m : Run) → IsWhole m
    → ShapeLoops (run from) s m → ShapeLoops (run_late from) t m
spaced_loops s t told from m whole h = shape_goes from (λ begun tail t. Unit {0}) (λ begun tail t. Unit {0})
    (λ begun tail t whole h. tt) s t told m whole h
