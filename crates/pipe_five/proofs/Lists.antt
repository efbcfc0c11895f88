-- Bundles of a run, and what is held of them.
use Rattle.std.proofs.Common.{◌≡◌, ℕ, zero, suc, ◌+◌, ◌-◌, ◌≤◌, List, [], ◌∷◌, ◌++◌, Some, option_map, length, drop, slice_index, replicate, ◌==◌, true, false, if◌then◌else◌, refl, sym, ap, ◌∙◌, subst, append_assoc, arith, length-append}
use Rattle.std.proofs.Math.Seq.{drop-append_seam}
use Rattle.tc_word.proofs.Items.{zero_at}
use Rattle.patmos_sem.specs.Registers.{at_start}
use Rattle.patmos_model.specs.State.{Core}
use Rattle.core_pace.specs.Moment.{Done, done_in}
use Rattle.pipe_five.specs.Steps.{core_before, done_below, first_of, place_of, found_by}
use Rattle.pipe_five.specs.Stages.{held, file_of, written_in}
use Rattle.pipe_five.specs.Latches.{shifted, latched, word_in}
use Rattle.pipe_five.proofs.Cycles.{later_by, later_sum}

-- ---- the bundles done so far are the first of all

pub record IsLonger (all few : List Done) : Type 0 where
  pub newer : List Done
  pub is : all ≡ newer ++ few

pub below_longer : (x : Core) (t cycles : ℕ) → IsLonger (done_below x (later_by cycles t)) (done_below x t)
below_longer x t zero = record { newer = []; is = refl }
below_longer x t (suc cycles) =
    let before : IsLonger (done_below x (later_by cycles t)) (done_below x t) = below_longer x t cycles in
    let new : List Done = done_in (later_by cycles t) (core_before x (later_by cycles t)) in
    record {
      newer = new ++ before.newer;
      is = ap (λ l. new ++ l) before.is
          ∙ sym (append_assoc new before.newer (done_below x t));
    }

pub longer : (x : Core) (t limit : ℕ) → t ≤ limit → IsLonger (done_below x limit) (done_below x t)
longer x t limit within =
    let sum : later_by (limit - t) t ≡ limit - t + t = later_sum (limit - t) t in
    let far : later_by (limit - t) t ≡ limit = omega (arith, sum, within) in
    subst (λ u. IsLonger (done_below x u) (done_below x t)) far (below_longer x t (limit - t))

pub first_below : (x : Core) (t limit k : ℕ) → t ≤ limit → length (done_below x t) ≡ k → first_of k (done_below x limit)
    ≡ done_below x t
first_below x t limit k within count =
    let more : IsLonger (done_below x limit) (done_below x t) = longer x t limit within in
    let many : length (done_below x limit) - k ≡ length more.newer =
    (let whole : length (done_below x limit) ≡ length more.newer + length (done_below x t) = ap length more.is
    ∙ length-append more.newer (done_below x t) in omega (arith, whole, count)) in
    ap (λ n. drop n (done_below x limit)) many ∙ ap (drop (length more.newer)) more.is
    ∙ drop-append_seam more.newer (done_below x t)

pub no_fewer : (x : Core) (t limit : ℕ) → t ≤ limit → length (done_below x t) ≤ length (done_below x limit)
no_fewer x t limit within =
    let more : IsLonger (done_below x limit) (done_below x t) = longer x t limit within in
    let whole : length (done_below x limit) ≡ length more.newer + length (done_below x t) =
    ap length more.is ∙ length-append more.newer (done_below x t) in
    omega (arith, whole)

-- ---- what is held

-- the next bundle comes into execute
pub shifts : (x : Core) (d : Done) (before : List Done) → shifted (Some (place_of d)) (found_by x d) (latched x before)
    ≡ latched x (d ∷ before)
shifts x d [] = refl
shifts x d (e ∷ []) = refl
shifts x d (e ∷ f ∷ []) = refl
shifts x d (e ∷ f ∷ g ∷ before) = refl

begins_with : (r : ℕ) → written_in at_start r ≡ 0
begins_with r = elim (r == 0) as (λ b. (if b then 0 else slice_index (replicate 32 0) r) ≡ 0)
    [ true ↦ refl | false ↦ zero_at 32 r ]

pub file_held : (x : Core) (bundles : List Done) (r : ℕ) → word_in (latched x bundles) r ≡ file_of x bundles r
file_held x [] r = begins_with r
file_held x (d ∷ []) r = begins_with r
file_held x (d ∷ e ∷ []) r = begins_with r
file_held x (d ∷ e ∷ f ∷ before) r = refl

-- the place in memory
pub memory_held : (x : Core) (bundles : List Done) → option_map (λ latch. latch.place) (latched x bundles).memory
    ≡ held 1 bundles
memory_held x [] = refl
memory_held x (d ∷ []) = refl
memory_held x (d ∷ e ∷ before) = refl
