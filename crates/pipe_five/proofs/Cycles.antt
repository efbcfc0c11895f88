-- A cycle of the machine of one core in which its interface does nothing.
use Rattle.std.proofs.Common.{◌≡◌, ℕ, zero, suc, ◌+◌, ◌*◌, ◌<◌, ◌≤◌, [], ◌++◌, refl, ap, ◌∙◌, arith}
use Rattle.slot_arbiter.specs.Stamp.{stamp}
use Rattle.shared_order.specs.Words.{after}
use Rattle.shared_order.specs.Program.{Prog, done, and_then, played}
use Rattle.argo_ni.specs.Interface.{Standing}
use Rattle.argo_ni.specs.Turn.{delivery, injection}
use Rattle.argo_ni.specs.Turn.{turn as turns}
use Rattle.argo_ni.proofs.Acts.{quiet_for_ever}
use Rattle.patmos_model.specs.State.{Core}
use Rattle.patmos_model.specs.Cells.{now}
use Rattle.patmos_model.specs.Cycle.{turn, own, settled, with_interface}
use Rattle.core_pace.specs.Moment.{done_in}
use Rattle.pipe_five.specs.Soundness.{NeverActs}
use Rattle.pipe_five.specs.Steps.{core_before, words_before, done_below}

-- an interface that never acts does nothing in either phase
pub never_turns : (s : Standing) → NeverActs s → (cycle phase : ℕ) → phase ≤ 1 → turns phase cycle s.interface
    ≡ done s.interface
never_turns s never cycle phase few =
    quiet_for_ever s.interface 0 (2 * cycle + phase + 1) never cycle phase few (omega arith) (omega arith)

-- nothing is delivered
pub first_quiet : (t : ℕ) (y : Core) → delivery t y.plain.interface ≡ done y.plain.interface → turn 0 t y ≡ done y
first_quiet t y none = ap (λ p. and_then p (λ i. done (with_interface y i))) none

-- nothing is injected
pub second_quiet : (t : ℕ) (y : Core) → injection t y.plain.interface ≡ done y.plain.interface → turn 1 t y
    ≡ and_then (own t y) settled
second_quiet t y none = ap (λ p. and_then (and_then p (λ i. own t (with_interface y i))) settled) none

pub at_rest : (t : ℕ) (y : Core) → own t y ≡ now y → and_then (own t y) settled ≡ done y
at_rest t y rests = ap (λ p. and_then p settled) rests

-- the core and the words after the cycle
pub next_core : (x : Core) (t : ℕ) (y : Core) (p : Prog Core) → turn 0 t (core_before x t) ≡ done y → turn 1 t y ≡ p
    → core_before x (suc t) ≡ (played (stamp 1 0 t 1) p (words_before x t)).core
next_core x t y p first second =
    ap (λ q. (played (stamp 1 0 t 1) (turn 1 t (played (stamp 1 0 t 0) q (words_before x t)).core)
    (after (played (stamp 1 0 t 0) q (words_before x t)).ops (words_before x t))).core) first
    ∙ ap (λ q. (played (stamp 1 0 t 1) q (words_before x t)).core) second

pub next_words : (x : Core) (t : ℕ) (y : Core) (p : Prog Core) → turn 0 t (core_before x t) ≡ done y → turn 1 t y ≡ p
    → words_before x (suc t) ≡ after (played (stamp 1 0 t 1) p (words_before x t)).ops (words_before x t)
next_words x t y p first second =
    ap (λ q. after (played (stamp 1 0 t 1) (turn 1 t (played (stamp 1 0 t 0) q (words_before x t)).core)
    (after (played (stamp 1 0 t 0) q (words_before x t)).ops (words_before x t))).ops
    (after (played (stamp 1 0 t 0) q (words_before x t)).ops (words_before x t))) first
    ∙ ap (λ q. after (played (stamp 1 0 t 1) q (words_before x t)).ops (words_before x t)) second

-- in the cycle nothing happens, and no bundle is done
pub record IsQuietIn (u : ℕ) (y : Core) : Type 0 where
  pub first : turn 0 u y ≡ done y
  pub second : turn 1 u y ≡ done y
  pub none : done_in u y ≡ []

-- so many quiet cycles later all is as it was
pub record IsAsBefore (x y : Core) (t later : ℕ) : Type 0 where
  pub core : core_before x later ≡ y
  pub words : (w : ℕ) → words_before x later w ≡ words_before x t w
  pub bundles : done_below x later ≡ done_below x t

-- so many cycles later
abbrev pub later_by : ℕ → ℕ → ℕ
later_by zero t = t
later_by (suc cycles) t = suc (later_by cycles t)

pub later_sum : (cycles t : ℕ) → later_by cycles t ≡ cycles + t
later_sum zero t = omega arith
later_sum (suc cycles) t = let before : later_by cycles t ≡ cycles + t = later_sum cycles t in omega (arith, before)

pub slept : (x y : Core) (t cycles : ℕ) → core_before x t ≡ y → ((u : ℕ) → t ≤ u → u < cycles + t → IsQuietIn u y)
    → IsAsBefore x y t (later_by cycles t)
slept x y t zero is quiet = record { core = is; words = λ w. refl; bundles = refl }
slept x y t (suc cycles) is quiet =
    let u : ℕ = later_by cycles t in
    let sum : u ≡ cycles + t = later_sum cycles t in
    let before : IsAsBefore x y t u = slept x y t cycles is (λ v from below. quiet v from (omega (arith, below))) in
    let here : IsQuietIn u y = quiet u (omega (arith, sum)) (omega (arith, sum)) in
    let first : turn 0 u (core_before x u) ≡ done y = ap (turn 0 u) before.core ∙ here.first in
    record {
      core = next_core x u y (done y) first here.second;
      words = λ w. (λ i. next_words x u y (done y) first here.second i w) ∙ before.words w;
      bundles = ap (λ c. done_in u c ++ done_below x u) before.core ∙ ap (λ l. l ++ done_below x u) here.none
          ∙ before.bundles;
    }
