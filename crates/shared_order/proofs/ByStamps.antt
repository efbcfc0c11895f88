-- The machine by cycles is the machine by stamps, and so is each run apart.
use Rattle.std.proofs.Common.{◌≡◌, ℕ, zero, suc, ◌+◌, ◌-◌, ◌*◌, ◌/◌, ◌%◌, ◌<◌, ◌≤◌, false, List, ◌==◌, sym, ap, ◌∙◌, eq-eqb, ne_eqb, arith}
use Rattle.std.proofs.lemmas.Nat.{mod-mul-add, div-mul-add}
use Rattle.slot_arbiter.specs.Stamp.{stamp}
use Rattle.shared_order.specs.Program.{Prog, played, fed}
use Rattle.shared_order.specs.Machine.{State, moved, turn_of, turns_below, cycle_of, cycled}
use Rattle.shared_order.specs.Apart.{Alone, gone_on, turn_apart, apart}
use Rattle.shared_order.specs.Stamps.{act_at, stepped, machine, run_apart}
use Rattle.shared_order.proofs.Runs.{stepped_own, stepped_other}

module _ {X : Type 0} (turn : ℕ → ℕ → X → Prog X) (n : ℕ) where
  -- a stamp tells its core, its phase and its cycle
  pub core_of : (core cycle phase : ℕ) → core < n → stamp n core cycle phase % n ≡ core
  core_of core cycle phase among = mod-mul-add (2 * cycle + phase) n core among

  half_of : (core cycle phase : ℕ) → core < n → stamp n core cycle phase / n ≡ cycle * 2 + phase
  half_of core cycle phase among = div-mul-add (2 * cycle + phase) n core among ∙ omega arith

  phase_of : (core cycle phase : ℕ) → core < n → phase ≤ 1 → stamp n core cycle phase / n % 2 ≡ phase
  phase_of core cycle phase among in_phase =
      ap (λ h. h % 2) (half_of core cycle phase among) ∙ mod-mul-add cycle 2 phase (omega (arith, in_phase))

  cycle_at : (core cycle phase : ℕ) → core < n → phase ≤ 1 → stamp n core cycle phase / n / 2 ≡ cycle
  cycle_at core cycle phase among in_phase =
      ap (λ h. h / 2) (half_of core cycle phase among) ∙ div-mul-add cycle 2 phase (omega (arith, in_phase))

  pub act_here : (core cycle phase : ℕ) → core < n → phase ≤ 1 → (x : X) → act_at turn n (stamp n core cycle phase) x
      ≡ turn phase cycle x
  act_here core cycle phase among in_phase x =
      λ i. turn (phase_of core cycle phase among in_phase i) (cycle_at core cycle phase among in_phase i) x

  step_here : (core cycle phase : ℕ) → core < n → phase ≤ 1 → (m : State X)
      → stepped (act_at turn n) n (stamp n core cycle phase) m ≡ turn_of turn n cycle phase core m
  step_here core cycle phase among in_phase m = λ i.
      moved (core_of core cycle phase among i)
      (played (stamp n core cycle phase) (turn (phase_of core cycle phase among in_phase i)
      (cycle_at core cycle phase among in_phase i) (m.cores (core_of core cycle phase among i))) m.words) m

  -- the turns of the cores below `core` are the stamps below its own
  turns_here : (cores : ℕ → X) (core cycle phase : ℕ) → core ≤ n → phase ≤ 1
      → machine (act_at turn n) n cores (stamp n core cycle phase) ≡ turns_below turn n core cycle phase (machine
      (act_at turn n) n cores ((2 * cycle + phase) * n))
  turns_here cores zero cycle phase among in_phase = ap (machine (act_at turn n) n cores) (omega arith)
  turns_here cores (suc core) cycle phase among in_phase =
      let next : stamp n (suc core) cycle phase ≡ suc (stamp n core cycle phase) = omega arith in
      ap (machine (act_at turn n) n cores) next
      ∙ step_here core cycle phase (omega arith) in_phase (machine (act_at turn n) n cores (stamp n core cycle phase))
      ∙ ap (turn_of turn n cycle phase core) (turns_here cores core cycle phase (omega arith) in_phase)

  pub by_stamps : (cores : ℕ → X) (t : ℕ) → cycled turn n cores t ≡ machine (act_at turn n) n cores (2 * t * n)
  by_stamps cores zero = let none : 0 ≡ 2 * 0 * n = omega arith in ap (machine (act_at turn n) n cores) none
  by_stamps cores (suc t) =
      let first_half : 2 * t * n ≡ (2 * t + 0) * n = omega arith in
      let second_half : stamp n n t 0 ≡ (2 * t + 1) * n = omega arith in
      let whole : stamp n n t 1 ≡ 2 * suc t * n = omega arith in
      ap (cycle_of turn n t) (by_stamps cores t ∙ ap (machine (act_at turn n) n cores) first_half)
      ∙ ap (turns_below turn n n t 1) (sym (turns_here cores n t 0 (omega arith) (omega arith))
      ∙ ap (machine (act_at turn n) n cores) second_half)
      ∙ sym (turns_here cores n t 1 (omega arith) (omega arith)) ∙ ap (machine (act_at turn n) n cores) whole

  -- ---- the run apart

  -- at the stamps of others a core stands still
  pub still : (core : ℕ) (x : X) (values : List ℕ) (s d : ℕ) → ((u : ℕ) → s ≤ u → u < s + d → (u % n == core) ≡ false)
      → run_apart (act_at turn n) n core x values (s + d) ≡ run_apart (act_at turn n) n core x values s
  still core x values s zero others = ap (run_apart (act_at turn n) n core x values) (omega arith)
  still core x values s (suc d) others =
      let next : s + suc d ≡ suc (s + d) = omega arith in
      ap (run_apart (act_at turn n) n core x values) next
      ∙ stepped_other (act_at turn n) n core (s + d) (run_apart (act_at turn n) n core x values (s + d)) (others (s + d)
      (omega arith) (omega arith))
      ∙ still core x values s d (λ u from below. others u from (omega arith))

  -- within one phase of one cycle, only one stamp is the core's
  pub other_here : (core cycle phase u : ℕ) → (2 * cycle + phase) * n ≤ u → u < (2 * cycle + phase) * n + n
      → (u ≡ stamp n core cycle phase → ⊥) → (u % n == core) ≡ false
  other_here core cycle phase u from below away =
      let base : ℕ = (2 * cycle + phase) * n in
      let at : u ≡ base + (u - base) = omega arith in
      ne_eqb (u % n) core
      (λ e. away (at
      ∙ ap (λ k. base + k) (sym (ap (λ v. v % n) at ∙ mod-mul-add (2 * cycle + phase) n (u - base)
      (omega arith)) ∙ e)))

  turn_here : (core : ℕ) (x : X) (values : List ℕ) (cycle phase : ℕ) → core < n → phase ≤ 1
      → run_apart (act_at turn n) n core x values ((2 * cycle + phase) * n + n)
      ≡ turn_apart turn n cycle phase core (run_apart (act_at turn n) n core x values ((2 * cycle + phase) * n))
  turn_here core x values cycle phase among in_phase =
      let base : ℕ = (2 * cycle + phase) * n in
      let s : ℕ = stamp n core cycle phase in
      let run : ℕ → Alone X = run_apart (act_at turn n) n core x values in
      let whole : base + n ≡ suc s + (n - suc core) = omega arith in
      ap run whole
      ∙ still core x values (suc s) (n - suc core) (λ u from below. other_here core cycle phase u (omega arith)
      (omega arith) (λ e. omega arith))
      ∙ stepped_own (act_at turn n) n core s (run s) (eq-eqb (s % n) core (core_of core cycle phase among))
      ∙ (λ i. gone_on (fed s (turn (phase_of core cycle phase among in_phase i)
      (cycle_at core cycle phase among in_phase i) (run s).core) (run s).left) (run s).made)
      ∙ ap (turn_apart turn n cycle phase core) (still core x values base core
      (λ u from below. other_here core cycle phase u (omega arith) (omega arith) (λ e. omega arith)))

  pub apart_by_stamps : (core : ℕ) (x : X) (values : List ℕ) (t : ℕ) → core < n → apart turn n core x values t
      ≡ run_apart (act_at turn n) n core x values (2 * t * n)
  apart_by_stamps core x values zero among =
      let none : 0 ≡ 2 * 0 * n = omega arith in ap (run_apart (act_at turn n) n core x values) none
  apart_by_stamps core x values (suc t) among =
      let run : ℕ → Alone X = run_apart (act_at turn n) n core x values in
      let first_half : 2 * t * n ≡ (2 * t + 0) * n = omega arith in
      let second_half : (2 * t + 0) * n + n ≡ (2 * t + 1) * n = omega arith in
      let whole : (2 * t + 1) * n + n ≡ 2 * suc t * n = omega arith in
      ap (λ a. turn_apart turn n t 1 core (turn_apart turn n t 0 core a)) (apart_by_stamps core x values t among
      ∙ ap run first_half)
      ∙ ap (turn_apart turn n t 1 core) (sym (turn_here core x values t 0 among (omega arith)) ∙ ap run second_half)
      ∙ sym (turn_here core x values t 1 among (omega arith)) ∙ ap run whole
