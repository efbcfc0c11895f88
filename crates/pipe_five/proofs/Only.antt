-- The machine of all cores that is loaded with one core alone.
use Rattle.std.proofs.Common.{◌≡◌, ℕ, zero, suc, List, [], ◌∷◌, length, refl, ap, ◌∙◌}
use Rattle.slot_arbiter.specs.Stamp.{stamp}
use Rattle.shared_order.specs.Words.{after}
use Rattle.shared_order.specs.Program.{Played, played}
use Rattle.shared_order.specs.Machine.{cycled}
use Rattle.patmos_model.specs.State.{Core}
use Rattle.patmos_model.specs.Cycle.{turn}
use Rattle.patmos_model.specs.Outcome.{state_at}
use Rattle.global_step.specs.declared.loaded.LoadedCore.{LoadedCore}
use Rattle.global_step.specs.Loaded.{Machine}
use Rattle.global_step.specs.Machine.{machine, core_among, first_core, outcome_of}
use Rattle.pipe_five.specs.Steps.{core_before, words_before}

-- what core 0 and the words become in a cycle depends on them alone
abbrev first_phase : ℕ → Core → (ℕ → ℕ) → Played Core
first_phase t c words = played (stamp 1 0 t 0) (turn 0 t c) words

abbrev second_phase : ℕ → Core → (ℕ → ℕ) → Played Core
second_phase t c words =
    played (stamp 1 0 t 1) (turn 1 t (first_phase t c words).core) (after (first_phase t c words).ops words)

record IsSame (cores : ℕ → Core) (x : Core) (t : ℕ) : Type 0 where
  core : (cycled turn 1 cores t).cores 0 ≡ core_before x t
  words : (cycled turn 1 cores t).words ≡ words_before x t

same_run : (cores : ℕ → Core) (x : Core) (t : ℕ) → cores 0 ≡ x → IsSame cores x t
same_run cores x zero is = record { core = is; words = refl }
same_run cores x (suc t) is =
    let before : IsSame cores x t = same_run cores x t is in
    record {
      core = λ i. (second_phase t (before.core i) (before.words i)).core;
      words = λ i. after (second_phase t (before.core i) (before.words i)).ops
          (after (first_phase t (before.core i) (before.words i)).ops (before.words i));
    }

loaded_alone : (m : Machine) (c : LoadedCore) (t : ℕ) → m.cores ≡ c ∷ [] → machine m t
    ≡ cycled turn 1 (core_among (c ∷ [])) t
unfolding machine
loaded_alone m c t only = ap (λ (cores : List LoadedCore). cycled turn (length cores) (core_among cores) t) only

pub only_core : (m : Machine) (c : LoadedCore) (t : ℕ) → m.cores ≡ c ∷ [] → (machine m t).cores 0
    ≡ core_before (first_core c) t
only_core m c t only =
    ap (λ s. s.cores 0) (loaded_alone m c t only) ∙ (same_run (core_among (c ∷ [])) (first_core c) t refl).core

pub only_words : (m : Machine) (c : LoadedCore) (t word : ℕ) → m.cores ≡ c ∷ [] → (machine m t).words word
    ≡ words_before (first_core c) t word
only_words m c t word only =
    ap (λ s. s.words word) (loaded_alone m c t only)
    ∙ (λ i. (same_run (core_among (c ∷ [])) (first_core c) t refl).words i word)

pub only_outcome : (m : Machine) (c : LoadedCore) → m.cores ≡ c ∷ [] → outcome_of m 0
    ≡ state_at m.limit (core_before (first_core c) m.limit).plain
only_outcome m c only = ap (λ (d : Core). state_at m.limit d.plain) (only_core m c m.limit only)
