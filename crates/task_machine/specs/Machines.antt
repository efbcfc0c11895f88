-- To be believed. Machines in which a core has a compiled task, and what the tasks of its other cores may change.
use Rattle.std.specs.Prelude.{◌≡◌, ◌≢◌, ℕ, ◌*◌, ◌^◌, ◌<◌, ◌≤◌, ◌⊎◌, List}
use Rattle.std.specs.List.{AllByRecursion as Each, Contains}
use Rattle.slot_arbiter.specs.declared.place.Place.{Place}
use Rattle.local_store.specs.declared.map.TheConstants.{COMM_WORDS}
use Rattle.argo_ni.specs.Packet.{comm_word}
use Rattle.shared_order.specs.Machine.{State, cycled}
use Rattle.patmos_model.specs.Apart.{site_of}
use Rattle.patmos_model.specs.Begin.{begun, idle}
use Rattle.patmos_model.specs.Cycle.{turn}
use Rattle.patmos_model.specs.Range.{IsWord, InRange}
use Rattle.patmos_model.specs.Site.{Site}
use Rattle.patmos_model.specs.State.{Core}
use Rattle.sp_tree.specs.Statements.{PlainUnit}
use Rattle.sp_tree.specs.Uses.{sends_to, uses_of}
use Rattle.tc_link.specs.Placed.{linked}
use Rattle.task_core.specs.Tasks.{code_of, IsRunnable, IsCode}
use Rattle.task_words.specs.Reach.{MayLoadWord, MayStoreWord}

-- the machine of these cores, so many cycles on
abbrev pub machine_after : ℕ → (ℕ → Core) → ℕ → State Core
machine_after n cores cycles = cycled turn n cores cycles

-- the core of the place has the compiled task of a tree with its input; all cores begin in
-- range, and the stamps of so many cycles have room
pub record HasTask (u : PlainUnit) (place : Place) (input : List ℕ) (words : ℕ) (cores : ℕ
    → Core) (cycles : ℕ) : Type 0 where
  pub runs : IsRunnable u place
  pub code : IsCode u
  pub given : Each IsWord input
  pub begins : cores place.core ≡ begun (site_of place (linked (code_of u))) input
  pub fits : (core : ℕ) → InRange words (cores core)
  pub room : 2 * cycles * place.cores ≤ 2 ^ 64

-- what is known of the task of a core: that there is none, nothing, or that it is compiled
pub data KnownTask : Type 0 where
  none : KnownTask
  unknown : KnownTask
  compiled : PlainUnit → KnownTask

-- a core begins so
pub record BeginsCompiled (n core : ℕ) (x : Core) (u : PlainUnit) : Type 0 where
  pub place : Place
  pub cores : place.cores ≡ n
  pub core_is : place.core ≡ core
  pub input : List ℕ
  pub given : Each IsWord input
  pub begins : x ≡ begun (site_of place (linked (code_of u))) input
  pub runs : IsRunnable u place
  pub code : IsCode u

abbrev pub BeginsAs : ℕ → ℕ → Core → KnownTask → Type 0
BeginsAs n core x none = (site : Site) × (x ≡ idle site)
BeginsAs n core x unknown = Unit {0}
BeginsAs n core x (compiled u) = BeginsCompiled n core x u

-- ---- who reaches which words

abbrev pub IsCommOf : ℕ → ℕ → Type 0
IsCommOf core word = (k : ℕ) × ((k < COMM_WORDS) × (word ≡ comm_word core k))

-- a word that the task of a core may store in, by itself or by its packets
abbrev pub MayChange : KnownTask → ℕ → ℕ → Type 0
MayChange none core word = ⊥
MayChange unknown core word = Unit {0}
MayChange (compiled u) core word =
    MayStoreWord (Contains (uses_of u)) core word
    ⊎ ((target : ℕ) × (Contains (uses_of u) (sends_to target) × IsCommOf target word))

-- the task of no other core may change a word that the tree reads
abbrev pub IsAlone : PlainUnit → ℕ → ℕ → (ℕ → KnownTask) → Type 0
IsAlone u n core tasks =
    (other : ℕ) → other < n → other ≢ core → (word : ℕ) → MayLoadWord (Contains (uses_of u)) core word
    → MayChange (tasks other) other word → ⊥
