-- To be believed. What a machine is started with.
use Rattle.std.specs.Prelude.{◌≡◌, ℕ, ◌<◌, ◌≤◌, List, length, slice_get, IfSome}
use Rattle.slot_arbiter.specs.declared.event.TheConstants.{MOST_TRACE}
use Rattle.slot_arbiter.specs.declared.place.TheConstants.{MOST_CYCLES}
use Rattle.slot_arbiter.specs.declared.place.Place.{Place}
use Rattle.global_step.specs.declared.loaded.LoadedCore.{LoadedCore}

-- the cores, the cycle limit, how many transactions of each core are told, and the number of workers
pub record Machine : Type 0 where
  pub cores : List LoadedCore
  pub limit : ℕ
  pub trace : ℕ
  pub workers : ℕ

-- the place is that of core k, of n, on the platform of another place
pub record IsBeside (n k : ℕ) (other place : Place) : Type 0 where
  pub cores : place.cores ≡ n
  pub core : place.core ≡ k
  pub slot : place.slot ≡ other.slot
  pub table : place.table ≡ other.table

-- the cores are those of another place's platform, all of them, in the order of their numbers
abbrev pub AreBeside : Place → List LoadedCore → Type 0
AreBeside other cores = (k : ℕ) → k < length cores →
    IfSome (slice_get cores k) (λ c. IsBeside (length cores) k other c.place)

-- the cores are those of one platform, the first one's
abbrev pub AreOnePlatform : List LoadedCore → Type 0
AreOnePlatform cores = IfSome (slice_get cores 0) (λ first. AreBeside first.place cores)

-- what a machine can be started with
pub record IsLoaded (cores : List LoadedCore) (limit trace workers : ℕ) : Type 0 where
  pub platform : AreOnePlatform cores
  pub some_cycle : 1 ≤ limit
  pub most_cycles : limit ≤ MOST_CYCLES
  pub most_trace : trace ≤ MOST_TRACE
  pub some_worker : 1 ≤ workers
  pub most_workers : workers ≤ length cores
