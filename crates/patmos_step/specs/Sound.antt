-- For proofs. What a core's fields keep, apart from what they mean.
use Rattle.std.specs.Prelude.{◌≡◌, length}
use Rattle.slot_arbiter.specs.declared.place.Place.{Place}
use Rattle.local_store.specs.declared.store.TheConstants.{PRIVATE_WORDS, SCRATCH_WORDS}
use Rattle.local_store.specs.Memory.{Memory}
use Rattle.argo_ni.specs.Interface.{Standing}

-- the interface is that of the core at the place
pub record IsPortOf (place : Place) (ni : Standing) : Type 0 where
  pub cores : ni.interface.cores ≡ place.cores
  pub core : ni.interface.core ≡ place.core

-- the memories have all their words
pub record HasAllWords (m : Memory) : Type 0 where
  pub scratch : length m.scratch ≡ SCRATCH_WORDS
  pub private : length m.private ≡ PRIVATE_WORDS
