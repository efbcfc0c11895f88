-- What a task's code asks for of words that other cores reach, its tree names.
use Rattle.std.proofs.Common.{◌≡◌, ℕ, ◌+◌, ◌<◌, ◌⊎◌, inl, inr, List, Some, refl, sym, subst}
use Rattle.std.specs.List.{AllByRecursion as Each}
use Rattle.c_world.specs.Shown.{room_in}
use Rattle.c_world.specs.declared.region.Region.{Region}
use Rattle.c_world.specs.declared.region.Region.TheVariants as region
use Rattle.patmos_instr.specs.declared.memories.Mem.{Mem}
use Rattle.patmos_instr.specs.declared.memories.Mem.TheVariants as mem
use Rattle.patmos_sem.specs.declared.effects.Effect.{Effect}
use Rattle.patmos_sem.specs.declared.effects.Effect.TheVariants as effect
use Rattle.sp_tree.specs.Formed.{all_rooms}
use Rattle.sp_tree.specs.Uses.{Use, sends_to}
use Rattle.sp_shape.specs.Memory.{cell_of}
use Rattle.sp_shape.specs.Run.{Run, Sources}
use Rattle.sp_shape.specs.Trail.{Step}
use Rattle.sp_emit.specs.Accesses.{IsReadPlace, IsStoredPlace, MayAsk}
use Rattle.sp_emit.specs.Expressions.{array_space}
use Rattle.sp_emit.proofs.Cells.{cell_in}
use Rattle.code_core.specs.Asked.{asks_in}
use Rattle.task_words.proofs.Passing.{all_pass}
use Rattle.code_words.specs.May.{MayLoadCell, MayStoreCell, MayReach, AllReach}
use Rattle.task_words.specs.Reach.{ReadsIn, WritesIn, MayLoadWord, MayStoreWord, MaySendTo}
use Rattle.task_core.proofs.Places.{at_read, at_stored}

module _ (Named : Use → Type 0) (few : (core : ℕ) → Named (sends_to core) → core < 16) (core : ℕ) where
  abbrev Load : ℕ → Type 0
  Load = MayLoadWord Named core

  abbrev Store : ℕ → Type 0
  Store = MayStoreWord Named core

  abbrev To : ℕ → Type 0
  To = MaySendTo Named

  cell_read : (r : Region) (word : ℕ) → word < room_in r all_rooms → ReadsIn Named r
      → MayLoadCell Load Store To core (Some (cell_in r word))
  cell_read region.Scratch word within reads = tt
  cell_read region.Comm word within reads = inr (word, (within, (refl, reads)))
  cell_read region.Private word within reads = tt
  cell_read region.Shared word within reads = inl (within, reads)

  cell_stored : (r : Region) (word : ℕ) → word < room_in r all_rooms → WritesIn Named r
      → MayStoreCell Load Store To core (Some (cell_in r word))
  cell_stored region.Scratch word within writes = tt
  cell_stored region.Comm word within writes = inr (word, (within, (refl, writes)))
  cell_stored region.Private word within writes = tt
  cell_stored region.Shared word within writes = inl (within, writes)

  -- word 0 of a memory is no word that others reach
  nothing_read : (r : Region) → MayLoadCell Load Store To core (cell_of (array_space r) 0)
  nothing_read region.Scratch = tt
  nothing_read _ = tt

  read_place : (space : Mem) (address : ℕ) → IsReadPlace Named space address
      → MayLoadCell Load Store To core (cell_of space address)
  read_place space address =
      at_read Named (MayLoadCell Load Store To core) space address
      (λ c named is within at. cell_read c.region c.word within (inl (c, (named, refl))))
      (λ a named index is within at. cell_read a.region (a.first + index) within (inr (a, (named, refl))))
      (λ r is. subst (λ s. MayLoadCell Load Store To core (cell_of s 0)) (sym is) (nothing_read r))

  spare_stored : (space : Mem) → (space ≡ mem.C) ⊎ (space ≡ mem.M) → MayStoreCell Load Store To core (cell_of space 0)
  spare_stored space (inl is) = subst (λ s. MayStoreCell Load Store To core (cell_of s 0)) (sym is) tt
  spare_stored space (inr is) = subst (λ s. MayStoreCell Load Store To core (cell_of s 0)) (sym is) tt

  stored_place : (space : Mem) (address : ℕ) → IsStoredPlace Named space address
      → MayStoreCell Load Store To core (cell_of space address)
  stored_place space address =
      at_stored Named (MayStoreCell Load Store To core) space address few
      (λ c named is within at. cell_stored c.region c.word within (inl (c, (named, refl))))
      (λ a named index is within at. cell_stored a.region (a.first + index) within (inr (a, (named, refl))))
      (spare_stored space) (λ core register named within is. named)

  reach_ask : (e : Effect) → MayAsk Named e → MayReach Load Store To core e
  reach_ask (effect.Load mem.L width rd address) may = read_place mem.L address may.1
  reach_ask (effect.Load mem.C width rd address) may = read_place mem.C address may.1
  reach_ask (effect.Load mem.M width rd address) may = read_place mem.M address may.1
  reach_ask (effect.Store mem.L width address value) may = stored_place mem.L address may.1
  reach_ask (effect.Store mem.C width address value) may = stored_place mem.C address may.1
  reach_ask (effect.Store mem.M width address value) may = stored_place mem.M address may.1
  reach_ask _ may = tt

  pub all_reach : (from : Sources) (steps : List Step) (m : Run) → Each (MayAsk Named) (asks_in from steps m)
      → AllReach Load Store To core from steps m
  all_reach = all_pass (MayAsk Named) (MayReach Load Store To core) reach_ask tt (λ kind. tt)
