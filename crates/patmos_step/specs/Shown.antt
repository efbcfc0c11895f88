-- To be believed. What a core's fields mean: the plain part of its state, and the histories that they stand for.
use Rattle.std.specs.Prelude.{◌≡◌, take, slice_index, Option}
use Rattle.method_cache.specs.Residents as methods
use Rattle.data_cache.specs.Lines as lines
use Rattle.patmos_step.specs.declared.body.Body.{Body}
use Rattle.patmos_model.specs.declared.pending_store.PendingStore.{PendingStore}
use Rattle.patmos_model.specs.Apart.{site_of}
use Rattle.patmos_model.specs.State.{Plain, History, Core}
use Rattle.patmos_model.specs.Cells.{Acted}

-- the plain part of the state
abbrev pub plain_of : Body → Plain
plain_of b = record {
  site = site_of b.place b.image;
  regs = b.regs;
  stack = b.stack;
  scratch = slice_index b.store.scratch;
  private = slice_index b.store.private;
  interface = b.ni.interface;
  base = b.base;
  offset = b.offset;
  flow = b.flow;
  transfer = b.transfer;
  free = b.free;
  status = b.status;
}

-- the fields stand for a history: the caches hold what it leaves in them, and the trace is its first
-- transactions
pub record Shows (b : Body) (h : History) : Type 0 where
  pub misses : methods.StandsFor h.misses b.methods
  pub cached : lines.StandsFor h.cached b.cache
  pub trace : b.trace.items ≡ take b.room h.accesses

-- the state of a core whose history this is
abbrev pub core_of : Body → History → Core
core_of b h = record { plain = plain_of b; seen = h }

-- the core stands in this state
pub record IsAt (b : Body) (c : Core) : Type 0 where
  pub seen : History
  pub shows : Shows b seen
  pub same : c ≡ core_of b seen

-- the core stands in this state, with this store pending
pub record IsActed (b : Body) (left : Option PendingStore) (a : Acted) : Type 0 where
  pub at : IsAt b a.core
  pub leaves : a.pending_store ≡ left

-- the core keeps its place, and its trace its room
pub record IsFramed (b b' : Body) : Type 0 where
  pub place : b'.place ≡ b.place
  pub room : b'.room ≡ b.room

-- so it does, and its interface is as it was
pub record KeepsInterface (b b' : Body) : Type 0 where
  pub ni : b'.ni ≡ b.ni
  pub frame : IsFramed b b'

-- no more than the plain part of its state may differ
pub record OnlyPlain (b b' : Body) : Type 0 where
  pub shows : (h : History) → Shows b h → Shows b' h
  pub keeps : KeepsInterface b b'

-- only the stack and private memory may differ
pub record SameBut (b b' : Body) : Type 0 where
  pub plain : plain_of b' ≡ record (plain_of b) { stack = b'.stack; private = slice_index b'.store.private }
  pub only : OnlyPlain b b'
