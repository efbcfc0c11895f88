-- To be believed. The world that memories in code show. The sends that were started before are not kept there.
use Rattle.std.specs.Prelude.{ℕ, List, vec_len, slice_index}
use Rattle.local_store.specs.declared.map.TheConstants.{COMM_WORDS, SHARED_WORDS}
use Rattle.local_store.specs.declared.store.TheConstants.{SCRATCH_WORDS}
use Rattle.c_world.specs.World.{World, Sending}
use Rattle.c_world.specs.declared.region.Region.{Region}
use Rattle.c_world.specs.declared.region.Region.TheVariants as region
use Rattle.c_world.specs.declared.memory.Memory.{Memory}

abbrev pub shown : Memory → List Sending → World
shown m sends = record {
  scratch = slice_index m.scratch.items;
  comm = slice_index m.comm.items;
  private = slice_index m.private.items;
  shared = slice_index m.shared.items;
  overrun = m.overrun;
  sends = sends;
}

-- how many words each memory has
pub record Rooms : Type 0 where
  pub scratch : ℕ
  pub comm : ℕ
  pub private : ℕ
  pub shared : ℕ

abbrev pub room_in : Region → Rooms → ℕ
room_in region.Scratch r = r.scratch
room_in region.Comm r = r.comm
room_in region.Private r = r.private
room_in region.Shared r = r.shared

abbrev pub rooms : Memory → Rooms
rooms m = record {
  scratch = vec_len m.scratch;
  comm = vec_len m.comm;
  private = vec_len m.private;
  shared = vec_len m.shared;
}

-- new memories have so many words of private memory
abbrev pub fresh_rooms : ℕ → Rooms
fresh_rooms private = record { scratch = SCRATCH_WORDS; comm = COMM_WORDS; private = private; shared = SHARED_WORDS }
