-- To be believed. A core before the first cycle. All registers but p0 and all memories are 0, but for the image's
-- initial words and the input. The words of its first function are to be fetched, from the task's
-- start on.
use Rattle.std.specs.Prelude.{ℕ, ◌+◌, ◌-◌, true, false, ◌&&◌, nat_le, nat_lt, List, [], ◌∷◌, take, length, None, slice_index}
use Rattle.shared_order.specs.Words.{zeros}
use Rattle.stack_cache.specs.Stack.{empty}
use Rattle.argo_ni.specs.Interface.{new_interface}
use Rattle.patmos_code.specs.Images.{Parts}
use Rattle.patmos_sem.specs.Registers.{at_start}
use Rattle.patmos_model.specs.declared.state.Status.{Status}
use Rattle.patmos_model.specs.declared.state.Status.TheVariants.{Idle, Running}
use Rattle.patmos_model.specs.Site.{Site, method_at}
use Rattle.patmos_model.specs.State.{Core, Plain}
use Rattle.patmos_model.specs.Transfers.{nothing}
use Rattle.patmos_model.specs.Flows.{fetch_of}

-- the memory with these words from a place on
abbrev pub overlaid : ℕ → List ℕ → (ℕ → ℕ) → ℕ → ℕ
overlaid from words memory word = elim (nat_le from word && nat_lt word (from + length words)) [
  | true ↦ slice_index words (word - from)
  | false ↦ memory word
]

-- private memory at the start: the initial words from word 4 on, and over them the input, as far as
-- there is room for it
abbrev pub first_private : Parts → List ℕ → ℕ → ℕ
first_private image input =
    overlaid image.input_at (take image.input_room input) (overlaid 4 image.initial zeros)

-- the place of the first function, which the task begins with
abbrev pub entry : Parts → ℕ
entry image = slice_index image.starts 0

-- a core that has done nothing, with or without a task
abbrev pub fresh : Status → Site → (ℕ → ℕ) → Plain
fresh status site private = record {
  site = site;
  regs = at_start;
  stack = empty;
  scratch = zeros;
  private = private;
  interface = new_interface site.cores site.core;
  base = entry site.image;
  offset = 0;
  flow = None;
  transfer = nothing;
  free = site.start;
  status = status;
}

-- a core with a task and its input
abbrev pub begun : Site → List ℕ → Core
begun site input = record {
  plain = record (fresh Running site (first_private site.image input)) {
    transfer = fetch_of [] (method_at site.image (entry site.image));
  };
  seen = record {
    misses = method_at site.image (entry site.image) ∷ [];
    cached = [];
    accesses = [];
    sendings = [];
  };
}

-- a core without one
abbrev pub idle : Site → Core
idle site = record {
  plain = fresh Idle site zeros;
  seen = record { misses = []; cached = []; accesses = []; sendings = [] };
}

-- the image of a core without one
abbrev pub no_code : Parts
no_code = record { words = []; starts = []; initial = []; input_at = 4; input_room = 0 }
