-- To be believed. What a shape may have so that it can be an image (our own profile TP1).
use Rattle.std.specs.Prelude.{ℕ, ◌+◌, ◌-◌, ◌<◌, ◌≤◌, length}
use Rattle.local_store.specs.declared.store.TheConstants.{DATA_WORDS, FIRST_DATA_WORD}
use Rattle.patmos_code.specs.declared.images.TheConstants.{MOST_IN_FUNCTION, MOST_IN_IMAGE}
use Rattle.sp_shape.specs.Parts.{PlainShape}
use Rattle.tc_link.specs.Placed.{size_of, image_size}

pub record FitsImage (s : PlainShape) : Type 0 where
  -- each function fits the method cache, and all of them, with their sizes, the code store
  pub small : (k : ℕ) → k < length s.functions → size_of s k ≤ MOST_IN_FUNCTION
  pub within : image_size s ≤ MOST_IN_IMAGE
  -- the initial words, from private word 4 on, end where the stack begins
  pub initial : length s.initial ≤ DATA_WORDS - FIRST_DATA_WORD
  -- so does the room for the input, and it leaves private words 0 to 3 alone
  pub input_from : 4 ≤ s.input_at
  pub input_room : s.input_at + s.input_room ≤ DATA_WORDS
