-- The memories that a program's task begins with hold words.
use Rattle.std.proofs.Common.{ℕ, ◌-◌, ◌<◌, ◌^◌, nat_le, ◌&&◌, Bool, true, false, if◌then◌else◌, List, length, slice_index, arith}
use Rattle.std.specs.Prelude.{nat_lt}
use Rattle.std.specs.List.{AllByRecursion as Each}
use Rattle.slot_arbiter.specs.declared.place.Place.{Place}
use Rattle.patmos_model.specs.Range.{IsWord}
use Rattle.patmos_model.proofs.HeldWords.{each_index}
use Rattle.sp_tree.specs.Begun.{laid, first_private}
use Rattle.sp_tree.specs.Statements.{PlainUnit}
use Rattle.task_words.specs.Meant.{HasWorld}
use Rattle.c_task.specs.Translation.{IsWorld}

first_words : (initial : List ℕ) → Each IsWord initial → (word : ℕ) → IsWord (first_private initial word)
first_words initial fit word = by (nat_le 4 word)
  where
    by : (b : Bool) → IsWord (if b then slice_index initial (word - 4) else 0)
    by true = each_index initial (word - 4) fit
    by false = omega arith

laid_words : (at room : ℕ) (words : List ℕ) (under : ℕ → ℕ) → Each IsWord words → ((word : ℕ) → IsWord (under word))
    → (word : ℕ) → IsWord (laid at room words under word)
laid_words at room words under fit below word =
    by (nat_le at word && (nat_lt (word - at) room && nat_lt (word - at) (length words)))
  where
    by : (b : Bool) → IsWord (if b then slice_index words (word - at) else under word)
    by true = each_index words (word - at) fit
    by false = below word

pub world_held : (u : PlainUnit) (place : Place) (input : List ℕ) (world : ℕ → ℕ) → Each IsWord u.initial
    → Each IsWord input → IsWorld world → HasWorld u place input world
world_held u place input world initial given words = record {
  scratch = λ word. let few : 0 < 2 ^ 32 = omega arith in few;
  comm = λ word. words _;
  private = laid_words u.input_at u.input_room input (first_private u.initial) given (first_words u.initial initial);
  shared = words;
}
