-- To be believed. What a C task works on: the words of its memories, the flag of a loop
-- that went past its bound, and its sends.
use Rattle.std.specs.Prelude.{ℕ, ◌+◌, nat_le, nat_lt, Bool, false, ◌&&◌, ◌||◌, if◌then◌else◌, List, [], ◌∷◌, ◌++◌}
use Rattle.shared_order.specs.Words.{put}
use Rattle.local_store.specs.declared.map.TheConstants.{COMM_WORDS}
use Rattle.c_world.specs.declared.region.Region.{Region}
use Rattle.c_world.specs.declared.region.Region.TheVariants as region

-- a send that started: so many words from a word of the own communication memory to a word of another core's
pub record Sending : Type 0 where
  pub core : ℕ
  pub source : ℕ
  pub target : ℕ
  pub count : ℕ

-- the words of each memory, by their numbers; whether a loop went past its bound; the sends that started, in order
pub record World : Type 0 where
  pub scratch : ℕ → ℕ
  pub comm : ℕ → ℕ
  pub private : ℕ → ℕ
  pub shared : ℕ → ℕ
  pub overrun : Bool
  pub sends : List Sending

-- all words are 0, and no loop went past its bound
abbrev pub fresh : List Sending → World
fresh sends = record {
  scratch = λ _. 0;
  comm = λ _. 0;
  private = λ _. 0;
  shared = λ _. 0;
  overrun = false;
  sends = sends;
}

-- ---- words

abbrev pub words_in : Region → World → ℕ → ℕ
words_in region.Scratch w = w.scratch
words_in region.Comm w = w.comm
words_in region.Private w = w.private
words_in region.Shared w = w.shared

abbrev pub with_words : Region → (ℕ → ℕ) → World → World
with_words region.Scratch words w = record w { scratch = words }
with_words region.Comm words w = record w { comm = words }
with_words region.Private words w = record w { private = words }
with_words region.Shared words w = record w { shared = words }

-- the word of a variable, and the world where it is set
abbrev pub word_at : Region → ℕ → World → ℕ
word_at r at w = words_in r w at

abbrev pub with_word : Region → ℕ → ℕ → World → World
with_word r at value w = with_words r (put at value (words_in r w)) w

-- the element of an array, which begins at a word and has so many. At or past its length it reads 0 and sets nothing
abbrev pub element : Region → ℕ → ℕ → ℕ → World → ℕ
element r first count index w = if nat_lt index count then word_at r (first + index) w else 0

abbrev pub with_element : Region → ℕ → ℕ → ℕ → ℕ → World → World
with_element r first count index value w = if nat_lt index count then with_word r (first + index) value w else w

-- ---- loops and sends

-- the flag, where a loop's condition still held after its last iteration
abbrev pub with_overrun : Bool → World → World
with_overrun held w = record w { overrun = w.overrun || held }

-- a send starts where at least one word, and no more than lie there, lies within either communication memory
abbrev pub may_start : ℕ → ℕ → ℕ → Bool
may_start source target count =
    nat_le 1 count && (nat_le (source + count) COMM_WORDS && nat_le (target + count) COMM_WORDS)

abbrev pub with_send : ℕ → ℕ → ℕ → ℕ → World → World
with_send core source target count w =
    if may_start source target count
    then record w { sends = w.sends ++ record { core = core; source = source; target = target; count = count } ∷ [] }
    else w
