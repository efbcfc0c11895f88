-- To be believed. What the code of a function, and of its statements, has where it begins, and what it leaves.
use Rattle.std.specs.Prelude.{ℕ, ◌≡◌, ◌+◌, ◌*◌, ◌<◌, ◌≤◌, ◌^◌, true, false, List, length, slice_index, slice_index_or, bit_xor}
use Rattle.c_world.specs.Numbers.{flag}
use Rattle.c_world.specs.World.{World}
use Rattle.sp_tree.specs.Formed.{functions_formed, stmts_formed, stmts_levels}
use Rattle.sp_tree.specs.Statements.{PlainFunction, PlainStmts, no_function}
use Rattle.sp_tree.specs.Straight.{Outcome, State, serves, stmts_done}
use Rattle.sp_tree.specs.declared.limits.TheConstants.{MOST_FRAME}
use Rattle.sp_shape.specs.Run.{Run, IsWhole, by_words, run}
use Rattle.sp_shape.specs.Trail.{parts_trail, trails}
use Rattle.sp_emit.specs.Functions.{codes}
use Rattle.sp_emit.specs.Statements.{stmts_code}
use Rattle.sp_emit.specs.Holding.{held, so}
use Rattle.sp_emit.specs.Means.{Follows, HasConstants, HasStmtsConstants, HasWords, HoldsWords, KeepsAfter}
use Rattle.sp_emit.specs.Flags.{AreAbove, stmts_hinder, stmts_spared, flag_tops, flag_top_of}
use Rattle.sp_emit.specs.Places.{stack_word, word_of, shown_word, stmts_least, tops, top_of}
use Rattle.sp_emit.specs.declared.registers.TheConstants.{RESULT, MASK, FIRST, OVERRUN, FLAGS}
use Rattle.sp_emit.specs.declared.stands.Homes.{Homes}

-- the words of a world, and its flag
pub record Carries (w : World) (m : Run) : Type 0 where
  pub whole : IsWhole m
  pub has : HasWords w m.memory
  pub words : HoldsWords w
  pub flag : held OVERRUN m ≡ flag w.overrun

-- it is called under the word of a mask, whose lowest bit is inverted, with these arguments
pub record CalledWith (mask : ℕ) (args : List ℕ) (w : World) (m : Run) : Type 0 where
  pub carries : Carries w m
  pub masked : held MASK m ≡ bit_xor mask 1
  pub mask_word : mask < 2 ^ 32
  pub given : (i : ℕ) → i < length args → held (FIRST + i) m ≡ slice_index args i
  pub arg_words : (i : ℕ) → slice_index args i < 2 ^ 32

-- it has given this, and the stack after its top is as it was
pub record Answers (g : Outcome) (m t : Run) : Type 0 where
  pub carries : Carries g.world t
  pub value : held RESULT t ≡ g.value
  pub flagged : held MASK t ≡ flag g.world.overrun
  pub value_word : g.value < 2 ^ 32
  pub st : t.st ≡ m.st
  pub stack : (a : ℕ) → m.st ≤ a → t.stack a ≡ m.stack a

-- well-formed functions, of words
pub record AreFunctions (fs : List PlainFunction) (n : ℕ) : Type 0 where
  pub constants : HasConstants fs
  pub within : n ≤ length fs
  pub formed : functions_formed fs n ≡ true

-- statements of a function of number n that takes so many words of the stack; the first words of its frame are named, and
-- the counters of iterations stand from one on downward; the run is where the tree's state is, and there is room for the
-- frames of what they call
pub record AreStatements (fs : List PlainFunction) (n : ℕ) (homes : Homes) (frame slots counter : ℕ) (ts : PlainStmts) (s : State) (m : Run) : Type 0 where
  pub functions : AreFunctions fs n
  pub named : slots ≤ MOST_FRAME
  pub counted : counter < MOST_FRAME
  pub levels : slots + stmts_levels ts ≤ counter + 1
  pub formed : stmts_formed fs n slots ts ≡ true
  pub constants : HasStmtsConstants ts
  pub room : n * MOST_FRAME ≤ m.st
  pub homed : stmts_least (tops fs n) ts ≤ homes.first
  pub stand : stmts_hinder homes.flags ts ≡ false
  pub spared : AreAbove (stmts_spared (flag_tops fs n) ts) homes.flags
  pub follows : Follows homes slots s m

-- ---- where a tree changes nothing of its world, as all do under a mask of 0 that set what they set under their masks

-- all memories but word 0 of private memory are as they were, no transfer was started, and the flag stands
pub record WorldStands (m t : Run) : Type 0 where
  pub scratch : (word : ℕ) → t.memory.scratch word ≡ m.memory.scratch word
  pub comm : (word : ℕ) → t.memory.comm word ≡ m.memory.comm word
  pub private : (word : ℕ) → 1 ≤ word → t.memory.private word ≡ m.memory.private word
  pub shared : (word : ℕ) → t.memory.shared word ≡ m.memory.shared word
  pub starts : t.memory.starts ≡ m.memory.starts
  pub flag : held OVERRUN t ≡ held OVERRUN m

-- a function whose window ends before a register, and that may set so many of the four predicates: the stack stands from
-- the caller's frame on, and so do the words that trees name in the frames of its callers, in registers, in the stack or
-- in predicates
pub record Unchanged (top used : ℕ) (m t : Run) : Type 0 where
  pub world : WorldStands m t
  pub st : t.st ≡ m.st
  pub stack : (a : ℕ) → m.st ≤ a → t.stack a ≡ m.stack a
  pub callers : (homes slot : ℕ) → top ≤ homes → word_of homes slot t ≡ word_of homes slot m
  pub predicates : (p : ℕ) → FLAGS + used ≤ p → p < 8 → so p t ≡ so p m

-- statements: a word of the own frame stands where the tree's does, the same after as before
pub record OwnUnchanged (homes : Homes) (slots count : ℕ) (before after : ℕ → ℕ) (m t : Run) : Type 0 where
  pub world : WorldStands m t
  pub frame : (slot : ℕ) → slot < slots → after slot ≡ before slot → shown_word homes slot t ≡ shown_word homes slot m
  pub behind : KeepsAfter (homes.first + count) (stack_word homes.first count) m t

-- so it is of functions, each as it is called; and of statements
pub record ChangeNoMore (fs : List PlainFunction) (n : ℕ) : Type 0 where
  pub functions : (k mask : ℕ) (args : List ℕ) (w : World) (m : Run) → k < n
      → length args ≡ (slice_index_or fs k no_function).parameters → (k + 1) * MOST_FRAME ≤ m.st → CalledWith mask args w m
      → (serves fs n k mask args w).world ≡ w → Unchanged (top_of fs k) (flag_top_of fs k) m (run by_words (trails (codes fs) n k) m)
  pub statements : (homes : Homes) (frame slots counter : ℕ) (ts : PlainStmts) (s : State) (m : Run)
      → AreStatements fs n homes frame slots counter ts s m → (stmts_done (serves fs n) ts s).world ≡ s.world
      → OwnUnchanged homes slots (counter + 1) s.frame (stmts_done (serves fs n) ts s).frame m
      (run by_words (parts_trail (trails (codes fs) n) (stmts_code homes frame counter ts)) m)
