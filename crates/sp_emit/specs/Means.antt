-- To be believed. When a run shows what a tree works on: the words of a function's frame stand at the top of the stack,
-- and the memories hold the words of the world, whose sends were started. Word 0 of private memory is no variable's.
use Rattle.std.specs.Prelude.{ℕ, ◌≡◌, ◌+◌, ◌<◌, ◌≤◌, ◌^◌, true, List, [], ◌∷◌, map, slice_index_or}
use Rattle.c_world.specs.Numbers.{flag}
use Rattle.c_world.specs.World.{World, Sending}
use Rattle.sp_tree.specs.Formed.{names_words}
use Rattle.sp_tree.specs.Need.{need}
use Rattle.sp_tree.specs.Plain.{PlainSp, constant, frame_word, cell_word, array_word, before_one, between_two}
use Rattle.sp_tree.specs.Statements.{PlainSpTarget, to_slot, to_cell, to_array, PlainStmt, masks, writes, calls, transfers, overruns, iterations, PlainStmts, no_stmt, stmt, PlainFunction, no_function}
use Rattle.sp_tree.specs.Straight.{State}
use Rattle.sp_shape.specs.Memory.{Memory, Start}
use Rattle.sp_shape.specs.Run.{Run, IsWhole}
use Rattle.sp_emit.specs.Holding.{held, KeepsFrom}
use Rattle.sp_emit.specs.Places.{shown_word}
use Rattle.sp_emit.specs.declared.registers.TheConstants.{OVERRUN}
use Rattle.sp_emit.specs.declared.stands.Homes.{Homes}

-- a send of the world is a transfer of the run
abbrev pub start_of : Sending → Start
start_of s = record { core = s.core; source = s.source; target = s.target; count = s.count }

pub record HasWords (w : World) (m : Memory) : Type 0 where
  pub scratch : (word : ℕ) → m.scratch word ≡ w.scratch word
  pub comm : (word : ℕ) → m.comm word ≡ w.comm word
  pub private : (word : ℕ) → 1 ≤ word → m.private word ≡ w.private word
  pub shared : (word : ℕ) → m.shared word ≡ w.shared word
  pub starts : m.starts ≡ map start_of w.sends

-- the first so many words of a frame
pub record Shows (homes : Homes) (slots : ℕ) (s : State) (m : Run) : Type 0 where
  pub frame : (slot : ℕ) → slot < slots → shown_word homes slot m ≡ s.frame slot
  pub world : HasWords s.world m.memory

-- the constants of an expression are words
abbrev pub HasWordConstants : PlainSp → Type 0
HasWordConstants (constant n) = n < 2 ^ 32
HasWordConstants (frame_word slot) = Unit {0}
HasWordConstants (cell_word cell) = Unit {0}
HasWordConstants (array_word array index) = HasWordConstants index
HasWordConstants (before_one op of) = HasWordConstants of
HasWordConstants (between_two op a b) = HasWordConstants a × HasWordConstants b

-- all words of the memories, and the first so many of a frame, are words of 32 bits
pub record HoldsWords (w : World) : Type 0 where
  pub scratch : (word : ℕ) → w.scratch word < 2 ^ 32
  pub comm : (word : ℕ) → w.comm word < 2 ^ 32
  pub private : (word : ℕ) → w.private word < 2 ^ 32
  pub shared : (word : ℕ) → w.shared word < 2 ^ 32

pub record HasWordFrame (slots : ℕ) (s : State) : Type 0 where
  pub frame : (slot : ℕ) → slot < slots → s.frame slot < 2 ^ 32
  pub world : HoldsWords s.world

-- an expression whose words a run shows, and for which registers suffice from one on
pub record IsReady (homes : Homes) (slots : ℕ) (e : PlainSp) (rd : ℕ) (s : State) (m : Run) : Type 0 where
  pub some : 1 ≤ rd
  pub most : slots ≤ 128
  pub names : names_words slots e ≡ true
  pub registers : rd + need e ≤ 21
  pub free : rd + need e ≤ homes.first
  pub constants : HasWordConstants e
  pub words : HasWordFrame slots s
  pub whole : IsWhole m
  pub shows : Shows homes slots s m

-- ---- statements

-- a run is where a tree's state is: the words of the frame and the world, which are words of 32 bits, and the flag
pub record Follows (homes : Homes) (slots : ℕ) (s : State) (m : Run) : Type 0 where
  pub whole : IsWhole m
  pub shows : Shows homes slots s m
  pub words : HasWordFrame slots s
  pub flag : held OVERRUN m ≡ flag s.world.overrun

-- a later state has the words of the stack after so many of the frame as they were, and the registers from the end of a
-- window on
pub record KeepsAfter (top count : ℕ) (m t : Run) : Type 0 where
  pub st : t.st ≡ m.st
  pub stack : (a : ℕ) → m.st + count ≤ a → t.stack a ≡ m.stack a
  pub high : KeepsFrom top m t

-- the constants of statements are words
abbrev pub HasTargetConstants : PlainSpTarget → Type 0
HasTargetConstants (to_slot slot) = Unit {0}
HasTargetConstants (to_cell cell) = Unit {0}
HasTargetConstants (to_array array index) = HasWordConstants index

abbrev pub HasArgsConstants : List PlainSp → Type 0
HasArgsConstants [] = Unit {0}
HasArgsConstants (e ∷ args) = HasWordConstants e × HasArgsConstants args

abbrev mutual
  pub HasStmtConstants : PlainStmt → Type 0
  HasStmtConstants (masks slot e) = HasWordConstants e
  HasStmtConstants (writes mask target e) = HasTargetConstants target × HasWordConstants e
  HasStmtConstants (calls mask k args result) = HasArgsConstants args
  HasStmtConstants (transfers mask core source target count) =
      HasWordConstants source × HasWordConstants target × HasWordConstants count
  HasStmtConstants (overruns mask e) = HasWordConstants e
  HasStmtConstants (iterations count body) = HasStmtsConstants body

  pub HasStmtsConstants : PlainStmts → Type 0
  HasStmtsConstants no_stmt = Unit {0}
  HasStmtsConstants (stmt t rest) = HasStmtConstants t × HasStmtsConstants rest

-- the constants of all functions are words
abbrev pub HasConstants : List PlainFunction → Type 0
HasConstants fs = (k : ℕ) → HasStmtsConstants (slice_index_or fs k no_function).body
