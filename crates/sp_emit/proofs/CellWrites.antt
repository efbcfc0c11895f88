-- What a store in a memory leaves, made where a predicate is true: where it is not, words of the scratchpad and of
-- communication memory stand, and of main memory word 0 alone is stored.
use Rattle.std.proofs.Common.{◌≡◌, ℕ, ◌^◌, ◌<◌, ◌≤◌, ◌==◌, ◌⊎◌, inl, inr, Bool, true, false, cond, if◌then◌else◌, Some, refl, sym, ap, ◌∙◌, subst, arith}
use Rattle.shared_order.specs.Words.{put}
use Rattle.patmos_instr.specs.declared.instructions.Op.TheVariants.{Store}
use Rattle.patmos_instr.specs.declared.memories.Mem.{Mem}
use Rattle.patmos_instr.specs.declared.memories.Mem.TheVariants as mem
use Rattle.patmos_instr.specs.declared.memories.StoreWidth.TheVariants as store
use Rattle.patmos_sem.specs.Effects.{address_of as address_by}
use Rattle.patmos_sem.specs.Registers.{FitsRegisters, word_in, pred_in}
use Rattle.patmos_sem.specs.declared.writes.Write.TheVariants as write
use Rattle.c_world.specs.Numbers.{flag}
use Rattle.c_world.specs.World.{World, with_word}
use Rattle.c_world.specs.declared.region.Region.{Region}
use Rattle.c_world.specs.declared.region.Region.TheVariants as region
use Rattle.sp_tree.specs.Straight.{State, in_world}
use Rattle.sp_shape.specs.Memory.{Memory, cell_of, with_cell, with_word as cell_set}
use Rattle.sp_shape.specs.Run.{Run, by_words, once, IsWhole}
use Rattle.sp_emit.specs.Holding.{held, KeepsFrom, KeepsFlags, so}
use Rattle.sp_emit.specs.Expressions.{at_word_0}
use Rattle.sp_emit.specs.Instructions.{always, where_so, store_to}
use Rattle.sp_emit.specs.Means.{HasWords, HoldsWords, Follows}
use Rattle.sp_emit.specs.declared.registers.TheConstants.{FIRST, OVERRUN}
use Rattle.sp_emit.proofs.Cells.{cell_in}
use Rattle.sp_emit.proofs.Masks.{Done}
use Rattle.sp_emit.proofs.FlagWords.{shown_still}
use Rattle.sp_emit.proofs.Once.{with_written, did_nothing, whole_written, got, kept, so_by_register}
use Rattle.sp_emit.proofs.Reaching.{before_0, word_0, did_at_word_0, not_at_word_0}
use Rattle.sp_emit.proofs.Storing.{with_store, did_store}
use Rattle.sp_emit.proofs.Frames.{put_other, put_word}
use Rattle.sp_emit.specs.declared.stands.Homes.{Homes}

-- ---- memories and worlds

put_alike : (x y u : ℕ) (f g : ℕ → ℕ) → f u ≡ g u → put x y f u ≡ put x y g u
put_alike x y u f g same = ap (λ n. cond (x == u) y n) same

-- a word that is set in both
pub has_word_set : (r : Region) (word v : ℕ) (w : World) (m : Memory) → HasWords w m
    → HasWords (with_word r word v w) (with_cell (cell_in r word) v m)
has_word_set region.Scratch word v w m x = record {
  scratch = λ n. put_alike word v n m.scratch w.scratch (x.scratch n);
  comm = x.comm;
  private = x.private;
  shared = x.shared;
  starts = x.starts;
}
has_word_set region.Comm word v w m x = record {
  scratch = x.scratch;
  comm = λ n. put_alike word v n m.comm w.comm
      (x.comm n);
  private = x.private;
  shared = x.shared;
  starts = x.starts;
}
has_word_set region.Private word v w m x = record {
  scratch = x.scratch;
  comm = x.comm;
  private = λ n some.
      put_alike word v n m.private w.private (x.private n some);
  shared = x.shared;
  starts = x.starts;
}
has_word_set region.Shared word v w m x = record {
  scratch = x.scratch;
  comm = x.comm;
  private = x.private;
  shared = λ n. put_alike word v n m.shared w.shared (x.shared n);
  starts = x.starts;
}

-- word 0 of private memory tells nothing
pub has_words_but_0 : (v : ℕ) (w : World) (m : Memory) → HasWords w m
    → HasWords w (record m { private = put 0 v m.private })
has_words_but_0 v w m x = record {
  scratch = x.scratch;
  comm = x.comm;
  private = λ n some. put_other 0 n v m.private
      (λ is. absurd (omega (arith, is, some))) ∙ x.private n some;
  shared = x.shared;
  starts = x.starts;
}

pub holds_word_set : (r : Region) (word v : ℕ) (w : World) → v < 2 ^ 32 → HoldsWords w
    → HoldsWords (with_word r word v w)
holds_word_set region.Scratch word v w below x = record {
  scratch = λ n. put_word word v n w.scratch (2 ^ 32) below
      (x.scratch n);
  comm = x.comm;
  private = x.private;
  shared = x.shared;
}
holds_word_set region.Comm word v w below x = record {
  scratch = x.scratch;
  comm = λ n. put_word word v n w.comm
      (2 ^ 32) below (x.comm n);
  private = x.private;
  shared = x.shared;
}
holds_word_set region.Private word v w below x = record {
  scratch = x.scratch;
  comm = x.comm;
  private = λ n.
      put_word word v n w.private (2 ^ 32) below (x.private n);
  shared = x.shared;
}
holds_word_set region.Shared word v w below x = record {
  scratch = x.scratch;
  comm = x.comm;
  private = x.private;
  shared = λ n. put_word word v n w.shared (2 ^ 32) below (x.shared n);
}

overrun_stands : (r : Region) (word v : ℕ) (w : World) → w.overrun ≡ (with_word r word v w).overrun
overrun_stands region.Scratch word v w = refl
overrun_stands _ word v w = refl

-- ---- stores

-- the run once it is where the state is with this word set, or as it was
unfoldable pub with_where : Bool → Region → ℕ → ℕ → State → State
with_where b r word v s = if b then in_world s (with_word r word v s.world) else s

-- the memories of a run may be others, where they have the words of another world that is as far
pub follows_world : (homes : Homes) (slots : ℕ) (s : State) (w : World) (m t : Run) → Follows homes slots s m
    → IsWhole t → held OVERRUN t ≡ held OVERRUN m → KeepsFrom homes.first m t → KeepsFlags m t → t.stack ≡ m.stack
    → t.st ≡ m.st → HasWords w t.memory → HoldsWords w → s.world.overrun ≡ w.overrun
    → Follows homes slots (in_world s w) t
follows_world homes slots s w m t x whole same_flag high flags same_stack same_st has holds same_overrun = record {
  whole = whole;
  shows = record {
    frame = λ slot lt. shown_still homes slot m t high flags same_stack same_st
        ∙ x.shows.frame slot lt;
    world = has;
  };
  words = record { frame = x.words.frame; world = holds };
  flag = same_flag ∙ x.flag ∙ ap flag same_overrun;
}

-- at an address of the own memories: it is not made where the predicate is false
pub local_store : (homes : Homes) (slots count told : ℕ) (r : Region) (word at words v : ℕ) (b : Bool) (s : State)
    (m : Run) → Follows homes slots s m → so told m ≡ b → held FIRST m ≡ v → v < 2 ^ 32
    → (b ≡ true → cell_of mem.L (address_by (held at m) words 4) ≡ Some (cell_in r word))
    → Done homes slots count (with_where b r word v s) m (once by_words (store_to (where_so told) mem.L at FIRST words)
    m)
unfolding with_where
local_store homes slots count told r word at words v true s m x on is below found =
    let address = address_by (held at m) words 4 in
    let memory : (with_store mem.L address (held FIRST m) m).memory ≡ with_cell (cell_in r word) v m.memory =
    ap (λ c. cell_set c (held FIRST m) m.memory) (found refl)
    ∙ ap (λ n. with_cell (cell_in r word) n m.memory) is in
    subst (Done homes slots count _ m) (sym (did_store by_words (where_so told) mem.L at FIRST words m x.whole on))
    (record {
      follows = follows_world homes slots s (with_word r word v s.world) m (with_store mem.L address (held FIRST m) m) x
          (record { fits = x.whole.fits; pending = x.whole.pending }) refl (λ r at lt. refl)
          (λ p from lt. refl) refl refl
          (subst (HasWords (with_word r word v s.world)) (sym memory)
          (has_word_set r word v s.world m.memory x.shows.world))
          (holds_word_set r word v s.world below x.words.world) (overrun_stands r word v s.world);
      keeps = record { st = refl; stack = λ a above. refl; high = λ r at lt. refl };
    })
local_store homes slots count told r word at words v false s m x off is below found =
    subst (Done homes slots count s m)
    (sym (did_nothing by_words (where_so told) (Store mem.L store.Word at FIRST words) m x.whole off))
    (record { follows = x; keeps = record { st = refl; stack = λ a above. refl; high = λ r at lt. refl } })

-- a store that is made in memory leaves all but its word
pub record IsPlain (space : Mem) : Type 0 where
  pub memory : (address value : ℕ) (m : Run) → (with_store space address value m).memory
      ≡ cell_set (cell_of space address) value m.memory
  pub regs : (address value : ℕ) (m : Run) → (with_store space address value m).regs ≡ m.regs
  pub stack : (address value : ℕ) (m : Run) → (with_store space address value m).stack ≡ m.stack
  pub st : (address value : ℕ) (m : Run) → (with_store space address value m).st ≡ m.st

pub cached_is_plain : IsPlain mem.C
cached_is_plain = record { memory = λ a v m. refl; regs = λ a v m. refl; stack = λ a v m. refl; st = λ a v m. refl }

pub main_is_plain : IsPlain mem.M
main_is_plain = record { memory = λ a v m. refl; regs = λ a v m. refl; stack = λ a v m. refl; st = λ a v m. refl }

-- the store of a word that is always made, once the run has the words of a world
stored_always : (homes : Homes) (slots count : ℕ) (space : Mem) (p : IsPlain space) (at words address v : ℕ) (s : State)
    (w : World) (memory : Memory) (m n : Run) → Follows homes slots s m → IsWhole n → held OVERRUN n ≡ held OVERRUN m
    → KeepsFrom homes.first m n → KeepsFlags m n → n.stack ≡ m.stack → n.st ≡ m.st
    → address_by (held at n) words 4 ≡ address → held FIRST n ≡ v → cell_set (cell_of space address) v n.memory ≡ memory
    → HasWords w memory → HoldsWords w → s.world.overrun ≡ w.overrun
    → Done homes slots count (in_world s w) m (once by_words (store_to always space at FIRST words) n)
stored_always homes slots count space p at words address v s w memory m n x whole same_flag high flags same_stack
    same_st at_is is set has holds same_overrun =
    let a = address_by (held at n) words 4 in
    let t = with_store space a (held FIRST n) n in
    let regs_is = p.regs a (held FIRST n) n in
    let memory_is : t.memory ≡ memory = p.memory a (held FIRST n) n
    ∙ ap (λ b. cell_set (cell_of space b) (held FIRST n) n.memory) at_is
    ∙ ap (λ b. cell_set (cell_of space address) b n.memory) is ∙ set in
    let whole_t : IsWhole t = record {
      fits = subst FitsRegisters (sym regs_is) whole.fits;
      pending = ap (λ r. r.pending) regs_is ∙ whole.pending;
    } in
    let stack_is = p.stack a (held FIRST n) n ∙ same_stack in
    let st_is = p.st a (held FIRST n) n ∙ same_st in
    let high_is : KeepsFrom homes.first m t = λ q from lt. ap (λ r. word_in r q) regs_is ∙ high q from lt in
    let flags_is : KeepsFlags m t = λ q from lt. ap (λ r. pred_in r q) regs_is ∙ flags q from lt in
    subst (Done homes slots count (in_world s w) m)
    (sym (did_store by_words always space at FIRST words n whole whole.fits.always)) (record {
      follows = follows_world homes slots s w m t x whole_t (ap (λ r. word_in r OVERRUN) regs_is ∙ same_flag) high_is
          flags_is stack_is st_is (subst (HasWords w) (sym memory_is) has) holds same_overrun;
      keeps = record {
        st = st_is;
        stack = λ b above. ap (λ words. words b) stack_is;
        high = λ q from lt. high_is q
            (omega (arith, from)) lt;
      };
    })

-- at an address of main memory it is made at word 0 where the predicate is false
pub main_store : (homes : Homes) (slots count told : ℕ) (space : Mem) (p : IsPlain space) (r : Region)
    (word at words v : ℕ) (b : Bool) (s : State) (m : Run) → Follows homes slots s m → so told m ≡ b → held FIRST m
    ≡ v → v < 2 ^ 32
    → FIRST < at → ((at < homes.first) × (at < OVERRUN)) ⊎ (OVERRUN < at) → at < 32 → words < 128 → 1 ≤ homes.first
    → (b ≡ true → cell_of space (address_by (held at m) words 4) ≡ Some (cell_in r word)) → cell_of space 0
    ≡ Some (cell_in region.Private 0)
    → Done homes slots count (with_where b r word v s) m (once by_words (store_to always space at FIRST words)
    (once by_words (at_word_0 told at words) m))
unfolding with_where
main_store homes slots count told space p r word at words v true s m x on is below above apart few near some
    found zero_found =
    subst (λ n. Done homes slots count (with_where true r word v s) m
    (once by_words (store_to always space at FIRST words) n))
    (sym (not_at_word_0 by_words told at words m x.whole on))
    (stored_always homes slots count space p at words (address_by (held at m) words 4) v s (with_word r word v s.world)
    (with_cell (cell_in r word) v m.memory) m m x x.whole refl (λ q from lt. refl) (λ q from lt. refl)
    refl refl refl is
    (ap (λ c. cell_set c v m.memory) (found refl)) (has_word_set r word v s.world m.memory x.shows.world)
    (holds_word_set r word v s.world below x.words.world) (overrun_stands r word v s.world))
main_store homes slots count told space p r word at words v false s m x off is below above apart few near some
    found zero_found =
    let w = write.Register at (before_0 words) in
    let n = with_written w m in
    let h = whole_written w m x.whole in
    let none = ap (λ a. address_by a words 4) (got at (before_0 words) m x.whole (omega (arith, above)) few)
    ∙ word_0 words near in
    subst (λ n. Done homes slots count s m (once by_words (store_to always space at FIRST words) n))
    (sym (did_at_word_0 by_words told at words m x.whole off))
    (stored_always homes slots count space p at words 0 v s s.world
    (record m.memory { private = put 0 v m.memory.private }) m n x h (kept at (before_0 words) OVERRUN m x.whole
    (omega arith) (λ same. absurd (flag_apart apart same))) (λ q from lt. kept at (before_0 words) q m x.whole
    (omega (arith, lt)) (λ same. absurd (home_apart q from lt apart same))) (λ q from lt. so_by_register at
    (before_0 words) q m x.whole lt) refl refl
    none (kept at (before_0 words) FIRST m x.whole (omega arith) (λ same. absurd (omega (arith, same, above))) ∙ is)
    (ap (λ c. cell_set c v m.memory) zero_found) (has_words_but_0 v s.world m.memory x.shows.world) x.words.world refl)
  where
    flag_apart : ((at < homes.first) × (at < OVERRUN)) ⊎ (OVERRUN < at) → at ≡ OVERRUN → ⊥
    flag_apart (inl before) same = omega (arith, before.1, same)
    flag_apart (inr past) same = omega (arith, past, same)

    home_apart : (q : ℕ) → homes.first ≤ q → q < OVERRUN → ((at < homes.first) × (at < OVERRUN))
        ⊎ (OVERRUN < at) → at ≡ q → ⊥
    home_apart q from lt (inl before) same = omega (arith, before.0, from, same)
    home_apart q from lt (inr past) same = omega (arith, past, lt, same)
