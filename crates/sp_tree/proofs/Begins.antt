-- The words that a task begins with, laid one list after another.
use Rattle.std.proofs.Common.{◌≡◌, ℕ, ◌-◌, Bool, true, false, List, [], length, slice_index, refl, ap, sym, ◌∙◌, inl, inr, if◌then◌else◌}
use Rattle.std.proofs.lemmas.Bool.{cases_lt, lt-ltb, le-ltb}
use Rattle.std.proofs.lemmas.List.{get_or_past}
use Rattle.std.specs.Prelude.{nat_le, ◌&&◌}
use Rattle.c_world.specs.Shown.{shown}
use Rattle.c_world.specs.World.{World, fresh}
use Rattle.c_world.specs.declared.memory.Memory.{Memory}
use Rattle.sp_tree.specs.Begun.{laid, first_private, begun_private, begun}
use Rattle.sp_tree.specs.Statements.{PlainUnit}

both_held : (a : Bool) (x : ℕ) → (if a && (true && true) then x else 0) ≡ (if a then x else 0)
both_held true x = refl
both_held false x = refl

none_held : (a : Bool) (x : ℕ) → x ≡ 0 → (if a && (false && false) then x else 0) ≡ (if a then x else 0)
none_held true x none = sym none
none_held false x none = refl

-- words over nothing but 0
laid_first : (initial : List ℕ) (k : ℕ) → laid 4 (length initial) initial (λ _. 0) k ≡ first_private initial k
laid_first initial k = elim (cases_lt (k - 4) (length initial)) [
  | inl below ↦
      ap (λ b. if nat_le 4 k && (b && b) then slice_index initial (k - 4) else 0)
      (lt-ltb (k - 4) (length initial) below)
      ∙ both_held (nat_le 4 k) (slice_index initial (k - 4))
  | inr past ↦
      ap (λ b. if nat_le 4 k && (b && b) then slice_index initial (k - 4) else 0) (le-ltb (k - 4) (length initial) past)
      ∙ none_held (nat_le 4 k) (slice_index initial (k - 4)) (get_or_past initial (k - 4) 0 past)
]

-- the first words laid over nothing but 0, and then the input over them
pub begun_shown : (m : Memory) (u : PlainUnit) (input middle last : List ℕ) → shown m [] ≡ fresh []
    → ((k : ℕ) → slice_index middle k ≡ laid 4 (length u.initial) u.initial (slice_index m.private.items) k)
    → ((k : ℕ) → slice_index last k ≡ laid u.input_at u.input_room input (slice_index middle) k)
    → (let w : World = record {
      scratch = slice_index m.scratch.items;
      comm = slice_index m.comm.items;
      private = slice_index last;
      shared = slice_index m.shared.items;
      overrun = m.overrun;
      sends = [];
    } in w) ≡ begun u input (λ _. 0) (λ _. 0)
begun_shown m u input middle last new first second =
    ap (λ words. let w : World = record {
      scratch = slice_index m.scratch.items;
      comm = slice_index m.comm.items;
      private = words;
      shared = slice_index m.shared.items;
      overrun = m.overrun;
      sends = [];
    } in w) (λ i k. whole k i)
    ∙ ap (λ (w : World). record w { private = begun_private u input }) new
  where
    zero_words : slice_index m.private.items ≡ (λ _. 0)
    zero_words = ap (λ (w : World). w.private) new

    begins : (k : ℕ) → slice_index middle k ≡ first_private u.initial k
    begins k = first k ∙ ap (λ words. laid 4 (length u.initial) u.initial words k) zero_words ∙ laid_first u.initial k

    begun_words : slice_index middle ≡ first_private u.initial
    begun_words = λ i k. begins k i

    whole : (k : ℕ) → slice_index last k ≡ begun_private u input k
    whole k = second k ∙ ap (λ words. laid u.input_at u.input_room input words k) begun_words
