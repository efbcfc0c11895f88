-- Bundles that fit have words as their long constants, and a target changes none.
use Rattle.std.proofs.Common.{◌≡◌, ℕ, suc, ◌+◌, ◌^◌, true, ◌&&◌, List, [], ◌∷◌, refl, sym, ap, ◌∙◌, arith}
use Rattle.std.specs.List.{All, list_all}
use Rattle.std.proofs.lemmas.Bool.{and_from, lt-ltb}
use Rattle.std.proofs.lemmas.List.Folds.{list_all-append}
use Rattle.patmos_instr.specs.Bundles.{PlainBundle, FitsBundle}
use Rattle.patmos_instr.specs.Instructions.{FitsOp}
use Rattle.patmos_instr.specs.declared.instructions.Op.{Op}
use Rattle.patmos_instr.specs.declared.instructions.Op.TheVariants.{AluLong, Branch, Call}
use Rattle.sp_shape.specs.Bundles.{is_word_op, has_word, part_all, parts_all}
use Rattle.sp_shape.specs.Parts.{straight, repeats, calls_to, leaves, PlainPart, PlainParts, no_part, part, PlainShape}
use Rattle.sp_shape.specs.Words.{bundle_words, parts_words}
use Rattle.tc_link.specs.Flat.{with_op, call_to, branch_back, called, turned, flat_part, flat_parts}
use Rattle.tc_link.specs.Placed.{function, start_of, flat}

fitting_word : (op : Op) → FitsOp op → is_word_op op ≡ true
fitting_word (AluLong func rd ra constant) fits = lt-ltb constant (2 ^ 32) fits.2
fitting_word _ fits = refl

all_words : (bs : List PlainBundle) → All FitsBundle bs → list_all has_word bs ≡ true
all_words [] fits = refl
all_words (b ∷ bs) fits =
    and_from (has_word b) (list_all has_word bs) (fitting_word b.first.op (fits 0 b (omega arith)).first.1)
    (all_words bs (λ k d l. fits (suc k) d (omega (arith, l))))

-- ---- targets

branch_word : (words : ℕ) (b : PlainBundle) → has_word (branch_back words b) ≡ has_word b
branch_word words b = so b.first.op
  where
    so : (op : Op) → has_word (branch_back words (with_op op b)) ≡ is_word_op op
    so (Branch by) = refl
    so _ = refl

call_word : (start : ℕ) (b : PlainBundle) → has_word (call_to start b) ≡ has_word b
call_word start b = so b.first.op
  where
    so : (op : Op) → has_word (call_to start (with_op op b)) ≡ is_word_op op
    so (Call target) = refl
    so _ = refl

turned_words : (words : ℕ) (bs : List PlainBundle) → list_all has_word (turned words bs) ≡ list_all has_word bs
turned_words words [] = refl
turned_words words (b ∷ bs) =
    ap (λ x. x && list_all has_word (turned (words + bundle_words b) bs)) (branch_word words b)
    ∙ ap (λ x. has_word b && x) (turned_words (words + bundle_words b) bs)

called_words : (start : ℕ) (bs : List PlainBundle) → list_all has_word (called start bs) ≡ list_all has_word bs
called_words start [] = refl
called_words start (b ∷ bs) = ap (λ x. x && list_all has_word bs) (call_word start b)

-- ---- parts

mutual
  part_words_alike : (start : ℕ → ℕ) (p : PlainPart) → list_all has_word (flat_part start p) ≡ part_all has_word p
  part_words_alike start (straight bs) = refl
  part_words_alike start (repeats count body tail) =
      let iteration = turned (parts_words body) tail in
      list_all-append has_word (flat_parts start body) iteration
      ∙ ap (λ x. x && list_all has_word iteration) (parts_words_alike start body)
      ∙ ap (λ x. parts_all has_word body && x) (turned_words (parts_words body) tail)
  part_words_alike start (calls_to k tail) = called_words (start k) tail
  part_words_alike start (leaves tail) = refl

  parts_words_alike : (start : ℕ → ℕ) (ps : PlainParts) → list_all has_word (flat_parts start ps)
      ≡ parts_all has_word ps
  parts_words_alike start no_part = refl
  parts_words_alike start (part p rest) =
      list_all-append has_word (flat_part start p) (flat_parts start rest)
      ∙ ap (λ x. x && list_all has_word (flat_parts start rest)) (part_words_alike start p)
      ∙ ap (λ x. part_all has_word p && x) (parts_words_alike start rest)

pub function_words_fit : (s : PlainShape) (k : ℕ) → All FitsBundle (flat s k) → parts_all has_word (function s k) ≡ true
function_words_fit s k fits = sym (parts_words_alike (start_of s) (function s k)) ∙ all_words (flat s k) fits
