-- How many words bundles have, before and after their flows get targets.
use Rattle.std.proofs.Common.{◌≡◌, ℕ, ◌+◌, ◌-◌, ◌≤◌, if◌then◌else◌, List, [], ◌∷◌, ◌++◌, length, refl, sym, ap, ◌∙◌, arith, length-append, append_assoc, Option, None, Some}
use Rattle.std.specs.Prelude.{◌||◌, is_some}
use Rattle.std.proofs.lemmas.List.Concat.{flat_map-append}
use Rattle.patmos_instr.specs.Bundles.{PlainBundle}
use Rattle.patmos_instr.specs.Instructions.{is_long}
use Rattle.patmos_instr.specs.declared.instructions.Instr.{Instr}
use Rattle.patmos_instr.specs.declared.instructions.Op.{Op}
use Rattle.patmos_instr.specs.declared.instructions.Op.TheVariants.{AluLong, Branch, Call}
use Rattle.patmos_code.specs.Codes.{code, words, second_word, instr_code}
use Rattle.sp_shape.proofs.Plain.{repeat_said}
use Rattle.sp_shape.specs.Parts.{PlainPart, straight, repeats, calls_to, leaves, PlainParts, no_part, part}
use Rattle.sp_shape.specs.Shown.{plain_part, parts_of}
use Rattle.sp_shape.specs.Words.{bundle_words, bundles_words, part_words, parts_words}
use Rattle.sp_shape.specs.declared.parts.Part.{Part}
use Rattle.sp_shape.specs.declared.parts.Part.TheViews.{Repeat}
use Rattle.tc_link.specs.Flat.{with_op, call_to, branch_back, called, turned, flat_part, flat_parts}
use Rattle.tc_link.specs.Placed.{codes}

-- ---- the code of bundles

two_or_one : (first : ℕ) (op : Op) (second : Option Instr) → length (words first (second_word op second))
    ≡ (if is_long op || is_some second then 2 else 1)
two_or_one first (AluLong func rd ra constant) None = refl
two_or_one first (AluLong func rd ra constant) (Some i) = refl
two_or_one first _ None = refl
two_or_one first _ (Some i) = refl

pub code_words : (b : PlainBundle) → length (code b) ≡ bundle_words b
unfolding code
code_words b = two_or_one (instr_code b.first) b.first.op b.second

pub codes_words : (bs : List PlainBundle) → length (codes bs) ≡ bundles_words bs
codes_words [] = refl
codes_words (b ∷ bs) = omega (arith, length-append (code b) (codes bs), code_words b, codes_words bs)

words-append : (xs ys : List PlainBundle) → bundles_words (xs ++ ys) ≡ bundles_words xs + bundles_words ys
words-append [] ys = omega arith
words-append (b ∷ xs) ys = omega (arith, words-append xs ys)

-- ---- a target takes no word

call_words : (start : ℕ) (b : PlainBundle) → bundle_words (call_to start b) ≡ bundle_words b
call_words start b = so b.first.op
  where
    so : (op : Op) → bundle_words (call_to start (with_op op b)) ≡ bundle_words (with_op op b)
    so (Call target) = refl
    so _ = refl

branch_words : (behind : ℕ) (b : PlainBundle) → bundle_words (branch_back behind b) ≡ bundle_words b
branch_words behind b = so b.first.op
  where
    so : (op : Op) → bundle_words (branch_back behind (with_op op b)) ≡ bundle_words (with_op op b)
    so (Branch offset) = refl
    so _ = refl

called_words : (start : ℕ) (tail : List PlainBundle) → bundles_words (called start tail) ≡ bundles_words tail
called_words start [] = refl
called_words start (b ∷ bs) = ap (λ n. n + bundles_words bs) (call_words start b)

turned_words : (behind : ℕ) (tail : List PlainBundle) → bundles_words (turned behind tail) ≡ bundles_words tail
turned_words behind [] = refl
turned_words behind (b ∷ bs) = omega (arith, branch_words behind b, turned_words (behind + bundle_words b) bs)

mutual
  pub flat_part_words : (start : ℕ → ℕ) (p : PlainPart) → bundles_words (flat_part start p) ≡ part_words p
  flat_part_words start (straight bs) = refl
  flat_part_words start (repeats count body tail) =
      omega (
        arith,
        words-append (flat_parts start body) (turned (parts_words body) tail),
        flat_words start body,
        turned_words (parts_words body) tail,
      )
  flat_part_words start (calls_to k tail) = called_words (start k) tail
  flat_part_words start (leaves tail) = refl

  pub flat_words : (start : ℕ → ℕ) (ps : PlainParts) → bundles_words (flat_parts start ps) ≡ parts_words ps
  flat_words start no_part = refl
  flat_words start (part p rest) = omega (
    arith,
    words-append (flat_part start p) (flat_parts start rest),
    flat_part_words start p,
    flat_words start rest,
  )

-- ---- loops

pub repeat_words : (p : Part) (count : ℕ) (body : List Part) (tail : List PlainBundle) → p ≡ Repeat count body tail
    → part_words (plain_part p) ≡ parts_words (parts_of body) + bundles_words tail
repeat_words p count body tail is = ap part_words (repeat_said p count body tail is)

-- the body has no more words than the part
pub body_small : (p : Part) (count : ℕ) (body inside : List Part) (tail : List PlainBundle) (most : ℕ) → p
    ≡ Repeat count body tail → inside ≡ body → part_words (plain_part p) ≤ most
    → parts_words (parts_of inside) ≤ most
body_small p count body inside tail most is same small =
    omega (arith, small, repeat_words p count body tail is, ap (λ ps. parts_words (parts_of ps)) same)

-- as many words more as the body has
pub body_length : (start : ℕ → ℕ) (ps : PlainParts) (before behind : List ℕ) → behind ≡ before
    ++ codes (flat_parts start ps)
    → length behind ≡ length before + parts_words ps
body_length start ps before behind is =
    omega (
      arith,
      ap length is,
      length-append before (codes (flat_parts start ps)),
      codes_words (flat_parts start ps),
      flat_words start ps,
    )

-- the bundles of a loop: those of the body, and those of the tail, whose branch counts the words that the body added
pub iteration_bundles : (start : ℕ → ℕ) (p : Part) (count : ℕ) (body inside : List Part)
    (tail iteration : List PlainBundle)
    (before behind : List ℕ) (words : ℕ) → p ≡ Repeat count body tail
    → inside ≡ body → iteration ≡ tail → behind ≡ before ++ codes (flat_parts start (parts_of inside)) → words
    ≡ length behind - length before
    → flat_parts start (parts_of inside) ++ turned words iteration ≡ flat_part start (plain_part p)
iteration_bundles start p count body inside tail iteration before behind words is same_body same_tail added more =
    let counted : words ≡ parts_words (parts_of inside) =
    omega (arith, more, body_length start (parts_of inside) before behind added) in
    ap (λ n. flat_parts start (parts_of inside) ++ turned n iteration) counted
    ∙ ap (λ ps. flat_part start (repeats count (parts_of ps) iteration)) same_body
    ∙ ap (λ bs. flat_part start (repeats count (parts_of body) bs)) same_tail
    ∙ ap (flat_part start) (sym (repeat_said p count body tail is))

pub added_after : (before behind : List ℕ) (us vs bs : List PlainBundle) → behind ≡ before ++ codes us → us ++ vs ≡ bs
    → behind ++ codes vs ≡ before ++ codes bs
added_after before behind us vs bs added is =
    ap (λ ws. ws ++ codes vs) added ∙ append_assoc before (codes us) (codes vs)
    ∙ ap (λ ws. before ++ ws) (sym (flat_map-append code us vs)) ∙ ap (λ xs. before ++ codes xs) is
