-- The code of a shape whose bundles fit is words, and its functions start at words.
use Rattle.std.proofs.Common.{◌≡◌, ℕ, zero, suc, ◌+◌, ◌<◌, ◌≤◌, ◌^◌, ◌==◌, true, false, if◌then◌else◌, List, [], ◌∷◌, ◌++◌, length, map, Option, None, Some, refl, sym, ap, subst, arith, inl, inr}
use Rattle.std.specs.Prelude.{IfSome}
use Rattle.std.specs.List.{All, flat_map, AllByRecursion as Each}
use Rattle.std.proofs.Math.ListN.{get_or-eq_default}
use Rattle.std.proofs.lemmas.Bool.{cases_lt}
use Rattle.shared_order.proofs.Lists.{each-append}
use Rattle.patmos_code.specs.Codes.{instr_code, second_word, words, code}
use Rattle.patmos_code.proofs.Instructions.{instr_small}
use Rattle.patmos_instr.specs.Bundles.{PlainBundle, FitsBundle}
use Rattle.patmos_instr.specs.Instructions.{FitsOp, FitsInstr}
use Rattle.patmos_instr.specs.declared.instructions.Instr.{Instr}
use Rattle.patmos_instr.specs.declared.instructions.Op.{Op}
use Rattle.patmos_instr.specs.declared.instructions.Op.TheVariants.{AluLong}
use Rattle.patmos_model.specs.Range.{IsWord, HasCode}
use Rattle.patmos_model.proofs.HeldWords.{each_index}
use Rattle.sp_shape.specs.Parts.{no_part, PlainShape}
use Rattle.sp_shape.specs.Words.{parts_words}
use Rattle.tc_link.proofs.Order.{entry_placed}
use Rattle.tc_link.specs.Fits.{FitsImage}
use Rattle.tc_link.specs.Flat.{flat_parts}
use Rattle.tc_link.specs.Placed.{others, words_below, others_below, function, size_of, start_of, order, flat, codes, function_words, linked}

-- ---- bundles

alone_fits : (op : Op) (first : ℕ) → FitsOp op → first < 2 ^ 31 → Each IsWord (words first (second_word op None))
alone_fits (AluLong func rd ra constant) first fits small = (omega (arith, small), (fits.2, tt))
alone_fits _ first fits small = (omega (arith, small), tt)

beside_fits : (op : Op) (i : Instr) (first : ℕ) → FitsInstr i → first < 2 ^ 31
    → Each IsWord (words first (second_word op (Some i)))
beside_fits op i first fits small = (omega (arith, small), (omega (arith, instr_small i fits), tt))

code_fits : (b : PlainBundle) → FitsBundle b → Each IsWord (code b)
unfolding code
code_fits b fits = by b.second fits.second
  where
    by : (o : Option Instr) → IfSome o FitsInstr → Each IsWord (words (instr_code b.first) (second_word b.first.op o))
    by None h = alone_fits b.first.op (instr_code b.first) fits.first.1 (instr_small b.first fits.first)
    by (Some i) h = beside_fits b.first.op i (instr_code b.first) h (instr_small b.first fits.first)

codes_fit : (bs : List PlainBundle) → All FitsBundle bs → Each IsWord (codes bs)
codes_fit [] fits = tt
codes_fit (b ∷ bs) fits = each-append IsWord (code b) (codes bs) (code_fits b (fits 0 b (omega arith)))
    (codes_fit bs (λ k d l. fits (suc k) d (omega (arith, l))))

-- ---- functions

module _ (s : PlainShape) (fits : FitsImage s) (bundles : (k : ℕ) → k < length s.functions
    → All FitsBundle (flat s k)) where
  size_small : (k : ℕ) → size_of s k ≤ 4096
  size_small k = elim (cases_lt k (length s.functions)) [
    | inl less ↦ fits.small k less
    | inr past ↦ let none : size_of s k ≡ 0 =
        ap parts_words (get_or-eq_default s.functions no_part (omega (arith, past))) in omega (arith, none)
  ]

  flat_fits : (k : ℕ) → Each IsWord (codes (flat s k))
  flat_fits k = elim (cases_lt k (length s.functions)) [
    | inl less ↦ codes_fit (flat s k) (bundles k less)
    | inr past ↦ subst (λ ps. Each IsWord (codes (flat_parts (start_of s) ps)))
        (sym (get_or-eq_default s.functions no_part (omega (arith, past)))) tt
  ]

  pieces_fit : (ks : List ℕ) → Each IsWord (flat_map (λ k. function_words (start_of s) (function s k)) ks)
  pieces_fit [] = tt
  pieces_fit (k ∷ ks) =
      each-append IsWord (function_words (start_of s) (function s k))
      (flat_map (λ j. function_words (start_of s) (function s j)) ks)
      (omega (arith, size_small k), flat_fits k) (pieces_fit ks)

  -- ---- places

  few_others : (size : ℕ → ℕ) (entry k : ℕ) → others_below size entry k ≤ words_below size k
  few_others size entry zero = omega arith
  few_others size entry (suc k) =
      let before = few_others size entry k in
      elim (k == entry) as (λ b. others_below size entry k + (if b then 0 else 1 + size k) ≤ words_below size k
      + (1 + size k)) [ true ↦ omega (arith, before) | false ↦ omega (arith, before) ]

  more_words : (size : ℕ → ℕ) (k d : ℕ) → words_below size k ≤ words_below size (k + d)
  more_words size k zero = let same : k + 0 ≡ k = omega arith in subst (λ n. words_below size k ≤ words_below size n)
      (sym same) (omega arith)
  more_words size k (suc d) =
      let next : k + suc d ≡ suc (k + d) = omega arith in
      let before = more_words size k d in
      subst (λ n. words_below size k ≤ words_below size n) (sym next) (omega (arith, before))

  start_small : (k d : ℕ) → k + d ≡ length s.functions → IsWord (start_of s k)
  start_small k d all =
      let a = few_others (size_of s) s.entry k in
      let b = more_words (size_of s) k d in
      let c : words_below (size_of s) (k + d) ≤ 32768 =
      subst (λ n. words_below (size_of s) n ≤ 32768) (sym all) fits.within in
      elim (k == s.entry) as (λ e. IsWord (if e then 1 else 1 + size_of s s.entry + others_below (size_of s) s.entry k
      + 1)) [ true ↦ omega arith | false ↦ omega (arith, a, b, c, size_small s.entry) ]

  others_start : (n d : ℕ) → n + d ≡ length s.functions → Each IsWord (map (start_of s) (others s.entry n))
  others_start zero d all = tt
  others_start (suc n) d all =
      let one : IsWord (start_of s n) = start_small n (suc d) (omega (arith, all)) in
      let before : Each IsWord (map (start_of s) (others s.entry n)) = others_start n (suc d) (omega (arith, all)) in
      elim (n == s.entry) as (λ b. Each IsWord (map (start_of s) (others s.entry n ++ (if b then [] else n ∷ [])))) [
        | true ↦ joined (others s.entry n) [] before tt
        | false ↦ joined (others s.entry n) (n ∷ []) before (one, tt)
      ]
    where
      joined : (xs ys : List ℕ) → Each IsWord (map (start_of s) xs) → Each IsWord (map (start_of s) ys)
          → Each IsWord (map (start_of s) (xs ++ ys))
      joined [] ys a b = b
      joined (x ∷ xs) ys a b = (a.0, joined xs ys a.1 b)

  entry_small : IsWord (start_of s s.entry)
  entry_small = let one : start_of s s.entry ≡ 1 = entry_placed (size_of s) s.entry s.entry refl in omega (arith, one)

  pub code_is_words : HasCode (linked s)
  code_is_words = record {
    words = λ at. each_index (linked s).words at (pieces_fit (order s));
    starts = (entry_small, others_start (length s.functions) 0 (omega arith));
  }
