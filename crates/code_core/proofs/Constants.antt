-- Bundles that fit have words as their constants, and so has each step of a trail of them.
use Rattle.std.proofs.Common.{◌≡◌, ℕ, zero, suc, ◌+◌, ◌<◌, ◌^◌, ◌&&◌, ◌==◌, nat_lt, true, false, if◌then◌else◌, List, [], ◌∷◌, ◌++◌, length, slice_index_or, Option, None, Some, refl, sym, ap, ◌∙◌, arith, inl, inr}
use Rattle.std.specs.Prelude.{IfSome}
use Rattle.std.specs.List.{All, list_all}
use Rattle.std.proofs.Math.ListN.{get_or-eq_default}
use Rattle.std.proofs.lemmas.Bool.{and_parts, and_from, lt-ltb, ltb-true, cases_lt}
use Rattle.std.proofs.lemmas.List.Folds.{list_all-append}
use Rattle.patmos_instr.specs.Bundles.{PlainBundle, FitsBundle}
use Rattle.patmos_instr.specs.Instructions.{FitsOp, FitsInstr}
use Rattle.patmos_instr.specs.declared.instructions.Instr.{Instr}
use Rattle.patmos_instr.specs.declared.instructions.Op.{Op}
use Rattle.patmos_instr.specs.declared.instructions.Op.TheVariants.{AluImm, AluLong, Branch, Call}
use Rattle.patmos_model.specs.Range.{IsWord, ConstantsFit, constant_of}
use Rattle.sp_shape.specs.Bundles.{part_all, parts_all}
use Rattle.sp_shape.specs.Parts.{straight, repeats, calls_to, leaves, PlainPart, PlainParts, no_part, part, PlainShape}
use Rattle.sp_shape.specs.Trail.{Step, does, begins, all_done, copies, part_trail, parts_trail, trails, trail}
use Rattle.sp_shape.specs.Words.{bundle_words, parts_words}
use Rattle.tc_link.specs.Flat.{with_op, call_to, branch_back, called, turned, flat_part, flat_parts}
use Rattle.tc_link.specs.Placed.{function, start_of, flat}
use Rattle.code_core.specs.Words.{second_constant, has_constants, AllFit}

fitting_word : (op : Op) → FitsOp op → constant_of op < 2 ^ 32
fitting_word (AluImm func rd ra imm) fits = omega (arith, fits.2)
fitting_word (AluLong func rd ra constant) fits = fits.2
fitting_word _ fits = omega arith

second_word : (o : Option Instr) → IfSome o FitsInstr → second_constant o ≡ true
second_word None fits = refl
second_word (Some i) fits = lt-ltb (constant_of i.op) (2 ^ 32) (fitting_word i.op fits.1)

all_words : (bs : List PlainBundle) → All FitsBundle bs → list_all has_constants bs ≡ true
all_words [] fits = refl
all_words (b ∷ bs) fits =
    let one : FitsBundle b = fits 0 b (omega arith) in
    and_from (has_constants b) (list_all has_constants bs)
    (and_from (nat_lt (constant_of b.first.op) (2 ^ 32)) (second_constant b.second) (lt-ltb (constant_of b.first.op)
    (2 ^ 32) (fitting_word b.first.op one.first.1)) (second_word b.second one.second))
    (all_words bs (λ k d l. fits (suc k) d (omega (arith, l))))

-- ---- targets

branch_word : (words : ℕ) (b : PlainBundle) → has_constants (branch_back words b) ≡ has_constants b
branch_word words b = so b.first.op
  where
    so : (op : Op) → has_constants (branch_back words (with_op op b))
        ≡ (nat_lt (constant_of op) (2 ^ 32) && second_constant b.second)
    so (Branch by) = refl
    so _ = refl

call_word : (start : ℕ) (b : PlainBundle) → has_constants (call_to start b) ≡ has_constants b
call_word start b = so b.first.op
  where
    so : (op : Op) → has_constants (call_to start (with_op op b))
        ≡ (nat_lt (constant_of op) (2 ^ 32) && second_constant b.second)
    so (Call target) = refl
    so _ = refl

turned_words : (words : ℕ) (bs : List PlainBundle) → list_all has_constants (turned words bs)
    ≡ list_all has_constants bs
turned_words words [] = refl
turned_words words (b ∷ bs) =
    ap (λ x. x && list_all has_constants (turned (words + bundle_words b) bs)) (branch_word words b)
    ∙ ap (λ x. has_constants b && x) (turned_words (words + bundle_words b) bs)

called_words : (start : ℕ) (bs : List PlainBundle) → list_all has_constants (called start bs)
    ≡ list_all has_constants bs
called_words start [] = refl
called_words start (b ∷ bs) = ap (λ x. x && list_all has_constants bs) (call_word start b)

-- ---- parts

mutual
  part_words_alike : (start : ℕ → ℕ) (p : PlainPart) → list_all has_constants (flat_part start p)
      ≡ part_all has_constants p
  part_words_alike start (straight bs) = refl
  part_words_alike start (repeats count body tail) =
      let iteration = turned (parts_words body) tail in
      list_all-append has_constants (flat_parts start body) iteration
      ∙ ap (λ x. x && list_all has_constants iteration) (parts_words_alike start body)
      ∙ ap (λ x. parts_all has_constants body && x) (turned_words (parts_words body) tail)
  part_words_alike start (calls_to k tail) = called_words (start k) tail
  part_words_alike start (leaves tail) = refl

  parts_words_alike : (start : ℕ → ℕ) (ps : PlainParts) → list_all has_constants (flat_parts start ps)
      ≡ parts_all has_constants ps
  parts_words_alike start no_part = refl
  parts_words_alike start (part p rest) =
      list_all-append has_constants (flat_part start p) (flat_parts start rest)
      ∙ ap (λ x. x && list_all has_constants (flat_parts start rest)) (part_words_alike start p)
      ∙ ap (λ x. part_all has_constants p && x) (parts_words_alike start rest)

pub constants_at : (s : PlainShape) → ((k : ℕ) → k < length s.functions → All FitsBundle (flat s k)) → (k : ℕ)
    → parts_all has_constants (slice_index_or s.functions k no_part) ≡ true
constants_at s fits k = elim (cases_lt k (length s.functions)) [
  | inl less ↦ sym (parts_words_alike (start_of s) (function s k)) ∙ all_words (flat s k) (fits k less)
  | inr past ↦ ap (parts_all has_constants) (get_or-eq_default s.functions no_part (omega (arith, past)))
]

-- ---- trails

fit_append : (xs ys : List Step) → AllFit xs → AllFit ys → AllFit (xs ++ ys)
fit_append [] ys a b = b
fit_append (does x ∷ xs) ys a b = (a.0, fit_append xs ys a.1 b)
fit_append (begins ∷ xs) ys a b = fit_append xs ys a b

second_fits : (o : Option Instr) → second_constant o ≡ true → IfSome o (λ i. IsWord (constant_of i.op))
second_fits None h = tt
second_fits (Some i) h = ltb-true (constant_of i.op) (2 ^ 32) h

one_fits : (b : PlainBundle) → has_constants b ≡ true → ConstantsFit b
one_fits b h =
    let p = and_parts (nat_lt (constant_of b.first.op) (2 ^ 32)) (second_constant b.second) h in
    record { first = ltb-true (constant_of b.first.op) (2 ^ 32) p.0; second = second_fits b.second p.1 }

fit_all : (bs : List PlainBundle) → list_all has_constants bs ≡ true → AllFit (all_done bs)
fit_all [] h = tt
fit_all (b ∷ bs) h =
    let p = and_parts (has_constants b) (list_all has_constants bs) h in (one_fits b p.0, fit_all bs p.1)

fit_copies : (n : ℕ) (xs : List Step) → AllFit xs → AllFit (copies n xs)
fit_copies zero xs h = tt
fit_copies (suc n) xs h = fit_append xs (copies n xs) h (fit_copies n xs h)

mutual
  fit_part : (f : ℕ → List Step) → ((k : ℕ) → AllFit (f k)) → (p : PlainPart) → part_all has_constants p ≡ true
      → AllFit (part_trail f p)
  fit_part f each (straight bs) h = fit_all bs h
  fit_part f each (repeats count body tail) h =
      let p = and_parts (parts_all has_constants body) (list_all has_constants tail) h in
      fit_copies count (parts_trail f body ++ all_done tail) (fit_append (parts_trail f body) (all_done tail)
      (fit_parts f each body p.0) (fit_all tail p.1))
  fit_part f each (calls_to k tail) h = fit_append (all_done tail) (begins ∷ f k) (fit_all tail h) (each k)
  fit_part f each (leaves tail) h = fit_all tail h

  fit_parts : (f : ℕ → List Step) → ((k : ℕ) → AllFit (f k)) → (ps : PlainParts) → parts_all has_constants ps ≡ true
      → AllFit (parts_trail f ps)
  fit_parts f each no_part h = tt
  fit_parts f each (part p rest) h =
      let a = and_parts (part_all has_constants p) (parts_all has_constants rest) h in
      fit_append (part_trail f p) (parts_trail f rest) (fit_part f each p a.0) (fit_parts f each rest a.1)

fit_functions : (fs : List PlainParts) → ((k : ℕ) → parts_all has_constants (slice_index_or fs k no_part) ≡ true)
    → (n k : ℕ) → AllFit (trails fs n k)
fit_functions fs each zero k = tt
fit_functions fs each (suc n) k =
    elim (k == n) as (λ b. AllFit (if b then parts_trail (trails fs n) (slice_index_or fs n no_part) else
    trails fs n k)) [
      | true ↦ fit_parts (trails fs n) (fit_functions fs each n) (slice_index_or fs n no_part) (each n)
      | false ↦ fit_functions fs each n k
    ]

pub trail_fits : (s : PlainShape) → ((k : ℕ) → parts_all has_constants (slice_index_or s.functions k no_part) ≡ true)
    → AllFit (trail s)
trail_fits s each = fit_functions s.functions each (length s.functions) s.entry
