-- What stands in the image of a shape.
use Rattle.std.proofs.Common.{◌≡◌, ◌≢◌, ℕ, zero, suc, ◌+◌, ◌-◌, ◌<◌, ◌==◌, if◌then◌else◌, List, [], ◌∷◌, ◌++◌, length, take, drop, slice_index, refl, sym, ap, ◌∙◌, subst, arith, length-append, append-nil, append_assoc, ne_eqb, inl, inr}
use Rattle.std.specs.List.{flat_map}
use Rattle.std.proofs.lemmas.Bool.{cases_eq}
use Rattle.std.proofs.lemmas.List.{drop_at, take_at, get_or_at}
use Rattle.std.proofs.lemmas.List.Concat.{flat_map-append}
use Rattle.patmos_instr.specs.Bundles.{PlainBundle}
use Rattle.patmos_code.specs.Codes.{code}
use Rattle.sp_shape.specs.Parts.{PlainPart, straight, repeats, calls_to, leaves, PlainParts, no_part, part, PlainShape}
use Rattle.sp_shape.specs.Words.{bundle_words, bundles_words, part_words, parts_words}
use Rattle.tc_link.specs.Flat.{turned, flat_part, flat_parts}
use Rattle.tc_link.specs.Placed.{codes, others, others_below, function, size_of, start_of, flat, function_words, linked}
use Rattle.tc_link.specs.Stands.{StandAt, HasAt, PartAt, PartsAt}
use Rattle.tc_link.proofs.Counted.{code_words, flat_part_words, flat_words}
use Rattle.tc_link.proofs.Kept.{pieces_words, others_words}
use Rattle.tc_link.proofs.Order.{entry_placed, other_placed}

-- ---- words that hold others from a place on

record Holds (words piece : List ℕ) (at : ℕ) : Type 0 where
  before : List ℕ
  behind : List ℕ
  is : words ≡ before ++ (piece ++ behind)
  count : length before ≡ at

stand_in : (words piece : List ℕ) (at : ℕ) → Holds words piece at → StandAt words at piece
stand_in words piece at h =
    ap (λ ws. take (length piece) (drop at ws)) h.is ∙ ap (take (length piece)) (drop_at h.before (piece ++ h.behind) at
    h.count) ∙ take_at piece h.behind (length piece) refl

holds_front : (words xs ys : List ℕ) (at : ℕ) → Holds words (xs ++ ys) at → Holds words xs at
holds_front words xs ys at h = record {
  before = h.before;
  behind = ys ++ h.behind;
  is = h.is ∙ ap (λ zs. h.before ++ zs) (append_assoc xs ys h.behind);
  count = h.count;
}

holds_back : (words xs ys : List ℕ) (at next : ℕ) → at + length xs ≡ next → Holds words (xs ++ ys) at
    → Holds words ys next
holds_back words xs ys at next is h = record {
  before = h.before ++ xs;
  behind = h.behind;
  is = h.is ∙ ap (λ zs. h.before ++ zs) (append_assoc xs ys h.behind) ∙ sym (append_assoc h.before xs (ys ++ h.behind));
  count = omega (arith, length-append h.before xs, h.count, is);
}

-- ---- bundles and parts

has_in : (words : List ℕ) (at : ℕ) (bs : List PlainBundle) → Holds words (codes bs) at → HasAt words at bs
has_in words at [] h = tt
has_in words at (b ∷ bs) h = (
  stand_in words (code b) at (holds_front words (code b) (codes bs) at h),
  has_in words (at + bundle_words b) bs (holds_back words (code b) (codes bs) at (at + bundle_words b)
      (ap (λ n. at + n) (code_words b)) h),
)

has_front : (words : List ℕ) (at : ℕ) (us vs : List PlainBundle) → HasAt words at (us ++ vs) → HasAt words at us
has_front words at [] vs h = tt
has_front words at (b ∷ us) vs h = (h.0, has_front words (at + bundle_words b) us vs h.1)

has_back : (words : List ℕ) (at : ℕ) (us vs : List PlainBundle) → HasAt words at (us ++ vs)
    → HasAt words (at + bundles_words us) vs
has_back words at [] vs h = subst (λ n. HasAt words n vs) (omega arith) h
has_back words at (b ∷ us) vs h =
    subst (λ n. HasAt words n vs) (omega arith) (has_back words (at + bundle_words b) us vs h.1)

mutual
  part_at : (words : List ℕ) (start : ℕ → ℕ) (at : ℕ) (p : PlainPart) → HasAt words at (flat_part start p)
      → PartAt words start at p
  part_at words start at (repeats count body tail) h =
      let iteration = turned (parts_words body) tail in (
        parts_at words start at body (has_front words at (flat_parts start body) iteration h),
        subst (λ n. HasAt words (at + n) iteration) (flat_words start body)
            (has_back words at (flat_parts start body) iteration h),
      )
  part_at words start at _ h = h

  pub parts_at : (words : List ℕ) (start : ℕ → ℕ) (at : ℕ) (ps : PlainParts) → HasAt words at (flat_parts start ps)
      → PartsAt words start at ps
  parts_at words start at no_part h = tt
  parts_at words start at (part p rest) h = (
    part_at words start at p (has_front words at (flat_part start p) (flat_parts start rest) h),
    parts_at words start (at + part_words p) rest
        (subst (λ n. HasAt words (at + n) (flat_parts start rest)) (flat_part_words start p)
        (has_back words at (flat_part start p) (flat_parts start rest) h)),
  )

-- ---- functions

-- the words of a function of a shape
abbrev piece : PlainShape → ℕ → List ℕ
piece s k = function_words (start_of s) (function s k)

others_length : (s : PlainShape) (n : ℕ) → length (flat_map (piece s) (others s.entry n))
    ≡ others_below (size_of s) s.entry n
others_length s n = pieces_words (start_of s) (function s) (others s.entry n) ∙ others_words (size_of s) s.entry n

others_hold : (s : PlainShape) (n k : ℕ) → k < n → k ≢ s.entry → Holds (flat_map (piece s) (others s.entry n))
    (piece s k) (others_below (size_of s) s.entry k)
others_hold s zero k within ne = absurd (omega arith)
others_hold s (suc n) k within ne =
    let more = λ (xs : List ℕ). flat_map (piece s) (others s.entry n ++ xs) in
    elim (cases_eq n k) [
      | inl is ↦ record {
        before = flat_map (piece s) (others s.entry n);
        behind = [];
        is = ap (λ b. more (if b then [] else n ∷ [])) (ne_eqb n s.entry (λ e. ne (sym is ∙ e)))
            ∙ flat_map-append (piece s) (others s.entry n) (n ∷ [])
            ∙ ap (λ j. flat_map (piece s) (others s.entry n) ++ (piece s j ++ [])) is;
        count = others_length s n ∙ ap (others_below (size_of s) s.entry) is;
      }
      | inr other ↦
          let h = others_hold s n k (omega (arith, other)) ne in
          let last = flat_map (piece s) (if n == s.entry then [] else n ∷ []) in
          record {
            before = h.before;
            behind = h.behind ++ last;
            is = flat_map-append (piece s) (others s.entry n) (if n == s.entry then [] else n ∷ [])
                ∙ ap (λ ws. ws ++ last) h.is
                ∙ append_assoc h.before (piece s k ++ h.behind) last
                ∙ ap (λ ws. h.before ++ ws) (append_assoc (piece s k) h.behind last);
            count = h.count;
          }
    ]

linked_holds : (s : PlainShape) (k : ℕ) → k < length s.functions → Holds (linked s).words (piece s k) (start_of s k - 1)
linked_holds s k within =
    let rest = flat_map (piece s) (others s.entry (length s.functions)) in
    elim (cases_eq k s.entry) [
      | inl is ↦ record {
        before = [];
        behind = rest;
        is = ap (λ j. piece s j ++ rest) (sym is);
        count = omega (arith, entry_placed (size_of s) s.entry k is);
      }
      | inr ne ↦
          let h = others_hold s (length s.functions) k within ne in
          record {
            before = piece s s.entry ++ h.before;
            behind = h.behind;
            is = ap (λ ws. piece s s.entry ++ ws) h.is ∙ sym (append_assoc (piece s s.entry) h.before
                (piece s k ++ h.behind));
            count = omega (
              arith,
              other_placed (size_of s) s.entry k ne,
              length-append (piece s s.entry) h.before,
              h.count,
              pieces_words (start_of s) (function s) (s.entry ∷ []),
              ap length (append-nil (piece s s.entry)),
            );
          }
    ]

pub size_stands : (s : PlainShape) (k : ℕ) → k < length s.functions → slice_index (linked s).words (start_of s k - 1)
    ≡ size_of s k
size_stands s k within =
    let h = linked_holds s k within in
    ap (λ ws. slice_index ws (start_of s k - 1)) h.is ∙ get_or_at h.before (size_of s k) (codes (flat s k)
    ++ h.behind) 0 (start_of s k - 1) h.count

starts_later : (s : PlainShape) (k : ℕ) → 0 < start_of s k
starts_later s k = elim (cases_eq k s.entry) [
  | inl is ↦ omega (arith, entry_placed (size_of s) s.entry k is)
  | inr ne ↦ omega (arith, other_placed (size_of s) s.entry k ne)
]

pub flat_stands : (s : PlainShape) (k : ℕ) → k < length s.functions → HasAt (linked s).words (start_of s k) (flat s k)
flat_stands s k within =
    has_in (linked s).words (start_of s k) (flat s k)
    (holds_back (linked s).words (size_of s k ∷ []) (codes (flat s k)) (start_of s k - 1) (start_of s k)
    (omega (arith, starts_later s k)) (linked_holds s k within))

pub bundles_stand : (s : PlainShape) (k : ℕ) → k < length s.functions → (us vs : List PlainBundle) (b : PlainBundle)
    → us
    ++ b ∷ vs ≡ flat s k
    → StandAt (linked s).words (start_of s k + bundles_words us) (code b)
bundles_stand s k within us vs b is =
    let all = subst (HasAt (linked s).words (start_of s k)) (sym is) (flat_stands s k within) in
    (has_back (linked s).words (start_of s k) us (b ∷ vs) all).0

pub function_parts_stand : (s : PlainShape) (k : ℕ) → k < length s.functions
    → PartsAt (linked s).words (start_of s) (start_of s k) (function s k)
function_parts_stand s k within =
    parts_at (linked s).words (start_of s) (start_of s k) (function s k) (flat_stands s k within)
