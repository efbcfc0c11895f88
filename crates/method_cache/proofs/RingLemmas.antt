-- Lemmas about the functions in the ring.
use Rattle.std.proofs.Common.{◌≡◌, ◌≢◌, ℕ, zero, suc, ◌+◌, ◌-◌, ◌%◌, ◌<◌, true, ◌&&◌, nat_le, List, [], ◌∷◌, ◌++◌, length, slice_index_or, slice_set, get_or-set_same, get_or-set_other, refl, ap, ap₂, ◌∙◌, sym, arith, add-one}
use Rattle.std.proofs.lemmas.Bool.Decides.{nat_tests}
use Rattle.std.proofs.lemmas.List.Sums.{sum_by-cons, sum_by_push}
use Rattle.method_cache.specs.declared.cache.Method.{Method}
use Rattle.method_cache.specs.Residents.{fits, is_among, words_of}
use Rattle.method_cache.specs.Ring.{ring, vacant, IsRing}
use Rattle.method_cache.proofs.Suffix.{fits_push}

pub length_ring : (places : List Method) (at count : ℕ) → length (ring places at count) ≡ count
length_ring places at zero = refl
length_ring places at (suc count) = grind (arith, length_ring places (at + 1) count)

-- places that differ by whole turns of the ring are the same
pub ring_wraps : (places : List Method) (at at' count : ℕ) → at % 16 ≡ at' % 16 → ring places at count
    ≡ ring places at' count
ring_wraps places at at' zero same = refl
ring_wraps places at at' (suc count) same =
    let next : (at + 1) % 16 ≡ (at' + 1) % 16 = omega arith in
    ap₂ (λ (m : Method) (ms : List Method). m ∷ ms) (ap (λ k. slice_index_or places k vacant) same)
    (ring_wraps places (at + 1) (at' + 1) count next)

-- the oldest function and those after it
pub ring_cons : (places : List Method) (at count : ℕ) → 0 < count
    → ring places at count ≡ slice_index_or places (at % 16) vacant ∷ ring places (at + 1) (count - 1)
ring_cons places at count some =
    let more : count ≡ suc (count - 1) = omega arith in
    ap (ring places at) more

-- a function that is written after the last one
pub ring_push : (places : List Method) (method : Method) (at count place : ℕ) → place ≡ (at + count) % 16 → count < 16
    → length places ≡ 16
    → ring (slice_set places place method) at (count + 1) ≡ ring places at count ++ method ∷ []
ring_push places method at zero place behind room all =
    let here : at % 16 ≡ place = omega arith in
    let within : place < length places = omega arith in
    rw here (rw get_or-set_same refl)
ring_push places method at (suc count) place behind room all =
    let other : at % 16 ≢ place = omega arith in
    let next : place ≡ (at + 1 + count) % 16 = omega arith in
    let tail = ap (ring (slice_set places place method) (at + 1)) (sym (add-one count))
    ∙ ring_push places method (at + 1) count place next (omega arith) all in
    ap (ring (slice_set places place method) at) (add-one (suc count))
    ∙ rw get_or-set_other (ap (λ (ms : List Method). slice_index_or places (at % 16) vacant ∷ ms) tail)

-- a look at the next place goes on where the function is not at this one
pub among_next : (places : List Method) (first at count function : ℕ) → at < count
    → (slice_index_or places ((first + at) % 16) vacant).function ≢ function
    → is_among function (ring places (first + (at + 1)) (count - (at + 1)))
    ≡ is_among function (ring places (first + at) (count - at))
among_next places first at count function more other =
    let here = ring_cons places (first + at) (count - at) (omega arith) in
    let at_next : first + (at + 1) ≡ first + at + 1 = omega arith in
    let left : count - (at + 1) ≡ count - at - 1 = omega arith in
    rw (here, at_next, left) (grind (arith, nat_tests))

-- whether one more function fits after those in the ring
pub fits_ring : (places : List Method) (method : Method) (first count total : ℕ) → IsRing places first count total
    → fits (ring places first count ++ method ∷ []) ≡ (nat_le (count + 1) 16 && nat_le (total + method.words) 4096)
fits_ring places method first count total is =
    let many = length_ring places first count in
    rw (fits_push (ring places first count) method, many, ← is.words) refl

-- the ring with a function after the last one
pub put_after : (places : List Method) (method : Method) (first count total place : ℕ) → IsRing places first count total
    → fits (ring places first count ++ method ∷ []) ≡ true → place ≡ (first + count) % 16 → length places ≡ 16
    → IsRing (slice_set places place method) first (count + 1) (total + method.words)
put_after places method first count total place is room behind all =
    let fitting = sym (fits_ring places method first count total is) ∙ room in
    let least : count < 16 = grind (arith, nat_tests, fitting) in
    let pushed = ring_push places method first count place behind least all in
    let sum = ap words_of pushed ∙ sum_by_push (λ (m : Method). m.words) (ring places first count) method in
    record {
      first = is.first;
      count = omega arith;
      words = omega (arith, sum, is.words);
      room = grind (arith, nat_tests, fitting);
    }

-- the oldest function stands at the first place
pub oldest_first : (places : List Method) (first count : ℕ) → first < 16 → 0 < count
    → ring places first count ≡ slice_index_or places first vacant ∷ ring places ((first + 1) % 16) (count - 1)
oldest_first places first count place some =
    let here : first % 16 ≡ first = omega arith in
    let next : (first + 1) % 16 ≡ (first + 1) % 16 % 16 = omega arith in
    ring_cons places first count some
    ∙ ap₂ (λ (m : Method) (ms : List Method). m ∷ ms) (ap (λ k. slice_index_or places k vacant) here) (ring_wraps places
    (first + 1) ((first + 1) % 16) (count - 1) next)

-- what the words of the ring are made of
pub words_split : (places : List Method) (first count total : ℕ) → IsRing places first count total → 0 < count
    → total ≡ (slice_index_or places first vacant).words + words_of (ring places ((first + 1) % 16) (count - 1))
words_split places first count total is some =
    is.words
    ∙ ap words_of (oldest_first places first count is.first some)
    ∙ sum_by-cons (λ (m : Method). m.words) (slice_index_or places first vacant) (ring places
    ((first + 1) % 16) (count - 1))

-- the ring without its oldest function
pub put_out : (places : List Method) (first count total : ℕ) → IsRing places first count total → 0 < count
    → IsRing places ((first + 1) % 16) (count - 1) (total - (slice_index_or places first vacant).words)
put_out places first count total is some =
    let split = words_split places first count total is some in
    record {
      first = omega arith;
      count = omega (arith, is.count);
      words = omega (arith, split);
      room = omega (arith, is.room);
    }
