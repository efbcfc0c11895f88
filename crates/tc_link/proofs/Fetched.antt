-- A bundle that stands in words is what is decoded there.
use Rattle.std.proofs.Common.{◌≡◌, ℕ, suc, ◌+◌, ◌^◌, ◌<◌, ◌≤◌, Bool, true, false, List, [], ◌∷◌, length, drop, slice_index, Option, None, Some, if◌then◌else◌, refl, sym, ap, ◌∙◌, subst, arith}
use Rattle.std.specs.Prelude.{nat_lt}
use Rattle.std.specs.List.{All}
use Rattle.std.proofs.lemmas.Bool.{lt-ltb, le-ltb, le-leb}
use Rattle.std.proofs.lemmas.List.{get_or-take, get_or-drop}
use Rattle.patmos_instr.specs.Bundles.{PlainBundle, FitsBundle}
use Rattle.patmos_code.proofs.Bundles.{bundle_back}
use Rattle.patmos_code.proofs.Instructions.{instr_small}
use Rattle.patmos_code.specs.Codes.{code, words, second_word, instr_code}
use Rattle.patmos_code.specs.Decoding.{bundle_at}
use Rattle.patmos_code.specs.Images.{Parts}
use Rattle.patmos_model.specs.Bundle.{fetched_at, taken_for}
use Rattle.patmos_model.specs.Site as site
use Rattle.patmos_model.specs.declared.fetched.Fetched.TheVariants.{Outside, Found}
use Rattle.sp_shape.specs.Words.{bundle_words, bundles_words}
use Rattle.tc_link.specs.Stands.{StandAt, HasAt}
use Rattle.tc_link.proofs.Counted.{code_words}
use Rattle.tc_link.proofs.Walking.{FetchAt}

-- a word of what stands there
word_there : (ws piece : List ℕ) (at i : ℕ) → i < length piece → StandAt ws at piece → slice_index ws (at + i)
    ≡ slice_index piece i
word_there ws piece at i within h =
    sym (get_or-drop at ws i 0) ∙ sym (get_or-take (length piece) (drop at ws) i 0 within)
    ∙ ap (λ xs. slice_index xs i) h

standing : (ws : List ℕ) (at first : ℕ) (second : Option ℕ) → first < 2 ^ 31 → StandAt ws at (words first second)
    → words first second ≡ (if nat_lt (slice_index ws at) (2 ^ 31) then slice_index ws at ∷ [] else slice_index ws at
    ∷ slice_index ws (at + 1) ∷ [])
standing ws at first None small h =
    let is = word_there ws (first ∷ []) at 0 (omega arith) h in
    let here : slice_index ws at ≡ first = ap (slice_index ws) (omega arith) ∙ is in
    let two = λ (w : ℕ). if nat_lt w (2 ^ 31) then w ∷ [] else w ∷ slice_index ws (at + 1) ∷ [] in
    sym (ap two here ∙ ap (λ b. if b then first ∷ [] else first ∷ slice_index ws (at + 1) ∷ []) (lt-ltb first
    (2 ^ 31) small))
standing ws at first (Some second) small h =
    let is = word_there ws ((2 ^ 31 + first) ∷ second ∷ []) at 0 (omega arith) h in
    let here : slice_index ws at ≡ 2 ^ 31 + first = ap (slice_index ws) (omega arith) ∙ is in
    let next = word_there ws ((2 ^ 31 + first) ∷ second ∷ []) at 1 (omega arith) h in
    sym (ap (λ w. if nat_lt w (2 ^ 31) then w ∷ [] else w ∷ slice_index ws (at + 1) ∷ []) here
    ∙ ap (λ b. if b then (2 ^ 31 + first) ∷ [] else (2 ^ 31 + first) ∷ slice_index ws (at + 1) ∷ []) (le-ltb
    (2 ^ 31 + first) (2 ^ 31) (omega arith))
    ∙ ap (λ w. (2 ^ 31 + first) ∷ w ∷ []) next)

pub fetched : (ws : List ℕ) (at : ℕ) (b : PlainBundle) → FitsBundle b → StandAt ws at (code b)
    → bundle_at (slice_index ws at) (slice_index ws (at + 1)) ≡ Some b
unfolding code
fetched ws at b fits h =
    bundle_back b fits (slice_index ws at) (slice_index ws (at + 1))
    (standing ws at (instr_code b.first) (second_word b.first.op b.second) (instr_small b.first fits.first) h)

two_or_one : (one : Bool) (first second : ℕ) → length (if one then first ∷ [] else first ∷ second ∷ [])
    ≡ elim one [ true ↦ 1 | false ↦ 2 ]
two_or_one true first second = refl
two_or_one false first second = refl

-- its first word tells how many it has
words_told : (ws : List ℕ) (at : ℕ) (b : PlainBundle) → FitsBundle b → StandAt ws at (code b)
    → site.bundle_words (slice_index ws at) ≡ bundle_words b
unfolding code
words_told ws at b fits h =
    sym (two_or_one (nat_lt (slice_index ws at) (2 ^ 31)) (slice_index ws at) (slice_index ws (at + 1)))
    ∙ sym (ap length (standing ws at (instr_code b.first) (second_word b.first.op b.second)
    (instr_small b.first fits.first) h)) ∙ code_words b

-- so it is what a core fetches there, where it ends within the function
one_fetched : (image : Parts) (base at : ℕ) (b : PlainBundle) → FitsBundle b → at + bundle_words b
    ≤ site.size_at image base
    → StandAt image.words (base + at) (code b)
    → fetched_at image base at ≡ Found b (bundle_words b)
unfolding fetched_at
one_fetched image base at b fits within h =
    let words = site.bundle_words (site.word_at image base at) in
    let told : words ≡ bundle_words b = words_told image.words (base + at) b fits h in
    let found = bundle_at (site.word_at image base at) (site.word_at image base (at + 1)) in
    let next : base + (at + 1) ≡ base + at + 1 = omega arith in
    let decoded : found ≡ Some b = ap (λ n. bundle_at (site.word_at image base at) (slice_index image.words n)) next
    ∙ fetched image.words (base + at) b fits h in
    ap (λ i. elim i [ false ↦ Outside | true ↦ taken_for words found ]) (le-leb (at + words) (site.size_at image base)
    (omega (arith, told, within)))
    ∙ ap (λ n. taken_for n found) told ∙ ap (taken_for (bundle_words b)) decoded

pub all_fetched : (image : Parts) (base at : ℕ) (bs : List PlainBundle) → All FitsBundle bs → at + bundles_words bs
    ≤ site.size_at image base → HasAt image.words (base + at) bs → FetchAt image base at bs
all_fetched image base at [] fits within h = tt
all_fetched image base at (b ∷ bs) fits within h =
    let next : base + at + bundle_words b ≡ base + (at + bundle_words b) = omega arith in (
      one_fetched image base at b (fits 0 b (omega arith)) (omega (arith, within)) h.0,
      all_fetched image base (at + bundle_words b) bs (λ k d l. fits (suc k) d (omega (arith, l)))
          (omega (arith, within)) (subst (λ n. HasAt image.words n bs) next h.1),
    )
