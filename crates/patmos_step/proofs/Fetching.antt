-- What the decoded words give is what is fetched.
use Rattle.std.proofs.Common.{◌≡◌, ℕ, ◌+◌, ◌<◌, ◌≤◌, Bool, true, false, List, Option, None, Some, length, sym, subst, ap, ◌∙◌, arith}
use Rattle.std.proofs.lemmas.Bool.Decides.{nat_tests}
use Rattle.std.specs.Prelude.{slice_index, slice_index_or}
use Rattle.patmos_instr.specs.Bundles.{PlainBundle}
use Rattle.patmos_code.specs.Decoding.{bundle_at}
use Rattle.patmos_code.specs.Images.{Parts}
use Rattle.patmos_model.specs.declared.fetched.Fetched.{Fetched}
use Rattle.patmos_model.specs.declared.fetched.Fetched.TheVariants.{Outside, NoBundle, Found}
use Rattle.patmos_model.specs.Site.{size_at, word_at, bundle_words, is_inside}
use Rattle.patmos_model.specs.Bundle.{fetched_at, taken_for}
use Rattle.patmos_step.specs.declared.body.Body.{Body}
use Rattle.patmos_step.specs.declared.code.Decoded.{Decoded}
use Rattle.patmos_step.specs.Code.{decoded, IsCodeOf, StandsAt}

-- what begins after a function's end, or ends there, does not lie inside it
pub ends_outside : (image : Parts) (base offset size : ℕ) → size ≡ size_at image base → size < offset
    + bundle_words (word_at image base offset) → is_inside image base offset ≡ false
ends_outside image base offset size is past = grind (arith, nat_tests)

-- the code of a place inside a function
pub stands_inside : (image : Parts) (code : List Decoded) (base offset size : ℕ) (found d : Decoded)
    → IsCodeOf image.words code → size ≡ size_at image base
    → base + offset < length image.words → found ≡ slice_index_or code (base + offset) d → offset + found.words ≤ size
    → StandsAt image base offset found
stands_inside image code base offset size found d codes is within at fits =
    let next : base + offset + 1 ≡ base + (offset + 1) = omega arith in
    let same : found ≡ decoded (word_at image base offset) (word_at image base (offset + 1)) =
    at ∙ codes.each (base + offset) d within ∙ ap (λ place. decoded (word_at image base offset)
    (slice_index image.words place)) next in
    record { inside = ends_inside image base offset size is (omega (arith, fits, ap (λ f. f.words) same)); is = same }
  where
    ends_inside : (image : Parts) (base offset size : ℕ) → size ≡ size_at image base
        → offset + bundle_words (word_at image base offset) ≤ size → is_inside image base offset ≡ true
    ends_inside image base offset size is within = grind (arith, nat_tests)

-- what is fetched there
pub nothing_inside : (image : Parts) (base offset : ℕ) → is_inside image base offset ≡ false → Outside
    ≡ fetched_at image base offset
unfolding fetched_at
nothing_inside image base offset out = ap (λ inside. elim inside as (λ _. Fetched) [
  | false ↦ Outside
  | true ↦ taken_for (bundle_words (word_at image base offset)) (bundle_at (word_at image base offset)
      (word_at image base (offset + 1)))
]) (sym out)

fetched_inside : (image : Parts) (base offset : ℕ) (found : Decoded) → StandsAt image base offset found
    → fetched_at image base offset ≡ taken_for found.words found.bundle
unfolding fetched_at
fetched_inside image base offset found stands =
    ap (λ inside. elim inside as (λ _. Fetched) [
      | false ↦ Outside
      | true ↦ taken_for (bundle_words (word_at image base offset)) (bundle_at (word_at image base offset)
          (word_at image base (offset + 1)))
    ]) stands.inside
    ∙ ap (λ d. taken_for d.words d.bundle) (sym stands.is)

pub a_bundle : (image : Parts) (base offset : ℕ) (found : Decoded) (b : PlainBundle) → StandsAt image base offset found
    → found.bundle ≡ Some b → Found b found.words ≡ fetched_at image base offset
a_bundle image base offset found b stands is =
    sym (fetched_inside image base offset found stands ∙ ap (taken_for found.words) is)

pub no_bundle : (image : Parts) (base offset : ℕ) (found : Decoded) → StandsAt image base offset found → found.bundle
    ≡ None → NoBundle ≡ fetched_at image base offset
no_bundle image base offset found stands is =
    sym (fetched_inside image base offset found stands ∙ ap (taken_for found.words) is)

-- the bundle that is fetched at a place is the one decoded there
pub decoded_there : (image : Parts) (code : List Decoded) (base offset words : ℕ) (found d : Decoded) (b : PlainBundle)
    → IsCodeOf image.words code
    → base + offset < length image.words → found ≡ slice_index_or code (base + offset) d → fetched_at image base offset
    ≡ Found b words → found.bundle ≡ Some b
unfolding fetched_at
decoded_there image code base offset words found d b codes within at fetched =
    ap (λ f. f.bundle) (at ∙ codes.each (base + offset) d within)
    ∙ ap (λ place. bundle_at (word_at image base offset) (slice_index image.words place)) next
    ∙ by (is_inside image base offset) (bundle_at (word_at image base offset) (word_at image base (offset + 1))) fetched
  where
    next : base + offset + 1 ≡ base + (offset + 1)
    next = omega arith

    by : (inside : Bool) (here : Option PlainBundle) → elim inside as (λ _. Fetched) [
      | false ↦ Outside
      | true ↦ taken_for
          (bundle_words (word_at image base offset)) here
    ] ≡ Found b words → here ≡ Some b
    by false here h = cc
    by true None h = cc
    by true (Some bundle) h = cc

-- so it is at the offset of a core's function
pub there_is : (b : Body) (offset words : ℕ) (found d : Decoded) (here bundle : PlainBundle) → offset < b.size → found
    ≡ slice_index_or b.code.items (b.base + offset) d
    → fetched_at b.image b.base offset ≡ Found bundle words → found.bundle ≡ Some here → here ≡ bundle
there_is b offset words found d here bundle inside at fetched is =
    let within : b.base + offset < length b.image.words = omega (arith, b.inside, inside) in
    same_bundle here bundle (sym is ∙ decoded_there b.image b.code.items b.base offset words found d bundle b.decoded
    within at fetched)
  where
    same_bundle : (a b : PlainBundle) → Some a ≡ Some b → a ≡ b
    same_bundle a b h = cc

pub none_there : (b : Body) (offset words : ℕ) (found d : Decoded) (bundle : PlainBundle) → offset < b.size → found
    ≡ slice_index_or b.code.items (b.base + offset) d
    → fetched_at b.image b.base offset ≡ Found bundle words → found.bundle ≡ None → ⊥
none_there b offset words found d bundle inside at fetched is =
    let within : b.base + offset < length b.image.words = omega (arith, b.inside, inside) in
    no_bundle_there bundle (sym is ∙ decoded_there b.image b.code.items b.base offset words found d bundle b.decoded
    within at fetched)
  where
    no_bundle_there : (b : PlainBundle) → None ≡ Some b → ⊥
    no_bundle_there b h = subst (λ o. elim o as (λ _. Type 0) [ None ↦ Unit {0} | Some x ↦ ⊥ ]) h tt
