-- Whether a bundle is done in a cycle, by the core's plan for it.
use Rattle.std.proofs.Common.{◌≡◌, ℕ, ◌+◌, ◌^◌, ◌<◌, ◌≤◌, ◌&&◌, nat_lt, Bool, true, false, List, [], ◌∷◌, refl, sym, ap, ◌∙◌, subst, arith}
use Rattle.std.proofs.lemmas.Bool.{leb-true}
use Rattle.patmos_code.specs.Images.{Parts}
use Rattle.patmos_code.specs.Decoding.{bundle_at}
use Rattle.patmos_model.specs.declared.fetched.Fetched.{Fetched}
use Rattle.patmos_model.specs.declared.fetched.Fetched.TheVariants.{Outside}
use Rattle.patmos_model.specs.Site.{size_at, word_at, bundle_words, is_inside}
use Rattle.patmos_model.specs.State.{Plain, Core, is_running, is_free}
use Rattle.patmos_model.specs.Bundle.{fetched_at, taken_for}
use Rattle.patmos_step.specs.declared.plan.Plan.{Plan}
use Rattle.patmos_step.specs.declared.plan.Plan.TheVariants.{Nothing, Waits, Does}
use Rattle.patmos_step.specs.Plan.{planned}
use Rattle.core_pace.specs.Moment.{Done, done_by, fetched_in, passes}

-- ---- the bundle of the cycle

abbrev doing : ℕ → Core → Done
doing cycle c = record { base = c.plain.base; offset = c.plain.offset; cycle = cycle }

abbrev told : Bool → ℕ → Core → List Done
told does cycle c = elim does [ true ↦ doing cycle c ∷ [] | false ↦ [] ]

abbrev planned_by : Bool → Bool → Fetched → Plan
planned_by running free fetched =
    elim running [ false ↦ Nothing | true ↦ elim free [ true ↦ Does fetched | false ↦ Waits ] ]

-- by what the plan says
abbrev Says : Plan → Bool → Plain → Type 0
Says plan does x = elim plan [
  | Nothing ↦ does ≡ false
  | Waits ↦ does ≡ false
  | Does fetched ↦ (does ≡ passes fetched x) × (fetched ≡ fetched_in x)
]

said : (running free : Bool) (x : Plain) → Says (planned_by running free (fetched_in x)) (running
    && (free && passes (fetched_in x) x)) x
said false free x = refl
said true false x = refl
said true true x = (refl, refl)

plan_says : (cycle : ℕ) (x : Plain) (plan : Plan) → plan ≡ planned cycle x
    → Says plan (is_running x && (is_free cycle x && passes (fetched_in x) x)) x
plan_says cycle x plan is =
    subst (λ p. Says p (is_running x && (is_free cycle x && passes (fetched_in x) x)) x) (sym is)
    (said (is_running x) (is_free cycle x) x)

pub none_planned : (cycle : ℕ) (c : Core) (plan : Plan) → plan ≡ planned cycle c.plain → plan ≡ Nothing
    → done_by cycle c ≡ []
none_planned cycle c plan is nothing = ap (λ b. told b cycle c) (plan_says cycle c.plain Nothing (sym nothing ∙ is))

pub none_waiting : (cycle : ℕ) (c : Core) (plan : Plan) → plan ≡ planned cycle c.plain → plan ≡ Waits
    → done_by cycle c ≡ []
none_waiting cycle c plan is waits = ap (λ b. told b cycle c) (plan_says cycle c.plain Waits (sym waits ∙ is))

pub none_passed : (cycle : ℕ) (c : Core) (plan : Plan) (fetched : Fetched) → plan ≡ planned cycle c.plain → plan
    ≡ Does fetched → passes fetched c.plain ≡ false → done_by cycle c ≡ []
none_passed cycle c plan fetched is does failed =
    ap (λ b. told b cycle c) ((plan_says cycle c.plain (Does fetched) (sym does ∙ is)).0 ∙ failed)

pub one_passed : (cycle : ℕ) (c : Core) (plan : Plan) (fetched : Fetched) → plan ≡ planned cycle c.plain → plan
    ≡ Does fetched → passes fetched c.plain ≡ true
    → done_by cycle c ≡ record { base = c.plain.base; offset = c.plain.offset; cycle = cycle } ∷ []
one_passed cycle c plan fetched is does passed =
    ap (λ b. told b cycle c) ((plan_says cycle c.plain (Does fetched) (sym does ∙ is)).0 ∙ passed)

pub fetched_there : (cycle : ℕ) (x : Plain) (plan : Plan) (fetched : Fetched) → plan ≡ planned cycle x → plan
    ≡ Does fetched → fetched ≡ fetched_in x
fetched_there cycle x plan fetched is does = (plan_says cycle x (Does fetched) (sym does ∙ is)).1

running_planned : (running free : Bool) (fetched found : Fetched) → Does fetched ≡ planned_by running free found
    → running ≡ true
running_planned true free fetched found is = refl
running_planned false free fetched found is = cc

pub does_run : (cycle : ℕ) (x : Plain) (plan : Plan) (fetched : Fetched) → plan ≡ planned cycle x → plan ≡ Does fetched
    → is_running x ≡ true
does_run cycle x plan fetched is does =
    running_planned (is_running x) (is_free cycle x) fetched (fetched_in x) (sym does ∙ is)

-- ---- a bundle that was found lies inside its function

some_words : (first : ℕ) → 1 ≤ bundle_words first
some_words first = elim (nat_lt first (2 ^ 31)) as (λ b. 1 ≤ elim b as (λ _. ℕ) [ true ↦ 1 | false ↦ 2 ])
    [ true ↦ omega arith | false ↦ omega arith ]

inside : (image : Parts) (base offset : ℕ) → is_inside image base offset ≡ true → offset < size_at image base
inside image base offset is =
    omega (
      arith,
      leb-true (offset + bundle_words (word_at image base offset)) (size_at image base) is,
      some_words (word_at image base offset),
    )

passed_inside : (image : Parts) (base offset : ℕ) (b : Bool) (x : Plain) → is_inside image base offset ≡ b
    → passes (elim b as (λ _. Fetched) [
      | false ↦ Outside
      | true ↦ taken_for (bundle_words (word_at image base offset)) (bundle_at (word_at image base offset)
          (word_at image base (offset + 1)))
    ]) x ≡ true → offset < size_at image base
passed_inside image base offset true x is passed = inside image base offset is
passed_inside image base offset false x is passed = absurd (let bad : false ≡ true = passed in cc)

pub passed_within : (x : Plain) → passes (fetched_in x) x ≡ true → x.offset < size_at x.site.image x.base
unfolding fetched_at
passed_within x passed =
    passed_inside x.site.image x.base x.offset (is_inside x.site.image x.base x.offset) x refl passed
