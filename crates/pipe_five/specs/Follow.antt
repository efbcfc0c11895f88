-- For proofs. What is looked up in the code to find the places in decode and fetch.
use Rattle.std.specs.Prelude.{◌≡◌, ℕ, true, false, Option, None, Some}
use Rattle.patmos_code.specs.Images.{Parts}
use Rattle.patmos_step.specs.declared.body.Body.{Body}
use Rattle.pipe_five.specs.declared.point.Point.{Point}
use Rattle.pipe_five.specs.declared.follow.BundleAt.{BundleAt}
use Rattle.pipe_five.specs.Stages.{is_start, stands, words_at}

-- a function starts where the core's does
abbrev pub IsAtStart : Body → Type 0
IsAtStart b = is_start b.image b.base ≡ true

-- how many words the bundle at a point has, if the point is one of the code
abbrev pub words_standing : Parts → Point → Option ℕ
words_standing image p = elim (stands image p) [ true ↦ Some (words_at image p) | false ↦ None ]

-- a bundle has so many words
abbrev pub HasWords : Parts → BundleAt → Type 0
HasWords image s = s.words ≡ words_at image s.point
