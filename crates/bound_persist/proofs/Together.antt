-- Functions that all fit into the method cache together: each misses once.
use Rattle.std.proofs.Common.{◌≡◌, ℕ, zero, suc, ◌+◌, ◌<◌, ◌≤◌, ◌==◌, ◌||◌, nat_le, Bool, true, false, if◌then◌else◌, List, [], ◌∷◌, ◌++◌, length, sum_by, slice_index_or, refl, sym, ap, ◌∙◌, arith}
use Rattle.std.proofs.lemmas.Bool.{or_left, eq-eqb, and_parts, and_from, le-leb, leb-true}
use Rattle.std.proofs.lemmas.List.Folds.{list_any-append}
use Rattle.std.proofs.lemmas.List.Sums.{sum_by-cons, sum_by_push}
use Rattle.std.specs.List.{Contains}
use Rattle.method_cache.specs.declared.cache.Method.{Method}
use Rattle.method_cache.specs.Residents.{fits, resident, is_among, touched, words_of}
use Rattle.method_cache.proofs.Suffix.{resident_keeps}
use Rattle.bound_persist.specs.Together.{misses_after, AreOf, left, MissOnce}

-- ---- one miss more

among_push : (f : ℕ) (misses : List Method) (m : Method) → is_among f (misses ++ m ∷ [])
    ≡ (is_among f misses || (m.function == f))
among_push f misses m =
    list_any-append (λ (x : Method). x.function == f) misses (m ∷ []) ∙ by (is_among f misses) (m.function == f)
  where
    by : (a b : Bool) → (a || (b || false)) ≡ (a || b)
    by true b = refl
    by false true = refl
    by false false = refl

among_there : (f : ℕ) (misses : List Method) (m : Method) → is_among f misses ≡ true → is_among f (misses ++ m ∷ [])
    ≡ true
among_there f misses m is = among_push f misses m ∙ or_left (is_among f misses) (m.function == f) is

any_weight : (weight : Method → ℕ) (x : Method) (b : Bool) → (if b then 0 else weight x) ≤ weight x
any_weight weight x true = omega arith
any_weight weight x false = omega arith

module _ (weight : Method → ℕ) where
  left_less : (all misses : List Method) (m : Method) → left weight all (misses ++ m ∷ []) ≤ left weight all misses
  left_less [] misses m = omega arith
  left_less (x ∷ all) misses m = by (left_less all misses m)
      (any_weight weight x (is_among x.function (misses ++ m ∷ []))) (is_among x.function misses) refl
    where
      by : left weight all (misses ++ m ∷ []) ≤ left weight all misses
          → (if is_among x.function (misses ++ m ∷ []) then 0 else weight x) ≤ weight x
          → (b : Bool) → is_among x.function misses ≡ b
          → (if is_among x.function (misses ++ m ∷ []) then 0 else weight x) + left weight all (misses ++ m ∷ [])
          ≤ (if b then 0 else weight x) + left weight all misses
      by rest w true is = let e = among_there x.function misses m is in rw e (omega (arith, rest))
      by rest w false is = omega (arith, rest, w)

  left_one : (all misses : List Method) (m : Method) (k : ℕ) → k < length all → slice_index_or all k m ≡ m
      → is_among m.function misses ≡ false
      → left weight all (misses ++ m ∷ []) + weight m ≤ left weight all misses
  left_one [] misses m k within is new = absurd (omega (arith, within))
  left_one (x ∷ all) misses m zero within is new =
      let before : is_among x.function misses ≡ false = ap (λ (y : Method). is_among y.function misses) is ∙ new in
      let behind : is_among x.function (misses ++ m ∷ []) ≡ true =
      ap (λ (y : Method). is_among y.function (misses ++ m ∷ [])) is ∙ among_push m.function misses m
      ∙ ap (λ b. b || (m.function == m.function)) new ∙ eq-eqb m.function m.function refl in
      let rest = left_less all misses m in
      let same = ap weight is in
      rw (before, behind) (omega (arith, rest, same))
  left_one (x ∷ all) misses m (suc k) within is new =
      by (left_one all misses m k (omega (arith, within)) is new)
      (any_weight weight x (is_among x.function (misses ++ m ∷ []))) (is_among x.function misses) refl
    where
      by : left weight all (misses ++ m ∷ []) + weight m ≤ left weight all misses
          → (if is_among x.function (misses ++ m ∷ []) then 0 else weight x) ≤ weight x
          → (b : Bool) → is_among x.function misses ≡ b
          → ((if is_among x.function (misses ++ m ∷ []) then 0 else weight x) + left weight all (misses ++ m ∷ []))
          + weight m ≤ (if b then 0 else weight x) + left weight all misses
      by rest w true was = let e = among_there x.function misses m was in rw e (omega (arith, rest))
      by rest w false was = omega (arith, rest, w)

-- ---- all fit

-- no function missed yet
pub none_missed : (all : List Method) → MissOnce all []
none_missed all weight = let e = same all in omega (arith, e)
  where
    same : (ms : List Method) → left weight ms [] ≡ sum_by weight ms
    same [] = refl
    same (m ∷ ms) = let rest = same ms in let e = sum_by-cons weight m ms in omega (arith, rest, e)

count_is : (ms : List Method) → sum_by (λ m. 1) ms ≡ length ms
count_is [] = refl
count_is (m ∷ ms) = let rest = count_is ms in let e = sum_by-cons (λ (x : Method). 1) m ms in omega (arith, rest, e)

once_fits : (all misses : List Method) → fits all ≡ true → MissOnce all misses → fits misses ≡ true
once_fits all misses room h =
    let parts = and_parts (nat_le (length all) 16) (nat_le (words_of all) 4096) room in
    let few = leb-true (length all) 16 parts.0 in
    let small = leb-true (words_of all) 4096 parts.1 in
    let a = h (λ m. 1) in
    let b = h (λ m. m.words) in
    let c = count_is all in
    let d = count_is misses in
    and_from (nat_le (length misses) 16) (nat_le (words_of misses) 4096)
    (le-leb (length misses) 16 (omega (arith, few, a, c, d))) (le-leb (words_of misses) 4096
    (omega (arith, small, b)))

pub all_stay : (all misses : List Method) → fits all ≡ true → MissOnce all misses → resident misses ≡ misses
all_stay all misses room h = resident_keeps misses (once_fits all misses room h)

pub once_pushed : (all misses : List Method) (m : Method) → Contains all m → is_among m.function misses ≡ false
    → MissOnce all misses → MissOnce all (misses ++ m ∷ [])
once_pushed all misses m one new h weight =
    let a = h weight in
    let b = left_one weight all misses m one.0 one.1 one.2 new in
    let c = sum_by_push weight misses m in
    omega (arith, a, b, c)

once_touched : (all misses : List Method) (m : Method) → fits all ≡ true → Contains all m → MissOnce all misses
    → MissOnce all (touched misses m)
once_touched all misses m room one h = by (is_among m.function (resident misses)) refl
  where
    by : (b : Bool) → is_among m.function (resident misses) ≡ b → MissOnce all (if b then misses else misses ++ m ∷ [])
    by true is = h
    by false is = once_pushed all misses m one (ap (is_among m.function) (sym (all_stay all misses room h)) ∙ is) h

touched_keeps : (misses : List Method) (m : Method) (f : ℕ) → is_among f misses ≡ true → is_among f (touched misses m)
    ≡ true
touched_keeps misses m f is = by (is_among m.function (resident misses))
  where
    by : (b : Bool) → is_among f (if b then misses else misses ++ m ∷ []) ≡ true
    by true = is
    by false = among_there f misses m is

once_after : (all misses touches : List Method) → fits all ≡ true → AreOf all touches → MissOnce all misses
    → MissOnce all (misses_after misses touches)
once_after all misses [] room are h = h
once_after all misses (m ∷ ms) room are h =
    once_after all (touched misses m) ms room are.1 (once_touched all misses m room are.0 h)

-- a function that missed is in the cache from then on
pub never_again : (all before later : List Method) → fits all ≡ true → AreOf all before → AreOf all later → (f : ℕ)
    → is_among f (misses_after [] before) ≡ true
    → is_among f (resident (misses_after (misses_after [] before) later)) ≡ true
never_again all before later room first rest f is =
    let once = once_after all (misses_after [] before) later room rest (once_after all [] before room first
    (none_missed all)) in
    ap (is_among f) (all_stay all (misses_after (misses_after [] before) later) room once)
    ∙ kept (misses_after [] before) later is
  where
    kept : (ms ts : List Method) → is_among f ms ≡ true → is_among f (misses_after ms ts) ≡ true
    kept ms [] there = there
    kept ms (t ∷ ts) there = kept (touched ms t) ts (touched_keeps ms t f there)

-- and all misses from an empty cache weigh no more than all the functions
pub misses_once : (all touches : List Method) → fits all ≡ true → AreOf all touches → (weight : Method → ℕ)
    → sum_by weight (misses_after [] touches) ≤ sum_by weight all
misses_once all touches room are weight =
    let h = once_after all [] touches room are (none_missed all) weight in omega (arith, h)
