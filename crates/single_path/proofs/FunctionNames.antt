-- Names of functions: what is found as a function outside of its block stands for an earlier one with so many
-- parameters.
use Rattle.std.proofs.Common.{◌≡◌, ◌≢◌, ℕ, ◌+◌, Bool, true, false, if◌then◌else◌, List, [], ◌∷◌, ◌++◌, length, Option, Some, None, bytes_eq, slice_index, refl, ap, sym, ◌∙◌, subst, arith, length-append}
use Rattle.std.specs.Option.{option_map}
use Rattle.c_tree.specs.declared.checks.Meaning.{Meaning}
use Rattle.c_tree.specs.declared.checks.Meaning.TheVariants as means
use Rattle.c_tree.specs.declared.units.Length.{Length}
use Rattle.c_tree.specs.declared.units.Parameter.{Parameter}
use Rattle.c_tree.specs.Names.{Named, last_named, found, declared, number_of}
use Rattle.c_tree.specs.Typed.{IsCallable}
use Rattle.c_tree.specs.Valid.{with_parameters}
use Rattle.c_tree.proofs.LastNamed.{last_pushed}
use Rattle.c_meaning.proofs.Programs.{number_same, number_other}
use Rattle.single_path.proofs.Sound.{Callable}

-- ---- names of functions

-- a name stands for an earlier function with so many parameters
pub record Callee (fs : List (List ℕ)) (counts : List ℕ) (text : List ℕ) (arguments : ℕ) : Type 0 where
  pub number : ℕ
  pub is : number_of text fs ≡ Some number
  pub fits : Callable counts (length fs) number arguments

-- a name that is found as a function outside of it does
pub record Knows (names : List Named) (fs : List (List ℕ)) (counts : List ℕ) : Type 0 where
  pub earlier : (text : List ℕ) (c : ℕ) (gives : Bool) → found text names ≡ Some (means.Function c gives false)
      → Callee fs counts text c

pub found_last : (text : List ℕ) (names : List Named) (x : Named)
    → found text (names ++ x ∷ []) ≡ (if bytes_eq x.name text then Some x.means else found text names)
found_last text names x =
    ap (option_map (λ f. f.is.means)) (last_pushed (λ n. n.name) 0 text names x) ∙ by (bytes_eq x.name text)
  where
    by : (same : Bool)
        → option_map (λ f. f.is.means) (if same then Some (record { at = 0 + length names; is = x }) else last_named
        (λ n. n.name) 0 text names)
        ≡ (if same then Some x.means else found text names)
    by true = refl
    by false = refl

-- another declaration than that of a function outside of it hides names
pub knows_more : (names : List Named) (fs : List (List ℕ)) (counts : List ℕ) (name : List ℕ) (m : Meaning)
    → ((c : ℕ) (gives : Bool) → m ≢ means.Function c gives false) → Knows names fs counts
    → Knows (declared names name m) fs counts
knows_more names fs counts name m other k = record {
  earlier = λ text c gives h. k.earlier text c gives (before text c gives (bytes_eq name text)
      (sym (found_last text names (record { name = name; means = m })) ∙ h));
}
  where
    before : (text : List ℕ) (c : ℕ) (gives same : Bool) → (if same then Some m else found text names)
        ≡ Some (means.Function c gives false)
        → found text names ≡ Some (means.Function c gives false)
    before text c gives true e = absurd (other c gives (let is : m ≡ means.Function c gives false = cc in is))
    before text c gives false e = e

pub scalar_hides : (c : ℕ) (gives : Bool) → means.Scalar ≢ means.Function c gives false
scalar_hides c gives e = absurd (cc)

-- what may be called is an earlier function
pub may_call : (names : List Named) (fs : List (List ℕ)) (counts : List ℕ) → Knows names fs counts → (text : List ℕ)
    (arguments : ℕ) → IsCallable names text arguments → (number : ℕ) → number_of text fs ≡ Some number
    → Callable counts (length fs) number arguments
may_call names fs counts k text arguments typed number is =
    let there = k.earlier text arguments typed.0 typed.1 in
    let some : Some there.number ≡ Some number = sym there.is ∙ is in
    let same : there.number ≡ number = cc in
    subst (λ n. Callable counts (length fs) n arguments) same there.fits

-- ---- names after a declaration

pub array_hides : (c : ℕ) (gives : Bool) → means.Array ≢ means.Function c gives false
array_hides c gives e = absurd (cc)

pub inside_hides : (n : ℕ) (g : Bool) (c : ℕ) (gives : Bool) → means.Function n g true ≢ means.Function c gives false
inside_hides n g c gives e = absurd (cc)

pub knows_parameters : (names : List Named) (fs : List (List ℕ)) (counts : List ℕ) (ps : List Parameter)
    → Knows names fs counts
    → Knows (with_parameters names ps) fs counts
knows_parameters names fs counts [] k = k
knows_parameters names fs counts (p ∷ ps) k =
    knows_parameters (declared names p.name means.Scalar) fs counts ps (knows_more names fs counts p.name means.Scalar
    scalar_hides k)

pub knows_global : (names : List Named) (fs : List (List ℕ)) (counts : List ℕ) (name : List ℕ)
    (length_given : Option Length) → Knows names fs counts
    → Knows (declared names name (elim length_given [ None ↦ means.Scalar | Some l ↦ means.Array ])) fs counts
knows_global names fs counts name None k = knows_more names fs counts name means.Scalar scalar_hides k
knows_global names fs counts name (Some l) k = knows_more names fs counts name means.Array array_hides k

-- one function more
pub knows_function : (names : List Named) (fs : List (List ℕ)) (counts : List ℕ) (text : List ℕ) (n : ℕ) (g : Bool)
    → slice_index counts (length fs) ≡ n
    → Knows names fs counts → Knows (declared names text (means.Function n g false)) (fs ++ text ∷ []) counts
knows_function names fs counts text n g count k = record {
  earlier = λ other c gives h. by other c gives (bytes_eq text other) refl
      (sym (found_last other names (record { name = text; means = means.Function n g false })) ∙ h);
}
  where
    more : length (fs ++ text ∷ []) ≡ length fs + 1
    more = length-append fs (text ∷ [])

    by : (other : List ℕ) (c : ℕ) (gives same : Bool) → bytes_eq text other ≡ same
        → (if same then Some (means.Function n g false) else found other names) ≡ Some (means.Function c gives false)
        → Callee (fs ++ text ∷ []) counts other c
    by other c gives true is e = record {
      number = length fs;
      is = number_same other fs text is;
      fits = (omega (arith, more), (let same : n ≡ c = cc in sym same ∙ sym count));
    }
    by other c gives false is e = let there = k.earlier other c gives e in record {
      number = there.number;
      is = number_other other fs text is ∙ there.is;
      fits = (omega (arith, more, there.fits.0), there.fits.1);
    }
