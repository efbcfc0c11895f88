-- Of a list in which each element has a name, the last one so called: where it stands, and where one element more
-- stands at the end.
use Rattle.std.proofs.Common.{◌≡◌, ℕ, suc, zero, ◌+◌, ◌<◌, ◌≤◌, Bool, true, false, if◌then◌else◌, List, [], ◌∷◌, ◌++◌, length, length-append, map, drop, get_or, append_assoc, subst, Option, None, Some, is_some, bytes_eq, refl, ap, sym, ◌∙◌, arith}
use Rattle.std.specs.Prelude.{nat_le, IfSome, option_map}
use Rattle.std.specs.Option.{option_or}
use Rattle.std.specs.List.{AllByRecursion as Each}
use Rattle.std.proofs.Math.Seq.{get_or-append_seam}
use Rattle.std.proofs.lemmas.Bool.Decides.{nat_tests}
use Rattle.c_tree.specs.Names.{Found, last_named, number_of}

-- ---- one element more

or_later : {A : Type 0} → (b : Bool) (d e : A) (later here : Option A) → d ≡ e
    → option_or (if b then Some d else later) here ≡ (if b then Some e else option_or later here)
or_later true d e later here same = ap Some same
or_later false d e later here same = refl

-- an element at the end is the one where it is so called, and changes nothing where it is not
pub last_pushed : {A : Type 0} → (name_of : A → List ℕ) (at : ℕ) (name : List ℕ) (xs : List A) (x : A)
    → last_named name_of at name (xs ++ x ∷ [])
    ≡ (if bytes_eq (name_of x) name then Some (record { at = at + length xs; is = x }) else last_named
    name_of at name xs)
last_pushed name_of at name [] x =
    ap (λ (i : ℕ). if bytes_eq (name_of x) name then Some (record { at = i; is = x }) else None) (omega arith)
last_pushed name_of at name (y ∷ xs) x =
    ap (λ l. option_or l (if bytes_eq (name_of y) name then Some (record { at = at; is = y }) else None))
    (last_pushed name_of (at + 1) name xs x)
    ∙ or_later (bytes_eq (name_of x) name) (record { at = at + 1 + length xs; is = x })
    (record { at = at + length (y ∷ xs); is = x })
    (last_named name_of (at + 1) name xs) (if bytes_eq (name_of y) name then Some
    (record { at = at; is = y }) else None)
    (ap (λ (i : ℕ). record { at = i; is = x }) (omega arith))

-- ---- where it stands

-- it is one of the elements
pub last_within : {A : Type 0} → (name_of : A → List ℕ) (at : ℕ) (name : List ℕ) (xs : List A)
    → IfSome (last_named name_of at name xs) (λ f. (at ≤ f.at) × (f.at < at + length xs))
last_within name_of at name [] = tt
last_within {A = A} name_of at name (x ∷ xs) =
    by (last_named name_of (at + 1) name xs) (bytes_eq (name_of x) name) (last_within name_of (at + 1) name xs)
  where
    by : (later : Option (Found A)) (here : Bool) → IfSome later (λ f. (at + 1 ≤ f.at) × (f.at < at + 1 + length xs))
        → IfSome (option_or later (if here then Some (record { at = at; is = x }) else None)) (λ f. (at ≤ f.at)
        × (f.at < at + length (x ∷ xs)))
    by None true within = (omega arith, omega arith)
    by None false within = tt
    by (Some f) here within = (omega (arith, within.0), omega (arith, within.1))

-- and the one that stands there, where these stand after others
behind_is : {A : Type 0} → (name_of : A → List ℕ) (at : ℕ) (name : List ℕ) (before xs : List A) (d : A)
    → length before ≡ at
    → IfSome (last_named name_of at name xs) (λ f. get_or (before ++ xs) f.at d ≡ f.is)
behind_is name_of at name before [] d count = tt
behind_is {A = A} name_of at name before (x ∷ xs) d count =
    by (last_named name_of (at + 1) name xs) (bytes_eq (name_of x) name)
    (subst (λ ys. IfSome (last_named name_of (at + 1) name xs) (λ f. get_or ys f.at d ≡ f.is))
    (append_assoc before (x ∷ []) xs)
    (behind_is name_of (at + 1) name (before ++ x ∷ []) xs d (length-append before (x ∷ []) ∙ ap (λ n. n + 1) count)))
  where
    by : (later : Option (Found A)) (here : Bool) → IfSome later (λ f. get_or (before ++ x ∷ xs) f.at d ≡ f.is)
        → IfSome (option_or later (if here then Some (record { at = at; is = x }) else None)) (λ f. get_or (before
        ++ x ∷ xs) f.at d ≡ f.is)
    by None true is = ap (λ i. get_or (before ++ x ∷ xs) i d) (sym count) ∙ get_or-append_seam before x xs d
    by None false is = tt
    by (Some f) here is = is

pub last_is : {A : Type 0} → (name_of : A → List ℕ) (name : List ℕ) (xs : List A) (d : A)
    → IfSome (last_named name_of 0 name xs) (λ f. get_or xs f.at d ≡ f.is)
last_is name_of name xs d = behind_is name_of 0 name [] xs d refl

-- ---- what it has, where each of the elements has it

pub last_has : {A : Type 0} → (P : A → Type 0) (name_of : A → List ℕ) (at : ℕ) (name : List ℕ) (xs : List A) → Each P xs
    → IfSome (last_named name_of at name xs) (λ f. P f.is)
last_has P name_of at name [] each = tt
last_has {A = A} P name_of at name (x ∷ xs) each =
    by (last_named name_of (at + 1) name xs) (bytes_eq (name_of x) name) (last_has P name_of (at + 1) name xs each.1)
  where
    by : (later : Option (Found A)) (here : Bool) → IfSome later (λ f. P f.is)
        → IfSome (option_or later (if here then Some (record { at = at; is = x }) else None)) (λ f. P f.is)
    by None true has = each.0
    by None false has = tt
    by (Some f) here has = has

-- ---- of what comes from others by a function

abbrev pub mapped : {A B : Type 0} → (A → B) → Found A → Found B
mapped g f = record { at = f.at; is = g f.is }

pub last_mapped : {A B : Type 0} → (name_of : B → List ℕ) (g : A → B) (at : ℕ) (name : List ℕ) (xs : List A)
    → last_named name_of at name (map g xs) ≡ option_map (mapped g) (last_named (λ x. name_of (g x)) at name xs)
last_mapped name_of g at name [] = refl
last_mapped {A = A} {B = B} name_of g at name (x ∷ xs) =
    ap (λ (l : Option (Found B)). option_or l (if bytes_eq (name_of (g x)) name then Some (record { at = at; is = g x })
    else None)) (last_mapped name_of g (at + 1) name xs)
    ∙ by (last_named (λ y. name_of (g y)) (at + 1) name xs) (bytes_eq (name_of (g x)) name)
  where
    by : (l : Option (Found A)) (here : Bool)
        → option_or (option_map (mapped g) l) (if here then Some (record { at = at; is = g x }) else None)
        ≡ option_map (mapped g) (option_or l (if here then Some (record { at = at; is = x }) else None))
    by None true = refl
    by None false = refl
    by (Some f) here = refl

-- ---- by names alone

-- its number is that among the names
pub number_among : {A : Type 0} → (name_of : A → List ℕ) (name : List ℕ) (xs : List A)
    → number_of name (map name_of xs) ≡ option_map (λ f. f.at) (last_named name_of 0 name xs)
number_among {A = A} name_of name xs =
    ap (option_map (λ f. f.at)) (last_mapped (λ n. n) name_of 0 name xs) ∙ by (last_named name_of 0 name xs)
  where
    by : (l : Option (Found A))
        → option_map (λ f. f.at) (option_map (mapped name_of) l) ≡ option_map (λ f. f.at) l
    by None = refl
    by (Some f) = refl

-- one name more
pub number_pushed : (name : List ℕ) (names : List (List ℕ)) (last : List ℕ)
    → number_of name (names ++ last ∷ []) ≡ (if bytes_eq last name then Some (length names) else number_of name names)
number_pushed name names last =
    ap (option_map (λ f. f.at)) (last_pushed (λ n. n) 0 name names last) ∙ by (bytes_eq last name)
  where
    by : (here : Bool)
        → option_map (λ f. f.at) (if here then Some (record { at = 0 + length names; is = last }) else last_named
        (λ n. n) 0 name names)
        ≡ (if here then Some (length names) else number_of name names)
    by true = ap Some (omega arith)
    by false = refl

-- a number is that of one of the names
pub number_within : (name : List ℕ) (names : List (List ℕ)) → IfSome (number_of name names) (λ n. n < length names)
number_within name names = by (last_named (λ n. n) 0 name names) (last_within (λ n. n) 0 name names)
  where
    by : (l : Option (Found (List ℕ))) → IfSome l (λ f. (0 ≤ f.at) × (f.at < 0 + length names))
        → IfSome (option_map (λ f. f.at) l) (λ n. n < length names)
    by None within = tt
    by (Some f) within = omega (arith, within.1)

-- ---- past the first so many

-- a number that is not one of the first so many
abbrev pub is_past : ℕ → Option ℕ → Bool
is_past outer None = false
is_past outer (Some at) = nat_le outer at

-- whether there is one does not depend on how many stand before
some_anywhere : {A : Type 0} → (name_of : A → List ℕ) (at from : ℕ) (name : List ℕ) (xs : List A)
    → is_some (last_named name_of at name xs) ≡ is_some (last_named name_of from name xs)
some_anywhere name_of at from name [] = refl
some_anywhere {A = A} name_of at from name (x ∷ xs) =
    by (last_named name_of (at + 1) name xs) (last_named name_of (from + 1) name xs) (bytes_eq (name_of x) name)
    (some_anywhere name_of (at + 1) (from + 1) name xs)
  where
    by : (k l : Option (Found A)) (here : Bool) → is_some k ≡ is_some l
        → is_some (option_or k (if here then Some (record { at = at; is = x }) else None))
        ≡ is_some (option_or l (if here then Some (record { at = from; is = x }) else None))
    by None None true same = refl
    by None None false same = refl
    by None (Some f) here same = absurd (cc)
    by (Some f) None here same = absurd (cc)
    by (Some f) (Some g) here same = refl

past_from : {A : Type 0} → (name_of : A → List ℕ) (at outer : ℕ) (name : List ℕ) (xs : List A)
    → is_past (at + outer) (option_map (λ f. f.at) (last_named name_of at name xs))
    ≡ is_some (last_named name_of 0 name (drop outer xs))
past_from {A = A} name_of at zero name xs =
    by (last_named name_of at name xs) (last_within name_of at name xs) ∙ some_anywhere name_of at 0 name xs
  where
    by : (l : Option (Found A)) → IfSome l (λ f. (at ≤ f.at) × (f.at < at + length xs))
        → is_past (at + 0) (option_map (λ f. f.at) l) ≡ is_some l
    by None within = refl
    by (Some f) within = grind (arith, nat_tests, within.0)
past_from name_of at (suc outer) name [] = refl
past_from {A = A} name_of at (suc outer) name (x ∷ xs) =
    by (last_named name_of (at + 1) name xs) (bytes_eq (name_of x) name) ∙ past_from name_of (at + 1) outer name xs
  where
    by : (l : Option (Found A)) (here : Bool)
        → is_past (at + suc outer) (option_map (λ f. f.at)
        (option_or l (if here then Some (record { at = at; is = x }) else None)))
        ≡ is_past (at + 1 + outer) (option_map (λ f. f.at) l)
    by None true = grind (arith, nat_tests)
    by None false = refl
    by (Some f) here = ap (λ n. nat_le n f.at) (omega arith)

pub past_named : {A : Type 0} → (name_of : A → List ℕ) (outer : ℕ) (name : List ℕ) (xs : List A)
    → is_past outer (option_map (λ f. f.at) (last_named name_of 0 name xs))
    ≡ is_some (last_named name_of 0 name (drop outer xs))
past_named name_of outer name xs = ap (λ n. is_past n (option_map (λ f. f.at) (last_named name_of 0 name xs)))
    (omega arith) ∙ past_from name_of 0 outer name xs
