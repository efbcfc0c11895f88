-- Readers that find the same in a text that is cut short after what they read.
use Rattle.std.proofs.Common.{◌≡◌, ◌∙◌, ℕ, ◌≤◌, refl, sym, ap, List, ◌++◌, length, arith, Option, None, Some}
use Rattle.c_lex.specs.Bounds.{and_then}

-- a step of two that finds something
pub record Both {A B : Type 0} (o : Option A) (f : A → Option B) (b : B) : Type 0 where
  pub between : A
  pub first : o ≡ Some between
  pub second : f between ≡ Some b

pub both_of : {A B : Type 0} (o : Option A) (f : A → Option B) (b : B) → and_then o f ≡ Some b → Both o f b
both_of None f b e = cc
both_of (Some a) f b e = record { between = a; first = refl; second = e }

pub then_is : {A B : Type 0} (o : Option A) (f : A → Option B) (a : A) → o ≡ Some a → and_then o f ≡ f a
then_is o f a e = ap (λ x. and_then x f) e

-- what is found in a text with more after it, found without that too; it leaves so much less, and looks the same
pub record IsKept {A V : Type 0} (rest : A → List ℕ) (look : A → V) (read : List ℕ → Option A) (xs ys : List ℕ)
    (a : A) : Type 0 where
  pub less : A
  pub same : look less ≡ look a
  pub parts : rest a ≡ rest less ++ ys
  pub found : read xs ≡ Some less

-- whatever is after what the first reader reads, the second finds the same without it
pub record IsSteady {A V : Type 0} (rest : A → List ℕ) (look : A → V) (read read' : List ℕ → Option A) : Type 0 where
  pub shrinks : (bs : List ℕ) (a : A) → read bs ≡ Some a → length (rest a) ≤ length bs
  pub kept : (xs ys : List ℕ) (a : A) → read (xs ++ ys) ≡ Some a → length ys ≤ length (rest a)
      → IsKept rest look read' xs ys a

-- one reader after another
pub then_steady : {A B V W : Type 0} (rest : A → List ℕ) (look : A → V) (rest' : B → List ℕ) (look' : B → W)
    (read read' : List ℕ → Option A) (next next' : A → List ℕ → Option B)
    → IsSteady rest look read read' → ((a b : A) → look b ≡ look a → IsSteady rest' look' (next a) (next' b))
    → IsSteady rest' look' (λ bs. and_then (read bs) (λ a. next a (rest a))) (λ bs. and_then (read' bs)
    (λ b. next' b (rest b)))
then_steady rest look rest' look' read read' next next' first later = record {
  shrinks = λ bs b e.
      let h = both_of (read bs) (λ a. next a (rest a)) b e in
      omega (
        arith,
        first.shrinks bs h.between h.first,
        (later h.between h.between refl).shrinks
            (rest h.between) b h.second,
      );
  kept = λ xs ys b e within.
      let h = both_of (read (xs ++ ys)) (λ a. next a (rest a)) b e in
      let long = (later h.between h.between refl).shrinks (rest h.between) b h.second in
      let k = first.kept xs ys h.between h.first (omega (arith, within, long)) in
      let m = (later h.between k.less k.same).kept (rest k.less) ys b (ap (next h.between) (sym k.parts)
      ∙ h.second) within in
      record {
        less = m.less;
        same = m.same;
        parts = m.parts;
        found = then_is (read' xs) (λ b. next' b (rest b)) k.less
            k.found ∙ m.found;
      };
}

-- what a reader found, told in another way
pub told_steady : {A B V W : Type 0} (rest : A → List ℕ) (look : A → V) (rest' : B → List ℕ) (look' : B → W)
    (read read' : List ℕ → Option A) (tell tell' : A → B)
    → IsSteady rest look read read' → ((a : A) → rest' (tell a) ≡ rest a) → ((a : A) → rest' (tell' a) ≡ rest a)
    → ((a b : A) → look b ≡ look a → look' (tell' b) ≡ look' (tell a))
    → IsSteady rest' look' (λ bs. and_then (read bs) (λ a. Some (tell a))) (λ bs. and_then (read' bs)
    (λ b. Some (tell' b)))
told_steady rest look rest' look' read read' tell tell' first leaves leaves' looks = record {
  shrinks = λ bs b e.
      let h = both_of (read bs) (λ a. Some (tell a)) b e in
      let told : tell h.between ≡ b = cc h.second in
      omega (arith, first.shrinks bs h.between h.first, ap (λ x. length (rest' x)) told, ap length (leaves h.between));
  kept = λ xs ys b e within.
      let h = both_of (read (xs ++ ys)) (λ a. Some (tell a)) b e in
      let told : tell h.between ≡ b = cc h.second in
      let k = first.kept xs ys h.between h.first (omega (
        arith,
        within,
        ap (λ x. length (rest' x)) told,
        ap length (leaves h.between),
      )) in
      record {
        less = tell' k.less;
        same = looks h.between k.less k.same ∙ ap look' told;
        parts = ap rest' (sym told) ∙ leaves h.between ∙ k.parts ∙ ap (λ r. r ++ ys) (sym (leaves' k.less));
        found = then_is (read' xs) (λ b. Some (tell' b)) k.less k.found;
      };
}
