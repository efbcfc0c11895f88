-- Readers of a text that is cut short after what they read.
use Rattle.std.proofs.Common.{◌<◌, ◌≡◌, ℕ, suc, ◌≤◌, ◌==◌, Bool, true, false, ◌&&◌, refl, ap, if◌then◌else◌, List, [], ◌∷◌, ◌++◌, length, arith, None, Some}
use Rattle.c_lex.specs.declared.classes.Class.{Class}
use Rattle.c_lex.specs.Bytes.{is_space, passes, run, past, begins_with}
use Rattle.c_lex.specs.Blanks.{ends_line}

-- bytes of a class

pub run_within : (c : Class) (bs : List ℕ) → run c bs ≤ length bs
run_within c [] = omega arith
run_within c (b ∷ bs) = elim (passes c b) as (λ t. (if t then suc (run c bs) else 0) ≤ suc (length bs)) [
  | true ↦ omega
      (arith, run_within c bs)
  | false ↦ omega arith
]

pub run_some : (c : Class) (b : ℕ) (bs : List ℕ) → passes c b ≡ true → 0 < run c (b ∷ bs)
run_some c b bs e = rw e (omega arith)

pub run_cut : (c : Class) (xs ys : List ℕ) → run c (xs ++ ys) ≤ length xs → run c xs ≡ run c (xs ++ ys)
run_cut c [] ys within = omega (arith, within)
run_cut c (x ∷ xs) ys within = either (run_cut c xs ys) (passes c x) within
  where
    either : (run c (xs ++ ys) ≤ length xs → run c xs ≡ run c (xs ++ ys)) → (t : Bool)
        → (if t then suc (run c (xs ++ ys)) else 0) ≤ suc (length xs)
        → (if t then suc (run c xs) else 0) ≡ (if t then suc (run c (xs ++ ys)) else 0)
    either more true h = ap (λ n. suc n) (more (omega (arith, h)))
    either more false h = refl

-- what a text begins with
pub begins_cut : (text xs ys : List ℕ) → length text ≤ length xs → begins_with text (xs ++ ys) ≡ begins_with text xs
begins_cut [] xs ys h = refl
begins_cut (a ∷ text) [] ys h = absurd (omega (arith, h))
begins_cut (a ∷ text) (x ∷ xs) ys h = either (begins_cut text xs ys (omega (arith, h))) (a == x)
  where
    either : begins_with text (xs ++ ys) ≡ begins_with text xs → (t : Bool)
        → ◌≡◌ {A = Bool} (elim (if t then past text (xs ++ ys) else None) [ None ↦ false | Some rest ↦ true ])
        (elim (if t then past text xs else None) [ None ↦ false | Some rest ↦ true ])
    either more true = more
    either more false = refl

pub begins_less : (text xs ys : List ℕ) → begins_with text (xs ++ ys) ≡ false → begins_with text xs ≡ false
begins_less [] xs ys e = e
begins_less (a ∷ text) [] ys e = refl
begins_less (a ∷ text) (x ∷ xs) ys e = either (begins_less text xs ys) (a == x) e
  where
    either : (begins_with text (xs ++ ys) ≡ false → begins_with text xs ≡ false) → (t : Bool)
        → (elim (if t then past text (xs ++ ys) else None) [ None ↦ false | Some rest ↦ true ]) ≡ false
        → (elim (if t then past text xs else None) [ None ↦ false | Some rest ↦ true ]) ≡ false
    either more true e = more e
    either more false e = refl

-- the end of a line
pub line_cut : (xs ys : List ℕ) → ends_line (xs ++ ys) ≡ true → ends_line xs ≡ true
line_cut [] ys e = refl
line_cut (x ∷ xs) ys e = either (line_cut xs ys) (x == 10) (is_space x) e
  where
    either : (ends_line (xs ++ ys) ≡ true → ends_line xs ≡ true) → (t u : Bool)
        → (if t then true else (u && ends_line (xs ++ ys))) ≡ true → (if t then true else (u && ends_line xs)) ≡ true
    either more true u e = refl
    either more false true e = more e
    either more false false e = e
