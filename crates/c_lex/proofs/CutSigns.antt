-- A sign is the same in a text that is cut short after it.
use Rattle.std.proofs.Common.{◌≡◌, ◌∙◌, ℕ, ◌≤◌, nat_le, Bool, true, false, ◌&&◌, ◌||◌, refl, sym, ap, if◌then◌else◌, List, [], ◌∷◌, ◌++◌, length, arith, Option, None, Some}
use Rattle.std.specs.List.{list_all}
use Rattle.std.proofs.lemmas.Bool.Decides.{nat_tests}
use Rattle.c_lex.specs.declared.pieces.Piece.{Piece}
use Rattle.c_lex.specs.declared.pieces.Piece.TheVariants.{Is, Bad}
use Rattle.c_tree.specs.declared.tokens.Token.{Token}
use Rattle.c_tree.specs.declared.tokens.Token.TheVariants as token
use Rattle.c_tree.specs.declared.tokens.Sign.{Sign}
use Rattle.c_lex.specs.Bytes.{begins_with}
use Rattle.c_lex.specs.Signs.{longest_signs, long_signs, unused_signs, short_signs, begins_among, sign_among, sign_at}
use Rattle.c_lex.proofs.CutRuns.{begins_cut, begins_less}

among_less : (ts : List (List ℕ)) (xs ys : List ℕ) → begins_among ts (xs ++ ys) ≡ false → begins_among ts xs ≡ false
among_less [] xs ys e = refl
among_less (t ∷ ts) xs ys e =
    either (begins_less t xs ys) (among_less ts xs ys) (begins_with t (xs ++ ys)) refl (begins_with t xs) refl e
  where
    either : (begins_with t (xs ++ ys) ≡ false → begins_with t xs ≡ false) → (begins_among ts (xs ++ ys) ≡ false
        → begins_among ts xs ≡ false)
        → (b : Bool) → begins_with t (xs ++ ys) ≡ b → (c : Bool) → begins_with t xs ≡ c
        → b || begins_among ts (xs ++ ys) ≡ false → c || begins_among ts xs ≡ false
    either one more true f c g e = cc
    either one more false f true g e = cc (one f)
    either one more false f false g e = more e

sign_less : (ss : List (List ℕ × Sign)) (xs ys : List ℕ) → sign_among ss (xs ++ ys) ≡ None → sign_among ss xs ≡ None
sign_less [] xs ys e = refl
sign_less (s ∷ ss) xs ys e =
    either (begins_less s.0 xs ys) (sign_less ss xs ys) (begins_with s.0 (xs ++ ys)) refl (begins_with s.0 xs) refl e
  where
    either : (begins_with s.0 (xs ++ ys) ≡ false → begins_with s.0 xs ≡ false) → (sign_among ss (xs ++ ys) ≡ None
        → sign_among ss xs ≡ None)
        → (b : Bool) → begins_with s.0 (xs ++ ys) ≡ b → (c : Bool) → begins_with s.0 xs ≡ c
        → (if b then Some s.1 else sign_among ss (xs ++ ys)) ≡ None → (if c then Some s.1 else sign_among ss xs) ≡ None
    either one more true f c g e = cc
    either one more false f true g e = cc (one f)
    either one more false f false g e = more e

-- signs of so many bytes at most, which are all there
sign_cut : (n : ℕ) (ss : List (List ℕ × Sign)) → list_all (λ s. nat_le (length s.0) n) ss ≡ true → (xs ys : List ℕ)
    → n ≤ length xs → sign_among ss (xs ++ ys) ≡ sign_among ss xs
sign_cut n [] short xs ys within = refl
sign_cut n (s ∷ ss) short xs ys within = either (λ l. sign_cut n ss l xs ys within) (nat_le (length s.0) n) refl short
  where
    either : (list_all (λ s. nat_le (length s.0) n) ss ≡ true → sign_among ss (xs ++ ys) ≡ sign_among ss xs)
        → (t : Bool) → nat_le (length s.0) n ≡ t
        → t && list_all (λ s. nat_le (length s.0) n) ss ≡ true
        → (if begins_with s.0 (xs ++ ys) then Some s.1 else sign_among ss (xs ++ ys))
        ≡ (if begins_with s.0 xs then Some s.1 else sign_among ss xs)
    either more false e l = cc
    either more true e l =
        let fits : length s.0 ≤ length xs = grind (arith, nat_tests, e, within) in
        ap (λ b. if b then Some s.1 else sign_among ss (xs ++ ys)) (begins_cut s.0 xs ys fits)
        ∙ ap (λ o. if begins_with s.0 xs then Some s.1 else o) (more l)

-- which sign is taken
abbrev chosen : Bool → Option Sign → Bool → Option Sign → Piece
chosen three two unused one = if three then Bad else elim two [
  | Some s ↦ Is (token.Sign s) 2
  | None ↦ if unused then Bad else elim one [ Some s ↦ Is (token.Sign s) 1 | None ↦ Bad ]
]

pub sign_at_cut : (xs ys : List ℕ) (t : Token) (n : ℕ) → 1 ≤ length xs → n ≤ length xs → sign_at (xs ++ ys) ≡ Is t n
    → sign_at xs ≡ Is t n
sign_at_cut xs ys t n some within e =
    either (begins_among longest_signs (xs ++ ys)) (among_less longest_signs xs ys) (sign_among long_signs (xs ++ ys))
    (sign_less long_signs xs ys) (sign_cut 2 long_signs refl xs ys)
    (begins_among unused_signs (xs ++ ys)) (among_less unused_signs xs ys) e
  where
    either : (a : Bool) → (a ≡ false → begins_among longest_signs xs ≡ false) → (b : Option Sign)
        → (b ≡ None → sign_among long_signs xs ≡ None) → (2 ≤ length xs → b ≡ sign_among long_signs xs)
        → (c : Bool) → (c ≡ false → begins_among unused_signs xs ≡ false)
        → chosen a b c (sign_among short_signs (xs ++ ys)) ≡ Is t n
        → chosen (begins_among longest_signs xs) (sign_among long_signs xs) (begins_among unused_signs xs)
        (sign_among short_signs xs) ≡ Is t n
    either true l b m k c u e = cc
    either false l (Some s) m k c u e =
        let two : n ≡ 2 = cc in
        ap (λ a. chosen a (sign_among long_signs xs) (begins_among unused_signs xs) (sign_among short_signs xs))
        (l refl)
        ∙ ap (λ b. chosen false b (begins_among unused_signs xs) (sign_among short_signs xs)) (sym
        (k (omega (arith, within, two)))) ∙ e
    either false l None m k true u e = cc
    either false l None m k false u e =
        ap (λ a. chosen a (sign_among long_signs xs) (begins_among unused_signs xs) (sign_among short_signs xs))
        (l refl)
        ∙ ap (λ b. chosen false b (begins_among unused_signs xs) (sign_among short_signs xs)) (m refl)
        ∙ ap (λ c. chosen false None c (sign_among short_signs xs)) (u refl)
        ∙ ap (chosen false None false) (sym (sign_cut 1 short_signs refl xs ys some)) ∙ e
