-- Signs end in the text.
use Rattle.std.proofs.Common.{◌≡◌, ℕ, ◌<◌, ◌≤◌, ◌==◌, nat_le, Bool, true, false, ◌&&◌, refl, if◌then◌else◌, List, [], ◌∷◌, length, arith, Option, None, Some}
use Rattle.std.specs.Prelude.{IfSome}
use Rattle.std.specs.List.{list_all}
use Rattle.std.proofs.lemmas.Bool.Decides.{nat_tests}
use Rattle.c_lex.specs.declared.pieces.Piece.TheVariants.{Is, Bad}
use Rattle.c_tree.specs.declared.tokens.Token.TheVariants as token
use Rattle.c_tree.specs.declared.tokens.Sign.{Sign}
use Rattle.c_lex.specs.Bytes.{past, begins_with}
use Rattle.c_lex.specs.Signs.{longest_signs, long_signs, unused_signs, short_signs, begins_among, sign_among, sign_at}
use Rattle.c_lex.specs.Pieces.{IsWithin}

pub begins_long : (text bs : List ℕ) → begins_with text bs ≡ true → length text ≤ length bs
begins_long [] bs e = omega arith
begins_long (a ∷ text) [] e = cc
begins_long (a ∷ text) (b ∷ bs) e = either (begins_long text bs) (a == b) e
  where
    either : (begins_with text bs ≡ true → length text ≤ length bs) → (t : Bool)
        → (elim (if t then past text bs else None) [ None ↦ false | Some rest ↦ true ]) ≡ true → length (a ∷ text)
        ≤ length (b ∷ bs)
    either shorter true e = omega (arith, shorter e)
    either shorter false e = cc

-- signs of two bytes
sign_long : (ss : List (List ℕ × Sign)) → list_all (λ s. nat_le 2 (length s.0)) ss ≡ true → (bs : List ℕ)
    → IfSome (sign_among ss bs) (λ s. 2 ≤ length bs)
sign_long [] long bs = tt
sign_long (s ∷ ss) long bs = either (λ l. sign_long ss l bs) (nat_le 2 (length s.0)) refl long (begins_with s.0 bs) refl
  where
    either : (list_all (λ s. nat_le 2 (length s.0)) ss ≡ true → IfSome (sign_among ss bs) (λ s. 2 ≤ length bs))
        → (t : Bool) → nat_le 2 (length s.0) ≡ t → t && list_all (λ s. nat_le 2 (length s.0)) ss ≡ true → (u : Bool)
        → begins_with s.0 bs ≡ u
        → IfSome (if u then Some s.1 else sign_among ss bs) (λ s. 2 ≤ length bs)
    either more false e l u f = absurd (cc)
    either more true e l true f =
        let within : length s.0 ≤ length bs = begins_long s.0 bs f in grind (arith, nat_tests, within, e)
    either more true e l false f = more l

pub sign_within : (bs : List ℕ) → 0 < length bs → IsWithin (sign_at bs) (length bs)
sign_within bs some = either (begins_among longest_signs bs) (sign_among long_signs bs) (sign_long long_signs refl bs)
    (begins_among unused_signs bs) (sign_among short_signs bs)
  where
    either : (t : Bool) (o : Option Sign) → IfSome o (λ s. 2 ≤ length bs) → (u : Bool) (p : Option Sign)
        → IsWithin (if t then Bad else elim o [
          | Some s ↦ Is (token.Sign s) 2
          | None ↦ if u then Bad else elim p
              [ Some s ↦ Is (token.Sign s) 1 | None ↦ Bad ]
        ]) (length bs)
    either true o long u p = tt
    either false (Some s) long u p = (omega arith, long)
    either false None long true p = tt
    either false None long false (Some s) = (omega arith, omega (arith, some))
    either false None long false None = tt
