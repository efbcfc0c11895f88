-- The tokens that come, up to one that cannot come next, are the first of a fitting tree's: that is their place.
use Rattle.std.proofs.Common.{◌≡◌, ℕ, zero, suc, ◌+◌, ◌-◌, ◌≤◌, Bool, List, [], ◌∷◌, ◌++◌, length, take, Option, None, Some, refl, ap, sym, subst, ◌∙◌, append-nil, arith, lit≤}
use Rattle.c_tree.specs.declared.tokens.Token.{Token}
use Rattle.c_tree.specs.Tokens.{items_tokens}
use Rattle.c_tree.specs.Fits.{most_open, open_after}
use Rattle.c_tree.specs.Places.{CanGoOn, IsPlace}
use Rattle.c_parse.specs.Expected.{Expected, Items, Move, taken, passed, refused, moved, followed, next, read_on, drive, drive_to}
use Rattle.c_parse.specs.Sorts.{room_to}
use Rattle.c_parse.proofs.Limits.{taken_fits, left_within}
use Rattle.c_parse.proofs.Refused.{no_more}
use Rattle.c_parse.proofs.Written.{Written, Through, IsItems}
use Rattle.c_parse.proofs.Gives.{Gives, through_join}
use Rattle.c_parse.proofs.Kept.{kept}
use Rattle.c_parse.proofs.Shortest.{shortest}

-- Where a token may come next and what is then to come is written, all is written, with the token first.
pub next_kept : (room : Bool) (xs ys : List Expected) (t : Token) → next room xs t ≡ Some ys → (ts rest : List Token)
    → Through ys ts rest → Through xs (t ∷ ts) rest
unfolding next
next_kept room [] ys t e ts rest h = absurd (cc)
next_kept room (x ∷ xs) ys t e ts rest h =
    went (moved room x t) (kept room x t) e (λ f. next_kept room xs ys t f ts rest h)
  where
    went : (m : Move) → Gives (Written x) t m → followed m xs (next room xs t) ≡ Some ys
        → (next room xs t ≡ Some ys → Through xs (t ∷ ts) rest)
        → (mid : List Token) × Written x (t ∷ ts) mid × Through xs mid rest
    went (taken zs) g e later =
        let same : ys ≡ zs ++ xs = cc in
        let P : List Expected → Type 0 = λ l. Through l ts rest in
        let parts : (mid : List Token) × Through zs ts mid × Through xs mid rest =
        through_join zs xs ts rest (subst P same h) in
        (parts.0, g.given ts parts.0 parts.1, parts.2)
    went passed g e later = (t ∷ ts, g.given (t ∷ ts), later e)
    went refused g e later = absurd (cc)

completed : (xs : List Expected) → (ts : List Token) × Through xs ts []
completed [] = ([], refl)
completed (x ∷ xs) =
    let behind : (ts : List Token) × Through xs ts [] = completed xs in
    let here : (ts : List Token) × Written x ts behind.0 = shortest x behind.0 in
    (here.0, (behind.0, here.1, behind.1))

-- The tokens are the first of a text of these places, and with so many brackets open before them at most 64 are.
record Begins (n : ℕ) (xs : List Expected) (ts : List Token) : Type 0 where
  rest : List Token
  through : Through xs (ts ++ rest) []
  brackets : most_open n ts ≤ 64

came : (k : ℕ) (ts : List Token) (n : ℕ) (xs : List Expected) (left : ℕ) → n ≤ 64 → k + left ≡ length ts → drive n xs ts
    ≡ Some left → Begins n xs (take k ts)
unfolding drive_to
came zero ts n xs left few all e =
    let c : (ts : List Token) × Through xs ts [] = completed xs in record { rest = c.0; through = c.1; brackets = few }
came (suc k) [] n xs left few all e = absurd (omega (arith, all))
came (suc k) (t ∷ ts) n xs left few all e =
    went (next (room_to 64 n) xs t) refl e (λ ys within. came k ts (open_after t n) ys left within (omega (arith, all)))
  where
    went : (m : Option (List Expected)) → next (room_to 64 n) xs t ≡ m
        → read_on (length ts) (λ ys. drive (open_after t n) ys ts) m ≡ Some left
        → ((ys : List Expected) → open_after t n ≤ 64 → drive (open_after t n) ys ts ≡ Some left
        → Begins (open_after t n) ys (take k ts)) → Begins n xs (t ∷ take k ts)
    went None r e later = let whole : suc (length ts) ≡ left = cc in absurd (omega (arith, all, whole))
    went (Some ys) r e later =
        let b : Begins (open_after t n) ys (take k ts) = later ys (taken_fits n xs t ys few r) e in
        record {
          rest = b.rest;
          through = next_kept (room_to 64 n) xs ys t r (take k ts ++ b.rest) [] b.through;
          brackets = omega (arith, few, b.brackets);
        }

-- what is written as declarations and no more is a tree's tokens
tree_begins : (ts : List Token) → Begins 0 (Items ∷ []) ts → CanGoOn ts
tree_begins ts b = whole b.through.0 b.through.1 b.through.2
  where
    whole : (mid : List Token) → IsItems (ts ++ b.rest) mid → mid ≡ [] → CanGoOn ts
    whole mid i e = record {
      tree = record { items = i.items };
      rest = b.rest;
      grammar = i.fits;
      written = sym (i.written ∙ ap (λ l. items_tokens i.items ++ l) e ∙ append-nil (items_tokens i.items));
      brackets = b.brackets;
    }

pub place : (ts : List Token) (left : ℕ) → drive 0 (Items ∷ []) ts ≡ Some left → IsPlace ts (length ts - left)
place ts left e =
    let some : left ≤ length ts = left_within ts 0 (Items ∷ []) left e in
    record {
      within = omega arith;
      reached = tree_begins (take (length ts - left) ts) (came (length ts - left) ts 0 (Items ∷ []) left (lit≤ tt)
          (omega (arith, some)) e);
      last = λ k within c. let h : k + left ≤ length ts = no_more ts left e k within c in omega (arith, h);
    }
