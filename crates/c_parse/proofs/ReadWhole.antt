-- What is read whole is a program: the other half of reading being the grammar.
use Rattle.std.proofs.Common.{◌≡◌, ◌↔◌, ℕ, ◌-◌, Bool, true, false, ◌&&◌, List, [], ◌∷◌, ◌++◌, length, Option, None, Some, option_map, refl, sym, ap, subst, ◌∙◌, append-nil, lit≤, if◌then◌else◌}
use Rattle.c_tree.specs.declared.tokens.Token.{Token}
use Rattle.c_tree.specs.Tokens.{items_tokens}
use Rattle.c_tree.specs.Fits.{open_after, BracketsFit}
use Rattle.c_tree.specs.Places.{IsProgram, IsPlace}
use Rattle.c_parse.specs.Answers.{place_of}
use Rattle.c_parse.specs.Expected.{Expected, Items, may_be_empty, may_end, next, read_on, drive, drive_to}
use Rattle.c_parse.specs.Sorts.{room_to}
use Rattle.c_parse.proofs.Limits.{brackets_fit}
use Rattle.c_parse.proofs.Written.{Through, IsItems}
use Rattle.c_parse.proofs.Shortest.{stays_empty}
use Rattle.c_parse.proofs.Came.{next_kept, place}
use Rattle.c_parse.proofs.Programs.{program_read}

-- where all may stay empty, nothing is written
ended : (xs : List Expected) → may_end xs ≡ true → Through xs [] []
unfolding may_end
ended [] e = refl
ended (x ∷ xs) e = went (may_be_empty x) refl e (ended xs)
  where
    went : (b : Bool) → may_be_empty x ≡ b → (b && may_end xs) ≡ true → (may_end xs ≡ true → Through xs [] [])
        → Through (x ∷ xs) [] []
    went true r e later = ([], stays_empty x [] r, later e)
    went false r e later = absurd (cc)

read_through : (n : ℕ) (xs : List Expected) (ts : List Token) → drive n xs ts ≡ None → Through xs ts []
unfolding drive_to
read_through n xs [] e = went (may_end xs) refl e
  where
    went : (b : Bool) → may_end xs ≡ b → if◌then◌else◌ {A = Option ℕ} b None (Some 0) ≡ None → Through xs [] []
    went true r e = ended xs r
    went false r e = absurd (cc)
read_through n xs (t ∷ ts) e = went (next (room_to 64 n) xs t) refl e (λ ys. read_through (open_after t n) ys ts)
  where
    went : (m : Option (List Expected)) → next (room_to 64 n) xs t ≡ m
        → read_on (length ts) (λ ys. drive (open_after t n) ys ts) m ≡ None
        → ((ys : List Expected) → drive (open_after t n) ys ts ≡ None → Through ys ts []) → Through xs (t ∷ ts) []
    went None r e later = absurd (cc)
    went (Some ys) r e later = next_kept (room_to 64 n) xs ys t r ts [] (later ys e)

pub read_is_program : (ts : List Token) → drive 0 (Items ∷ []) ts ≡ None → IsProgram ts
read_is_program ts read = whole h.0 h.1 h.2
  where
    h : Through (Items ∷ []) ts []
    h = read_through 0 (Items ∷ []) ts read

    whole : (mid : List Token) → IsItems ts mid → mid ≡ [] → IsProgram ts
    whole mid i e =
        let written : items_tokens i.items ≡ ts =
        sym (i.written ∙ ap (λ l. items_tokens i.items ++ l) e ∙ append-nil (items_tokens i.items)) in
        record {
          tree = record { items = i.items };
          fits = record {
            grammar = i.fits;
            brackets = subst BracketsFit (sym written) (brackets_fit ts 0 (Items ∷ [])
                (lit≤ tt) read);
          };
          written = written;
        }

pub reads_programs : (ts : List Token) → place_of ts ≡ None ↔ IsProgram ts
reads_programs ts = (
  went (drive 0 (Items ∷ []) ts) refl,
  λ p. let P : List Token → Type 0 = λ l. drive 0 (Items ∷ []) l ≡ None in
      ap (option_map (λ left. length ts - left))
      (subst P p.written (program_read 64 p.tree p.fits.grammar p.fits.brackets)),
)
  where
    went : (m : Option ℕ) → drive 0 (Items ∷ []) ts ≡ m → option_map (λ left. length ts - left) m ≡ None → IsProgram ts
    went None e h = read_is_program ts e
    went (Some left) e h = absurd (cc)

pub reads_to_the_place : (ts : List Token) (at : ℕ) → place_of ts ≡ Some at → IsPlace ts at
reads_to_the_place ts at = went (drive 0 (Items ∷ []) ts) refl
  where
    went : (m : Option ℕ) → drive 0 (Items ∷ []) ts ≡ m → option_map (λ left. length ts - left) m ≡ Some at
        → IsPlace ts at
    went None e h = absurd (cc)
    went (Some left) e h = let is : length ts - left ≡ at = cc in subst (IsPlace ts) is (place ts left e)
