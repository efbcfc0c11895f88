-- The parts of a text between its semicolons, one by one.
use Rattle.std.proofs.Common.{◌≡◌, ℕ, ◌+◌, Bool, true, false, ◌==◌, List, [], ◌∷◌, length, refl, Option, Some, None}
use Rattle.patmos_syntax.specs.Drafts.{cut_at, parts_of, two_parts}

-- the parts of what is left
abbrev pub left_of : Option (List ℕ) → List (List ℕ)
left_of None = []
left_of (Some rest) = parts_of rest

abbrev pub size_of : Option (List ℕ) → ℕ
size_of None = 0
size_of (Some rest) = length rest + 1

cut_byte : (b : ℕ) (bs : List ℕ) (t : Bool) → b == 59 ≡ t → parts_of bs ≡ (cut_at 59 bs).0 ∷ left_of (cut_at 59 bs).1 →
    parts_of (b ∷ bs) ≡ (cut_at 59 (b ∷ bs)).0 ∷ left_of (cut_at 59 (b ∷ bs)).1
cut_byte b bs true e rest = rw e refl
cut_byte b bs false e rest = rw (e, rest) refl

-- the first part is what stands before the first semicolon
pub parts_cut : (text : List ℕ) → parts_of text ≡ (cut_at 59 text).0 ∷ left_of (cut_at 59 text).1
parts_cut [] = refl
parts_cut (b ∷ bs) = cut_byte b bs (b == 59) refl (parts_cut bs)

-- one part, two, and more
pub one_part : (text : List ℕ) → (cut_at 59 text).1 ≡ None → two_parts (parts_of text) ≡ None
one_part text whole = rw (parts_cut text, whole) refl

pub just_two_parts : (text rest : List ℕ) → (cut_at 59 text).1 ≡ Some rest → (cut_at 59 rest).1 ≡ None →
    two_parts (parts_of text) ≡ Some ((cut_at 59 text).0, (cut_at 59 rest).0)
just_two_parts text rest cut whole = rw (parts_cut text, cut, parts_cut rest, whole) refl

pub more_parts : (text rest more : List ℕ) → (cut_at 59 text).1 ≡ Some rest → (cut_at 59 rest).1 ≡ Some more →
    two_parts (parts_of text) ≡ None
more_parts text rest more cut again = rw (parts_cut text, cut, parts_cut rest, again, parts_cut more) refl
