-- Notes of parts one after another, and of lists from an item on.
use Rattle.std.proofs.Common.{◌≡◌, List, [], ◌∷◌, ◌++◌, refl, ap, sym, ◌∙◌}
use Rattle.c_tree.specs.declared.statements.Stmt.{Stmt}
use Rattle.c_tree.specs.Plain.{plain_stmt}
use Rattle.c_meaning.specs.Meaning.{names_after}
use Rattle.c_meaning.specs.Values.{Names}
use Rattle.c_mentions.specs.declared.arrays.Arrays.{Arrays}
use Rattle.c_mentions.specs.declared.noted.Flags.{Flags}
use Rattle.c_mentions.specs.Hidden.{Hides}
use Rattle.c_mentions.specs.Noted.{with_use, with_uses, Notes}
use Rattle.c_mentions.specs.Uses.{Use}

pub uses_append : (m : Flags) (xs ys : List Use) → with_uses m (xs ++ ys) ≡ with_uses (with_uses m xs) ys
uses_append m [] ys = refl
uses_append m (u ∷ xs) ys = uses_append (with_use m u) xs ys

-- ---- parts one after another

pub notes_none : (hidden : Arrays) (m : Flags) (us : Names → List Use) → ((names : Names) → us names ≡ [])
    → Notes hidden m m us
notes_none hidden m us none = record { noted = λ names hides. ap (with_uses m) (sym (none names)) }

pub notes_one : (hidden : Arrays) (a b : Flags) (us vs : Names → List Use) → ((names : Names) → vs names ≡ us names)
    → Notes hidden a b us
    → Notes hidden a b vs
notes_one hidden a b us vs same notes =
    record { noted = λ names hides. notes.noted names hides ∙ ap (with_uses a) (sym (same names)) }

pub notes_two : (hidden : Arrays) (a b c : Flags) (us vs ws : Names → List Use) → ((names : Names) → ws names
    ≡ us names ++ vs names)
    → Notes hidden a b us → Notes hidden b c vs → Notes hidden a c ws
notes_two hidden a b c us vs ws same first second = record {
  noted = λ names hides.
      second.noted names hides ∙ ap (λ m. with_uses m (vs names)) (first.noted names hides)
      ∙ sym (uses_append a (us names) (vs names))
      ∙ ap (with_uses a) (sym (same names));
}

pub notes_three : (hidden : Arrays) (a b c d : Flags) (us vs xs ws : Names → List Use) → ((names : Names) → ws names
    ≡ us names ++ (vs names ++ xs names))
    → Notes hidden a b us → Notes hidden b c vs → Notes hidden c d xs → Notes hidden a d ws
notes_three hidden a b c d us vs xs ws same first second third =
    notes_two hidden a b d us (λ names. vs names ++ xs names) ws same first (notes_two hidden b c d vs xs
    (λ names. vs names ++ xs names) (λ names. refl) second third)

-- ---- parts of a list, from one on

-- the uses of the rest, noted, are those of all
pub record Left (hidden : Arrays) (m first : Flags) (rest all : Names → List Use) : Type 0 where
  pub left : (names : Names) → Hides hidden names → with_uses m (rest names) ≡ with_uses first (all names)

pub left_more : (hidden : Arrays) (m next first : Flags) (us rest old all : Names → List Use)
    → ((names : Names) → old names ≡ us names ++ rest names)
    → Notes hidden m next us → Left hidden m first old all → Left hidden next first rest all
left_more hidden m next first us rest old all same notes was = record {
  left = λ names hides.
      ap (λ n. with_uses n (rest names)) (notes.noted names hides) ∙ sym (uses_append m (us names) (rest names))
      ∙ ap (with_uses m) (sym (same names)) ∙ was.left names hides;
}

-- ---- statements of a block

-- the names after these statements
abbrev pub names_through : Names → List Stmt → Names
names_through names [] = names
names_through names (s ∷ body) = names_through (names_after names (plain_stmt s)) body

pub through_one : (names : Names) (body : List Stmt) (s : Stmt) → names_through names (body ++ s ∷ [])
    ≡ names_after (names_through names body) (plain_stmt s)
through_one names [] s = refl
through_one names (t ∷ body) s = through_one (names_after names (plain_stmt t)) body s
