-- To be believed. The names of functions in an assembly text: those of the source, or numbers.
use Rattle.std.specs.Prelude.{◌≡◌, ℕ, zero, suc, ◌<◌, ◌==◌, Bool, true, not, ◌&&◌, if◌then◌else◌, List, [], ◌∷◌, ◌++◌, length, bytes_eq, codes}
use Rattle.std.specs.Fmt.{decimal}
use Rattle.patmos_forms.specs.Readers.{is_name}
use Rattle.patmos_asm.specs.Assembly.{is_among}
use Rattle.code_text.specs.Listing.{name_of}

-- names as the assembler takes them, none of which comes twice
abbrev pub are_names : List (List ℕ) → Bool
are_names [] = true
are_names (n ∷ ns) = is_name n && (not (is_among n ns) && are_names ns)

-- so many names that are numbers
abbrev pub numbered : ℕ → List (List ℕ)
numbered zero = []
numbered (suc n) = numbered n ++ (codes "f" ++ decimal n) ∷ []

-- those of so many functions: these, if the assembler takes them. Names of C functions are such names
abbrev pub names_for : List (List ℕ) → ℕ → List (List ℕ)
names_for names count = if (length names == count) && are_names names then names else numbered count

-- each of so many functions has a name, and no other has it
pub record HasNames (names : List (List ℕ)) (count : ℕ) : Type 0 where
  pub named : (k : ℕ) → k < count → is_name (name_of names k) ≡ true
  pub apart : (j k : ℕ) → j < count → k < count → bytes_eq (name_of names j) (name_of names k) ≡ true → j ≡ k
