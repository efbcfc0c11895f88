-- For proofs. Where variables hide the arrays that each task is given, given by a flag for each array.
use Rattle.std.specs.Prelude.{◌≡◌, ℕ, Bool, false, not, ◌&&◌, ◌||◌, List, [], ◌∷◌, bytes_eq}
use Rattle.c_tree.specs.Plain.{PlainItem, global, function}
use Rattle.c_meaning.specs.Values.{Names, named}
use Rattle.c_mentions.specs.declared.arrays.Arrays.{Arrays}
use Rattle.c_mentions.specs.Mentions.{Array, comm_array, shared_array, name_of, stands_for}

-- a name means the array exactly where it is the array's and the array is not hidden
abbrev pub HidesIf : Array → Bool → Names → Type 0
HidesIf a hidden names = (text : List ℕ) → stands_for a (named names text) ≡ (bytes_eq text (name_of a) && not hidden)

pub record Hides (hidden : Arrays) (names : Names) : Type 0 where
  pub of_comm : HidesIf comm_array hidden.comm names
  pub of_shared : HidesIf shared_array hidden.shared names

-- whether a variable outside functions has a name
abbrev pub declares : List ℕ → PlainItem → Bool
declares text (global of) = bytes_eq of.name text
declares text (function its_kind its_name void_word parameters body) = false

abbrev pub any_declares : List ℕ → List PlainItem → Bool
any_declares text [] = false
any_declares text (i ∷ items) = declares text i || any_declares text items
