-- To be believed. What a core does at one stamp, as a program: it loads and stores shared words one after another,
-- each load's value decides how it goes on, and at the end it leaves the core's new state. The same
-- program has two uses. Played on the words it is what the core does within the machine; fed from a
-- list of values it is what the core does apart from the others, when its loads give these values.
use Rattle.std.specs.Prelude.{ℕ, zero, suc, ◌+◌, List, [], ◌∷◌}
use Rattle.shared_order.specs.declared.operation.Operation.{Operation}
use Rattle.shared_order.specs.Operation.{load, store}
use Rattle.shared_order.specs.Words.{put}

-- a program that leaves an X
pub data Prog (X : Type 0) : Type 0 where
  done : X → Prog X
  get : ℕ → (ℕ → Prog X) → Prog X
  set : ℕ → ℕ → Prog X → Prog X

-- one program, and then another that goes on from what the first leaves
abbrev pub and_then : {X Y : Type 0} → Prog X → (X → Prog Y) → Prog Y
and_then (done x) next = next x
and_then (get word go_on) next = get word (λ value. and_then (go_on value) next)
and_then (set word value rest) next = set word value (and_then rest next)

-- as many words are loaded, by rising number from `word` on
abbrev pub gets : {X : Type 0} → ℕ → ℕ → (List ℕ → Prog X) → Prog X
gets zero word go_on = go_on []
gets (suc count) word go_on =
    get word (λ value. gets count (word + 1) (λ values. go_on (value ∷ values)))

-- the values are stored in words by rising number from `word` on
abbrev pub sets : {X : Type 0} → ℕ → List ℕ → Prog X → Prog X
sets word [] rest = rest
sets word (value ∷ values) rest = set word value (sets (word + 1) values rest)

-- a program played: what it leaves and the operations that it made
pub record Played (X : Type 0) : Type 0 where
  pub core : X
  pub ops : List Operation

-- one operation, and then the rest
abbrev pub first_made : {X : Type 0} → Operation → Played X → Played X
first_made o rest = record { core = rest.core; ops = o ∷ rest.ops }

-- the program played on the words, at a stamp
abbrev pub played : {X : Type 0} → ℕ → Prog X → (ℕ → ℕ) → Played X
played stamp (done x) words = record { core = x; ops = [] }
played stamp (get word go_on) words =
    first_made (load stamp word (words word)) (played stamp (go_on (words word)) words)
played stamp (set word value rest) words =
    first_made (store stamp word value) (played stamp rest (put word value words))

-- a program fed: what it leaves, the values that it has not used and the operations that it made
pub record Fed (X : Type 0) : Type 0 where
  pub core : X
  pub left : List ℕ
  pub ops : List Operation

-- one operation, and then the rest
abbrev pub first_asked : {X : Type 0} → Operation → Fed X → Fed X
first_asked o rest = record { core = rest.core; left = rest.left; ops = o ∷ rest.ops }

-- the value of the next load: 0 where the list has ended
abbrev pub first : List ℕ → ℕ
first [] = 0
first (value ∷ values) = value

-- the values of the loads after it
abbrev pub others : List ℕ → List ℕ
others [] = []
others (value ∷ values) = values

-- the program fed with values for its loads, at a stamp
abbrev pub fed : {X : Type 0} → ℕ → Prog X → List ℕ → Fed X
fed stamp (done x) values = record { core = x; left = values; ops = [] }
fed stamp (get word go_on) values =
    first_asked (load stamp word (first values)) (fed stamp (go_on (first values)) (others values))
fed stamp (set word value rest) values =
    first_asked (store stamp word value) (fed stamp rest values)
