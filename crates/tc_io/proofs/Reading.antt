-- Steps of `read_all`: the bytes that came so far, and the bytes of one more read.
use Rattle.std.proofs.Common.{◌≡◌, ℕ, ◌<◌, ◌≤◌, List, [], ◌++◌, length, Option, Some, None, IfSome, arith, append_assoc, length-append}
use Rattle.std.proofs.lemmas.List.{append-nil}
use Rattle.tc_io.specs.Source.{Gave, IsSpent}

-- what is held came in this call, and is no more than the limit
pub record Holds (faults faults' limit : ℕ) (left left' : Option (List ℕ)) (bytes : List ℕ) : Type 0 where
  pub later : faults ≤ faults'
  pub within : length bytes ≤ limit
  pub gave : Gave left left' bytes

pub gave_nothing : (a : Option (List ℕ)) → Gave a a []
gave_nothing None = tt
gave_nothing (Some x) = grind arith

pub gave_more : (a b c : Option (List ℕ)) (p q : List ℕ) → Gave a b p → Gave b c q → Gave a c (p ++ q)
gave_more None b c p q g h = tt
gave_more (Some x) None c p q g h = absurd g
gave_more (Some x) (Some y) None p q g h = absurd h
gave_more (Some x) (Some y) (Some z) p q g h = grind (arith, append_assoc)

pub gave_same : (a b c : Option (List ℕ)) (p : List ℕ) → Gave a b p → Gave b c [] → Gave a c p
gave_same a b c p g h = rw (← append-nil p) (gave_more a b c p [] g h)

pub gave_all : (a b : Option (List ℕ)) (p : List ℕ) → Gave a b p → IsSpent b → IfSome a (λ bytes. p ≡ bytes)
gave_all None b p g h = tt
gave_all (Some x) None p g h = absurd g
gave_all (Some x) (Some y) p g h = grind (arith, append-nil)

pub gave_long : (limit : ℕ) (a b : Option (List ℕ)) (p : List ℕ) → Gave a b p → limit < length p
    → IfSome a (λ bytes. limit < length bytes)
gave_long limit None b p g l = tt
gave_long limit (Some x) None p g l = absurd g
gave_long limit (Some x) (Some y) p g l = grind (arith, length-append)

-- what the goals of `read_all` want
pub ruleset reading = (gave_nothing, gave_more, gave_same, gave_all, gave_long)
