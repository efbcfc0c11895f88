-- Steps of `write_all`: the bytes taken so far, and the bytes of one more write.
use Rattle.std.proofs.Common.{◌≡◌, ℕ, ◌+◌, ◌≤◌, List, [], ◌++◌, length, take, drop, Option, Some, None, arith, append_assoc}
use Rattle.std.proofs.Math.Seq.{take-add}
use Rattle.std.proofs.lemmas.List.{append-nil}
use Rattle.tc_io.specs.Sink.{Took}

-- exactly the first `written` of `bytes` went out
pub record WentOut (faults faults' : ℕ) (taken taken' : Option (List ℕ)) (bytes : List ℕ) (written : ℕ) : Type 0 where
  pub later : faults ≤ faults'
  pub within : written ≤ length bytes
  pub took : Took taken taken' (take written bytes)

pub took_nothing : (a : Option (List ℕ)) → Took a a []
took_nothing None = tt
took_nothing (Some x) = grind (arith, append-nil)

pub took_more : (a b c : Option (List ℕ)) (p q : List ℕ) → Took a b p → Took b c q → Took a c (p ++ q)
took_more a b None p q g h = tt
took_more a None (Some z) p q g h = absurd h
took_more None (Some y) (Some z) p q g h = absurd g
took_more (Some x) (Some y) (Some z) p q g h = grind (arith, append_assoc)

pub took_same : (a b c : Option (List ℕ)) (p : List ℕ) → Took a b p → Took b c [] → Took a c p
took_same a b c p g h = rw (← append-nil p) (took_more a b c p [] g h)

pub took_next : (a b c : Option (List ℕ)) (bytes rest : List ℕ) (w n : ℕ) → rest ≡ drop w bytes
    → Took a b (take w bytes) → Took b c (take n rest) → Took a c (take (w + n) bytes)
took_next a b c bytes rest w n e g h = rw (take-add, ← e) (took_more a b c (take w bytes) (take n rest) g h)

-- what the goals of `write_all` want
pub ruleset writing = (took_nothing, took_same, took_next)
