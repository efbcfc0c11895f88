-- Interrupted calls leave what std tells of a reader or a writer as it was.
use Rattle.std.proofs.Common.{ℕ, List, Option, Some, None, arith}
use Rattle.std.proofs.KnownBytes.{Keeps-refl, Keeps-trans, Appends-kept}
use Rattle.std.specs.Io.KnownBytes.{Keeps, Consumes, Appends}

pub kept_consumes : (a b c : Option (List ℕ)) (bytes : List ℕ) → Keeps a b → Consumes b c bytes → Consumes a c bytes
kept_consumes None b c bytes k h = tt
kept_consumes (Some x) None c bytes k h = absurd k
kept_consumes (Some x) (Some y) None bytes k h = absurd h
kept_consumes (Some x) (Some y) (Some z) bytes k h = grind arith

pub kept_appends : (a b c : Option (List ℕ)) (bytes : List ℕ) → Keeps a b → Appends b c bytes → Appends a c bytes
kept_appends None b c bytes k h = tt
kept_appends (Some x) None c bytes k h = absurd k
kept_appends (Some x) (Some y) None bytes k h = absurd h
kept_appends (Some x) (Some y) (Some z) bytes k h = grind arith

pub ruleset passing = (Keeps-refl, Keeps-trans, Appends-kept, kept_consumes, kept_appends)
