-- For proofs. Which functions are called: of a function of a well-formed shape, those of lesser number.
use Rattle.std.specs.Prelude.{ℕ, ◌<◌}
use Rattle.sp_shape.specs.Parts.{PlainPart, straight, repeats, calls_to, leaves, PlainParts, no_part, part}

abbrev mutual
  pub PartCallsBelow : ℕ → PlainPart → Type 0
  PartCallsBelow number (straight bs) = Unit {0}
  PartCallsBelow number (repeats count body tail) = CallsBelow number body
  PartCallsBelow number (calls_to k tail) = k < number
  PartCallsBelow number (leaves tail) = Unit {0}

  pub CallsBelow : ℕ → PlainParts → Type 0
  CallsBelow number no_part = Unit {0}
  CallsBelow number (part p rest) = PartCallsBelow number p × CallsBelow number rest
