-- To be believed. A run that makes all iterations of its loops and comes back from each call. After each iteration but the last
-- the branch back is asked for, and after the last no flow; and each function asks for the place that was set when it
-- began. A trail runs all iterations and calls whatever its flows ask for, so this is said apart from it.
use Rattle.std.specs.Bool.{MatchBool}
use Rattle.std.specs.Prelude.{ℕ, zero, suc, ◌≡◌, ◌==◌, List, [], ◌∷◌, ◌++◌, length, slice_index_or}
use Rattle.patmos_instr.specs.Bundles.{PlainBundle}
use Rattle.sp_shape.specs.Parts.{PlainPart, straight, repeats, calls_to, leaves, PlainParts, no_part, part, PlainShape}
use Rattle.sp_shape.specs.Run.{Run, Back, branches, returns}
use Rattle.sp_shape.specs.Trail.{Step, begins, all_done, part_trail, parts_trail, trails}

-- ---- flows, in a reading of trails: at once, or late

-- the tail of an iteration asks for one flow, the branch back
abbrev pub AsksAgain : (List Step → Run → Run) → List PlainBundle → Run → Type 0
AsksAgain go tail m = (go (all_done tail) m).ways ≡ m.ways ++ branches ∷ []

-- it asks for no flow
abbrev pub AsksNoMore : (List Step → Run → Run) → List PlainBundle → Run → Type 0
AsksNoMore go tail m = (go (all_done tail) m).ways ≡ m.ways

-- the tail of a function asks for one flow, to a place
abbrev pub Returns : (List Step → Run → Run) → List PlainBundle → Back → Run → Type 0
Returns go tail back m = (go (all_done tail) m).ways ≡ m.ways ++ returns back.base back.offset ∷ []

-- so many iterations of a body's trail and a tail are made from here, and what is said of the body holds where each begins
abbrev pub AllIterations : (List Step → Run → Run) → (Run → Type 0) → List Step → List PlainBundle → ℕ → Run → Type 0
AllIterations go Inside body tail zero m = Unit {0}
AllIterations go Inside body tail (suc zero) m = Inside m × AsksNoMore go tail (go body m)
AllIterations go Inside body tail (suc (suc n)) m =
    Inside m × AsksAgain go tail (go body m) × AllIterations go Inside body tail (suc n) (go (body ++ all_done tail) m)

-- ---- parts

-- each loop makes all its iterations, those inside its body too, and what is said of a function by its number holds where it
-- is called and begins; over the trails of functions by their number, and with what is said of the tails of returns
abbrev mutual
  pub PartGoes : (List Step → Run → Run) → (ℕ → List Step) → (ℕ → Run → Type 0) → (List PlainBundle → Run → Type 0)
      → PlainPart → Run → Type 0
  PartGoes go f Called AtReturn (straight bs) m = Unit {0}
  PartGoes go f Called AtReturn (repeats count body tail) m =
      AllIterations go (λ t. PartsGo go f Called AtReturn body t) (parts_trail f body) tail count m
  PartGoes go f Called AtReturn (calls_to k tail) m = Called k (go (all_done tail ++ begins ∷ []) m)
  PartGoes go f Called AtReturn (leaves tail) m = AtReturn tail m

  pub PartsGo : (List Step → Run → Run) → (ℕ → List Step) → (ℕ → Run → Type 0) → (List PlainBundle → Run → Type 0)
      → PlainParts → Run → Type 0
  PartsGo go f Called AtReturn no_part m = Unit {0}
  PartsGo go f Called AtReturn (part p rest) m =
      PartGoes go f Called AtReturn p m × PartsGo go f Called AtReturn rest (go (part_trail f p) m)

-- and a return goes to a place
abbrev pub PartIterations : (List Step → Run → Run) → (ℕ → List Step) → (ℕ → Run → Type 0) → Back
    → PlainPart → Run → Type 0
PartIterations go f Called back p m = PartGoes go f Called (λ tail t. Returns go tail back t) p m

abbrev pub PartsIteration : (List Step → Run → Run) → (ℕ → List Step) → (ℕ → Run → Type 0) → Back
    → PlainParts → Run → Type 0
PartsIteration go f Called back ps m = PartsGo go f Called (λ tail t. Returns go tail back t) ps m

-- ---- functions and shapes

-- the place that is set
abbrev pub back_of : Run → Back
back_of m = record { base = m.regs.srb; offset = m.regs.sro }

-- the function of a number, and those that it calls, with what is said of the tails of its returns where it begins;
-- functions in order, each over the earlier ones
abbrev pub FunctionsGo : (List Step → Run → Run) → (Run → List PlainBundle → Run → Type 0) → List PlainParts → ℕ
    → ℕ → Run → Type 0
FunctionsGo go AtReturn fs zero k m = Unit {0}
FunctionsGo go AtReturn fs (suc n) k m =
    MatchBool (k == n) (PartsGo go (trails fs n) (FunctionsGo go AtReturn fs n) (AtReturn m)
    (slice_index_or fs n no_part) m)
    (FunctionsGo go AtReturn fs n k m)

-- each goes to the place that was set
abbrev pub FunctionsIteration : (List Step → Run → Run) → List PlainParts → ℕ → ℕ → Run → Type 0
FunctionsIteration go fs n k m = FunctionsGo go (λ begun tail t. Returns go tail (back_of begun) t) fs n k m

-- all of it where the shape's trail is run from here
abbrev pub ShapeIterations : (List Step → Run → Run) → PlainShape → Run → Type 0
ShapeIterations go s m = FunctionsIteration go s.functions (length s.functions) s.entry m

-- the loops alone, wherever its returns go
abbrev pub ShapeLoops : (List Step → Run → Run) → PlainShape → Run → Type 0
ShapeLoops go s m = FunctionsGo go (λ begun tail t. Unit {0}) s.functions (length s.functions) s.entry m
