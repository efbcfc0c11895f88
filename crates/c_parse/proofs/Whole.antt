-- What is read whole is a fitting tree. What is not read whole is no program.
use Rattle.std.proofs.Common.{◌≡◌, ℕ, ◌≤◌, List, [], ◌∷◌, length, None, Some, subst, lit≤}
use Rattle.std.specs.List.{AllByRecursion as Each}
use Rattle.c_tree.specs.declared.tokens.Token.{Token}
use Rattle.c_tree.specs.declared.units.Unit.{Unit as Program}
use Rattle.c_tree.specs.Tokens.{items_tokens}
use Rattle.c_tree.specs.Fits.{ItemFits, Fits, BracketsFit}
use Rattle.c_tree.specs.Places.{IsProgram}
use Rattle.c_parse.specs.declared.faults.Stop.{Stop}
use Rattle.c_parse.specs.declared.faults.Stop.TheVariants.{Syntax}
use Rattle.c_parse.specs.Expected.{Items, drive}
use Rattle.c_parse.specs.Readers.{StopsAt}
use Rattle.c_parse.proofs.Limits.{brackets_fit, left_within}
use Rattle.c_parse.proofs.Programs.{program_read}

pub fitting : (u : Program) (ts : List Token) → ts ≡ items_tokens u.items → Each ItemFits u.items
    → drive 0 (Items ∷ []) ts ≡ None → Fits u
fitting u ts written fits read = record {
  grammar = fits;
  brackets = subst BracketsFit written (brackets_fit ts 0 (Items ∷ []) (lit≤ tt) read);
}

pub no_program : (ts : List Token) (left : ℕ) → drive 0 (Items ∷ []) ts ≡ Some left → IsProgram ts → ⊥
no_program ts left stopped p =
    let P : List Token → Type 0 = λ l. drive 0 (Items ∷ []) l ≡ None in
    let read : drive 0 (Items ∷ []) ts ≡ None =
    subst P p.written (program_read 64 p.tree p.fits.grammar p.fits.brackets) in cc

-- no more tokens are left than there are, where the reader stops
pub left_few : (ts : List Token) (stop : Stop) (left : ℕ) → stop ≡ Syntax left → StopsAt ts stop → left ≤ length ts
left_few ts stop left e h = let P : Stop → Type 0 = StopsAt ts in left_within ts 0 (Items ∷ []) left (subst P e h)
