-- A program is read as its tree.
use Rattle.std.proofs.Common.{◌≡◌, ℕ, List, Option, Some, None, ap, ◌∙◌}
use Rattle.std.specs.Prelude.{Result, Err}
use Rattle.c_tree.specs.declared.tokens.Token.{Token}
use Rattle.c_tree.specs.declared.units.Unit.{Unit as Program}
use Rattle.c_tree.specs.Fits.{Fits}
use Rattle.c_tree.specs.Plain.{PlainItem, plain}
use Rattle.c_tree.specs.Tokens.{tokens_of}
use Rattle.c_tree.specs.Valid.{fault_of}
use Rattle.c_parse.specs.Answers.{place_of}
use Rattle.c_parse.specs.Tree.{tree_of}
use Rattle.c_parse.proofs.Reading.{trees_read}
use Rattle.c_compile.specs.Texts.{Refused, no_program_at, checked, parsed}

-- tokens that are a program are checked as its tree is
pub program_read : (ts : List Token) (u : Program) (cores core : ℕ) → tokens_of u ≡ ts → Fits u → place_of ts ≡ None
    → parsed cores core ts ≡ checked (plain u) (fault_of (plain u) cores core)
program_read ts u cores core written fits none =
    let by_place : Option ℕ → Result (List PlainItem) Refused = λ p. elim p as (λ _. Result (List PlainItem) Refused) [
      | None ↦ checked (tree_of ts) (fault_of (tree_of ts) cores core)
      | Some at ↦ Err (no_program_at at)
    ] in
    let no_place : parsed cores core ts ≡ checked (tree_of ts) (fault_of (tree_of ts) cores core) = ap by_place none in
    let tree : tree_of ts ≡ plain u = trees_read.reads ts (record { tree = u; fits = fits; written = written }) in
    no_place ∙ ap (λ items. checked items (fault_of items cores core)) tree
