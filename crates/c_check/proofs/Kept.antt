-- Names that stay open while others are declared after them.
use Rattle.std.proofs.Common.{◌≡◌, ℕ, ◌≤◌, List, [], ◌∷◌, ◌++◌, length, take, ap, sym, ◌∙◌, arith}
use Rattle.std.proofs.lemmas.List.{take-append-le, length-take}
use Rattle.std.proofs.Math.Seq.{take-take, take-length, take-append_seam}
use Rattle.c_tree.specs.declared.checks.Meaning.{Meaning}
use Rattle.c_tree.specs.declared.checks.Meaning.TheVariants as meaning
use Rattle.c_tree.specs.Plain.{PlainStmt, declared as declares, set, set_element, called, sent, chosen, looped, broken, continued, returned, inner}
use Rattle.c_tree.specs.declared.units.Parameter.{Parameter}
use Rattle.c_tree.specs.Names.{Named, declared}
use Rattle.c_tree.specs.Checks.{after}
use Rattle.c_tree.specs.Valid.{with_parameters}

-- after names of which these are the first
pub kept_behind : (first names more : List Named) → take (length first) names ≡ first → take (length first) (names
    ++ more) ≡ first
kept_behind first names more h =
    let within : length first ≤ length names = omega (arith, length-take (length first) names, ap length h) in
    take-append-le (length first) names more within ∙ h

pub kept_after : (first names : List Named) (s : PlainStmt) → take (length first) names ≡ first
    → take (length first) (after names s) ≡ first
kept_after first names (declares kind text r) h = kept_behind first names _ h
kept_after first names (set text r) h = h
kept_after first names (set_element text index r) h = h
kept_after first names (called text args) h = h
kept_after first names (sent core u a b c) h = h
kept_after first names (chosen arms otherwise) h = h
kept_after first names (looped bound head body) h = h
kept_after first names broken h = h
kept_after first names continued h = h
kept_after first names (returned e) h = h
kept_after first names (inner body) h = h

pub kept_parameters : (first names : List Named) (ps : List Parameter) → take (length first) names ≡ first
    → take (length first) (with_parameters names ps) ≡ first
kept_parameters first names [] h = h
kept_parameters first names (p ∷ ps) h =
    kept_parameters first (declared names p.name meaning.Scalar) ps (kept_behind first names _ h)

-- what is kept of names of which a part is kept
kept_through : (first mid names : List Named) → take (length first) mid ≡ first → take (length mid) names ≡ mid
    → take (length first) names ≡ first
kept_through first mid names a b =
    let within : length first ≤ length mid = omega (arith, length-take (length first) mid, ap length a) in
    sym (take-take (length first) (length mid) names within) ∙ ap (take (length first)) b ∙ a

pub kept_list : (first : List Named) (ps : List Parameter) (names : List Named)
    → take (length (with_parameters first ps)) names ≡ with_parameters first ps → take (length first) names ≡ first
kept_list first ps names h =
    kept_through first (with_parameters first ps) names (kept_parameters first first ps (take-length first)) h

pub closed : (names : List Named) (name : List ℕ) (means : Meaning) → take (length names) (declared names name means)
    ≡ names
closed names name means = take-append_seam names _
