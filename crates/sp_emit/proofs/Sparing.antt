-- The code of functions leaves the predicates after those in which its words stand, and those of the functions that
-- it calls.
use Rattle.std.proofs.Common.{eq-eqb, ne_eqb, ◌≡◌, ℕ, ◌+◌, ◌-◌, ◌<◌, ◌≤◌, ◌==◌, ◌⊎◌, inl, inr, Bool, true, not, List, ◌∷◌, length, slice_index_or, refl, ap, ◌∙◌, arith}
use Rattle.std.specs.Prelude.{nat_le, max}
use Rattle.std.proofs.lemmas.Bool.{cases_lt, le-leb, leb-true}
use Rattle.sp_tree.specs.Formed.{functions_formed}
use Rattle.sp_tree.specs.Statements.{PlainStmt, calls, iterations, PlainStmts, no_stmt, stmt, PlainFunction, no_function}
use Rattle.sp_shape.proofs.Along.{Relates, run_parts}
use Rattle.sp_shape.proofs.Whole.{once_whole, begun_whole, run_whole}
use Rattle.sp_shape.specs.Parts.{PlainParts}
use Rattle.sp_shape.specs.Run.{Run, Sources, run, begun, IsWhole}
use Rattle.sp_shape.specs.Trail.{Step, begins, parts_trail}
use Rattle.sp_emit.specs.Flags.{begun_body, stmt_spared, stmts_spared, flags_end, flag_tops, flag_top_of}
use Rattle.sp_emit.specs.Functions.{function_code}
use Rattle.sp_emit.specs.Holding.{so}
use Rattle.sp_emit.specs.declared.registers.TheConstants.{FLAGS}
use Rattle.sp_emit.specs.declared.stands.Homes.{Homes}
use Rattle.sp_emit.proofs.BegunBody.{begun_spared}
use Rattle.sp_emit.proofs.Codes.{flag_tops_at, flag_tops_past, code_of}
use Rattle.sp_emit.proofs.FlagsAbove.{flags_within}
use Rattle.sp_emit.specs.Places.{tops}
use Rattle.sp_emit.proofs.Effects.{Footprint, is_in, everything, spared_once}
use Rattle.sp_emit.proofs.EachBundle.{full}
use Rattle.sp_emit.proofs.Walks.{StmtFlows, StmtsFlow, CodeIn, function_in}
use Rattle.sp_emit.proofs.Windows.{InWindow, each_function}
use Rattle.sp_emit.proofs.Untouched.{predicate}

-- ---- code that does not set a predicate, and calls functions that leave it

abbrev spares : ℕ → ℕ → Bool
spares q p = not (p == q)

other_spared : (q p : ℕ) → (p ≡ q → ⊥) → spares q p ≡ true
other_spared q p other = ap not (ne_eqb p q other)

low_spared : (q : ℕ) → FLAGS ≤ q → (p : ℕ) → p < FLAGS → spares q p ≡ true
low_spared q past p lt = other_spared q p (λ same. absurd (omega (arith, same, lt, past)))

abbrev sparing : (q : ℕ) → FLAGS ≤ q → Footprint
sparing q past = record everything { tells = spares q; passing = low_spared q past }

-- where the functions that it calls leave a predicate that no bundle sets, it does
abbrev AllLeave : Sources → (ℕ → List Step) → (ℕ → Bool) → ℕ → Type 0
AllLeave from f may q = (k : ℕ) → may k ≡ true → (m : Run) → IsWhole m → so q (run from (f k) m) ≡ so q m

abbrev Spares : ℕ → Run → Run → Type 0
Spares q m t = IsWhole t × (so q t ≡ so q m)

sparing_relates : (q : ℕ) → Relates IsWhole (Spares q)
sparing_relates q = record {
  same = λ m whole. (whole, refl);
  then = λ m n t a b. (b.0, b.1 ∙ a.1);
  fit = λ m t whole a. a.0;
}

spared_parts : (from : Sources) (f : ℕ → List Step) (may : ℕ → Bool) (q : ℕ) (past : FLAGS ≤ q) → q < 8
    → AllLeave from f may q → (ps : PlainParts) → CodeIn (sparing q past) may ps → (m : Run) → IsWhole m
    → so q (run from (parts_trail f ps) m) ≡ so q m
spared_parts from f may q past few others ps all m whole =
    (run_parts from IsWhole (Spares q) (sparing_relates q) (is_in (sparing q past))
    (λ b m within whole. (
      once_whole from b m whole,
      spared_once from (sparing q past) (predicate q) b m few whole within (ap not (eq-eqb q q refl)),
    ))
    f may (λ k called m whole. (
      run_whole from (begins ∷ f k) m whole,
      others k called (begun m) (begun_whole m whole),
    )) ps all m whole).1

-- ---- the code of statements calls functions that set few enough

abbrev may_call : List ℕ → ℕ → ℕ → Bool
may_call tops most k = nat_le (slice_index_or tops k 4) most

mutual
  stmt_few : (tops : List ℕ) (most : ℕ) (t : PlainStmt) → stmt_spared tops t ≤ most
      → StmtFlows (λ k. may_call tops most k ≡ true) (λ count. Unit {0}) t
  stmt_few tops most (calls mask k args result) le = le-leb (slice_index_or tops k 4) most le
  stmt_few tops most (iterations count body) le = (tt, stmts_few tops most body le)
  stmt_few tops most _ le = tt

  stmts_few : (tops : List ℕ) (most : ℕ) (ts : PlainStmts) → stmts_spared tops ts ≤ most
      → StmtsFlow (λ k. may_call tops most k ≡ true) (λ count. Unit {0}) ts
  stmts_few tops most no_stmt le = tt
  stmts_few tops most (stmt t rest) le =
      (stmt_few tops most t (omega (arith, le)), stmts_few tops most rest (omega (arith, le)))

-- ---- functions

function_leaves : {homes : Homes} {windows : List ℕ} (from : Sources) (code : ℕ → List Step) (tops : List ℕ)
    (fs : List PlainFunction) (number : ℕ) (f : PlainFunction) (q : ℕ) → InWindow homes windows fs number f
    → FLAGS + max (stmts_spared tops f.body) (flags_end homes.flags) ≤ q → q < 8
    → AllLeave from code (may_call tops (q - FLAGS)) q → (m : Run) → IsWhole m
    → so q (run from (parts_trail code (function_code homes f)) m) ≡ so q m
function_leaves {homes} from code tops fs number f q w past few others m whole =
    let least : FLAGS ≤ q = omega (arith, past) in
    let fewer = begun_spared homes.flags tops f in
    spared_parts from code (may_call tops (q - FLAGS)) q least few others (function_code homes f)
    (function_in (full (spares q) (low_spared q least) (λ func count. true) (λ count. refl)) (may_call tops (q - FLAGS))
    w (λ slot p is. let lt = flags_within homes.flags slot p is in
    other_spared q p (λ same. absurd (omega (arith, same, lt, past)))) refl refl (λ k earlier window allowed. allowed)
    (stmts_few tops (q - FLAGS) (begun_body homes.flags f) (omega (arith, fewer, past)))) m whole

pub all_leave : (from : Sources) (fs : List PlainFunction) (n : ℕ) → n ≤ length fs → functions_formed fs n ≡ true
    → (k : ℕ) → k < n → (q : ℕ) → FLAGS + flag_top_of fs k ≤ q → q < 8 → (m : Run) → IsWhole m
    → so q (run from (code_of fs n k) m) ≡ so q m
all_leave from fs = each_function fs Leaves (λ n w before q past few m whole. function_leaves from (code_of fs n)
    (flag_tops fs n) fs n (slice_index_or fs n no_function) q w past few
    (λ i may. earlier n before q past few i (leb-true (slice_index_or (flag_tops fs n) i 4) (q - FLAGS) may)
    (cases_lt i n)) m whole)
  where
    Leaves : ℕ → List Step → Type 0
    Leaves k steps = (q : ℕ) → FLAGS + flag_top_of fs k ≤ q → q < 8 → (m : Run) → IsWhole m
        → so q (run from steps m) ≡ so q m

    earlier : (n : ℕ) → ((k : ℕ) → k < n → Leaves k (code_of fs n k)) → (q : ℕ) → FLAGS + flag_top_of fs n ≤ q → q < 8
        → (i : ℕ) → slice_index_or (flag_tops fs n) i 4 ≤ q - FLAGS → (i < n) ⊎ (n ≤ i) → (m : Run) → IsWhole m
        → so q (run from (code_of fs n i) m) ≡ so q m
    earlier n before q past few i le (inl lt) m whole =
        let top = flag_tops_at fs n i lt in before i lt q (omega (arith, le, top, past)) few m whole
    earlier n before q past few i le (inr ge) m whole =
        let top = flag_tops_past fs n i ge in absurd (omega (arith, le, top, few, past))
